-- Each seating's calls are told what document 01 says: one computation over the whole table.
-- Assumes nothing.
use mathlib.Core.Path.{refl}
use Rattle.sets.specs.Look.{any, all, count, lowest}
use Rattle.sets.specs.Terms.{one_of, one_from}
use Rattle.rules.specs.Page.{meant, is_meant}
use Rattle.rules.specs.Calls.{entry_of, names, arg, unnamed, size, host_spans, free_spans}
use Rattle.rules.specs.Refusals.{refusal, refuses1, refuses2, refuses3, refuses4, refuses5, refuses6, refuses7, refuses8, refuses9, refuses10, refuses11, refuses12, refuses13, refuses14, refuses15, taken}
use Rattle.rules.specs.Effects.{writes, written, table, ledger, value}
use Rattle.rules.specs.Step.{step, answers}
use Rattle.rules.specs.Promises.{Seated}

pub seated : Seated
unfolding any all count lowest one_of one_from entry_of names arg unnamed size host_spans free_spans refusal refuses1 refuses2 refuses3 refuses4 refuses5 refuses6 refuses7 refuses8 refuses9 refuses10 refuses11 refuses12 refuses13 refuses14 refuses15 meant is_meant taken writes written table ledger value step answers
seated = refl
