-- `tape::reading::run_of` meets its contract. The invariant: so many records are gone, and the reading from here on is what is left of the whole.
use Rattle.tape.proofs.Takings.{one_more, all_run}
use Rattle.tape.proofs.reading.run_of.Goals as goal

pub loop-records-preserved : goal.loop-records-preserved
loop-records-preserved c = one_more _ _ _ _ c.in-Some.field-0 c.in-Some.ensures.steps c.loop-records.invariant

pub returns : goal.returns
returns c = all_run _ _ _ _ _ c.in_default.ensures.steps c.loop-records.invariant c.step-end.ensures
