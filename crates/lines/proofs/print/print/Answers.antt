-- `lines::print::print` meets its contract: a long tape's word, or the lines from zero words and zero bytes.
use Prim.Native.Nat.{ℕ, ◌*◌, ◌≤◌}
use mathlib.Core.List.{List}
use mathlib.Core.Path.{◌≡◌, sym, ap, ◌∙◌}
use native.Mathlib.Omega.{arith}
use lib.ListN.{length, take}
use Rattle.rules.specs.Step.{State}
use Rattle.tape.specs.Tape.{reading}
use Rattle.lines.specs.Lines.{zeros, start, lines_from, printed}
use Rattle.lines.proofs.Starts.{take-zeros, started, printed-long, printed-lines}
use Rattle.lines.proofs.Promised.{printed-is}
use Rattle.lines.proofs.print.print.Goals as goal

-- the part of the table that is handed on
handed_bytes : (n : ℕ) (table : List ℕ) → n ≤ 4096 → table ≡ zeros 32768 → take (8 * n) table ≡ zeros (8 * n)
handed_bytes n table h e = ap (take (8 * n)) e ∙ take-zeros (8 * n) 32768 (omega (arith, h))

pub returns-then-tape-gt65536 : goal.returns-then-tape-gt65536
returns-then-tape-gt65536 c =
    let tape = c.args.tape.now in
    let text : printed tape ≡ c.word.new.self = sym (c.word.ensures ∙ rw c.new-text.ensures (sym (printed-long tape c.if-tape-gt65536.true))) in
    let size = ap length (sym text ∙ printed-long tape c.if-tape-gt65536.true) in
    printed-is text c.lay.ensures (omega (arith, c.lay.ensures.place, size))

pub returns : goal.returns
returns c =
    let tape = c.args.tape.now in
    let h = c.handed-end in
    let e = started h.result _ (handed_bytes h.result c.blank_table-table.result h.ensures.1 c.blank_table-table.ensures) ∙ ap start h.ensures.0 in
    let p = printed-lines tape c.if-tape-gt65536.false ∙ ap (λ (x : State). lines_from 1 x (reading tape)) (sym e) in
    printed-is p c.lines.ensures.0 c.lines.ensures.1
