-- `lines::text::Text::line` meets its contract: the number's field, the call's, then what was told.
use Prim.Native.Nat.{ℕ}
use mathlib.Core.Path.{ap, sym, ◌∙◌}
use mathlib.Core.List.{List, ◌++◌, append_assoc}
use native.Mathlib.Omega.{arith}
use lib.ListN.{length, length-append}
use mir.Syntax.{w64}
use mir.Facts.{to_z-of_z}
use Rattle.rules.specs.Step.{error_of, value_of}
use Rattle.rules.specs.Answers.{answer_of}
use Rattle.lines.specs.Text.{decimal, blank}
use Rattle.lines.specs.Lines.{told}
use Rattle.lines.proofs.Sizes.{line_parts, parts-size}
use Rattle.lines.proofs.text.Text.line.Goals as goal

pub field-requires : goal.field-requires
field-requires c =
    let a = c.args in
    let r = c.requires in
    omega (arith, r.0, parts-size a.number a.call (answer_of a.answer) r.1 r.2 (omega (arith, c.value_of-value.ensures ∙ ap value_of c.numbered-answer.ensures, c.value_of-value.type_inv)))

pub field-requires-2 : goal.field-requires-2
field-requires-2 c =
    let a = c.args in
    let r = c.requires in
    let size = parts-size a.number a.call (answer_of a.answer) r.1 r.2 (omega (arith, c.value_of-value.ensures ∙ ap value_of c.numbered-answer.ensures, c.value_of-value.type_inv)) in
    omega (arith, r.0, size, ap length c.field.ensures, length-append a.self.now (decimal a.number ++ blank))

pub told-requires : goal.told-requires
told-requires c =
    let a = c.args in
    let r = c.requires in
    let n = decimal a.number ++ blank in
    let d = decimal a.call ++ blank in
    let size = parts-size a.number a.call (answer_of a.answer) r.1 r.2 (omega (arith, c.value_of-value.ensures ∙ ap value_of c.numbered-answer.ensures, c.value_of-value.type_inv)) in
    rw (to_z-of_z {w = w64} (record { sfits = c.error_of-error.type_inv }), c.error_of-error.ensures ∙ ap error_of c.numbered-answer.ensures, c.value_of-value.ensures ∙ ap value_of c.numbered-answer.ensures)
    (omega (arith, r.0, size, ap length c.field.ensures, ap length c.field-2.ensures, length-append a.self.now n, length-append c.field.new.self d))

pub returns : goal.returns
returns c =
    let a = c.args in
    let r = c.requires in
    let old = a.self.now in
    let n = decimal a.number ++ blank in
    let d = decimal a.call ++ blank in
    let t = told (error_of (answer_of a.answer)) (value_of (answer_of a.answer)) in
    let size = parts-size a.number a.call (answer_of a.answer) r.1 r.2 (omega (arith, c.value_of-value.ensures ∙ ap value_of c.numbered-answer.ensures, c.value_of-value.type_inv)) in
    let was_told = rw (to_z-of_z {w = w64} (record { sfits = c.error_of-error.type_inv }), c.error_of-error.ensures ∙ ap error_of c.numbered-answer.ensures, c.value_of-value.ensures ∙ ap value_of c.numbered-answer.ensures) at c.told.ensures in
    let fields = c.field-2.ensures ∙ ap (λ (l : List ℕ). l ++ d) c.field.ensures ∙ append_assoc old n d in (
      was_told ∙ ap (λ (l : List ℕ). l ++ t) fields ∙ append_assoc old (n ++ d) t ∙ ap (λ (l : List ℕ). old ++ l) (sym (line_parts a.number a.call (answer_of a.answer))),
      omega (arith, size, ap length was_told, ap length fields, length-append c.field-2.new.self t, length-append old (n ++ d), length-append n d),
    )
