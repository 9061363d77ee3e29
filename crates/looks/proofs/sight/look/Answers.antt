use mathlib.Core.Path.{◌≡◌, sym, ◌∙◌}
use mathlib.Core.Bool.{false}
use Rattle.rules.specs.Encoding.{view, pages_of}
use Rattle.door.specs.Places.{names_place}
use Rattle.door.proofs.Placeless.{not_6, not_7, not_14}
use Rattle.looks.proofs.sight.look.Goals as goal

pub returns-then-names_place : goal.returns-then-names_place
returns-then-names_place c = c.look_at_all.ensures

pub returns : goal.returns
returns c =
    let l = view c.args.l.now in
    let t = pages_of c.args.t.now in
    let q = c.args.r.now in
    let e : names_place q ≡ false = sym c.names_place.ensures ∙ c.if-names_place.false in
    record { six = sym (not_6 l t q e); seven = λ _. sym (not_7 l t q e); fourteen = λ _. sym (not_14 l t q e) }
