-- `records::table::any_claimed` meets its contract: the chain asks each record of the table, until one claims a page of the range.
-- Assumes nothing.
use Rattle.std.proofs.Common.{ℕ, Bool, true, false, ◌≡◌, ◌+◌, ◌<◌, length, MatchBool, rules, tests}
use native.Mathlib.Omega.{arith}
use mathlib.Core.Path.{refl, sym, ◌∙◌}
use Rattle.std.specs.List.{AllWithin, HoldsAt, range_with_len}
use Rattle.std.proofs.lemmas.Iterator.{cases_from_any, YieldsList-from_range}
use Rattle.std.proofs.lemmas.List.FromFn.{length-range_with_len, get_or-range_with_len}
use Rattle.sets.specs.Look.{any}
use Rattle.sets.proofs.Looks.{any_hit, any_off}
use Rattle.rules.specs.Encoding.{pages_of}
use Rattle.records.specs.Passes.{claims_in}
use Rattle.records.proofs.Meant.{any_claimed_is}
use Rattle.records.proofs.table.any_claimed.Goals as goal

-- what `any` answers over the numbers below n
below : (p : ℕ → Bool) (n : ℕ) (r : Bool)
    → MatchBool r ((k : ℕ) × (k < length (range_with_len 0 n)) × HoldsAt (λ i. p i ≡ true) (range_with_len 0 n) k) (AllWithin (λ i. p i ≡ false) (range_with_len 0 n) 0 (length (range_with_len 0 n)))
    → r ≡ any p n
below p n true (k, l, hit) =
    let b : k < n = omega (arith, length-range_with_len 0 n) in
    let z : 0 + k ≡ k = omega arith in
    sym (any_hit p k n b (rw (get_or-range_with_len 0 n k 0 b, z) at (hit 0)))
below p n false miss =
    sym (any_off p n (λ k b. let z : 0 + k ≡ k = omega arith in rw (get_or-range_with_len 0 n k 0 b, z) at (miss k 0 (omega arith) (omega (arith, length-range_with_len 0 n)))))

pub returns : goal.returns
returns c =
    let x = c.args in
    let T = pages_of x.t.now in
    let p : ℕ → Bool = λ i. claims_in x.slot x.first x.count (T.page i) in
    below p x.n c.any.result
    (cases_from_any _ _ c.any.result (λ i. p i ≡ true) (λ i. p i ≡ false) c.any.ensures.ran (YieldsList-from_range 0 x.n x.n refl (omega arith))
    (λ i q k. search (rules, tests)) (λ i q k. search (rules, tests)))
    ∙ any_claimed_is T x.n x.slot x.first x.count
