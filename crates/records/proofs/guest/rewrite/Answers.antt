-- `records::guest::rewrite` meets its contract: a pass that writes the records that are meant; what it has written changes no record to come, and it
-- ends where none to come is meant.
-- Assumes nothing.
use Prim.Native.Nat.{ℕ, ◌<◌, ◌+◌, ◌-◌, ◌≤◌}
use mathlib.Core.Path.{◌≡◌, sym, ◌∙◌, ap}
use mathlib.Core.List.{List}
use mathlib.Core.Bool.{Bool, true, false}
use native.Mathlib.Omega.{arith}
use borrow.Author.Tests.{le-ltb}
use Rattle.rules.specs.declared.Page.{Page}
use Rattle.rules.specs.Page.{Table, is_meant}
use Rattle.rules.specs.Encoding.{pages_of}
use Rattle.records.specs.Passes.{put_page, is_new, noted, becomes}
use Rattle.records.proofs.Meant.{Seen, seen_none, new_is, seen_next, tally, tally_none, tally_new, tally_old, room, none_left}
use Rattle.records.proofs.WritePass.{up_to, pass_none, pass_put, pass_skip, at_hand, pass_end}
use Rattle.records.proofs.guest.rewrite.Goals as goal
use Rattle.records.proofs.guest.rewrite.Goals.{then-is_first+else-left-eq0, else-is_first}

pub loop-i-init : goal.loop-i-init
loop-i-init c = (pass_none _ _ _, rw c.new-seen.ensures (seen_none _ _ _ _), rw c.new-seen.ensures (omega (arith, tally_none c.args.count)))

-- what a turn knows once the record was asked
turn : (T : Table) (n slot first count i : ℕ) (seen seen' : List ℕ) (left : ℕ) (p : Page) (r : Bool)
    → count ≤ 4096 → i < n → Seen T slot first count i seen → left + tally count seen ≡ count → p ≡ T.page i
    → (r ≡ is_new slot first count p seen) × (seen' ≡ noted slot first count p seen)
    → (r ≡ is_meant T n slot first count i)
    × Seen T slot first count (i + 1) seen'
    × (r ≡ true → (1 ≤ left) × (left - 1 + tally count seen' ≡ count))
    × (r ≡ false → left + tally count seen' ≡ count)
turn T n slot first count i seen seen' left p r few here inv all read said =
    let new = said.0 ∙ ap (λ (q : Page). is_new slot first count q seen) read in
    let notes = said.1 ∙ ap (λ (q : Page). noted slot first count q seen) read in
    let on = ap (tally count) notes in (
      new ∙ new_is T slot first count n i seen few here inv,
      seen_next T slot first count n i seen few here inv _ notes,
      λ e.
          let m = tally_new T slot first count n i seen few here inv (sym new ∙ e) in
          let q = room T slot first count n i seen few here inv (sym new ∙ e) in
          (omega (arith, q, all), omega (arith, m, q, on, all)),
      λ e. omega (arith, tally_old T slot first count n i seen few here inv (sym new ∙ e), on, all),
    )

-- and once it was written
written : (T : Table) (n slot first count kind version i : ℕ) (t t' : List ℕ) (p m : Page)
    → pages_of t ≡ up_to T (is_meant T n slot first count) (λ j. becomes kind slot version (T.page j)) i → p ≡ T.page i → m ≡ becomes kind slot version p
    → is_meant T n slot first count i ≡ true → pages_of t' ≡ put_page i m (pages_of t)
    → pages_of t' ≡ up_to T (is_meant T n slot first count) (λ j. becomes kind slot version (T.page j)) (i + 1)
written T n slot first count kind version i t t' p m sofar read moved is wrote =
    wrote ∙ rw (moved, read) (pass_put T (is_meant T n slot first count) (λ j. becomes kind slot version (T.page j)) i _ sofar is)

pub overflow_sub-left : goal.overflow_sub-left
overflow_sub-left c =
    let x = c.args in
    let T = pages_of x.t.now in
    let inv = c.loop-i.invariant in
    let read = c.read-p.ensures ∙ at_hand T _ _ c.loop-i.i _ inv.0 in
    let known = turn T x.n x.slot x.first x.count c.loop-i.i c.loop-i.seen _ c.loop-i.left _ _ c.requires.2 c.loop-i-test.true inv.1 inv.2 read c.is_first.ensures in
    (known.2 c.if-is_first.true).0

pub returns-then-left-eq0 : goal.returns-then-left-eq0
returns-then-left-eq0 c =
    let x = c.args in
    let T = pages_of x.t.now in
    let inv = c.loop-i.invariant in
    let read = c.read-p.ensures ∙ at_hand T _ _ c.loop-i.i _ inv.0 in
    let known = turn T x.n x.slot x.first x.count c.loop-i.i c.loop-i.seen _ c.loop-i.left _ _ c.requires.2 c.loop-i-test.true inv.1 inv.2 read c.is_first.ensures in
    let met : is_meant T x.n x.slot x.first x.count c.loop-i.i ≡ true = sym known.0 ∙ c.if-is_first.true in
    let full : tally x.count c.is_first.new.seen ≡ x.count = omega (arith, (known.2 c.if-is_first.true).1, c.if-left-eq0.true) in
    written T x.n x.slot x.first x.count x.kind x.version c.loop-i.i _ _ _ _ inv.0 read c.moved.ensures met c.write.ensures
    ∙ pass_end T _ _ (c.loop-i.i + 1) (none_left T x.n x.slot x.first x.count (c.loop-i.i + 1) _ known.1 full)

pub loop-i-preserved : goal.loop-i-preserved
loop-i-preserved c =
    let x = c.args in
    let T = pages_of x.t.now in
    let inv = c.loop-i.invariant in
    let read = c.read-p.ensures ∙ at_hand T _ _ c.loop-i.i _ inv.0 in
    let known = turn T x.n x.slot x.first x.count c.loop-i.i c.loop-i.seen _ c.loop-i.left _ _ c.requires.2 c.loop-i-test.true inv.1 inv.2 read c.is_first.ensures in
    elim c.if-is_first.branch [
      | then-is_first+else-left-eq0 w ↦ (
        ap pages_of w.t-is
            ∙ written T x.n x.slot x.first x.count x.kind x.version c.loop-i.i _ _ _ _ inv.0 read w.moved.ensures (sym known.0 ∙ w.if-is_first.true) w.write.ensures,
        known.1,
        omega (arith, w.left-is, (known.2 w.if-is_first.true).1),
      )
      | else-is_first w ↦ (
        ap pages_of w.t-is ∙ pass_skip T _ _ c.loop-i.i _ inv.0 (sym known.0 ∙ w.if-is_first.false),
        known.1,
        omega (arith, w.left-is, known.3 w.if-is_first.false),
      )
    ]

pub returns : goal.returns
unfolding is_meant
returns c =
    let x = c.args in
    let e : c.loop-i.i ≡ x.n = omega arith in
    c.loop-i.invariant.0 ∙ pass_end (pages_of x.t.now) _ _ c.loop-i.i (λ j l. let m : x.n ≤ j = omega arith in rw (le-ltb j x.n m))
