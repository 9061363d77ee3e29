use borrow.Author.Rules.{rules}
use mathlib.Core.Path.{◌≡◌, refl, sym, ◌∙◌, ap, subst}
use mathlib.Core.Bool.{◌&&◌, ◌||◌, true, false}
use Rattle.rules.specs.Encoding.{view, pages_of}
use Rattle.looks.specs.Sights.{Seen, is_unwanted, is_unfinished, is_unready, is_undone, has_cut, look_at}
use Rattle.door.proofs.Ready.{host_fits, directory_fits, free_fits}
use Rattle.looks.proofs.Sights.{asked_in, of_none, of_some, seen}
use Rattle.looks.proofs.sight.look_at_all.Goals as goal

pub look_at-host-requires : goal.look_at-host-requires
look_at-host-requires c = rw c.named.ensures (asked_in _ _ _ _ (host_fits c.requires))

pub look_at-directory-requires : goal.look_at-directory-requires
look_at-directory-requires c = rw c.named-2.ensures (asked_in _ _ _ _ (directory_fits c.requires))

pub look_at-free-requires : goal.look_at-free-requires
look_at-free-requires c = rw c.named-3.ensures (asked_in _ _ _ _ (free_fits c.requires))

pub returns : goal.returns
returns c =
    let q = c.args.r.now in
    let l = view c.args.l.now in
    let t = pages_of c.args.t.now in
    let fence = c.global-fence.ensures in
    let host = c.look_at-host.ensures ∙ (λ i. look_at t (c.named.ensures i) (c.requires.sized i) true (fence i)) in
    let directory = c.look_at-directory.ensures ∙ (λ i. look_at t (c.named-2.ensures i) 4 false (fence i)) in
    let free = c.look_at-free.ensures ∙ (λ i. look_at t (c.named-3.ensures i) (c.requires.sized i) false (fence i)) in
    let guests = c.guests_at-guests.ensures in
    let directory_waits : c.is_some_and.result ≡ is_unfinished c.look_at-directory.result = of_some is_unfinished c.look_at-directory.result c.is_some_and.result _ refl c.is_some_and.ensures (λ w h. search rules) in
    let free_waits : c.is_some_and-2.result ≡ is_unfinished c.look_at-free.result = of_some is_unfinished c.look_at-free.result c.is_some_and-2.result _ refl c.is_some_and-2.ensures (λ w h. search rules) in
    let undone : c.is_some_and-3.result ≡ is_undone c.guests_at-guests.result = of_some is_undone c.guests_at-guests.result c.is_some_and-3.result _ refl c.is_some_and-3.ensures (λ m h. search rules) in
    let cut : c.is_some_and-refuses14.result ≡ has_cut c.guests_at-guests.result = of_some has_cut c.guests_at-guests.result c.is_some_and-refuses14.result _ refl c.is_some_and-refuses14.ensures (λ m h. search rules) in
    subst (Seen l t q) (sym (λ i. record {
      refuses6 = (of_none _ _ c.is_none.ensures ∙ ap is_unwanted host) i
          || ((of_none _ _ c.is_none-2.ensures ∙ ap is_unwanted directory) i || (of_none _ _ c.is_none-3.ensures ∙ ap is_unwanted free) i)
          || (of_none _ _ c.is_none-4.ensures ∙ ap is_unready guests) i;
      refuses7 = ((directory_waits ∙ ap is_unfinished directory) i || (free_waits ∙ ap is_unfinished free) i)
          || (c.is.ensures i || c.is-2.ensures i) && (undone ∙ ap is_undone guests) i;
      refuses14 = (cut ∙ ap has_cut guests) i;
    })) (seen l t q)
