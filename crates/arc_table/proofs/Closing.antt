-- What the rule shows of a heap whose first pass took in every other and has nothing.
use Rattle.std.proofs.Common.{◌≡◌, ⊎_elim, ℕ, ◌≤◌, true, false, [], None, refl, sym, ap, ◌∙◌, subst, arith}
use mathlib.Core.Logic.{dite}
use mathlib.Core.Option.{some, some-injective}
use native.Mathlib.Decide.{ℕ_discrete, dec_le}
use lib.ListN.{get_elem?}
use Rattle.std.proofs.lemmas.List.{append-nil}
use Rattle.atomic_table.specs.Table.{State}
use Rattle.arc_model.specs.Shapes.{HeapShape}
use Rattle.arc_model.specs.Others.{IsQuiet}
use Rattle.arc_model.specs.History.{History, heap_after, share, IsLegal}
use Rattle.arc_model.proofs.Basics.{None≢Some, true≢false}
use Rattle.arc_rule.specs.declared.layout.Place.{Place}
use Rattle.arc_rule.specs.declared.layout.Place.TheVariants as places
use Rattle.arc_rule.specs.Shown.{Shows}
use Rattle.arc_view.specs.declared.view.Role.TheVariants.{Pass}
use Rattle.arc_view.specs.declared.view.View.{View}
use Rattle.arc_view.specs.declared.view.Working.{Working}
use Rattle.arc_view.specs.Views.{within, Excepts, private_words}
use Rattle.arc_view.specs.Rule.{InShape, Excepted, IsKept}
use Rattle.arc_view.specs.Passes.{IsFirst, IsWhole, HoldsNothing}
use Rattle.arc_view.proofs.Words.{shows_to}
use Rattle.arc_view.proofs.Advance.{quiet_more}
use Rattle.arc_view.proofs.Ends.{whole}
use Rattle.arc_table.specs.Ending.{IsAllQuiet}

-- what owes no name and holds no access makes no word other than the heap says
no_exception : (w : Working) → w.owes ≡ None → w.access ≡ None → (pl : Place) → Excepts w pl → ⊥
no_exception w owes access places.Zero e = e
no_exception w owes access (places.Global g) e = None≢Some e.0 (sym access ∙ e.1)
no_exception w owes access (places.Count s) e = None≢Some (record { slot = s; counted = false }) (sym owes ∙ e)
no_exception w owes access (places.Isa s) e = None≢Some e.0 (sym owes ∙ e.1)
no_exception w owes access (places.Next s) e = e
no_exception w owes access (places.Field s f) e = None≢Some e.0 (sym access ∙ e.1)
no_exception w owes access (places.Link n) e = e
no_exception w owes access (places.Strong n) e = e
no_exception w owes access (places.Unowned n) e = e
no_exception w owes access (places.Weak n) e = e
no_exception w owes access (places.SlotBits n) e = e
no_exception w owes access (places.EntryBits n) e = e

-- a thread that has made no event has nothing
never_began : (shape : HeapShape) (p : ℕ) (h : History) → IsLegal shape h → share h p ≡ [] → IsQuiet p (heap_after h)
never_began shape p h legal none = subst (λ (l : History). IsQuiet p (heap_after l)) (append-nil h)
    (quiet_more shape p [] h (subst (IsLegal shape) (sym (append-nil h)) legal) none (record { hands = λ k. refl; duties = λ i. refl; claims = λ e. refl }))

positive : (p : ℕ) → (p ≡ 0 → ⊥) → 1 ≤ p
positive p nz = dite (dec_le 1 p) (λ le. le) (λ gt. absurd (nz (omega (arith, gt))))

module _ (S : Type 0) (shape : HeapShape) (s : State S View) (k : IsKept shape s) (id : ℕ) (v : View) (at : get_elem? s.views id ≡ some v) (first : IsFirst v) (all : IsWhole v) (nothing : HoldsNothing v) where
  -- each pass but the first one was taken in
  taken_in : (p : ℕ) → (p ≡ 0 → ⊥) → p ≤ k.splits → within p k.taken ≡ true
  taken_in p nz le = let g = (k.fits id v at).first first.0 first.1 in ap (within p) (sym g.1) ∙ all p (positive p nz) (omega (arith, le, g.0))

  -- no view is left that owes a name or holds an access
  none_excepted : (pl : Place) → Excepted s.views pl → ⊥
  none_excepted pl x =
      let w = x.1 in
      let f = k.fits x.0 w x.2 in
      ⊎_elim
      (λ (pass : w.role ≡ Pass). dite (ℕ_discrete w.number 0)
      (λ z. let i = k.apart x.0 id w v x.2 at pass first.0 (z ∙ sym first.1) in
      let same : some w ≡ some v = sym x.2 ∙ (ap (get_elem? s.views) i ∙ at) in
      no_exception v.working nothing.is_idle.owes nothing.is_idle.access pl (subst (λ (u : View). Excepts u.working pl) (some-injective w v same) x.3))
      (λ nz. let n = f.numbered pass in true≢false (sym (taken_in w.number nz n.0) ∙ n.1)))
      (λ (i : (w.working.owes ≡ None) × (w.working.access ≡ None) × (private_words w.working ≡ [])). no_exception w.working i.0 i.1 pl x.3)
      f.working

  all_quiet : IsAllQuiet (heap_after k.log)
  all_quiet p = dite (ℕ_discrete p 0)
      (λ z. subst (λ (l : History). IsQuiet p (heap_after l)) (sym (whole S shape s k id v at first all)) (subst (λ (q : ℕ). IsQuiet q (heap_after v.seen)) (first.1 ∙ sym z) nothing.quiet))
      (λ nz. dite (dec_le p k.splits)
      (λ le. k.quiet p (taken_in p nz le))
      (λ gt. never_began shape p k.log k.legal (k.strange p (omega (arith, gt)))))

  -- The words show the heap after what the pass has seen, with no exception, and no thread has anything in it.
  pub closes : IsLegal shape v.seen × InShape shape v.seen × Shows shape (heap_after v.seen) s.words × IsAllQuiet (heap_after v.seen)
  closes = subst (λ (l : History). IsLegal shape l × InShape shape l × Shows shape (heap_after l) s.words × IsAllQuiet (heap_after l)) (whole S shape s k id v at first all) (
    k.legal,
    k.in_shape,
    shows_to shape (Excepted s.views) (λ pl. ⊥) (heap_after k.log) s.words none_excepted k.words,
    all_quiet,
  )
