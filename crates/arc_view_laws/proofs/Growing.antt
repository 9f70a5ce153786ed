-- What steps tell, as what calls tell.
use Rattle.std.proofs.Common.{◌≡◌, ℕ, cond, List, [], ◌∷◌, ◌++◌, length, Option, Some, None, refl, sym, ap, ◌∙◌, subst, arith, append_assoc, eq-eqb}
use Rattle.arc_model.specs.declared.event.Act.{Act}
use Rattle.arc_model.specs.Shapes.{HeapShape}
use Rattle.arc_model.specs.History.{share}
use Rattle.arc_rule.specs.declared.step.Step.{Step}
use Rattle.arc_rule.specs.declared.step.Step.TheVariants.{Load}
use Rattle.arc_rule.specs.declared.step.Intent.{Intent}
use Rattle.arc_rule.specs.declared.step.Intent.TheVariants.{Look}
use Rattle.arc_rule.specs.declared.layout.Place.{Place}
use Rattle.arc_rule.specs.declared.layout.Place.TheVariants.{Zero, Global, Count, Isa, Next, Field, Link, Strong, Unowned, Weak, SlotBits, EntryBits}
use Rattle.arc_rule.specs.Places.{extent_of, place_at}
use Rattle.arc_view.specs.declared.view.Working.{Working}
use Rattle.arc_view.specs.declared.view.View.{View}
use Rattle.arc_view.specs.Views.{StartsWith}
use Rattle.arc_view.specs.Kinds.{act_of, event_list, working_loaded}
use Rattle.arc_view.specs.Admission.{Admits}
use Rattle.arc_view.specs.Steps.{Told}
use Rattle.arc_view.specs.Passes.{longer, met, joined}
use Rattle.arc_view.specs.Calls.{events_by, Grew, Called, Took}
use Rattle.arc_view.proofs.Lists.{share-append, share_of_other, starts_self}
use Rattle.arc_view.proofs.Ends.{more_within, within_self}

-- the act of a step as a list
abbrev pub acts_of : Option Act → List Act
acts_of None = []
acts_of (Some a) = a ∷ []

listed : (p : ℕ) (a : Option Act) → share (event_list p a) p ≡ events_by p (acts_of a)
listed p None = refl
listed p (Some a) = ap (λ b. cond b (record { thread = p; act = a } ∷ []) []) (eq-eqb p p refl)

pub told_grew : (shape : HeapShape) (intent : Intent) (st : Step) (v : View) (found : ℕ) (w : View) → Told shape intent st v found w → Grew (acts_of (act_of shape v st intent found)) 1 v w
told_grew shape intent st v found w t = subst (λ u. Grew (acts_of (act_of shape v st intent found)) 1 v u) (sym t.after) (let a = act_of shape v st intent found in let p = v.number in let ev = event_list p a in record {
  begins = (ev ++ t.between, sym (append_assoc ev t.between v.seen));
  made = share-append p ev (t.between ++ v.seen) ∙ (ap (λ l. l ++ share (t.between ++ v.seen) p) (listed p a) ∙ ap (λ l. events_by p (acts_of a) ++ l) (share-append p t.between v.seen ∙ ap (λ l. l ++ share v.seen p) t.others));
  steps = omega arith;
  number = refl;
  role = refl;
  splits = refl;
  taken = refl;
  gone = λ q e. let gone = t.gone q e in
      share-append q ev (t.between ++ v.seen) ∙ (ap (λ l. l ++ share (t.between ++ v.seen) q) (share_of_other p q a gone.0) ∙ (share-append q t.between v.seen ∙ ap (λ l. l ++ share v.seen q) gone.1));
})

pub told_called : (shape : HeapShape) (intent : Intent) (st : Step) (v : View) (found : ℕ) (w : View) → Told shape intent st v found w → Called shape (acts_of (act_of shape v st intent found)) 1 v w
told_called shape intent st v found w t = record { grew = told_grew shape intent st v found w t; legal = t.legal; in_shape = t.in_shape }

pub grew_none : (v : View) → Grew [] 0 v v
grew_none v = record { begins = starts_self v.seen; made = refl; steps = omega arith; number = refl; role = refl; splits = refl; taken = refl; gone = λ p e. refl }

-- a look changes nothing that is under way
pub look_works : (w : Working) (pl : Place) (found : ℕ) → working_loaded w pl found Look ≡ w
look_works w Zero found = refl
look_works w (Global g) found = refl
look_works w (Count s) found = refl
look_works w (Isa s) found = refl
look_works w (Next s) found = refl
look_works w (Field s f) found = refl
look_works w (Link e) found = refl
look_works w (Strong e) found = refl
look_works w (Unowned e) found = refl
look_works w (Weak e) found = refl
look_works w (SlotBits k) found = refl
look_works w (EntryBits k) found = refl

-- a pass that owes no name may look
pub look_allowed : (shape : HeapShape) (v : View) → v.working.owes ≡ None → Admits shape v (Load 0) Look
look_allowed shape v free = (Zero, refl, tt, free, tt, tt)

pub met_called : (shape : HeapShape) (v u : View) (found : ℕ) (w : View) → Told shape Look (Load 0) (met v u) found w → Called shape [] 2 v w × StartsWith w.seen u.seen × (w.working ≡ v.working)
met_called shape v u found w t =
    let h = t.between ++ longer v.seen u.seen in
    let e : w.seen ≡ h = ap (λ (x : View). x.seen) t.after in
    let mine = t.olds.0 in
    let theirs = t.olds.1.0 in (
      record {
        grew = record {
          begins = (mine.0.0, e ∙ mine.0.1);
          made = ap (λ l. share l v.number) e ∙ mine.1 v.number (within_self v.number v.taken);
          steps = (let long = ap (λ (x : View). length x.trail) t.after in omega (arith, long));
          number = ap (λ (x : View). x.number) t.after;
          role = ap (λ (x : View). x.role) t.after;
          splits = ap (λ (x : View). x.splits) t.after;
          taken = ap (λ (x : View). x.taken) t.after;
          gone = λ q i. ap (λ l. share l q) e ∙ mine.1 q (more_within v.number q v.taken i);
        };
        legal = t.legal;
        in_shape = t.in_shape;
      },
      (theirs.0.0, e ∙ theirs.0.1),
      ap (λ (x : View). x.working) t.after ∙ look_works v.working (place_at (extent_of shape) 0) found,
    )

pub joined_took : (shape : HeapShape) (v u : View) (found : ℕ) (w : View) → Told shape Look (Load 0) (joined v u) found w → Took shape v u w × (w.working ≡ v.working)
joined_took shape v u found w t =
    let h = t.between ++ longer v.seen u.seen in
    let e : w.seen ≡ h = ap (λ (x : View). x.seen) t.after in
    let mine = t.olds.0 in
    let theirs = t.olds.1.0 in (
      record {
        begins = (mine.0.0, e ∙ mine.0.1);
        takes = (theirs.0.0, e ∙ theirs.0.1);
        own = ap (λ l. share l v.number) e ∙ mine.1 v.number (within_self v.number v.taken);
        other = ap (λ l. share l u.number) e ∙ theirs.1 u.number (within_self u.number u.taken);
        steps = (let long = ap (λ (x : View). length x.trail) t.after in omega (arith, long));
        number = ap (λ (x : View). x.number) t.after;
        splits = ap (λ (x : View). x.splits) t.after;
        taken = ap (λ (x : View). x.taken) t.after;
        gone = λ q i. ap (λ l. share l q) e ∙ mine.1 q (more_within v.number q v.taken i);
        legal = t.legal;
        in_shape = t.in_shape;
      },
      ap (λ (x : View). x.working) t.after ∙ look_works v.working (place_at (extent_of shape) 0) found,
    )
