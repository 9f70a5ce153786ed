-- New steppers may be replayed: as many passes are split off.
use Rattle.std.proofs.Common.{◌≡◌, ◌⊎◌, inl, inr, ℕ, zero, suc, ◌+◌, ◌-◌, ◌<◌, ◌≤◌, cond, List, [], ◌∷◌, ◌++◌, length, set, refl, sym, ap, ◌∙◌, subst, arith, eq-eqb}
use Rattle.std.proofs.lemmas.Bool.{cases_lt}
use Rattle.std.proofs.lemmas.List.{length-append, length-set}
use Rattle.std.proofs.lemmas.Option.{slice_get_within}
use mathlib.Core.Option.{some}
use lib.ListN.{get_elem?}
use Rattle.arc_model.specs.declared.event.Event.{Event}
use Rattle.arc_model.specs.Shapes.{HeapShape}
use Rattle.arc_model.specs.History.{History, share, IsLegal}
use Rattle.arc_ops.specs.Thread.{Thread}
use Rattle.arc_spelled.specs.Spelled.{work_of}
use Rattle.arc_view.specs.declared.view.Role.TheVariants.{Pass}
use Rattle.arc_view.specs.declared.view.View.{View}
use Rattle.arc_view.specs.Views.{first_view, idle}
use Rattle.arc_view.specs.Rule.{InShape, IsKept}
use Rattle.arc_view.specs.Passes.{parted, newcomer}
use Rattle.arc_view.proofs.Seats.{begins, splits_pass}
use Rattle.arc_ops_passes.specs.Drives.{Drives, IsChain}
use Rattle.arc_replays.specs.Replaying.{table, ReplaysBegin}
use Rattle.arc_ops_passes.proofs.Phases.{new_steppers_drive}
use Rattle.arc_replays.proofs.GoesOn.{elem_here, elem_else}

-- the first pass, once it has split off so many
abbrev first : ℕ → View
first zero = first_view
first (suc n) = parted (first n)

abbrev views : ℕ → List View
views zero = first_view ∷ []
views (suc n) = set (views n) 0 (first (suc n)) ++ newcomer (first n) ∷ []

-- a pass that has seen nothing
record IsFresh (i : ℕ) (v : View) : Type 0 where
  number : v.number ≡ i
  pass : v.role ≡ Pass
  seen : v.seen ≡ []
  working : v.working ≡ idle

first_fresh : (n : ℕ) → IsFresh 0 (first n)
first_fresh zero = record { number = refl; pass = refl; seen = refl; working = refl }
first_fresh (suc n) = let f = first_fresh n in record { number = f.number; pass = f.pass; seen = f.seen; working = f.working }

first_splits : (n : ℕ) → (first n).splits ≡ n
first_splits zero = refl
first_splits (suc n) = ap suc (first_splits n)

long : (n : ℕ) → length (views n) ≡ n + 1
long zero = refl
long (suc n) = let l = length-append (set (views n) 0 (first (suc n))) (newcomer (first n) ∷ []) in let m = length-set (views n) 0 (first (suc n)) in let k = long n in omega arith

elem_left : {X : Type 0} (xs ys : List X) (i : ℕ) → i < length xs → get_elem? (xs ++ ys) i ≡ get_elem? xs i
elem_left [] ys i lt = absurd (omega arith)
elem_left (x ∷ xs) ys zero lt = refl
elem_left (x ∷ xs) ys (suc i) lt = elem_left xs ys i (omega arith)

elem_last : {X : Type 0} (xs : List X) (y : X) (i : ℕ) → i ≡ length xs → get_elem? (xs ++ y ∷ []) i ≡ some y
elem_last [] y zero e = refl
elem_last [] y (suc i) e = absurd (omega arith)
elem_last (x ∷ xs) y zero e = absurd (omega arith)
elem_last (x ∷ xs) y (suc i) e = elem_last xs y i (omega arith)

first_there : (n : ℕ) → get_elem? (views n) 0 ≡ some (first n)
first_there zero = refl
first_there (suc n) =
    let k = long n in let m = length-set (views n) 0 (first (suc n)) in
    elem_left (set (views n) 0 (first (suc n))) (newcomer (first n) ∷ []) 0 (omega arith) ∙ elem_here (views n) 0 (first (suc n)) (omega arith)

-- each place has the pass of its number
there : (n i : ℕ) → i ≤ n → (v : View) × (get_elem? (views n) i ≡ some v) × IsFresh i v
there zero zero le = (first_view, refl, record { number = refl; pass = refl; seen = refl; working = refl })
there zero (suc i) le = absurd (omega arith)
there (suc n) zero le = (first (suc n), first_there (suc n), first_fresh (suc n))
there (suc n) (suc i) le = at (cases_lt i n) (λ less. there n (suc i) less)
  where
    k : length (set (views n) 0 (first (suc n))) ≡ n + 1
    k = length-set (views n) 0 (first (suc n)) ∙ long n

    at : (i < n) ⊎ (n ≤ i) → (suc i ≤ n → (v : View) × (get_elem? (views n) (suc i) ≡ some v) × IsFresh (suc i) v) → (v : View) × (get_elem? (views (suc n)) (suc i) ≡ some v) × IsFresh (suc i) v
    at (inl lt) ih =
        let d = ih (omega arith) in let l = k in
        (d.0, elem_left (set (views n) 0 (first (suc n))) (newcomer (first n) ∷ []) (suc i) (omega arith) ∙ (elem_else (views n) 0 (suc i) (first (suc n)) (λ e. cc) ∙ d.1), d.2)
    at (inr ge) ih =
        let same : i ≡ n = omega arith in let l = k in let f = first_fresh n in (
          newcomer (first n),
          elem_last (set (views n) 0 (first (suc n))) (newcomer (first n)) (suc i) (omega arith),
          record { number = ap suc (first_splits n ∙ sym same); pass = refl; seen = f.seen; working = refl },
        )

kept : (shape : HeapShape) (words : List ℕ) (zeros : IsKept shape (table words (first_view ∷ []))) (n : ℕ) → n ≤ 64 → IsKept shape (table words (views n))
kept shape words zeros zero le = zeros
kept shape words zeros (suc n) le =
    let f = first_fresh n in let s = first_splits n in
    splits_pass shape 0 (first n) (f.pass, f.number) (omega arith) (table words (views n)) (kept shape words zeros n (omega arith)) (first_there n)

-- no thread has an event
unused : (h : History) → ((p : ℕ) → share h p ≡ []) → h ≡ []
unused [] none = refl
unused (e ∷ h) none = absurd (cons_nil e (share h e.thread) (ap (λ b. cond b (e ∷ share h e.thread) (share h e.thread)) (sym (eq-eqb e.thread e.thread refl)) ∙ none e.thread))
  where
    cons_nil : (e : Event) (h : History) → e ∷ h ≡ [] → ⊥
    cons_nil e h q = cc

log_empty : (shape : HeapShape) (words : List ℕ) (n : ℕ) (k : IsKept shape (table words (views n))) → k.log ≡ []
log_empty shape words n k = unused k.log none
  where
    splits_is : k.splits ≡ n
    splits_is = let f = first_fresh n in sym ((k.fits 0 (first n) (first_there n)).first f.pass f.number).0 ∙ first_splits n

    none : (p : ℕ) → share k.log p ≡ []
    none p = at (cases_lt n p)
      where
        at : (n < p) ⊎ (p ≤ n) → share k.log p ≡ []
        at (inl lt) = k.strange p (let s = splits_is in omega arith)
        at (inr le) = let d = there n p le in let f = d.2 in
            ap (share k.log) (sym f.number) ∙ ((k.fits p d.0 d.1).own f.pass ∙ ap (λ h. share h d.0.number) f.seen)

pub replays_begin : ReplaysBegin
replays_begin script came threads words sized new zeros =
    let n : ℕ = length threads - 1 in
    let k = kept script.shape words (begins script.shape words sized zeros) n (let few = new.few in omega arith) in
    let empty = log_empty script.shape words n k in record {
      views = views n;
      kept = k;
      log_is = empty;
      as_many = (let l = long n in let s = new.some in omega arith);
      drives = λ i t at.
          let lt = slice_get_within threads i t at in
          let d = there n i (omega arith) in
          let f = d.2 in
          let begun = subst (λ (x : Thread). (e : Drives (work_of script i came) x d.0) × IsChain x.doing e.chain []) (sym (new.new i t at)) (
            new_steppers_drive script i came d.0 (record {
              pass = f.pass;
              number = f.number;
              legal = subst (IsLegal script.shape) (sym f.seen) tt;
              in_shape = subst (InShape script.shape) (empty ∙ sym f.seen) k.in_shape;
              unused = ap (λ h. share h i) f.seen;
              working = f.working;
            }),
            tt,
          ) in
          (d.0, d.1, begun.0, begun.1);
    }
