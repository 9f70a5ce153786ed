-- A point at which phases end stays one through later events; where no thread but 0 has an event behind such a point, thread 0 stands last.
use Rattle.std.proofs.Common.{◌≡◌, ℕ, zero, suc, ◌≤◌, Bool, true, false, cond, not, [], ◌∷◌, ◌++◌, refl, sym, ap, ◌∙◌, subst, append_assoc, eq-eqb, arith}
use Rattle.std.specs.Prelude.{filter}
use Rattle.arc_model.specs.declared.event.Event.{Event}
use Rattle.arc_model.specs.History.{History, share, is_of}
use Rattle.arc_script.specs.declared.script.Script.{Script}
use Rattle.arc_quiet.specs.Whole.{StandsLast}
use Rattle.arc_programs_laws.specs.Phases.{PhaseEnds}

pub phase_ends_later : (script : Script) (k : ℕ) (later h : History) → PhaseEnds script k h → PhaseEnds script k (later ++ h)
phase_ends_later script k later h x = record {
  later = later ++ x.later;
  earlier = x.earlier;
  split = ap (λ g. later ++ g) x.split ∙ sym (append_assoc later x.later x.earlier);
  done = x.done;
  none_of_main = x.none_of_main;
}

abbrev others : History → History
others h = filter (λ (e : Event). not (is_of 0 e)) h

-- a history without events of thread 0
none-of-main : (h : History) → share h 0 ≡ [] → others h ≡ h
none-of-main [] none = refl
none-of-main (e ∷ h) none = go (is_of 0 e) none (none-of-main h)
  where
    go : (b : Bool) → cond b (e ∷ share h 0) (share h 0) ≡ [] → (share h 0 ≡ [] → others h ≡ h) → cond (not b) (e ∷ others h) (others h) ≡ e ∷ h
    go true none ih = absurd cc
    go false none ih = ap (λ g. e ∷ g) (ih none)

-- events of thread 0 alone, behind a history that has none of it
main-last : (later earlier : History) → ((p : ℕ) → 1 ≤ p → share later p ≡ []) → share earlier 0 ≡ [] → StandsLast 0 (later ++ earlier)
main-last [] earlier alone none = sym (none-of-main earlier none) ∙ ap (λ g. g ++ others earlier) (sym none)
main-last (e ∷ later) earlier alone none = go (is_of 0 e) (mine e.thread refl) (main-last later earlier (λ p l. rest p (is_of p e) (alone p l)) none)
  where
    rest : (p : ℕ) (b : Bool) → cond b (e ∷ share later p) (share later p) ≡ [] → share later p ≡ []
    rest p true x = absurd cc
    rest p false x = x

    other : (b : Bool) (t : ℕ) → b ≡ true → cond b (e ∷ share later t) (share later t) ≡ [] → is_of 0 e ≡ true
    other true t is x = absurd cc
    other false t is x = absurd cc

    mine : (t : ℕ) → e.thread ≡ t → is_of 0 e ≡ true
    mine zero is = eq-eqb e.thread 0 is
    mine (suc t) is = other (is_of (suc t) e) (suc t) (eq-eqb e.thread (suc t) is) (alone (suc t) (omega arith))

    go : (b : Bool) → b ≡ true → later ++ earlier ≡ share (later ++ earlier) 0 ++ others (later ++ earlier) →
        e ∷ later ++ earlier ≡ cond b (e ∷ share (later ++ earlier) 0) (share (later ++ earlier) 0) ++ cond (not b) (e ∷ others (later ++ earlier)) (others (later ++ earlier))
    go true is ih = ap (λ g. e ∷ g) ih
    go false is ih = absurd cc

pub main_stands_last : (script : Script) (k : ℕ) (h : History) (x : PhaseEnds script k h) → ((p : ℕ) → 1 ≤ p → share x.later p ≡ []) → StandsLast 0 h
main_stands_last script k h x alone = subst (StandsLast 0) (sym x.split) (main-last x.later x.earlier alone x.none_of_main)
