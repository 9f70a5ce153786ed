-- A plan on words that nobody else changes: what it has read is still there.
use Rattle.std.specs.Prelude.{bit_and, bit_or}
use Rattle.std.proofs.Common.{◌≡◌, ◌≢◌, ◌⊎◌, inl, inr, ℕ, ◌<◌, List, length, get_or, set, Option, Some, None, true, false, Bool, cond, eqb, refl, sym, ap, subst, ◌∙◌, get_or-set_other}
use Rattle.arc_rule.specs.declared.step.Step.{Step}
use Rattle.arc_rule.specs.declared.step.Step.TheVariants.{Load, Exchange, Store, Or, And}
use Rattle.arc_rule.specs.declared.step.Changed.{Changed}
use Rattle.arc_rule.specs.declared.plan.Next.{Next}
use Rattle.arc_rule.specs.declared.plan.Next.TheVariants as nexts
use Rattle.arc_rule.specs.Steps.{place_of, found_by, made_by}
use Rattle.arc_rule.specs.Plans.{Reading, LeavesPlace, RestsOn, Tries, IsChange, RunsOn, RunsTo}
use Rattle.arc_rule.specs.Plans.RunsOn.{ends, steps_on}
use Rattle.arc_rule.specs.Plans.RunsTo.{ended, stepped}

-- Nothing was asked for yet; or the step was made on the words before, and the word that the plan rests on lay there.
pub data IsSettled (asked : Option Step) (last : Option ℕ) (rests : Option Reading) (words : List ℕ) : Type 0 where
  fresh : last ≡ None → IsSettled asked last rests words
  made : (s : Step) (before : List ℕ) → asked ≡ Some s → last ≡ Some (found_by s before) → words ≡ made_by s before →
      ((r : Reading) → rests ≡ Some r → get_or before r.place 0 ≡ r.word) → IsSettled asked last rests words

-- a step that writes nothing at a place leaves its word
pub made_leaves : (s : Step) (words : List ℕ) (place : ℕ) → LeavesPlace (Some s) place → get_or (made_by s words) place 0 ≡ get_or words place 0
made_leaves (Load q) words place leaves = refl
made_leaves (Exchange q old new) words place leaves = go (eqb (get_or words q 0) old)
  where
    go : (b : Bool) → get_or (cond b (set words q new) words) place 0 ≡ get_or words place 0
    go true = get_or-set_other words q place new 0 (λ e. leaves (sym e))
    go false = refl
made_leaves (Store q new) words place leaves = get_or-set_other words q place new 0 (λ e. leaves (sym e))
made_leaves (Or q bits) words place leaves = get_or-set_other words q place (bit_or (get_or words q 0) bits) 0 (λ e. leaves (sym e))
made_leaves (And q bits) words place leaves = get_or-set_other words q place (bit_and (get_or words q 0) bits) 0 (λ e. leaves (sym e))

-- what a plan rests on lies in the words when its next step is made
pub settles : (asked asked' : Option Step) (last : Option ℕ) (rests rests' : Option Reading) (words : List ℕ) (st : Step) →
    IsSettled asked last rests words → asked' ≡ Some st → RestsOn asked last rests rests' → IsSettled asked' (Some (found_by st words)) rests' (made_by st words)
settles asked asked' last rests rests' words st settled waits rests_on = made st words waits refl refl (λ r is. lies r (rests_on r is))
  where
    just_read : (r : Reading) (s : Step) (before : List ℕ) → s ≡ Load r.place → Some (found_by s before) ≡ Some r.word → words ≡ made_by s before → get_or words r.place 0 ≡ r.word
    just_read r s before is =
        let P : Step → Type 0 = λ z. Some (found_by z before) ≡ Some r.word → words ≡ made_by z before → get_or words r.place 0 ≡ r.word in
        subst P (sym is) (λ f w. cc)

    lies : (r : Reading) → ((asked ≡ Some (Load r.place)) × (last ≡ Some r.word)) ⊎ ((last ≢ None) × (rests ≡ Some r) × LeavesPlace asked r.place) → get_or words r.place 0 ≡ r.word
    lies r (inl read) = elim settled [ fresh none ↦ absurd (cc) | made s before asked_is last_is words_is lay ↦ just_read r s before (cc) (cc) words_is ]
    lies r (inr kept) = elim settled [
      | fresh none ↦ absurd (kept.0 none)
      | made s before asked_is last_is words_is lay ↦
          let leaves : LeavesPlace (Some s) r.place = subst (λ (o : Option Step). LeavesPlace o r.place) asked_is kept.2 in
          ap (λ ws. get_or ws r.place 0) words_is ∙ made_leaves s before r.place leaves ∙ lay r kept.1
    ]

-- where nobody else changes the words, no answer says that one has changed
pub none_changed : {A : Type 0} (changed : A → Option Changed) (asked : Option Step) (last : Option ℕ) (rests : Option Reading) (words : List ℕ) (a : A) →
    IsSettled asked last rests words → ((c : Changed) → changed a ≡ Some c → IsChange asked last rests c) → changed a ≡ None
none_changed changed asked last rests words a settled holds = go (changed a) refl
  where
    -- what such a step finds is what lay there
    tried : (s : Step) (before : List ℕ) (place seen : ℕ) → Tries (Some s) place seen → found_by s before ≡ get_or before place 0
    tried (Load q) before place seen t = absurd t
    tried (Exchange q old new) before place seen t = ap (λ n. get_or before n 0) t.0
    tried (Store q new) before place seen t = absurd t
    tried (Or q bits) before place seen t = ap (λ n. get_or before n 0) t
    tried (And q bits) before place seen t = absurd t

    differs : (c : Changed) (h : IsChange asked last rests c) (s : Step) (before : List ℕ) → Tries (Some s) h.place c.seen → Some (found_by s before) ≡ Some c.found → get_or before h.place 0 ≡ c.seen → ⊥
    differs c h s before t f lay = let same = tried s before h.place c.seen t in h.differ (cc)

    no : (c : Changed) → IsChange asked last rests c → ⊥
    no c h = elim settled [
      | fresh none ↦ let found = h.found in cc
      | made s before asked_is last_is words_is lay ↦
          let found = h.found in
          let tries : Tries (Some s) h.place c.seen = subst (λ (o : Option Step). Tries o h.place c.seen) asked_is h.tries in
          differs c h s before tries (cc) (lay (record { place = h.place; word = c.seen }) h.read)
    ]

    go : (o : Option Changed) → changed a ≡ o → changed a ≡ None
    go None e = e
    go (Some c) e = absurd (no c (holds c e))

-- The plan first was given nothing on the first words, and is now p, given last, on these words.
pub record IsRunning {P A : Type 0} (takes : P → Option ℕ → Type 0) (turned : P → Option ℕ → P) (answer : P → Option ℕ → Next A)
    (asked : P → Option Step) (rests : P → Option Reading) (first : P) (first_words : List ℕ) (p : P) (last : Option ℕ) (words : List ℕ) : Type 0 where
  pub going : RunsOn takes turned answer p last words
  pub back : (a : A) (after : List ℕ) → RunsTo turned answer p last words a after → RunsTo turned answer first None first_words a after
  pub settled : IsSettled (asked p) last (rests p) words

module _ {P A : Type 0} (takes : P → Option ℕ → Type 0) (turned : P → Option ℕ → P) (answer : P → Option ℕ → Next A)
    (asked : P → Option Step) (rests : P → Option Reading) (first : P) (first_words : List ℕ) where
  pub begins : RunsOn takes turned answer first None first_words → IsRunning takes turned answer asked rests first first_words first None first_words
  begins going = record { going = going; back = λ a after r. r; settled = fresh refl }

  module _ (p : P) (last : Option ℕ) (words : List ℕ) where
    pub may_go : RunsOn takes turned answer p last words → takes p last
    may_go going = elim going [ ends a t e ↦ t | steps_on s t e within rest ↦ t ]

    pub step_within : (s : Step) → RunsOn takes turned answer p last words → answer p last ≡ nexts.Step s → place_of s < length words
    step_within s going is = elim going [
      | ends a t e ↦ absurd (cc)
      | steps_on s' t e within rest ↦ let same : s' ≡ s = cc in subst (λ (z : Step). place_of z < length words) same within
    ]

    goes_on : (s : Step) → RunsOn takes turned answer p last words → answer p last ≡ nexts.Step s →
        RunsOn takes turned answer (turned p last) (Some (found_by s words)) (made_by s words)
    goes_on s going is = elim going [
      | ends a t e ↦ absurd (cc)
      | steps_on s' t e within rest ↦ let same : s' ≡ s = cc in subst (λ (z : Step). RunsOn takes turned answer (turned p last) (Some (found_by z words)) (made_by z words)) same rest
    ]

    -- q is p after its answer, and was given back what its step found
    pub runs_on : (s : Step) (q : P) (found : ℕ) (after : List ℕ) → IsRunning takes turned answer asked rests first first_words p last words →
        q ≡ turned p last → answer p last ≡ nexts.Step s → asked q ≡ Some s → RestsOn (asked p) last (rests p) (rests q) →
        found ≡ found_by s words → after ≡ made_by s words →
        IsRunning takes turned answer asked rests first first_words q (Some found) after
    runs_on s q found after running q_is is waits rests_on found_is after_is = rw (found_is, after_is) record {
      going = rw q_is (goes_on s running.going is);
      back = λ a end r. running.back a end (stepped s is (subst (λ (z : P). RunsTo turned answer z (Some (found_by s words)) (made_by s words) a end) q_is r));
      settled = settles (asked p) (asked q) last (rests p) (rests q) words s running.settled waits rests_on;
    }

    pub comes_to : (a : A) → IsRunning takes turned answer asked rests first first_words p last words → answer p last ≡ nexts.Done a → RunsTo turned answer first None first_words a words
    comes_to a running is = running.back a words (ended is)
