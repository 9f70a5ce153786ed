-- The names of a run of class lines are those that its lines have.
use Rattle.std.proofs.Common.{◌≡◌, ℕ, zero, suc, Bool, true, false, cond, eqb, ◌&&◌, List, [], ◌∷◌, refl, sym, ap, subst, ◌∙◌, arith}
use Rattle.std.specs.Prelude.{bytes_eq, codes, slice_index}
use Rattle.std.proofs.lemmas.Bool.{eqb-true}
use Rattle.arc_text.specs.Words.{words_of}
use Rattle.arc_script.specs.Valid.{OfSecond}
use Rattle.arc_script.specs.Said.{Grouped}
use Rattle.arc_script.specs.Group.{named, line_group, run_group, group_names}
use Rattle.arc_script.specs.Canonical.{class_word}
use Rattle.arc_script.specs.Accepted.{blank, comment}
use Rattle.arc_script_laws.specs.Faults.{IsIn}
use Rattle.arc_script_laws.specs.Runs.{HasInRun, here, behind_class, behind_passed}
use Rattle.arc_script.proofs.Inverted.{same_text, both}
use Rattle.arc_script.proofs.ReadValid.{same_run, run_is}

-- ---- a name of the run stands on a line of it

abbrev later_names : ℕ → List (List ℕ) → List Grouped
later_names version rest = run_group version rest

-- a class line: its name, or one of those behind it
named_or : (version : ℕ) (immortal : Bool) (name line first : List ℕ) (words rest : List (List ℕ)) → OfSecond version immortal → words_of line ≡ first ∷ words → first ≡ class_word immortal
    → IsIn (group_names (named immortal words (later_names version rest))) name → (IsIn (group_names (later_names version rest)) name → HasInRun version name rest) → HasInRun version name (line ∷ rest)
named_or version immortal name line first [] rest of w e is more = behind_class immortal line rest [] of (w ∙ ap (λ (f : List ℕ). f ∷ []) e) (more is)
named_or version immortal name line first (n ∷ words) rest of w e (zero, lt, same) more = here immortal line rest words of (w ∙ (ap (λ (f : List ℕ). f ∷ n ∷ words) e ∙ ap (λ (m : List ℕ). class_word immortal ∷ m ∷ words) same))
named_or version immortal name line first (n ∷ words) rest of w e (suc i, lt, same) more = behind_class immortal line rest (n ∷ words) of (w ∙ ap (λ (f : List ℕ). f ∷ n ∷ words) e) (more (i, omega arith, same))

immortal_or : (version : ℕ) (name line first : List ℕ) (words rest : List (List ℕ)) (b : Bool) → words_of line ≡ first ∷ words → (bytes_eq first (codes "immortal") && eqb version 2) ≡ b
    → IsIn (group_names (cond b (named true words (later_names version rest)) [])) name → (IsIn (group_names (later_names version rest)) name → HasInRun version name rest) → HasInRun version name (line ∷ rest)
immortal_or version name line first words rest true w e is more =
    let t = both (bytes_eq first (codes "immortal")) (eqb version 2) e in
    named_or version true name line first words rest (λ yes. eqb-true _ _ t.1) w (same_text first (codes "immortal") t.0) is more
immortal_or version name line first words rest false w e (i, lt, same) more = absurd (omega arith)

class_or : (version : ℕ) (name line first : List ℕ) (words rest : List (List ℕ)) (b : Bool) → words_of line ≡ first ∷ words → bytes_eq first (codes "class") ≡ b
    → IsIn (group_names (cond b (named false words (later_names version rest)) (cond (bytes_eq first (codes "immortal") && eqb version 2) (named true words (later_names version rest)) []))) name
    → (IsIn (group_names (later_names version rest)) name → HasInRun version name rest) → HasInRun version name (line ∷ rest)
class_or version name line first words rest true w e is more = named_or version false name line first words rest (λ no. absurd cc) w (same_text first (codes "class") e) is more
class_or version name line first words rest false w e is more = immortal_or version name line first words rest (bytes_eq first (codes "immortal") && eqb version 2) w refl is more

comment_or : (version : ℕ) (name line first : List ℕ) (words rest : List (List ℕ)) (b : Bool) → words_of line ≡ first ∷ words → eqb (slice_index first 0) 35 ≡ b
    → IsIn (group_names (cond b (later_names version rest) (cond (bytes_eq first (codes "class")) (named false words (later_names version rest)) (cond (bytes_eq first (codes "immortal") && eqb version 2) (named true words (later_names version rest)) [])))) name
    → (IsIn (group_names (later_names version rest)) name → HasInRun version name rest) → HasInRun version name (line ∷ rest)
comment_or version name line first words rest true w e is more = behind_passed line rest (comment first words w (eqb-true _ _ e)) (more is)
comment_or version name line first words rest false w e is more = class_or version name line first words rest (bytes_eq first (codes "class")) w refl is more

words_or : (version : ℕ) (name line : List ℕ) (words rest : List (List ℕ)) → words_of line ≡ words → IsIn (group_names (line_group version words (later_names version rest))) name
    → (IsIn (group_names (later_names version rest)) name → HasInRun version name rest) → HasInRun version name (line ∷ rest)
words_or version name line [] rest w is more = behind_passed line rest (blank w) (more is)
words_or version name line (first ∷ words) rest w is more = comment_or version name line first words rest (eqb (slice_index first 0) 35) w refl is more

pub run_has : (version : ℕ) (lines : List (List ℕ)) (name : List ℕ) → IsIn (group_names (run_group version lines)) name → HasInRun version name lines
run_has version [] name (i, lt, same) = absurd (omega arith)
run_has version (line ∷ rest) name is = words_or version name line (words_of line) rest refl is (run_has version rest name)

-- ---- and the other way round

named_more : (immortal : Bool) (words : List (List ℕ)) (later : List Grouped) (name : List ℕ) → IsIn (group_names later) name → IsIn (group_names (named immortal words later)) name
named_more immortal [] later name is = is
named_more immortal (n ∷ words) later name (i, lt, same) = (suc i, omega arith, same)

line_named : (version : ℕ) (immortal : Bool) (words : List (List ℕ)) (later : List Grouped) → OfSecond version immortal → line_group version (class_word immortal ∷ words) later ≡ named immortal words later
line_named version true words later of = subst (λ (v : ℕ). line_group v (class_word true ∷ words) later ≡ named true words later) (sym (of refl)) refl
line_named version false words later of = refl

pub run_names_have : (version : ℕ) (name : List ℕ) (lines : List (List ℕ)) → HasInRun version name lines → IsIn (group_names (run_group version lines)) name
run_names_have version name _ (here immortal line rest words of e) =
    subst (λ (g : List Grouped). IsIn (group_names g) name) (sym (run_is version line rest (class_word immortal ∷ name ∷ words) (named immortal (name ∷ words) (run_group version rest)) e (line_named version immortal (name ∷ words) (run_group version rest) of))) (0, omega arith, refl)
run_names_have version name _ (behind_class immortal line rest words of e h) =
    subst (λ (g : List Grouped). IsIn (group_names g) name) (sym (run_is version line rest (class_word immortal ∷ words) (named immortal words (run_group version rest)) e (line_named version immortal words (run_group version rest) of)))
    (named_more immortal words (run_group version rest) name (run_names_have version name rest h))
run_names_have version name _ (behind_passed line rest over h) = subst (λ (g : List Grouped). IsIn (group_names g) name) (sym (same_run version line rest over)) (run_names_have version name rest h)
