-- What a line between the heading and the events says, where it isn't refused.
use Rattle.std.proofs.Common.{◌≡◌, ℕ, ◌+◌, ◌≤◌, Bool, true, false, cond, eqb, List, [], ◌∷◌, Option, Some, None, Result, Ok, refl, sym, ap, subst, ◌∙◌}
use Rattle.std.specs.Prelude.{not, bytes_eq, codes, slice_index}
use Rattle.std.specs.List.{list_all}
use Rattle.arc_text.specs.Words.{is_plain, number_in, words_of}
use Rattle.arc_text.proofs.Numbers.{number_range}
use Rattle.arc_script.specs.declared.reason.Reason.{Reason}
use Rattle.arc_script.specs.declared.reason.Reason.TheVariants as why
use Rattle.arc_script.specs.Grammar.{Refusal}
use Rattle.arc_script.proofs.Inverted.{passed, found, ok_is}
use Rattle.arc_check.specs.declared.line.Opening.{Opening}
use Rattle.arc_check.specs.declared.line.Opening.TheVariants as opening
use Rattle.arc_check.specs.EventTexts.{threads_line, events_line, opening_form, opening_words, opening_line, then_opening, opened_from}

-- a number of threads is at most 64, and that of the events is the one that was said
abbrev pub OpeningFits : Option ℕ → Opening → Type 0
OpeningFits threads opening.Passed = Unit {0}
OpeningFits threads (opening.Threads t) = t ≤ 64
OpeningFits threads (opening.Events t) = threads ≡ Some t

threads_fit : (threads : Option ℕ) (words : List (List ℕ)) (o : Opening) → threads_line words ≡ Ok o → OpeningFits threads o
threads_fit threads [] o h = absurd cc
threads_fit threads (w ∷ []) o h =
    let n = found (number_in 0 64 w) why.Number _ o h in
    let is : o ≡ opening.Threads n.0 = ok_is (opening.Threads n.0) o n.2 in
    subst (OpeningFits threads) (sym is) (number_range 0 64 w n.0 n.1).1
threads_fit threads (w ∷ v ∷ ws) o h = absurd cc

events_fit : (t : ℕ) (words : List (List ℕ)) (o : Opening) → events_line t words ≡ Ok o → OpeningFits (Some t) o
events_fit t [] o h = subst (OpeningFits (Some t)) (sym (ok_is (opening.Events t) o h)) refl
events_fit t (w ∷ ws) o h = absurd cc

form_fits : (threads : Option ℕ) (first : List ℕ) (words : List (List ℕ)) (o : Opening) → opening_form threads first words ≡ Ok o → OpeningFits threads o
form_fits None first words o h = threads_fit None words o (passed (not (bytes_eq first (codes "threads"))) why.FirstWord _ o h).1
form_fits (Some t) first words o h = events_fit t words o (passed (not (bytes_eq first (codes "events"))) why.FirstWord _ o h).1

comment_or : (b : Bool) (threads : Option ℕ) (r : Result Opening Reason) (o : Opening) → cond b (Ok opening.Passed) r ≡ Ok o → (r ≡ Ok o → OpeningFits threads o) → OpeningFits threads o
comment_or true threads r o h k = subst (OpeningFits threads) (sym (ok_is opening.Passed o h)) tt
comment_or false threads r o h k = k h

words_fit : (threads : Option ℕ) (line : List ℕ) (words : List (List ℕ)) (o : Opening) → opening_words threads line words ≡ Ok o → OpeningFits threads o
words_fit threads line [] o h = subst (OpeningFits threads) (sym (ok_is opening.Passed o h)) tt
words_fit threads line (first ∷ words) o h =
    comment_or (eqb (slice_index first 0) 35) threads _ o h (λ k. form_fits threads first words o (passed (not (list_all is_plain line)) why.Byte _ o k).1)

pub opening_fits : (threads : Option ℕ) (line : List ℕ) (o : Opening) → opening_line threads line ≡ Ok o → OpeningFits threads o
unfolding opening_line
opening_fits threads line o h = words_fit threads line (words_of line) o h

abbrev pub FewThreads : Option ℕ → Type 0
FewThreads None = Unit {0}
FewThreads (Some t) = t ≤ 64

pub few_of : (o : Option ℕ) (t : ℕ) → o ≡ Some t → FewThreads o → t ≤ 64
few_of o t e h = subst FewThreads e h

-- the number of threads was said
pub threads_more : {X : Type 0} (n t : ℕ) (threads : Option ℕ) (line : List ℕ) (lines later : List (List ℕ)) (rest : ℕ → ℕ → List (List ℕ) → Result X Refusal) (all : Result X Refusal) → lines ≡ line ∷ later
    → opening_line threads line ≡ Ok (opening.Threads t) → opened_from n threads lines rest ≡ all → opened_from (n + 1) (Some t) later rest ≡ all
threads_more n t threads line lines later rest all cut said h =
    sym (ap (λ (r : Result Opening Reason). then_opening n threads r (λ o. opened_from (n + 1) o later rest) (λ o. rest o (n + 1) later)) said)
    ∙ (ap (λ (ls : List (List ℕ)). opened_from n threads ls rest) (sym cut) ∙ h)
