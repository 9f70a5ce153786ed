-- Which line of a text is refused, and what it has.
use Rattle.std.specs.Prelude.{◌≡◌, ◌≢◌, ℕ, ◌+◌, true, List, [], ◌∷◌, ◌++◌, length}
use Rattle.std.specs.List.{list_all}
use Rattle.arc_text.specs.Words.{is_plain, words_of}
use Rattle.arc_text.specs.Lines.{lines_of}
use Rattle.arc_script.specs.declared.reason.Reason.{Reason}
use Rattle.arc_script.specs.declared.reason.Reason.TheVariants as why
use Rattle.arc_script.specs.declared.keyword.Place.TheVariants as behind
use Rattle.arc_script.specs.Reasons.{reason_number}
use Rattle.arc_script.specs.Grammar.{Front, Refusal, nothing}
use Rattle.arc_script.specs.Accepted.{IsPassedOver, Says, Tells}
use Rattle.arc_script_laws.specs.Faults.{LineHas}

-- these accepted lines, behind which the rest stands, lead from what was said so far to this front
pub data Leads (front : Front) (rest : List (List ℕ)) : Front → List (List ℕ) → Type 0 where
  no_line : Leads front rest front []
  over_line : {from : Front} (line : List ℕ) (lines : List (List ℕ)) → IsPassedOver line → Leads front rest from lines → Leads front rest from (line ∷ lines)
  told_line : {from : Front} (line : List ℕ) (lines : List (List ℕ)) (next : Front) → list_all is_plain line ≡ true → Says from (words_of line) (lines ++ rest) next → Leads front rest next lines → Leads front rest from (line ∷ lines)

-- all lines before it were accepted, and it has a fault of this number; the line after the last stands for a `done` that is missing
pub data IsRefused (text : List ℕ) (r : Refusal) : Type 0 where
  without_done : (last : Front) → Tells last (nothing 1 behind.Start) (lines_of text) → last.place ≢ behind.Ended → r.line ≡ length (lines_of text) + 1 → r.why ≡ reason_number why.FirstWord → IsRefused text r
  at_line : (before rest words : List (List ℕ)) (line first : List ℕ) (front : Front) (reason : Reason) → lines_of text ≡ before ++ line ∷ rest → Leads front (line ∷ rest) (nothing 1 behind.Start) before
      → words_of line ≡ first ∷ words → LineHas reason front line first words rest → r.line ≡ length before + 1 → r.why ≡ reason_number reason → IsRefused text r
