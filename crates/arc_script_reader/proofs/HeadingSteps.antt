-- One line of a heading more.
use Rattle.std.proofs.Common.{◌≡◌, ℕ, suc, ◌+◌, ◌-◌, ◌≤◌, Bool, false, List, ◌∷◌, length, Result, Ok, sym, ap, ◌∙◌, arith}
use Rattle.std.specs.List.{after_first, position_or_len}
use Rattle.std.proofs.lemmas.List.{length-drop}
use Rattle.arc_text.specs.Words.{is_newline}
use Rattle.arc_script_reader.specs.declared.heading.Taken.{Taken}
use Rattle.arc_script_reader.specs.declared.heading.Taken.TheVariants as taken
use Rattle.arc_script.specs.declared.reason.Reason.{Reason}
use Rattle.arc_script.specs.Grammar.{Front, Refusal}
use Rattle.arc_script.specs.HeadingText.{Headed, HeadEnd, headed_line, then_headed, head_from, after_lines}
use Rattle.arc_script_reader.specs.Heads.{Heads, is_behind, last_behind, end_behind}

goes_on : (t : Taken) (n last : ℕ) (said : Result Headed Reason) (old new : Front) (rest : ℕ → Front → Result HeadEnd Refusal) → is_behind t ≡ false
    → Heads (Ok t) said old new → then_headed n last old said rest ≡ rest (last_behind t n last) new
goes_on taken.Passed n last said old new rest keeps h = ap (λ (s : Result Headed Reason). then_headed n last old s rest) h.0 ∙ ap (rest last) (sym h.1)
goes_on taken.Entered n last said old new rest keeps h = ap (λ (s : Result Headed Reason). then_headed n last old s rest) h
goes_on taken.Behind n last said old new rest keeps h = absurd cc

pub said_more : (caps : Bool) (t : Taken) (n last : ℕ) (old new : Front) (line : List ℕ) (lines later : List (List ℕ)) (all : Result HeadEnd Refusal)
    → is_behind t ≡ false → lines ≡ line ∷ later → Heads (Ok t) (headed_line caps old line later) old new
    → head_from caps n last old lines ≡ all → head_from caps (n + 1) (last_behind t n last) new later ≡ all
said_more caps t n last old new line lines later all keeps cut h before =
    sym (goes_on t n last (headed_line caps old line later) old new (λ l next. head_from caps (n + 1) l next later) keeps h)
    ∙ (ap (head_from caps n last old) (sym cut) ∙ before)

pub marked_more : (t : Taken) (n last line : ℕ) → line ≤ n → line ≤ last → line ≤ last_behind t n last
marked_more taken.Passed n last line h k = k
marked_more taken.Entered n last line h k = omega arith
marked_more taken.Behind n last line h k = k

pub rest_more : (n line : ℕ) (text old new : List ℕ) → line ≤ n → old ≡ after_lines (n - line) text → new ≡ after_first is_newline old → new ≡ after_lines (n + 1 - line) text
rest_more n line text old new h e f =
    let one : n + 1 - line ≡ suc (n - line) = omega arith in
    rw one (f ∙ ap (after_first is_newline) e)

pub ends_more : (t : Taken) (n last line end len : ℕ) (text new : List ℕ) → new ≡ after_lines (n + 1 - line) text
    → end ≡ len - length (after_lines (last - line) text) → end_behind t (len - length new) end ≡ len - length (after_lines (last_behind t n last - line) text)
ends_more taken.Passed n last line end len text new e h = h
ends_more taken.Entered n last line end len text new e h = ap (λ (b : List ℕ). len - length b) e
ends_more taken.Behind n last line end len text new e h = h

pub shorter : (old new : List ℕ) (n : ℕ) → new ≡ after_first is_newline old → length old ≤ n → length new ≤ n
shorter old new n e h =
    let cut : length (after_first is_newline old) ≡ length old - (position_or_len is_newline old + 1) = length-drop (position_or_len is_newline old + 1) old in
    let same : length new ≡ length (after_first is_newline old) = ap length e in
    omega arith

pub fits_more : (n bound : ℕ) (line : List ℕ) (lines later : List (List ℕ)) → lines ≡ line ∷ later → n + length lines ≤ bound → n + 1 + length later ≤ bound
fits_more n bound line lines later e h =
    let same : length lines ≡ suc (length later) = ap length e in
    omega arith
