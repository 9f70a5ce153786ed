-- A text that was read up to its events.
use Rattle.std.proofs.Common.{◌≡◌, ℕ, ◌+◌, ◌-◌, ◌*◌, ◌≤◌, Bool, true, cond, List, [], ◌∷◌, length, drop, Option, Some, None, Result, false, refl, sym, ap, subst, ◌∙◌, arith}
use Rattle.std.proofs.lemmas.List.{length-drop}
use Rattle.std.specs.Prelude.{bytes_eq, codes}
use Rattle.arc_text.specs.Words.{words_of}
use Rattle.arc_text.specs.Lines.{lines_of}
use Rattle.arc_text.proofs.FirstLine.{length-lines_of}
use Rattle.arc_script.specs.declared.script.Heading.{Heading}
use Rattle.arc_script.specs.Grammar.{Refusal}
use Rattle.arc_check.specs.declared.fault.CheckFault.{CheckFault}
use Rattle.arc_check.specs.Scopes.{Naming}
use Rattle.arc_check.specs.EventTexts.{version_in, version_said, version_begun, HistoryStart, started_by, behind_start, opened_from, events_from, with_shape, told_behind, behind_heading, from_start, history_of}
use Rattle.arc_check.specs.Reading.{Refuses}
use Rattle.arc_check.proofs.Headings.{IsHeadingOf, heading_rest, heading_line}

pub open_then : (version : ℕ) (text s : List ℕ) (at : ℕ) (h : Heading) → behind_start (lines_of text) ≡ Some (record { version = version; lines = lines_of (drop at s) }) → (i : IsHeadingOf version s at h)
    → history_of text ≡ opened_from h.line None (lines_of (drop h.end s)) (told_behind i.end.head)
open_then version text s at h begins i =
    let line : h.line ≡ i.end.line = ap (λ (x : Heading). x.line) i.whole in
    ap from_start begins
    ∙ (ap (behind_heading (lines_of (drop at s))) i.said
    ∙ (ap (λ (ls : List (List ℕ)). opened_from i.end.line None ls (told_behind i.end.head)) (sym (heading_rest version s at h i))
    ∙ ap (λ (n : ℕ). opened_from n None (lines_of (drop h.end s)) (told_behind i.end.head)) (sym line)))

in_range : (w : List ℕ) (v : ℕ) → version_in w ≡ Some v → (1 ≤ v) × (v ≤ 2)
in_range w v e = go (bytes_eq w (codes "1")) (bytes_eq w (codes "2")) e
  where
    go : (one two : Bool) → cond one (Some 1) (cond two (Some 2) None) ≡ Some v → (1 ≤ v) × (v ≤ 2)
    go true two e = let same : 1 ≡ v = cc in (omega arith, omega arith)
    go false true e = let same : 2 ≡ v = cc in (omega arith, omega arith)
    go false false e = absurd cc

said_range : (words : List (List ℕ)) (v : ℕ) → version_said words ≡ Some v → (1 ≤ v) × (v ≤ 2)
said_range [] v e = absurd cc
said_range (first ∷ []) v e = absurd cc
said_range (first ∷ second ∷ []) v e = go (bytes_eq first (codes "history")) e
  where
    go : (b : Bool) → cond b (version_in second) None ≡ Some v → (1 ≤ v) × (v ≤ 2)
    go true e = in_range second v e
    go false e = absurd cc
said_range (first ∷ second ∷ third ∷ words) v e = absurd cc

begun_range : (line : List ℕ) (v : ℕ) → version_begun line ≡ Some v → (1 ≤ v) × (v ≤ 2)
unfolding version_begun
begun_range line v e = said_range (words_of line) v e

-- a history text is of version 1 or 2
pub start_range : (lines : List (List ℕ)) (s : HistoryStart) → behind_start lines ≡ Some s → (1 ≤ s.version) × (s.version ≤ 2)
start_range [] s e = absurd cc
start_range (line ∷ lines) s e = go (version_begun line) refl e (start_range lines s)
  where
    go : (v : Option ℕ) → version_begun line ≡ v → started_by v lines (behind_start lines) ≡ Some s → (behind_start lines ≡ Some s → (1 ≤ s.version) × (s.version ≤ 2)) → (1 ≤ s.version) × (s.version ≤ 2)
    go (Some v) is e later = let same : v ≡ s.version = let whole : record { version = v; lines = lines } ≡ s = cc in ap (λ (t : HistoryStart). t.version) whole in rw (← same) (begun_range line v is)
    go None is e later = later e

pub told_is : (version : ℕ) (s : List ℕ) (at : ℕ) (h : Heading) (i : IsHeadingOf version s at h) (threads n : ℕ) (lines : List (List ℕ)) (scope : Naming)
    → scope ≡ record { slots = h.shape.slots; entries = h.shape.entries; threads = threads; classes = h.classes; globals = h.globals }
    → told_behind i.end.head threads n lines ≡ with_shape h.shape threads (events_from scope n false lines)
told_is version s at h i threads n lines scope e =
    let P : Heading → Type 0 = λ x. told_behind i.end.head threads n lines
    ≡ with_shape x.shape threads (events_from (record { slots = x.shape.slots; entries = x.shape.entries; threads = threads; classes = x.classes; globals = x.globals }) n false lines) in
    subst P (sym i.whole) refl ∙ ap (λ (names : Naming). with_shape h.shape threads (events_from names n false lines)) (sym e)

pub refuses_same : {X : Type 0} (e : CheckFault) (said all : Result X Refusal) → all ≡ said → Refuses e said → Refuses e all
refuses_same e said all same h = subst (Refuses e) (sym same) h

pub heading_room : (version : ℕ) (s : List ℕ) (at : ℕ) (h : Heading) → IsHeadingOf version s at h → h.line + length (lines_of (drop h.end s)) ≤ 2 + 2 * length s
heading_room version s at h i =
    let line = heading_line version s at h i in
    let few = length-lines_of (drop at s) in
    let short : length (drop at s) ≡ length s - at = length-drop at s in
    let few_more = length-lines_of (drop h.end s) in
    let short_too : length (drop h.end s) ≡ length s - h.end = length-drop h.end s in
    omega arith
