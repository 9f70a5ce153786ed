-- The line of a text that is refused.
use Rattle.std.proofs.Common.{◌≡◌, ◌≢◌, ℕ, ◌+◌, ◌≤◌, Bool, true, false, cond, eqb, List, [], ◌∷◌, ◌++◌, length, Result, Ok, Err, inl, inr, refl, sym, ap, subst, arith}
use Rattle.std.specs.Prelude.{slice_index}
use Rattle.std.specs.List.{list_all}
use Rattle.arc_text.specs.Words.{is_plain, words_of}
use Rattle.arc_text.specs.Lines.{lines_of}
use Rattle.arc_script.specs.declared.script.Script.{Script}
use Rattle.arc_script.specs.declared.reason.Reason.{Reason}
use Rattle.arc_script.specs.declared.reason.Reason.TheVariants as why
use Rattle.arc_script.specs.declared.keyword.Place.{Place}
use Rattle.arc_script.specs.declared.keyword.Place.TheVariants as behind
use Rattle.arc_script.specs.Reasons.{reason_number}
use Rattle.arc_script.specs.Grammar.{Front, Refusal, refused, nothing, settled, said_line, words_line, any_line, then_lines, is_ended, script_said, lines_from, script_of}
use Rattle.arc_script.specs.Accepted.{IsPassedOver, Says, Tells, nothing_left, passed, said}
use Rattle.arc_script_laws.specs.Faults.{LineHas}
use Rattle.arc_script_laws.specs.Refused.{Leads, no_line, over_line, told_line, IsRefused, without_done, at_line}
use Rattle.arc_script_laws.proofs.FormsRefused.{line_has}
use Rattle.arc_script.proofs.ReadValid.{AgreesAt, says_keeps, over_keeps, nothing_agrees, few_threads_at}
use Rattle.arc_script.proofs.Told.{line_tells}

-- ---- one line

record HasWords (reason : Reason) (front : Front) (line : List ℕ) (rest : List (List ℕ)) : Type 0 where
  first : List ℕ
  words : List (List ℕ)
  are : words_of line ≡ first ∷ words
  has : LineHas reason front line first words rest

comment_or : (front : Front) (line first : List ℕ) (words rest : List (List ℕ)) (r : Reason) (b : Bool) → words_of line ≡ first ∷ words → length (settled front).threads ≤ 64 → cond b (Ok front) (said_line front line first words rest) ≡ Err r → HasWords r front line rest
comment_or front line first words rest r true w few e = absurd cc
comment_or front line first words rest r false w few e = record { first = first; words = words; are = w; has = line_has front line first words rest r (omega arith) e }

words_refused : (front : Front) (line : List ℕ) (words rest : List (List ℕ)) (r : Reason) → words_of line ≡ words → length (settled front).threads ≤ 64 → words_line front line words rest ≡ Err r → HasWords r front line rest
words_refused front line [] rest r w few e = absurd cc
words_refused front line (first ∷ words) rest r w few e = comment_or front line first words rest r (eqb (slice_index first 0) 35) w few e

line_refused : (front : Front) (line : List ℕ) (rest : List (List ℕ)) (r : Reason) → length (settled front).threads ≤ 64 → any_line front line rest ≡ Err r → HasWords r front line rest
unfolding any_line
line_refused front line rest r few e = words_refused front line (words_of line) rest r refl few e

-- ---- the whole

data Found (n : ℕ) (from : Front) (lines : List (List ℕ)) (r : Refusal) : Type 0 where
  no_end : (last : Front) → Tells last from lines → last.place ≢ behind.Ended → r.line ≡ n + length lines → r.why ≡ reason_number why.FirstWord → Found n from lines r
  one_line : (before rest words : List (List ℕ)) (line first : List ℕ) (front : Front) (reason : Reason) → lines ≡ before ++ line ∷ rest → Leads front (line ∷ rest) from before
      → words_of line ≡ first ∷ words → LineHas reason front line first words rest → r.line ≡ n + length before → r.why ≡ reason_number reason → Found n from lines r

not_ended : (p : Place) → is_ended p ≡ false → p ≢ behind.Ended
not_ended p h same = let yes : is_ended p ≡ true = ap is_ended same in absurd cc

end_found : (n : ℕ) (front : Front) (r : Refusal) (b : Bool) → is_ended front.place ≡ b → cond b (Ok (script_said front)) (refused {X = Script} n why.FirstWord) ≡ Err r → Found n front [] r
end_found n front r true p e = absurd cc
end_found n front r false p e =
    let same : record { line = n; why = 2 } ≡ r = cc in
    let number : r.line ≡ n = ap (λ (q : Refusal). q.line) (sym same) in
    no_end front nothing_left (not_ended front.place p) (omega arith) (ap (λ (q : Refusal). q.why) (sym same))

over_found : (n : ℕ) (front : Front) (line : List ℕ) (rest : List (List ℕ)) (r : Refusal) → IsPassedOver line → Found (n + 1) front rest r → Found n front (line ∷ rest) r
over_found n front line rest r over (no_end last tells not number why_is) = no_end last (passed line rest over tells) not (omega arith) why_is
over_found n front line rest r over (one_line before more words at first from reason e leads w has number why_is) =
    one_line (line ∷ before) more words at first from reason (ap (λ (l : List (List ℕ)). line ∷ l) e) (over_line line before over leads) w has (omega arith) why_is

said_found : (n : ℕ) (front next : Front) (line : List ℕ) (rest : List (List ℕ)) (r : Refusal) → list_all is_plain line ≡ true → Says front (words_of line) rest next → Found (n + 1) next rest r → Found n front (line ∷ rest) r
said_found n front next line rest r plain says (no_end last tells not number why_is) = no_end last (said line rest next plain says tells) not (omega arith) why_is
said_found n front next line rest r plain says (one_line before more words at first from reason e leads w has number why_is) =
    one_line (line ∷ before) more words at first from reason (ap (λ (l : List (List ℕ)). line ∷ l) e)
    (told_line line before next plain (subst (λ (l : List (List ℕ)). Says front (words_of line) l next) e says) leads) w has (omega arith) why_is

here_found : (n : ℕ) (front : Front) (line : List ℕ) (rest : List (List ℕ)) (r : Refusal) (reason : Reason) → HasWords reason front line rest → (let x : Result Script Refusal = refused n reason in x) ≡ Err r → Found n front (line ∷ rest) r
here_found n front line rest r reason h e =
    let same : record { line = n; why = reason_number reason } ≡ r = cc in
    let number : r.line ≡ n = ap (λ (q : Refusal). q.line) (sym same) in
    one_line [] rest h.words line h.first front reason refl no_line h.are h.has (omega arith) (ap (λ (q : Refusal). q.why) (sym same))

line_found : (line : List ℕ) (rest : List (List ℕ)) (n : ℕ) (front : Front) (r : Refusal) (x : Result Front Reason) → any_line front line rest ≡ x → AgreesAt front (line ∷ rest)
    → ((next : Front) → AgreesAt next rest → lines_from (n + 1) next rest ≡ Err r → Found (n + 1) next rest r) → then_lines n x (λ next. lines_from (n + 1) next rest) ≡ Err r → Found n front (line ∷ rest) r
line_found line rest n front r (Ok next) at a later e = elim (line_tells front next line rest at) [
  | inl over ↦ over_found n front line rest r over.0 (subst (λ (f : Front). Found (n + 1) f rest r) over.1 (later next (subst (λ (f : Front). AgreesAt f rest) (sym over.1) (over_keeps front line rest over.0 a)) e))
  | inr says ↦ said_found n front next line rest r says.0 says.1 (later next (says_keeps front next line rest a says.1) e)
]
line_found line rest n front r (Err reason) at a later e = here_found n front line rest r reason (line_refused front line rest reason (few_threads_at front (line ∷ rest) a) at) e

found : (lines : List (List ℕ)) (n : ℕ) (front : Front) (r : Refusal) → AgreesAt front lines → lines_from n front lines ≡ Err r → Found n front lines r
found [] n front r a e = end_found n front r (is_ended front.place) refl e
found (line ∷ rest) n front r a e = line_found line rest n front r (any_line front line rest) refl a (λ next b f. found rest (n + 1) next r b f) e

as_refused : (text : List ℕ) (r : Refusal) → Found 1 (nothing 1 behind.Start) (lines_of text) r → IsRefused text r
as_refused text r (no_end last tells not number why_is) = without_done last tells not (omega arith) why_is
as_refused text r (one_line before rest words line first front reason e leads w has number why_is) = at_line before rest words line first front reason e leads w has (omega arith) why_is

pub text_refused : (text : List ℕ) (r : Refusal) → script_of text ≡ Err r → IsRefused text r
text_refused text r e = as_refused text r (found (lines_of text) 1 (nothing 1 behind.Start) r (nothing_agrees (lines_of text)) e)
