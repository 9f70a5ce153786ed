-- An accepted text, line by line.
use Rattle.std.proofs.Common.{◌≡◌, ℕ, ◌+◌, Bool, true, false, cond, eqb, List, [], ◌∷◌, Result, Ok, Err, ◌⊎◌, inl, inr, refl, sym, subst}
use Rattle.std.specs.Prelude.{not, slice_index}
use Rattle.std.specs.List.{list_all}
use Rattle.std.proofs.lemmas.Bool.{eqb-true}
use Rattle.arc_text.specs.Words.{is_plain, words_of}
use Rattle.arc_text.specs.Lines.{lines_of}
use Rattle.arc_script.specs.declared.script.Script.{Script}
use Rattle.arc_script.specs.declared.reason.Reason.{Reason}
use Rattle.arc_script.specs.declared.reason.Reason.TheVariants as why
use Rattle.arc_script.specs.declared.keyword.Place.{Place}
use Rattle.arc_script.specs.declared.keyword.Place.TheVariants as behind
use Rattle.arc_script.specs.Valid.{IsScript}
use Rattle.arc_script.specs.Grammar.{Front, Refusal, refused, nothing, said_line, words_line, any_line, then_lines, is_ended, script_said, lines_from, script_of}
use Rattle.arc_script.specs.Accepted.{Says, IsPassedOver, blank, comment, Tells, nothing_left, passed, said, StandsFor}
use Rattle.arc_script.proofs.Inverted.{ok_is, no_not}
use Rattle.arc_script.proofs.Inverted as test
use Rattle.arc_script.proofs.SaysLines.{line_says}
use Rattle.arc_script.proofs.ReadValid.{AgreesAt, says_keeps, over_keeps, nothing_agrees, ended_is_script}

-- ---- one line

abbrev pub Told : Front → Front → List ℕ → List (List ℕ) → Type 0
Told front next line rest = (IsPassedOver line × (next ≡ front)) ⊎ ((list_all is_plain line ≡ true) × Says front (words_of line) rest next)

comment_or : (front next : Front) (line first : List ℕ) (words rest : List (List ℕ)) (b : Bool) → words_of line ≡ first ∷ words → eqb (slice_index first 0) 35 ≡ b → cond b (Ok front) (said_line front line first words rest) ≡ Ok next
    → Told front next line rest
comment_or front next line first words rest true w mark e = inl (comment first words w (eqb-true _ _ mark), ok_is front next e)
comment_or front next line first words rest false w mark e =
    inr (no_not _ (test.passed (not (list_all is_plain line)) _ _ next e).0, subst (λ (ws : List (List ℕ)). Says front ws rest next) (sym w) (line_says front next line first words rest e))

words_tell : (front next : Front) (line : List ℕ) (words rest : List (List ℕ)) → words_of line ≡ words → words_line front line words rest ≡ Ok next → Told front next line rest
words_tell front next line [] rest w e = inl (blank w, ok_is front next e)
words_tell front next line (first ∷ words) rest w e = comment_or front next line first words rest (eqb (slice_index first 0) 35) w refl e

pub line_tells : (front next : Front) (line : List ℕ) (rest : List (List ℕ)) → any_line front line rest ≡ Ok next → Told front next line rest
unfolding any_line
line_tells front next line rest e = words_tell front next line (words_of line) rest refl e

-- ---- all of them

then_is : (n : ℕ) (r : Result Front Reason) (rest : Front → Result Script Refusal) (s : Script) → then_lines n r rest ≡ Ok s → (f : Front) × (r ≡ Ok f) × (rest f ≡ Ok s)
then_is n (Ok f) rest s e = (f, refl, e)
then_is n (Err why) rest s e = absurd cc

end_place : (p : Place) → is_ended p ≡ true → p ≡ behind.Ended
end_place behind.Ended h = refl
end_place p h = absurd cc

end_or : (n : ℕ) (front : Front) (s : Script) (b : Bool) → is_ended front.place ≡ b → cond b (Ok (script_said front)) (refused {X = Script} n why.FirstWord) ≡ Ok s → (front.place ≡ behind.Ended) × (s ≡ script_said front)
end_or n front s true p e = (end_place front.place p, ok_is _ s e)
end_or n front s false p e = absurd cc

record IsTold (front : Front) (lines : List (List ℕ)) (s : Script) : Type 0 where
  last : Front
  told : Tells last front lines
  finished : last.place ≡ behind.Ended
  said_it : s ≡ script_said last
  valid : AgreesAt front lines → IsScript s

lines_tell : (lines : List (List ℕ)) (n : ℕ) (front : Front) (s : Script) → lines_from n front lines ≡ Ok s → IsTold front lines s
lines_tell [] n front s e =
    let h = end_or n front s (is_ended front.place) refl e in
    record { last = front; told = nothing_left; finished = h.0; said_it = h.1; valid = λ a. subst IsScript (sym h.1) (ended_is_script front [] h.0 a) }
lines_tell (line ∷ rest) n front s e =
    let t = then_is n (any_line front line rest) (λ next. lines_from (n + 1) next rest) s e in
    let more = lines_tell rest (n + 1) t.0 s t.2 in
    elim (line_tells front t.0 line rest t.1) [
      | inl over ↦ record {
        last = more.last;
        told = passed line rest over.0 (subst (λ (f : Front). Tells more.last f rest) over.1 more.told);
        finished = more.finished;
        said_it = more.said_it;
        valid = λ a. more.valid (subst (λ (f : Front). AgreesAt f rest) (sym over.1) (over_keeps front line rest over.0 a));
      }
      | inr says ↦ record {
        last = more.last;
        told = said line rest t.0 says.0 says.1 more.told;
        finished = more.finished;
        said_it = more.said_it;
        valid = λ a. more.valid (says_keeps front t.0 line rest a says.1);
      }
    ]

pub text_stands : (text : List ℕ) (s : Script) → script_of text ≡ Ok s → StandsFor text s
text_stands text s e =
    let t = lines_tell (lines_of text) 1 (nothing 1 behind.Start) s e in
    record { last = t.last; told = t.told; finished = t.finished; said_it = t.said_it }

pub read_is_script : (text : List ℕ) (s : Script) → script_of text ≡ Ok s → IsScript s
read_is_script text s e = (lines_tell (lines_of text) 1 (nothing 1 behind.Start) s e).valid (nothing_agrees (lines_of text))
