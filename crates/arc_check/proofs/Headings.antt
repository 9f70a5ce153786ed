-- What a heading that was read says.
use Rattle.std.proofs.Common.{◌≡◌, ℕ, suc, ◌+◌, ◌-◌, ◌≤◌, Bool, true, false, cond, List, [], ◌∷◌, length, drop, Result, Ok, Err, refl, sym, ap, ◌∙◌, arith}
use Rattle.std.proofs.lemmas.List.{length-map}
use Rattle.arc_text.specs.Lines.{lines_of}
use Rattle.arc_script.specs.declared.script.Heading.{Heading}
use Rattle.arc_script.specs.declared.reason.Reason.{Reason}
use Rattle.arc_script.specs.declared.reason.Reason.TheVariants as why
use Rattle.arc_script.specs.declared.keyword.Place.TheVariants as behind
use Rattle.arc_script.specs.Grammar.{Front, Refusal, refused, nothing}
use Rattle.arc_script.specs.HeadingText.{Headed, passed, entered, ends, HeadEnd, may_end, headed_line, then_headed, head_from, after_lines, then_heading, heading_at, heading_of}
use Rattle.arc_check.proofs.Tails.{lines_behind, behind_again}

-- ---- the number of the line behind it

end_at : (b : Bool) (n last : ℕ) (front : Front) (e : HeadEnd) → cond b (Ok (record { head = front.head; line = last })) (refused {X = HeadEnd} n why.FirstWord) ≡ Ok e → e.line ≡ last
end_at true n last front e h = let same : e ≡ record { head = front.head; line = last } = cc in ap (λ (x : HeadEnd). x.line) same
end_at false n last front e h = absurd cc

step_bound : (caps : Bool) (lines : List (List ℕ)) (n last : ℕ) (front : Front) (e : HeadEnd) (r : Result Headed Reason)
    → ((n last : ℕ) (front : Front) → last ≤ n → head_from caps n last front lines ≡ Ok e → e.line ≤ n + length lines) → last ≤ n
    → then_headed n last front r (λ l next. head_from caps (n + 1) l next lines) ≡ Ok e → e.line ≤ n + suc (length lines)
step_bound caps lines n last front e (Ok passed) again least h = let b = again (n + 1) last front (omega arith) h in omega arith
step_bound caps lines n last front e (Ok (entered next)) again least h = let b = again (n + 1) (n + 1) next (omega arith) h in omega arith
step_bound caps lines n last front e (Ok ends) again least h = let same : e ≡ record { head = front.head; line = last } = cc in let at : e.line ≡ last = ap (λ (x : HeadEnd). x.line) same in omega arith
step_bound caps lines n last front e (Err r) again least h = absurd cc

line_bound : (caps : Bool) (lines : List (List ℕ)) (n last : ℕ) (front : Front) (e : HeadEnd) → last ≤ n → head_from caps n last front lines ≡ Ok e → e.line ≤ n + length lines
line_bound caps [] n last front e least h = let at = end_at (may_end caps front.place) n last front e h in omega arith
line_bound caps (line ∷ lines) n last front e least h =
    step_bound caps lines n last front e (headed_line caps front line lines) (λ n last front least h. line_bound caps lines n last front e least h) least h

-- ---- the heading

pub record IsHeadingOf (version : ℕ) (text : List ℕ) (at : ℕ) (h : Heading) : Type 0 where
  pub end : HeadEnd
  pub said : head_from true 2 2 (nothing version behind.Version) (lines_of (drop at text)) ≡ Ok end
  pub whole : h ≡ heading_at (length text - length (after_lines (end.line - 2) (drop at text))) end

heading_then : (text : List ℕ) (at : ℕ) (r : Result HeadEnd Refusal) (h : Heading) → then_heading text at 2 r ≡ Ok h
    → (e : HeadEnd) × (r ≡ Ok e) × (h ≡ heading_at (length text - length (after_lines (e.line - 2) (drop at text))) e)
heading_then text at (Ok e) h q = (e, refl, cc)
heading_then text at (Err r) h q = absurd cc

pub heading_is : (version : ℕ) (text : List ℕ) (at : ℕ) (h : Heading) → heading_of text at 2 version true ≡ Ok h → IsHeadingOf version text at h
heading_is version text at h q =
    let t = heading_then text at (head_from true 2 2 (nothing version behind.Version) (lines_of (drop at text))) h q in
    record { end = t.0; said = t.1; whole = t.2 }

heading_refused : (text : List ℕ) (at : ℕ) (r : Result HeadEnd Refusal) (e : Refusal) → then_heading text at 2 r ≡ Err e → r ≡ Err e
heading_refused text at (Ok h) e q = absurd cc
heading_refused text at (Err r) e q = cc

pub heading_isnt : (version : ℕ) (text : List ℕ) (at : ℕ) (e : Refusal) → heading_of text at 2 version true ≡ Err e → head_from true 2 2 (nothing version behind.Version) (lines_of (drop at text)) ≡ Err e
heading_isnt version text at e q = heading_refused text at (head_from true 2 2 (nothing version behind.Version) (lines_of (drop at text))) e q

pub heading_rest : (version : ℕ) (text : List ℕ) (at : ℕ) (h : Heading) (i : IsHeadingOf version text at h) → lines_of (drop h.end text) ≡ drop (i.end.line - 2) (lines_of (drop at text))
heading_rest version text at h i =
    let n = i.end.line - 2 in
    ap (λ (k : ℕ). lines_of (drop k text)) (ap (λ (x : Heading). x.end) i.whole)
    ∙ (ap lines_of (behind_again n at text) ∙ lines_behind n (drop at text))

pub heading_within : (version : ℕ) (text : List ℕ) (at : ℕ) (h : Heading) → IsHeadingOf version text at h → h.end ≤ length text
heading_within version text at h i =
    let e : h.end ≡ length text - length (after_lines (i.end.line - 2) (drop at text)) = ap (λ (x : Heading). x.end) i.whole in
    omega arith

pub heading_line : (version : ℕ) (text : List ℕ) (at : ℕ) (h : Heading) → IsHeadingOf version text at h → h.line ≤ 2 + length (lines_of (drop at text))
heading_line version text at h i =
    let e : h.line ≡ i.end.line = ap (λ (x : Heading). x.line) i.whole in
    let b = line_bound true (lines_of (drop at text)) 2 2 (nothing version behind.Version) i.end (omega arith) i.said in
    omega arith

pub heading_few : (version : ℕ) (text : List ℕ) (at : ℕ) (h : Heading) → IsHeadingOf version text at h → (length h.classes ≡ length h.shape.classes) × (length h.globals ≡ length h.shape.globals)
heading_few version text at h i =
    let e : h ≡ heading_at (length text - length (after_lines (i.end.line - 2) (drop at text))) i.end = i.whole in
    let cs : length h.shape.classes ≡ length i.end.head.classes = ap (λ (x : Heading). length x.shape.classes) e ∙ length-map i.end.head.classes _ in
    let gs : length h.shape.globals ≡ length i.end.head.globals = ap (λ (x : Heading). length x.shape.globals) e ∙ length-map i.end.head.globals _ in
    let c : length h.classes ≡ length i.end.head.classes = ap (λ (x : Heading). length x.classes) e in
    let g : length h.globals ≡ length i.end.head.globals = ap (λ (x : Heading). length x.globals) e in
    (c ∙ sym cs, g ∙ sym gs)
