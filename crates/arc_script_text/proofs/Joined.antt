-- Lines that were written one group after another.
use Rattle.std.proofs.Common.{◌≡◌, ℕ, zero, suc, ◌-◌, ◌<◌, ◌≤◌, List, [], ◌∷◌, ◌++◌, length, take, drop, refl, sym, ap, ◌∙◌, append_assoc, arith}
use Rattle.std.specs.Prelude.{codes}
use Rattle.std.proofs.lemmas.List.{length-drop, append-nil}
use Rattle.std.proofs.lemmas.Grind.{flat_map-append}
use Rattle.arc_script.specs.Canonical.{line_text, text_of, numbers_line, schedule_upto, schedule_lines}

pub joined : (arc : List (List ℕ)) (gs hs is : List (List (List ℕ))) (done : List (List ℕ)) (w x y z v : List ℕ)
    → w ≡ [] ++ line_text arc → x ≡ w ++ text_of gs → y ≡ x ++ text_of hs → z ≡ y ++ text_of is → v ≡ z ++ line_text done
    → v ≡ text_of (arc ∷ (gs ++ (hs ++ (is ++ done ∷ []))))
joined arc gs hs is done w x y z v p q r s t =
    rw (flat_map-append line_text gs (hs ++ (is ++ done ∷ [])), flat_map-append line_text hs (is ++ done ∷ []), flat_map-append line_text is (done ∷ []), t, s, r, q, p) (simp (append_assoc, append-nil))

-- more lines than there are places are not needed
upto_more : (n m : ℕ) (places : List ℕ) → length places ≤ n → length places ≤ m → schedule_upto n places ≡ schedule_upto m places
upto_more zero zero places h k = refl
upto_more zero (suc m) [] h k = refl
upto_more zero (suc m) (p ∷ ps) h k = absurd (omega arith)
upto_more (suc n) zero [] h k = refl
upto_more (suc n) zero (p ∷ ps) h k = absurd (omega arith)
upto_more (suc n) (suc m) [] h k = refl
upto_more (suc n) (suc m) (p ∷ ps) h k =
    let l : length (drop 32 (p ∷ ps)) ≡ length (p ∷ ps) - 32 = length-drop 32 (p ∷ ps) in
    ap (λ (ls : List (List (List ℕ))). numbers_line (codes "schedule") (take 32 (p ∷ ps)) ∷ ls) (upto_more n m (drop 32 (p ∷ ps)) (omega arith) (omega arith))

pub schedule_step : (places : List ℕ) → 0 < length places → schedule_lines places ≡ numbers_line (codes "schedule") (take 32 places) ∷ schedule_lines (drop 32 places)
schedule_step [] h = absurd (omega arith)
schedule_step (p ∷ ps) h =
    let l : length (drop 32 (p ∷ ps)) ≡ length (p ∷ ps) - 32 = length-drop 32 (p ∷ ps) in
    ap (λ (ls : List (List (List ℕ))). numbers_line (codes "schedule") (take 32 (p ∷ ps)) ∷ ls) (upto_more (length ps) (length (drop 32 (p ∷ ps))) (drop 32 (p ∷ ps)) (omega arith) (omega arith))

-- one line more of the schedule
pub line_more : (out next places first later all : List ℕ) → first ≡ take 32 places → later ≡ drop 32 places → 0 < length places
    → next ≡ out ++ line_text (numbers_line (codes "schedule") first) → out ++ text_of (schedule_lines places) ≡ all → next ++ text_of (schedule_lines later) ≡ all
line_more out next places first later all f l some e h =
    let step : schedule_lines places ≡ numbers_line (codes "schedule") first ∷ schedule_lines later =
    schedule_step places some ∙ (ap (λ (ns : List ℕ). numbers_line (codes "schedule") ns ∷ schedule_lines (drop 32 places)) (sym f) ∙ ap (λ (ns : List ℕ). numbers_line (codes "schedule") first ∷ schedule_lines ns) (sym l)) in
    ap (λ (o : List ℕ). o ++ text_of (schedule_lines later)) e
    ∙ (append_assoc out (line_text (numbers_line (codes "schedule") first)) (text_of (schedule_lines later))
    ∙ (ap (λ (ls : List (List (List ℕ))). out ++ text_of ls) (sym step) ∙ h))

pub fewer_later : (places later : List ℕ) → later ≡ drop 32 places → 0 < length places → length later < length places
fewer_later places later l some =
    let cut : length (drop 32 places) ≡ length places - 32 = length-drop 32 places in
    let same : length later ≡ length (drop 32 places) = ap length l in
    omega arith
