-- The search for a free slot or entry, where another took it in the meantime.
use Rattle.std.proofs.Common.{◌≡◌, ◌≢◌, ℕ, bit_and, Option, None, Some, refl, sym, ap, ◌∙◌, subst, subst₂}
use Rattle.std.specs.Option.{unwrap_or}
use Rattle.arc_rule.specs.declared.step.Changed.{Changed}
use Rattle.arc_rule.specs.declared.step.Step.{Step}
use Rattle.arc_rule.specs.declared.step.Step.TheVariants.{Or}
use Rattle.arc_rule.specs.Bits.{bit_of}
use Rattle.arc_rule.specs.Plans.{IsChange, Reading}

changed_is : (a b : Changed) → Path (Option Changed) (Some a) (Some b) → a ≡ b
changed_is a b e = cc

-- an Or that sets the bit of x, which was clear in the word seen, found it set
pub was_lost : (place x seen w : ℕ) (asked : Option Step) (rests : Option Reading) (last : Option ℕ) → asked ≡ Some (Or place (bit_of x)) → rests ≡ Some (record { place = place; word = seen })
    → bit_and seen (bit_of x) ≡ 0 → bit_and w (bit_of x) ≢ 0 → last ≡ Some w → (c : Changed) → Path (Option Changed) (Some (record { seen = seen; found = w })) (Some c) → IsChange asked last rests c
was_lost place x seen w asked rests last asks resting clear set given c e =
    subst (IsChange asked last rests) (changed_is (record { seen = seen; found = w }) c e)
    (subst₂ (λ (a : Option Step) (r : Option Reading). IsChange a last r (record { seen = seen; found = w })) (sym asks) (sym resting)
    (record {
      place = place;
      tries = refl;
      read = refl;
      found = given;
      differ = λ same. set (ap (λ v. bit_and v (bit_of x)) (sym same) ∙ clear);
    }))

-- a word that is given, where one is
pub given_is : (last : Option ℕ) (w : ℕ) → last ≢ None → unwrap_or last 0 ≡ w → last ≡ Some w
given_is None w some e = absurd (some refl)
given_is (Some x) w some e = ap Some e
