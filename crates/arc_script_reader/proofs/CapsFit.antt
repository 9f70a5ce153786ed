-- Caps in their ranges are caps.
use Rattle.std.proofs.Common.{◌≡◌, Result, Ok, Err, refl}
use Rattle.std.specs.Prelude.{IsOk}
use Rattle.arc_model.specs.Shapes.{CapNumbers}
use Rattle.arc_model.specs.declared.caps.CapsRefused.{CapsRefused}
use Rattle.arc_model.specs.declared.caps.CapsRefused.TheVariants as caps

pub unless_refused : (r : Result CapNumbers CapsRefused) → (r ≡ Err caps.Strong → ⊥) → (r ≡ Err caps.Unowned → ⊥) → (r ≡ Err caps.Wide → ⊥) → IsOk r
unless_refused (Ok c) s u w = refl
unless_refused (Err caps.Strong) s u w = absurd (s refl)
unless_refused (Err caps.Unowned) s u w = absurd (u refl)
unless_refused (Err caps.Wide) s u w = absurd (w refl)
