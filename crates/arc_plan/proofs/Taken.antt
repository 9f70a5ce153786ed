-- A word that an attempt may be given is no free slot's.
use Rattle.std.proofs.Common.{ℕ, ◌≡◌, ◌≢◌, subst}
use Rattle.arc_bits.specs.declared.packing.Inline.{Inline}
use Rattle.arc_bits.specs.Words.{unpacked}
use Rattle.arc_plan.specs.Attempts.{IsCountWord}

pub is_taken : (entries : ℕ) (Fact : Inline → Type 0) (w : ℕ) → IsCountWord entries Fact (unpacked w) → w ≢ 0
unfolding unpacked
is_taken entries Fact w fits zero = subst (λ (n : ℕ). IsCountWord entries Fact (unpacked n)) zero fits
