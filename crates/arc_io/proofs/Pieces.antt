-- A piece taken from the front of what is left, and one more piece of what is written.
use Rattle.std.proofs.Common.{◌≡◌, ℕ, ◌+◌, ◌-◌, List, ◌++◌, length, take, drop, Option, None, Some, sym, ap, subst, ◌∙◌, length-append, arith}
use Rattle.std.proofs.lemmas.List.{take_at, drop-drop, take-append-drop, take_rest}
use Rattle.std.proofs.Math.Seq.{take-add, drop-append_seam}
use Rattle.std.proofs.KnownBytes.{Appends-trans}
use Rattle.std.specs.Io.KnownBytes.{Appends, Consumes}
use Rattle.arc_io.specs.Moved.{Took}

pub gives_next : (bytes piece rest : List ℕ) (at n : ℕ) → piece ≡ take (at + n - at) (drop at bytes) → length piece ≡ n → drop at bytes ≡ take n (piece ++ rest) ++ drop (at + n) bytes
gives_next bytes piece rest at n e len =
    let k : at + n - at ≡ n = omega arith in
    let e2 : piece ≡ take n (drop at bytes) = e ∙ ap (λ (m : ℕ). take m (drop at bytes)) k in
    rw (take_at piece rest n len, ← drop-drop n at bytes, e2) (sym (take-append-drop n (drop at bytes)))

pub appends_next : (a b c : Option (List ℕ)) (bytes : List ℕ) (at n : ℕ) → Appends a b (take at bytes) → Appends b c (take n (take (length bytes - at) (drop at bytes))) → Appends a c (take (at + n) bytes)
appends_next a b c bytes at n p q =
    let q2 : Appends b c (take n (drop at bytes)) = subst (λ (x : List ℕ). Appends b c (take n x)) (take_rest bytes at) q in
    subst (λ (x : List ℕ). Appends a c x) (sym (take-add at n bytes)) (Appends-trans a b c (take at bytes) (take n (drop at bytes)) p q2)

-- the bytes that were consumed are the first ones, and no other is gone
pub took-consumed : (old new : Option (List ℕ)) (bytes : List ℕ) (n : ℕ) → n ≡ length bytes → Consumes old new bytes → Took old new n
took-consumed None new bytes n e p = tt
took-consumed (Some old) None bytes n e p = p
took-consumed (Some old) (Some new) bytes n e p =
    rw (p, e) (grind (arith, length-append bytes new), sym (drop-append_seam bytes new))
