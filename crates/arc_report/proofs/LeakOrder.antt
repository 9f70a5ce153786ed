-- Leaks are in a total order, in which no two are alike.
use Rattle.std.proofs.Common.{◌≡◌, ◌<◌, ℕ, List, refl, sym}
use Rattle.std.specs.Ordering.{nat_cmp, ordering_then, MatchOrdering}
use Rattle.std.specs.Cmp.{IsTotalOrder}
use Rattle.std.specs.List.Sorted.{IsSorted, IsPermutation}
use Rattle.std.specs.declared.cmp.Ordering.{Ordering}
use Rattle.std.specs.declared.cmp.Ordering.TheVariants.{Less, Equal, Greater}
use Rattle.std.proofs.lemmas.Cmp.{ranked, then_total, on_total, nat_cmp_total}
use Rattle.arc_report.specs.declared.leaks.Leak.{Leak}
use Rattle.arc_report.specs.Leaks.{leak_cmp}
use Rattle.arc_report.specs.Order.{in_order}
use Rattle.arc_report.proofs.Sorting.{sorted_is}

both_equal : (p q : Ordering) → ordering_then p q ≡ Equal → (p ≡ Equal) × (q ≡ Equal)
both_equal Less q e = absurd cc
both_equal Equal q e = (refl, e)
both_equal Greater q e = absurd cc

same_number : (a b : ℕ) → nat_cmp a b ≡ Equal → a ≡ b
same_number a b e = let r : MatchOrdering Equal (a < b) (a ≡ b) (b < a) = ranked a b Equal (sym e) in r

leak : ℕ → ℕ → ℕ → ℕ → Leak
leak thread number class slot = record { thread = thread; number = number; class = class; slot = slot }

leak_of_parts : (x : Leak) → x ≡ leak x.thread x.number x.class x.slot
unfolding leak
leak_of_parts x = refl

same_leak : (x y : Leak) → leak_cmp x y ≡ Equal → x ≡ y
same_leak x y e =
    let one = both_equal _ _ e in
    let two = both_equal _ _ one.1 in
    let three = both_equal _ _ two.1 in
    let a : x.thread ≡ y.thread = same_number _ _ one.0 in
    let b : x.number ≡ y.number = same_number _ _ two.0 in
    let c : x.class ≡ y.class = same_number _ _ three.0 in
    let d : x.slot ≡ y.slot = same_number _ _ three.1 in
    cc (leak_of_parts x, leak_of_parts y)

leak_cmp_total : IsTotalOrder leak_cmp
leak_cmp_total =
    then_total (on_total (λ (l : Leak). l.thread) nat_cmp_total)
    (then_total (on_total (λ (l : Leak). l.number) nat_cmp_total)
    (then_total (on_total (λ (l : Leak). l.class) nat_cmp_total) (on_total (λ (l : Leak). l.slot) nat_cmp_total)))

pub leaks_in_order : (xs ys : List Leak) → IsPermutation xs ys → IsSorted leak_cmp ys → ys ≡ in_order leak_cmp xs
leaks_in_order = sorted_is leak_cmp leak_cmp_total same_leak
