-- Leaks and freed entries are of the heap's slots, classes and entries.
use Rattle.std.proofs.Common.{◌≡◌, ℕ, ◌<◌, true, List, [], ◌∷◌, map, if◌then◌else◌, false, refl, sym, subst}
use Rattle.std.specs.List.{AllByRecursion}
use Rattle.std.specs.Ordering.{is_gt}
use Rattle.std.specs.declared.cmp.Ordering.{Ordering}
use Rattle.arc_rule.specs.Extents.{Extent}
use Rattle.arc_script.specs.declared.script.ClassDecl.{ClassDecl}
use Rattle.arc_report.specs.declared.leaks.Leak.{Leak}
use Rattle.arc_report.specs.Order.{put_in, in_order}
use Rattle.arc_report.specs.Words.{is_taken, is_freed, numbers_where}
use Rattle.arc_report.specs.Leaks.{leak_at, leak_cmp, leaks_of, leak_text, IsLeak}
use Rattle.arc_report.proofs.Numbers.{numbers_all, mapped_all}

all_put_in : {X : Type 0} (cmp : X → X → Ordering) (P : X → Type 0) (x : X) (ys : List X) → P x → AllByRecursion P ys → AllByRecursion P (put_in cmp x ys)
all_put_in cmp P x [] h k = (h, tt)
all_put_in cmp P x (y ∷ ys) h k =
    elim (is_gt (cmp x y)) as (λ b. AllByRecursion P (if b then y ∷ put_in cmp x ys else x ∷ (y ∷ ys)))
    [ true ↦ (k.0, all_put_in cmp P x ys h k.1) | false ↦ (h, k) ]

all_in_order : {X : Type 0} (cmp : X → X → Ordering) (P : X → Type 0) (xs : List X) → AllByRecursion P xs → AllByRecursion P (in_order cmp xs)
all_in_order cmp P [] h = tt
all_in_order cmp P (x ∷ xs) h = all_put_in cmp P x (in_order cmp xs) h.0 (all_in_order cmp P xs h.1)

pub leaks_there : (l : Extent) (words : List ℕ) → AllByRecursion (IsLeak l words) (leaks_of l words)
leaks_there l words =
    all_in_order leak_cmp (IsLeak l words) _
    (mapped_all (IsLeak l words) (leak_at l words) _
    (numbers_all (λ slot. IsLeak l words (leak_at l words slot)) (is_taken l words) l.slots
    (λ slot below taken. record { there = below; taken = taken; of_slot = refl })))

-- what holds of the line of each slot that is taken holds of each line of what is left
pub each_leak : (P : List ℕ → Type 0) (classes : List ClassDecl) (l : Extent) (words : List ℕ) → ((slot : ℕ) → slot < l.slots → is_taken l words slot ≡ true → P (leak_text classes l words (leak_at l words slot))) →
    AllByRecursion (λ (leak : Leak). P (leak_text classes l words leak)) (leaks_of l words)
each_leak P classes l words h = go (leaks_of l words) (leaks_there l words)
  where
    go : (leaks : List Leak) → AllByRecursion (IsLeak l words) leaks → AllByRecursion (λ (leak : Leak). P (leak_text classes l words leak)) leaks
    go [] there = tt
    go (leak ∷ leaks) there = (subst (λ (k : Leak). P (leak_text classes l words k)) (sym there.0.of_slot) (h leak.slot there.0.there there.0.taken), go leaks there.1)

pub found_leaks_there : (l : Extent) (words : List ℕ) (xs ys : List Leak) →
    ys ≡ map (leak_at l words) (numbers_where (is_taken l words) l.slots) → xs ≡ in_order leak_cmp ys → AllByRecursion (IsLeak l words) xs
found_leaks_there l words xs ys e o = rw (o, e) (leaks_there l words)

pub freed_there : (l : Extent) (words : List ℕ) (n : ℕ) → n ≡ l.entries → (xs : List ℕ) → xs ≡ numbers_where (is_freed l words) n →
    AllByRecursion (λ entry. entry < l.entries) xs
freed_there l words n en xs e = rw (e, en) (numbers_all (λ entry. entry < l.entries) (is_freed l words) l.entries (λ entry below freed. below))
