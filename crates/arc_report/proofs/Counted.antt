-- Each line that counts has a byte at least.
use Rattle.std.proofs.Common.{◌≡◌, ℕ, ◌+◌, ◌≤◌, ◌<◌, Bool, true, false, List, [], ◌∷◌, ◌++◌, length, codes, arith, ap, ◌^◌, length-append, if◌then◌else◌}
use Rattle.std.specs.List.{flat_map, sum_by, count_by}
use Rattle.std.specs.Fmt.{decimal}
use Rattle.std.specs.String.{string_bytes}
use Rattle.std.specs.declared.string.String.{String}
use Rattle.std.proofs.lemmas.List.Sums.{sum_by-cons}
use Rattle.arc_script.specs.declared.answer.Line.{Line}
use Rattle.arc_ops.specs.declared.told.ThreadLines.{ThreadLines}
use Rattle.arc_report.specs.Lines.{is_new, is_deinit, line_text, thread_text, end_line_text, end_text, new_count, deinit_count, object_total, deinit_total, operation_text, answer_text}

has_byte : (xs : List ℕ) → 1 ≤ length (xs ++ codes "\n")
has_byte xs = omega (arith, length-append xs (codes "\n"))

-- behind more text, too
more_bytes : (xs ys : List ℕ) → 1 ≤ length ys → 1 ≤ length (xs ++ ys)
more_bytes xs ys h = omega (arith, length-append xs ys)

line_has_byte : (classes : List (List ℕ)) (line : Line) → 1 ≤ length (line_text classes line)
line_has_byte classes line =
    more_bytes (operation_text line.operation) _ (more_bytes (codes " ") _ (has_byte (answer_text classes line.answer)))

end_line_has_byte : (classes : List (List ℕ)) (line : Line) → 1 ≤ length (end_line_text classes line)
end_line_has_byte classes line = has_byte (answer_text classes line.answer)

abbrev flag : Bool → ℕ
flag b = if b then 1 else 0

flag_le : (b : Bool) → flag b ≤ 1
flag_le true = omega arith
flag_le false = omega arith

-- as many pass as there are bytes, at most
count_within : {X : Type 0} (p : X → Bool) (f : X → List ℕ) → ((x : X) → 1 ≤ length (f x)) → (xs : List X) →
    count_by p xs ≤ length (flat_map f xs)
count_within p f some [] = omega arith
count_within p f some (x ∷ xs) =
    let more : count_by p (x ∷ xs) ≡ flag (p x) + count_by p xs = sum_by-cons (λ y. flag (p y)) x xs in
    let one : flag (p x) ≤ 1 = flag_le (p x) in
    omega (arith, some x, count_within p f some xs, length-append (f x) (flat_map f xs))

-- so do threads
sum_within : {X : Type 0} (n : X → ℕ) (f : X → List ℕ) → ((x : X) → n x ≤ length (f x)) → (xs : List X) →
    sum_by n xs ≤ length (flat_map f xs)
sum_within n f fits [] = omega arith
sum_within n f fits (x ∷ xs) =
    omega (arith, sum_by-cons n x xs, fits x, sum_within n f fits xs, length-append (f x) (flat_map f xs))

thread_holds : (classes : List (List ℕ)) (t : ThreadLines) → length (flat_map (line_text classes) t.lines) ≤ length (thread_text classes t)
thread_holds classes t =
    omega (
      arith,
      length-append (codes "thread ") (decimal t.thread ++ (codes "\n" ++ flat_map (line_text classes) t.lines)),
      length-append (decimal t.thread) (codes "\n" ++ flat_map (line_text classes) t.lines),
      length-append (codes "\n") (flat_map (line_text classes) t.lines),
    )

pub objects_within : (classes : List (List ℕ)) (threads : List ThreadLines) →
    object_total threads ≤ length (flat_map (thread_text classes) threads)
objects_within classes threads =
    sum_within (λ (t : ThreadLines). new_count t.lines) (thread_text classes)
    (λ t. omega (arith, thread_holds classes t, count_within (λ (l : Line). is_new l.answer) (line_text classes) (line_has_byte classes) t.lines)) threads

pub deinits_within : (classes : List (List ℕ)) (threads : List ThreadLines) (end : List Line) →
    deinit_total threads end ≤ length (flat_map (thread_text classes) threads) + length (end_text classes end)
deinits_within classes threads end =
    omega (
      arith,
      sum_within (λ (t : ThreadLines). deinit_count t.lines) (thread_text classes)
          (λ t. omega (arith, thread_holds classes t, count_within (λ (l : Line). is_deinit l.answer) (line_text classes) (line_has_byte classes) t.lines)) threads,
      count_within (λ (l : Line). is_deinit l.answer) (end_line_text classes) (end_line_has_byte classes) end,
      length-append (codes "end\n") (flat_map (end_line_text classes) end),
    )

-- the whole text is in memory, so it has fewer than 2 ^ 64 bytes
pub objects_fit : {Z : Type 0} (before : List ℕ) (after : String Z) (classes : List (List ℕ)) (threads : List ThreadLines) →
    string_bytes after ≡ before ++ flat_map (thread_text classes) threads → object_total threads < 2 ^ 64
objects_fit before after classes threads e =
    omega (arith, ap length e, length-append before (flat_map (thread_text classes) threads), objects_within classes threads)

pub deinits_fit : {Z : Type 0} (before between : List ℕ) (after : String Z) (classes : List (List ℕ)) (threads : List ThreadLines) (end : List Line) →
    between ≡ before ++ flat_map (thread_text classes) threads →
    string_bytes after ≡ between ++ end_text classes end → deinit_total threads end < 2 ^ 64
deinits_fit before between after classes threads end e k =
    omega (
      arith,
      ap length e,
      length-append before (flat_map (thread_text classes) threads),
      ap length k,
      length-append between (end_text classes end),
      deinits_within classes threads end,
    )
