-- The script that the generator gives is a valid one.
use Rattle.std.proofs.Common.{◌≡◌, ℕ, zero, suc, ◌+◌, ◌*◌, ◌<◌, ◌≤◌, true, false, List, [], ◌∷◌, length, map, Some, refl, arith, lit<, lit≤}
use Rattle.std.specs.Prelude.{codes}
use Rattle.std.specs.List.{AllByRecursion, range_with_len}
use Rattle.std.proofs.lemmas.List.FromFn.{length-map-range_with_len}
use Rattle.rand_pcg.specs.Lcg.{Lcg}
use Rattle.arc_text.specs.Words.{is_name}
use Rattle.arc_script.specs.declared.script.Op.{Op}
use Rattle.arc_script.specs.Valid.{name_at, place_of, AreNames, class_names, var_names, IsOp, begins_block, Nested, none, OpOfVersion, ThreadOfVersion, AreClasses, AreVars, IsHeading, IsThread, IsScript}
use Rattle.arc_script.specs.Valid as Valid
use Rattle.arc_storm.specs.Storm.{seeded, after, draw, storm_classes, storm_globals, storm_vars, storm_shape, operation, operation_at, operations, place_at, places, storm_thread, storm_script}
use Rattle.arc_storm.proofs.Dealt.{all_dealt, op_count-threads}

-- ---- each number below a numeral

abbrev Upto : ℕ → (ℕ → Type 0) → Type 0
Upto zero P = Unit {0}
Upto (suc n) P = P 0 × Upto n (λ i. P (suc i))

below : (n : ℕ) (P : ℕ → Type 0) → Upto n P → (i : ℕ) → i < n → P i
below zero P h i lt = absurd (omega arith)
below (suc n) P h zero lt = h.0
below (suc n) P h (suc i) lt = below n (λ k. P (suc k)) h.1 i (omega arith)

-- ---- what is declared

top_fields : AreNames 8 (codes "kid" ∷ codes "peer" ∷ codes "seen" ∷ [])
top_fields = record {
  few = lit≤ tt;
  spelled = below 3 (λ i. is_name (name_at (codes "kid" ∷ codes "peer" ∷ codes "seen" ∷ []) i) ≡ true) (refl, (refl, (refl, tt)));
  apart = below 3 (λ i. place_of (codes "kid" ∷ codes "peer" ∷ codes "seen" ∷ []) (name_at (codes "kid" ∷ codes "peer" ∷ codes "seen" ∷ []) i) ≡ Some i) (refl, (refl, (refl, tt)));
}

low_fields : AreNames 8 (codes "peer" ∷ codes "seen" ∷ [])
low_fields = record {
  few = lit≤ tt;
  spelled = below 2 (λ i. is_name (name_at (codes "peer" ∷ codes "seen" ∷ []) i) ≡ true) (refl, (refl, tt));
  apart = below 2 (λ i. place_of (codes "peer" ∷ codes "seen" ∷ []) (name_at (codes "peer" ∷ codes "seen" ∷ []) i) ≡ Some i) (refl, (refl, tt));
}

class_named : AreNames 64 (class_names storm_classes)
class_named = record {
  few = lit≤ tt;
  spelled = below 3 (λ i. is_name (name_at (class_names storm_classes) i) ≡ true) (refl, (refl, (refl, tt)));
  apart = below 3 (λ i. place_of (class_names storm_classes) (name_at (class_names storm_classes) i) ≡ Some i) (refl, (refl, (refl, tt)));
}

classes_are : AreClasses storm_classes
classes_are = record {
  names = class_named;
  fields = (
    record { names = top_fields; of_classes = (lit< tt, (lit< tt, (lit< tt, tt))) },
    (
      record { names = top_fields; of_classes = (lit< tt, (lit< tt, (lit< tt, tt))) },
      (record { names = low_fields; of_classes = (lit< tt, (lit< tt, tt)) }, tt),
    ),
  );
}

global_named : AreNames 64 (var_names storm_globals)
global_named = record {
  few = lit≤ tt;
  spelled = below 3 (λ i. is_name (name_at (var_names storm_globals) i) ≡ true) (refl, (refl, (refl, tt)));
  apart = below 3 (λ i. place_of (var_names storm_globals) (name_at (var_names storm_globals) i) ≡ Some i) (refl, (refl, (refl, tt)));
}

var_named : AreNames 256 (var_names storm_vars)
var_named = record {
  few = lit≤ tt;
  spelled = below 12 (λ i. is_name (name_at (var_names storm_vars) i) ≡ true) (refl, (refl, (refl, (refl, (refl, (refl, (refl, (refl, (refl, (refl, (refl, (refl, tt))))))))))));
  apart = below 12 (λ i. place_of (var_names storm_vars) (name_at (var_names storm_vars) i) ≡ Some i) (refl, (refl, (refl, (refl, (refl, (refl, (refl, (refl, (refl, (refl, (refl, (refl, tt))))))))))));
}

vars_are : AreVars 256 3 storm_vars
vars_are = record { names = var_named; of_classes = (lit< tt, (lit< tt, (lit< tt, (lit< tt, (lit< tt, (lit< tt, (lit< tt, (lit< tt, (lit< tt, (lit< tt, (lit< tt, (lit< tt, tt)))))))))))) }

heading_is : IsHeading storm_shape storm_classes storm_globals
heading_is = record {
  slots = (lit≤ tt, lit≤ tt);
  entries = (lit≤ tt, lit≤ tt);
  caps = record { strong_fits = lit≤ tt; unowned_fits = (lit≤ tt, lit≤ tt); wide_fits = (lit< tt, lit≤ tt) };
  classes_named = classes_are;
  globals_named = record { names = global_named; of_classes = (lit< tt, (lit< tt, (lit< tt, tt))) };
  fields_allowed = ((refl, (refl, (refl, tt))), ((refl, (refl, (refl, tt))), ((refl, (refl, tt)), tt)));
  globals_allowed = (refl, (refl, (refl, tt)));
  of_classes = refl;
  of_globals = refl;
}

-- ---- operations

abbrev IsStormOp : Op → Type 0
IsStormOp o = IsOp storm_classes storm_globals storm_vars o

-- each row of the table, at the three classes
row_0 : Upto 3 (λ c. IsStormOp (operation 0 c))
row_0 = ((lit< tt, lit< tt, refl), ((lit< tt, lit< tt, refl), ((lit< tt, lit< tt, refl), tt)))

row_1 : Upto 3 (λ c. IsStormOp (operation 1 c))
row_1 = ((lit< tt, lit< tt, refl), ((lit< tt, lit< tt, refl), ((lit< tt, lit< tt, refl), tt)))

row_2 : Upto 3 (λ c. IsStormOp (operation 2 c))
row_2 = ((record { to_there = lit< tt; of_there = lit< tt; kind_of_to = refl; kind_of_of = refl; one_class = refl }, omega arith), ((record { to_there = lit< tt; of_there = lit< tt; kind_of_to = refl; kind_of_of = refl; one_class = refl }, omega arith), ((record { to_there = lit< tt; of_there = lit< tt; kind_of_to = refl; kind_of_of = refl; one_class = refl }, omega arith), tt)))

row_3 : Upto 3 (λ c. IsStormOp (operation 3 c))
row_3 = (lit< tt, (lit< tt, (lit< tt, tt)))

row_4 : Upto 3 (λ c. IsStormOp (operation 4 c))
row_4 = (record { to_there = lit< tt; of_there = lit< tt; kind_of_to = refl; kind_of_of = refl; one_class = refl }, (record { to_there = lit< tt; of_there = lit< tt; kind_of_to = refl; kind_of_of = refl; one_class = refl }, (record { to_there = lit< tt; of_there = lit< tt; kind_of_to = refl; kind_of_of = refl; one_class = refl }, tt)))

row_5 : Upto 3 (λ c. IsStormOp (operation 5 c))
row_5 = (record { to_there = lit< tt; of_there = lit< tt; kind_of_to = refl; kind_of_of = refl; one_class = refl }, (record { to_there = lit< tt; of_there = lit< tt; kind_of_to = refl; kind_of_of = refl; one_class = refl }, (record { to_there = lit< tt; of_there = lit< tt; kind_of_to = refl; kind_of_of = refl; one_class = refl }, tt)))

row_6 : Upto 3 (λ c. IsStormOp (operation 6 c))
row_6 = ((record { to_there = lit< tt; of_there = lit< tt; kind_of_to = refl; kind_of_of = refl; one_class = refl }, λ same. cc), ((record { to_there = lit< tt; of_there = lit< tt; kind_of_to = refl; kind_of_of = refl; one_class = refl }, λ same. cc), ((record { to_there = lit< tt; of_there = lit< tt; kind_of_to = refl; kind_of_of = refl; one_class = refl }, λ same. cc), tt)))

row_7 : Upto 3 (λ c. IsStormOp (operation 7 c))
row_7 = ((record { to_there = lit< tt; of_there = lit< tt; kind_of_to = refl; kind_of_of = refl; one_class = refl }, λ same. cc), ((record { to_there = lit< tt; of_there = lit< tt; kind_of_to = refl; kind_of_of = refl; one_class = refl }, λ same. cc), ((record { to_there = lit< tt; of_there = lit< tt; kind_of_to = refl; kind_of_of = refl; one_class = refl }, λ same. cc), tt)))

row_8 : Upto 3 (λ c. IsStormOp (operation 8 c))
row_8 = ((lit< tt, lit< tt, refl), ((lit< tt, lit< tt, refl), ((lit< tt, lit< tt, refl), tt)))

row_9 : Upto 3 (λ c. IsStormOp (operation 9 c))
row_9 = ((lit< tt, lit< tt, refl, tt), ((lit< tt, lit< tt, refl, tt), ((lit< tt, lit< tt, refl, tt), tt)))

row_10 : Upto 3 (λ c. IsStormOp (operation 10 c))
row_10 = ((lit< tt, (lit< tt, refl, lit< tt), refl, omega arith), ((lit< tt, (lit< tt, refl, lit< tt), refl, omega arith), ((lit< tt, (lit< tt, refl, lit< tt), refl, omega arith), tt)))

row_11 : Upto 3 (λ c. IsStormOp (operation 11 c))
row_11 = ((lit< tt, (lit< tt, refl, lit< tt), refl, omega arith), ((lit< tt, (lit< tt, refl, lit< tt), refl, omega arith), ((lit< tt, (lit< tt, refl, lit< tt), refl, omega arith), tt)))

row_12 : Upto 3 (λ c. IsStormOp (operation 12 c))
row_12 = ((lit< tt, (lit< tt, refl, lit< tt), refl), ((lit< tt, (lit< tt, refl, lit< tt), refl), ((lit< tt, (lit< tt, refl, lit< tt), refl), tt)))

row_13 : Upto 3 (λ c. IsStormOp (operation 13 c))
row_13 = (lit< tt, (lit< tt, (lit< tt, tt)))

row_is : (row c : ℕ) → row < 14 → c < 3 → IsStormOp (operation row c)
row_is row c r k = below 3 (λ c. IsStormOp (operation row c)) (below 14 (λ row. Upto 3 (λ c. IsStormOp (operation row c))) (row_0, (row_1, (row_2, (row_3, (row_4, (row_5, (row_6, (row_7, (row_8, (row_9, (row_10, (row_11, (row_12, (row_13, tt)))))))))))))) row r) c k

op_is : (g : Lcg) (i : ℕ) → IsStormOp (operation_at g i)
op_is g i = row_is (draw g (2 * i) 14) (draw g (2 * i + 1) 3) (omega arith) (omega arith)

-- no block begins in a row
no_block : (row c : ℕ) → row < 14 → c < 3 → begins_block (operation row c) ≡ false
no_block row c r k =
    below 3 (λ c. begins_block (operation row c) ≡ false)
    (below 14 (λ row. Upto 3 (λ c. begins_block (operation row c) ≡ false)) ((refl, (refl, (refl, tt))), ((refl, (refl, (refl, tt))), ((refl, (refl, (refl, tt))), ((refl, (refl, (refl, tt))), ((refl, (refl, (refl, tt))), ((refl, (refl, (refl, tt))), ((refl, (refl, (refl, tt))), ((refl, (refl, (refl, tt))), ((refl, (refl, (refl, tt))), ((refl, (refl, (refl, tt))), ((refl, (refl, (refl, tt))), ((refl, (refl, (refl, tt))), ((refl, (refl, (refl, tt))), ((refl, (refl, (refl, tt))), tt)))))))))))))) row r) c k

is_plain : (g : Lcg) (i : ℕ) → begins_block (operation_at g i) ≡ false
is_plain g i = no_block (draw g (2 * i) 14) (draw g (2 * i + 1) 3) (omega arith) (omega arith)

plain_nested : (deep at : ℕ) (ops : List Op) → AllByRecursion (λ (o : Op). begins_block o ≡ false) ops → Nested deep at ops
plain_nested deep at [] h = none
plain_nested deep at (o ∷ ops) h = Valid.operation o ops h.0 (plain_nested deep (suc at) ops h.1)

all_of : {X : Type 0} (f : ℕ → X) (P : X → Type 0) → ((i : ℕ) → P (f i)) → (is : List ℕ) → AllByRecursion P (map f is)
all_of f P h [] = tt
all_of f P h (i ∷ is) = (h i, all_of f P h is)

thread_is : (g : Lcg) (n t : ℕ) → IsThread storm_classes storm_globals (storm_thread (operations g n) t)
thread_is g n t = record {
  vars = vars_are;
  vars_allowed = (refl, (refl, (refl, (refl, (refl, (refl, (refl, (refl, (refl, (refl, (refl, (refl, tt))))))))))));
  some_phase = lit≤ tt;
  few_phases = lit≤ tt;
  ops = (all_dealt IsStormOp t (operations g n) (all_of (operation_at g) IsStormOp (op_is g) (range_with_len 0 n)), tt);
  nested = (plain_nested 8 0 _ (all_dealt (λ (o : Op). begins_block o ≡ false) t (operations g n) (all_of (operation_at g) (λ (o : Op). begins_block o ≡ false) (is_plain g) (range_with_len 0 n))), tt);
}

of_first : (o : Op) → begins_block o ≡ false → OpOfVersion 1 o
of_first o isnt = λ is. absurd cc

thread_of_first : (g : Lcg) (n t : ℕ) → ThreadOfVersion 1 (storm_thread (operations g n) t)
thread_of_first g n t = (all_dealt (OpOfVersion 1) t (operations g n) (all_of (operation_at g) (OpOfVersion 1) (λ i. of_first (operation_at g i) (is_plain g i)) (range_with_len 0 n)), tt)

place_is : (g : Lcg) (i : ℕ) → (1 ≤ place_at g i) × (place_at g i ≤ 16)
place_is g i = (omega arith, omega arith)

pub storm_is_script : (count start : ℕ) → count ≤ 100000 → IsScript (storm_script count start)
storm_is_script count start few =
    let g = seeded start in
    let ops : length (operations g count) ≡ count = length-map-range_with_len (operation_at g) 0 count in
    let marks : length (places (after (2 * count) g) (4 * count)) ≡ 4 * count = length-map-range_with_len (place_at (after (2 * count) g)) 0 (4 * count) in
    record {
      version = (lit≤ tt, lit≤ tt);
      classes_of_version = (λ is. absurd cc, (λ is. absurd cc, (λ is. absurd cc, tt)));
      threads_of_version = all_of (storm_thread (operations g count)) (ThreadOfVersion 1) (thread_of_first g count) (range_with_len 0 16);
      heading = heading_is;
      few_threads = lit≤ tt;
      threads = all_of (storm_thread (operations g count)) (IsThread storm_classes storm_globals) (thread_is g count) (range_with_len 0 16);
      few_ops = omega (arith, op_count-threads (operations g count));
      few_places = omega arith;
      places = all_of (place_at (after (2 * count) g)) (λ p. (1 ≤ p) × (p ≤ 16)) (place_is (after (2 * count) g)) (range_with_len 0 (4 * count));
    }
