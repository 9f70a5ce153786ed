-- The generator of large scripts.
--
-- Its words are those of a Pcg32 generator, seeded with a number. Operation i takes words 2i and 2i + 1: its row is the first
-- modulo 14, and its class the second modulo 3. The schedule takes the words after those of all operations, and a place of it is
-- 1 plus the word modulo 16.
use Rattle.std.specs.Prelude.{ℕ, ◌+◌, ◌*◌, ◌%◌, Bool, false, ◌==◌, if◌then◌else◌, List, [], ◌∷◌, ◌++◌, map, filter, Option, Some, None, codes}
use Rattle.std.specs.List.{range_with_len, enumerate_from}
use Rattle.rand_core.specs.Pcg32Seed.{pcg32_seed}
use Rattle.rand_pcg.specs.Lcg.{Lcg, advance}
use Rattle.rand_pcg.specs.Pcg.{multiplier_64, pcg32, pcg32_of_seed}
use Rattle.arc_model.specs.Shapes.{HeapShape}
use Rattle.arc_model.specs.declared.shape.Kind.{Kind}
use Rattle.arc_model.specs.declared.shape.Kind.TheVariants as kind
use Rattle.arc_script.specs.declared.script.FieldDecl.{FieldDecl}
use Rattle.arc_script.specs.declared.script.ClassDecl.{ClassDecl}
use Rattle.arc_script.specs.declared.script.VarDecl.{VarDecl}
use Rattle.arc_script.specs.declared.script.OpCell.{OpCell}
use Rattle.arc_script.specs.declared.script.OpCell.TheVariants as cell
use Rattle.arc_script.specs.declared.script.Op.{Op}
use Rattle.arc_script.specs.declared.script.Op.TheVariants as op
use Rattle.arc_script.specs.declared.script.ThreadDecl.{ThreadDecl}
use Rattle.arc_script.specs.declared.script.Script.{Script}
use Rattle.arc_script.specs.Valid.{class_refs, var_refs}

-- ---- words

-- the generator that a number seeds
abbrev pub seeded : ℕ → Lcg
seeded start = pcg32_of_seed (pcg32_seed 16 start)

-- the generator after n words
abbrev pub after : ℕ → Lcg → Lcg
after n g = advance 64 multiplier_64 n g

-- word i of the generator, counted from 0, modulo n
abbrev pub draw : Lcg → ℕ → ℕ → ℕ
draw g i n = (pcg32 (after i g)).0 % n

-- ---- what is declared: class 0 is Top, 1 is Mid and 2 is Low

abbrev pub field : List ℕ → Kind → ℕ → FieldDecl
field name kind class = record { name = name; kind = kind; class = class }

abbrev pub var : List ℕ → Kind → ℕ → VarDecl
var name kind class = record { name = name; kind = kind; class = class }

abbrev pub kid_fields : Option ℕ → List FieldDecl
kid_fields (Some class) = field (codes "kid") kind.Strong class ∷ []
kid_fields None = []

abbrev pub class : List ℕ → Option ℕ → ClassDecl
class name kid = record { name = name; immortal = false; fields = kid_fields kid ++ field (codes "peer") kind.Unowned 0 ∷ field (codes "seen") kind.Weak 0 ∷ [] }

abbrev pub storm_classes : List ClassDecl
storm_classes = class (codes "Top") (Some 1) ∷ class (codes "Mid") (Some 2) ∷ class (codes "Low") None ∷ []

abbrev pub storm_globals : List VarDecl
storm_globals = var (codes "gt") kind.Strong 0 ∷ var (codes "gm") kind.Strong 1 ∷ var (codes "gl") kind.Strong 2 ∷ []

abbrev pub storm_shape : HeapShape
storm_shape = record {
  slots = 4096;
  entries = 4096;
  caps = record { strong = 1073741823; unowned = 2147483647; wide = 4294967295 };
  classes = class_refs storm_classes;
  globals = var_refs storm_globals;
}

abbrev pub class_vars : ℕ → List ℕ → List ℕ → List ℕ → List ℕ → List VarDecl
class_vars class first second unowned weak = var first kind.Strong class ∷ var second kind.Strong class ∷ var unowned kind.Unowned class ∷ var weak kind.Weak class ∷ []

-- the variables of each thread
abbrev pub storm_vars : List VarDecl
storm_vars =
    class_vars 0 (codes "t0") (codes "t1") (codes "tu") (codes "tw") ++ (
    class_vars 1 (codes "m0") (codes "m1") (codes "mu") (codes "mw") ++
    class_vars 2 (codes "l0") (codes "l1") (codes "lu") (codes "lw"))

-- ---- operations

-- the places of a class's variables
abbrev pub first : ℕ → ℕ
first class = 4 * class

abbrev pub second : ℕ → ℕ
second class = 4 * class + 1

abbrev pub unowned : ℕ → ℕ
unowned class = 4 * class + 2

abbrev pub weak : ℕ → ℕ
weak class = 4 * class + 3

-- the first field of a class: `kid` of Top and of Mid, `peer` of Low
abbrev pub link_cell : ℕ → OpCell
link_cell class = cell.Field (first class) 0

-- what is set into it: m0 into t0.kid, l0 into m0.kid, tu into l0.peer
abbrev pub link_from : ℕ → ℕ
link_from class = if class == 0 then first 1 else if class == 1 then first 2 else unowned 0

-- what it is read into: m1 from t0.kid, l1 from m0.kid, tu from l0.peer
abbrev pub link_to : ℕ → ℕ
link_to class = if class == 0 then second 1 else if class == 1 then second 2 else unowned 0

-- the field `seen` of a class
abbrev pub seen_cell : ℕ → OpCell
seen_cell class = cell.Field (first class) (if class == 2 then 1 else 2)

abbrev pub operation : ℕ → ℕ → Op
operation row c =
    if row == 0 then op.New (first c) c else
    if row == 1 then op.New (second c) c else
    if row == 2 then op.Copy (second c) (first c) else
    if row == 3 then op.Drop (first c) else
    if row == 4 then op.Unown (unowned c) (first c) else
    if row == 5 then op.Weak (weak c) (first c) else
    if row == 6 then op.Load (second c) (unowned c) else
    if row == 7 then op.Load (second c) (weak c) else
    if row == 8 then op.Get (first c) (cell.Global c) else
    if row == 9 then op.Set (cell.Global c) (second c) else
    if row == 10 then op.Set (link_cell c) (link_from c) else
    if row == 11 then op.Set (seen_cell c) (weak 0) else
    if row == 12 then op.Get (link_to c) (link_cell c) else
    op.Drop (second c)

abbrev pub operation_at : Lcg → ℕ → Op
operation_at g i = operation (draw g (2 * i) 14) (draw g (2 * i + 1) 3)

abbrev pub operations : Lcg → ℕ → List Op
operations g n = map (operation_at g) (range_with_len 0 n)

-- what thread t, counted from 0, gets of them: operation i goes to thread i modulo 16
abbrev pub is_dealt : ℕ → ℕ × Op → Bool
is_dealt t numbered = numbered.0 % 16 == t

abbrev pub dealt : List Op → ℕ → List Op
dealt ops t = map (λ (numbered : ℕ × Op). numbered.1) (filter (is_dealt t) (enumerate_from 0 ops))

abbrev pub storm_thread : List Op → ℕ → ThreadDecl
storm_thread ops t = record { vars = storm_vars; phases = dealt ops t ∷ [] }

abbrev pub storm_threads : List Op → List ThreadDecl
storm_threads ops = map (storm_thread ops) (range_with_len 0 16)

-- ---- the schedule

abbrev pub place_at : Lcg → ℕ → ℕ
place_at g i = 1 + draw g i 16

abbrev pub places : Lcg → ℕ → List ℕ
places g n = map (place_at g) (range_with_len 0 n)

-- ---- the script

abbrev pub storm_script : ℕ → ℕ → Script
storm_script count start = record {
  version = 1;
  shape = storm_shape;
  classes = storm_classes;
  globals = storm_globals;
  threads = storm_threads (operations (seeded start) count);
  schedule = places (after (2 * count) (seeded start)) (4 * count);
}
