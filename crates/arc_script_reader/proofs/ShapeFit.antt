-- A heading's parts in their ranges make a shape.
use Rattle.std.proofs.Common.{◌≡◌, ◌≤◌, List, Result, Ok, Err, length, refl, arith}
use Rattle.std.specs.Prelude.{IsOk, All, slice_index_or}
use Rattle.std.proofs.lemmas.List.{length-map}
use Rattle.std.proofs.lemmas.List.Elements.{All-map}
use Rattle.arc_model.specs.Shapes.{ObjectClass, HeapShape}
use Rattle.arc_model.specs.Ranges.{ClassesFit, FieldsFit, GlobalsFit}
use Rattle.arc_model.specs.declared.shape.RefShape.{RefShape}
use Rattle.arc_model.specs.declared.shape.ShapeRefused.{ShapeRefused}
use Rattle.arc_model.specs.declared.shape.ShapeRefused.TheVariants as part
use Rattle.arc_script.specs.declared.script.FieldDecl.{FieldDecl}
use Rattle.arc_script.specs.declared.script.ClassDecl.{ClassDecl}
use Rattle.arc_script.specs.declared.script.VarDecl.{VarDecl}
use Rattle.arc_script.specs.Valid.{field_refs, class_refs, var_refs}

pub unless_refused : (r : Result HeapShape ShapeRefused) → (r ≡ Err part.Slots → ⊥) → (r ≡ Err part.Entries → ⊥) → (r ≡ Err part.Classes → ⊥) → (r ≡ Err part.Fields → ⊥) → (r ≡ Err part.Globals → ⊥) → IsOk r
unless_refused (Ok s) a b c d e = refl
unless_refused (Err part.Slots) a b c d e = absurd (a refl)
unless_refused (Err part.Entries) a b c d e = absurd (b refl)
unless_refused (Err part.Classes) a b c d e = absurd (c refl)
unless_refused (Err part.Fields) a b c d e = absurd (d refl)
unless_refused (Err part.Globals) a b c d e = absurd (e refl)

pub classes_fit : (classes : List ClassDecl) → length classes ≤ 64 → ClassesFit (class_refs classes)
classes_fit classes few = omega (arith, length-map classes (λ (c : ClassDecl). let k : ObjectClass = record { fields = field_refs c.fields; immortal = c.immortal } in k))

pub globals_fit : (globals : List VarDecl) → length globals ≤ 64 → GlobalsFit (var_refs globals)
globals_fit globals few = omega (arith, length-map globals (λ (v : VarDecl). let r : RefShape = record { kind = v.kind; class = v.class } in r))

fields_few : (fields : List FieldDecl) → length fields ≤ 8 → length (field_refs fields) ≤ 8
fields_few fields few = omega (arith, length-map fields (λ (f : FieldDecl). let r : RefShape = record { kind = f.kind; class = f.class } in r))

pub fields_fit : (classes : List ClassDecl) → All (λ (c : ClassDecl). length c.fields ≤ 8) classes → FieldsFit (class_refs classes)
fields_fit classes few = All-map (λ (k : ObjectClass). length k.fields ≤ 8) (λ (c : ClassDecl). let k : ObjectClass = record { fields = field_refs c.fields; immortal = c.immortal } in k) classes (λ k d h. fields_few (slice_index_or classes k d).fields (few k d h))
