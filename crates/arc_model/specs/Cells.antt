-- What an object has by its class: fields, with cells as holders, and where the class is immortal a strong holder for ever.
use Rattle.std.specs.Prelude.{ℕ, zero, suc, Bool, true, false, nat_lt, ◌&&◌, not, List, [], ◌∷◌, ◌++◌, length, Option, Some, None, is_some, slice_get}
use Rattle.arc_model.specs.declared.event.ObjectId.{ObjectId}
use Rattle.arc_model.specs.declared.event.CellName.{CellName}
use Rattle.arc_model.specs.declared.event.CellName.TheVariants as cells
use Rattle.arc_model.specs.declared.event.Origin.{Origin}
use Rattle.arc_model.specs.declared.event.Origin.TheVariants as origins
use Rattle.arc_model.specs.declared.shape.Kind.{Kind}
use Rattle.arc_model.specs.declared.shape.Kind.TheVariants.{Strong, Unowned, Weak}
use Rattle.arc_model.specs.declared.shape.RefShape.{RefShape}
use Rattle.arc_model.specs.Shapes.{HeapShape, ObjectClass, class_at}
use Rattle.arc_model.specs.Heaps.{Holder, Hand, Field, Global, Forever, Object, Heap}
use Rattle.arc_model.specs.Holders.{is_empty, kind_in, held_by, at_slot}

-- the id of an object; of none, one that no object has, since each thread's objects are numbered from 1
abbrev pub id_of : Option Object → ObjectId
id_of None = record { thread = 0; number = 0 }
id_of (Some o) = o.id

-- a cell as a holder: a field is that of the object in the slot
abbrev pub cell : Heap → CellName → Holder
cell heap (cells.Field s f) = Field (id_of (at_slot s heap)) f
cell heap (cells.Global g) = Global g

-- where thread p takes a reference from, as a holder
abbrev pub origin : Heap → ℕ → Origin → Holder
origin heap p (origins.Hand k) = Hand p k
origin heap p (origins.Cell c) = cell heap c

-- the holder refers to no object
abbrev pub is_nil : Heap → Holder → Bool
is_nil heap x = not (is_some (held_by x heap))

abbrev pub class_of : HeapShape → Object → ObjectClass
class_of shape o = class_at shape o.class

-- the fields of the object's class
abbrev pub fields_of : HeapShape → Object → List RefShape
fields_of shape o = (class_of shape o).fields

abbrev pub is_immortal : HeapShape → Object → Bool
is_immortal shape o = (class_of shape o).immortal

-- the strong holder that an object has by its class
abbrev pub forever_if : Bool → List Holder
forever_if true = Forever ∷ []
forever_if false = []

-- all strong holders of the object
abbrev pub strong_holders : HeapShape → Object → List Holder
strong_holders shape o = o.strong ++ forever_if (is_immortal shape o)

-- all holders of one kind
abbrev pub holders_of : HeapShape → Kind → Object → List Holder
holders_of shape Strong o = strong_holders shape o
holders_of shape Unowned o = o.unowned
holders_of shape Weak o = o.weak

-- all holders of the kind of x
abbrev pub holders_with : HeapShape → Holder → Object → List Holder
holders_with shape x o = holders_of shape (kind_in x o) o

abbrev pub is_live : HeapShape → Object → Bool
is_live shape o = not (is_empty (strong_holders shape o))

abbrev pub has_field : HeapShape → ℕ → Object → Bool
has_field shape f o = nat_lt f (length (fields_of shape o))

-- the test holds of each number below n
abbrev pub each_below : ℕ → (ℕ → Bool) → Bool
each_below zero test = true
each_below (suc n) test = test n && each_below n test

-- every field of the object below n is nil
abbrev pub are_nil : Heap → ℕ → Object → Bool
are_nil heap n o = each_below n (λ f. is_nil heap (Field o.id f))

abbrev pub are_all_nil : HeapShape → Heap → Object → Bool
are_all_nil shape heap o = are_nil heap (length (fields_of shape o)) o

abbrev pub same_kind : Kind → Kind → Bool
same_kind Strong Strong = true
same_kind Unowned Unowned = true
same_kind Weak Weak = true
same_kind _ _ = false

-- the kind of a cell that there is
abbrev pub is_kind : Kind → Option RefShape → Bool
is_kind k None = false
is_kind k (Some r) = same_kind r.kind k

abbrev pub field_shape : HeapShape → ℕ → Option Object → Option RefShape
field_shape shape f None = None
field_shape shape f (Some o) = slice_get (fields_of shape o) f

abbrev pub cell_shape : HeapShape → Heap → CellName → Option RefShape
cell_shape shape heap (cells.Field s f) = field_shape shape f (at_slot s heap)
cell_shape shape heap (cells.Global g) = slice_get shape.globals g
