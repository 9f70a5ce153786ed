-- What references lead to, and how many fields an object has.
use Rattle.std.specs.Prelude.{ℕ, length, Option, Some, None}
use Rattle.arc_model.specs.declared.event.ObjectName.{ObjectName}
use Rattle.arc_model.specs.declared.shape.Kind.{Kind}
use Rattle.arc_model.specs.declared.shape.Kind.TheVariants.{Weak}
use Rattle.arc_model.specs.Shapes.{HeapShape, class_at}
use Rattle.arc_model.specs.Heaps.{Holder, Object, Heap}
use Rattle.arc_model.specs.Holders.{kind_in, held_by}

-- the number of fields of an object with this name
abbrev pub field_count : HeapShape → ObjectName → ℕ
field_count shape name = length (class_at shape name.class).fields

abbrev pub name_of : Object → ObjectName
name_of o = record { class = o.class; thread = o.id.thread; number = o.id.number }

-- where a reference of this kind to the object leads: to its slot, a weak one to its entry
abbrev pub place_of : Kind → Object → Option ℕ
place_of Weak o = o.entry
place_of _ o = o.slot

pub record Reference : Type 0 where
  pub kind : Kind
  pub place : ℕ

abbrev pub reference_to : Kind → Option ℕ → Option Reference
reference_to kind None = None
reference_to kind (Some place) = Some (record { kind = kind; place = place })

abbrev pub reference_in : Holder → Option Object → Option Reference
reference_in x None = None
reference_in x (Some o) = reference_to (kind_in x o) (place_of (kind_in x o) o)

-- the reference that x holds
abbrev pub reference_of : Holder → Heap → Option Reference
reference_of x heap = reference_in x (held_by x heap)
