-- The lines of what is left at the end.
use Rattle.std.specs.Prelude.{ℕ, Bool, true, false, not, ◌-◌, ◌^◌, ◌<◌, ◌≡◌, List, [], ◌++◌, map, count_by, slice_index_or, codes, Option, Some, None, if◌then◌else◌}
use Rattle.std.specs.Fmt.{decimal, digits, padded_integral, format_spec}
use Rattle.std.specs.Ordering.{nat_cmp, ordering_then}
use Rattle.std.specs.declared.cmp.Ordering.{Ordering}
use Rattle.arc_bits.specs.declared.packing.Word.{Word}
use Rattle.arc_bits.specs.declared.packing.Word.TheVariants.{Free, Counts, Slow, Immortal}
use Rattle.arc_bits.specs.Words.{unpacked}
use Rattle.arc_rule.specs.declared.layout.Place.TheVariants as place
use Rattle.arc_rule.specs.Extents.{Extent}
use Rattle.arc_rule.specs.Isa.{isa_name_of}
use Rattle.arc_script.specs.declared.script.ClassDecl.{ClassDecl}
use Rattle.arc_script.specs.Valid.{class_names, immortals_of}
use Rattle.arc_report.specs.declared.leaks.Leak.{Leak}
use Rattle.arc_report.specs.Names.{object_text}
use Rattle.arc_report.specs.Order.{in_order}
use Rattle.arc_report.specs.Words.{word_at, is_taken, is_live, is_freed, numbers_where}

-- ---- objects that still have a slot

abbrev pub leak_at : Extent → List ℕ → ℕ → Leak
leak_at l words slot = record {
  thread = (isa_name_of (word_at l words (place.Isa slot))).thread;
  number = (isa_name_of (word_at l words (place.Isa slot))).number;
  class = (isa_name_of (word_at l words (place.Isa slot))).class;
  slot = slot;
}

-- by thread, and then by number; the rest decides nothing, since no two objects have the same thread and number
abbrev pub leak_cmp : Leak → Leak → Ordering
leak_cmp a b = ordering_then (nat_cmp a.thread b.thread) (ordering_then (nat_cmp a.number b.number) (ordering_then (nat_cmp a.class b.class) (nat_cmp a.slot b.slot)))

abbrev pub leaks_of : Extent → List ℕ → List Leak
leaks_of l words = in_order leak_cmp (map (leak_at l words) (numbers_where (is_taken l words) l.slots))

-- sixteen lower case hexadecimal digits, as `{:016x}` writes them
abbrev pub hex_text : ℕ → List ℕ
hex_text n = padded_integral (format_spec 32 0 4 16 (2 ^ 64 - 1)) false [] (digits 16 false n)

abbrev pub state_text : Bool → List ℕ
state_text live = if live then codes "live" else codes "deinited"

-- the counts of the side table entry, where the object has one
abbrev pub side_text : Extent → List ℕ → Option Word → List ℕ
side_text l words (Some Free) = []
side_text l words (Some (Counts c)) = []
side_text l words (Some (Slow entry)) =
    codes " side " ++ (decimal (word_at l words (place.Strong entry))
    ++ (codes " " ++ (decimal (word_at l words (place.Unowned entry))
    ++ (codes " " ++ decimal (word_at l words (place.Weak entry))))))
side_text l words (Some Immortal) = []
side_text l words None = []

-- the state and the inline word of a slot, and the counts of its object's entry
abbrev pub counts_text : Extent → List ℕ → ℕ → List ℕ
counts_text l words word =
    state_text (is_live l words (unpacked word)) ++ (codes " " ++ (hex_text word ++ side_text l words (unpacked word)))

abbrev pub leak_name : List (List ℕ) → Leak → List ℕ
leak_name classes leak = object_text classes (record { class = leak.class; thread = leak.thread; number = leak.number })

abbrev pub is_immortal : List ClassDecl → Leak → Bool
is_immortal classes leak = slice_index_or (immortals_of classes) leak.class false

-- an object of an immortal class is no leak
abbrev pub leak_text : List ClassDecl → Extent → List ℕ → Leak → List ℕ
leak_text classes l words leak =
    if is_immortal classes leak then codes "immortal " ++ (leak_name (class_names classes) leak ++ codes "\n") else
    codes "leak " ++ (leak_name (class_names classes) leak ++ (codes " " ++ (counts_text l words (word_at l words (place.Count leak.slot)) ++ codes "\n")))

abbrev pub is_lost : List ClassDecl → Leak → Bool
is_lost classes leak = not (is_immortal classes leak)

-- how many of the objects that still have a slot are leaks
abbrev pub leak_count : List ClassDecl → List Leak → ℕ
leak_count classes leaks = count_by (is_lost classes) leaks

-- the leak is of the object in its slot
pub record IsLeak (l : Extent) (words : List ℕ) (leak : Leak) : Type 0 where
  pub there : leak.slot < l.slots
  pub taken : is_taken l words leak.slot ≡ true
  pub of_slot : leak ≡ leak_at l words leak.slot

-- ---- entries whose object has no slot any more

abbrev pub freed_of : Extent → List ℕ → List ℕ
freed_of l words = numbers_where (is_freed l words) l.entries

abbrev pub freed_text : Extent → List ℕ → ℕ → List ℕ
freed_text l words entry = codes "freed " ++ (decimal entry ++ (codes " " ++ (decimal (word_at l words (place.Weak entry)) ++ codes "\n")))
