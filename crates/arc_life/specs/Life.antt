-- The heap of the life, and what the pass has after each of its parts.
use Rattle.std.specs.Prelude.{ℕ, ◌≡◌, ◌<◌, false, true, List, [], ◌∷◌, ◌++◌}
use Rattle.arc_model.specs.declared.shape.Kind.{Kind}
use Rattle.arc_model.specs.declared.shape.Kind.TheVariants.{Strong, Unowned, Weak}
use Rattle.arc_model.specs.declared.shape.RefShape.{RefShape}
use Rattle.arc_model.specs.Shapes.{HeapShape, ObjectClass}
use Rattle.arc_model.specs.History.{History}
use Rattle.arc_rule.specs.declared.layout.Place.TheVariants.{Zero, Global, Count, Isa, Field, SlotBits, EntryBits}
use Rattle.arc_rule.specs.Shown.{word_at}
use Rattle.arc_view.specs.declared.view.View.{View}
use Rattle.arc_view.specs.Views.{first_view}
use Rattle.arc_life.specs.Alone.{after_all, events_of}
use Rattle.arc_life.specs.declared.life.TheConstants.{BORN, MIGRATED, COUNTED, JOINED, HELD, EMPTIED, ENDED}

abbrev pub leaf_cell : Kind → RefShape
leaf_cell kind = record { kind = kind; class = 0 }

abbrev pub leaf : ObjectClass
leaf = record { fields = []; immortal = false }

-- a field of each kind, and one more that stays nil
abbrev pub holder : ObjectClass
holder = record { fields = leaf_cell Strong ∷ leaf_cell Unowned ∷ leaf_cell Weak ∷ leaf_cell Strong ∷ []; immortal = false }

abbrev pub lasting : ObjectClass
lasting = record { fields = []; immortal = true }

abbrev pub life_shape : HeapShape
life_shape = record { slots = 3; entries = 1; caps = record { strong = 1; unowned = 2; wide = 5 }; classes = leaf ∷ holder ∷ lasting ∷ []; globals = leaf_cell Strong ∷ [] }

-- the view after each part
unfoldable pub after_born : View
after_born = after_all life_shape first_view BORN

unfoldable pub after_migrated : View
after_migrated = after_all life_shape after_born MIGRATED

unfoldable pub after_counted : View
after_counted = after_all life_shape after_migrated COUNTED

unfoldable pub after_joined : View
after_joined = after_all life_shape after_counted JOINED

unfoldable pub after_held : View
after_held = after_all life_shape after_joined HELD

unfoldable pub after_emptied : View
after_emptied = after_all life_shape after_held EMPTIED

unfoldable pub at_end : View
at_end = after_all life_shape after_emptied ENDED

-- the events that are written beside the steps of the whole life
abbrev pub whole_life : History
whole_life = events_of (BORN ++ MIGRATED ++ COUNTED ++ JOINED ++ HELD ++ EMPTIED ++ ENDED)

-- The words that are left: slot 2 is in the immortal object, no other slot and no entry is taken, and every cell is nil.
pub record WordsLeft (words : List ℕ) : Type 0 where
  pub zero : word_at life_shape words Zero ≡ 0
  pub global : word_at life_shape words (Global 0) ≡ 0
  pub count : word_at life_shape words (Count 2) ≡ 1
  pub isa : word_at life_shape words (Isa 2) ≡ 196610
  pub fields : (s f : ℕ) → s < 3 → f < 8 → word_at life_shape words (Field s f) ≡ 0
  pub slots : word_at life_shape words (SlotBits 0) ≡ 4
  pub entries : word_at life_shape words (EntryBits 0) ≡ 0
