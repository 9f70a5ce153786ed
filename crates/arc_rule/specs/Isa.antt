-- Which number is the isa word of a name.
use Rattle.std.specs.Prelude.{ℕ, ◌+◌, ◌*◌, ◌/◌, ◌%◌, ◌^◌, ◌<◌}
use Rattle.arc_model.specs.declared.event.ObjectName.{ObjectName}

-- the name of an object that can be made
pub record IsName (name : ObjectName) : Type 0 where
  pub class : name.class < 64
  pub thread : name.thread < 256
  pub number : name.number < 2 ^ 32

abbrev pub isa_word_of : ObjectName → ℕ
isa_word_of name = name.class + 256 * name.thread + 65536 * name.number

-- the number is the isa word of a name
pub record IsIsaWord (word : ℕ) : Type 0 where
  pub below : word < 2 ^ 48
  pub class : word % 256 < 64

abbrev pub isa_name_of : ℕ → ObjectName
isa_name_of word = record { class = word % 256; thread = word / 256 % 256; number = word / 65536 }
