-- What contracts see of a source and a sink in memory, and which of their calls fail.
use Rattle.std.specs.Prelude.{◌≡◌, ℕ, ◌-◌, ◌^◌, ◌<◌, List, length, Contains}

-- the bytes that are left, the numbers of the calls that fail, the most bytes that a call gives,
-- the calls so far, and how many of them failed
pub record SourceState : Type 0 where
  pub left : List ℕ
  pub fails : List ℕ
  pub most : ℕ
  pub calls : ℕ
  pub faults : ℕ

-- the bytes that were taken, for how many there is room in all, the numbers of the calls that fail,
-- the most bytes that a call takes, the calls so far, and how many of them failed
pub record SinkState : Type 0 where
  pub taken : List ℕ
  pub room : ℕ
  pub fails : List ℕ
  pub most : ℕ
  pub calls : ℕ
  pub faults : ℕ

-- the list has the number of this call; a call past number 4,294,967,295 is in no list
abbrev pub IsListed : List ℕ → ℕ → Type 0
IsListed fails call = (call < 2 ^ 32) × Contains fails call

-- how many more bytes the sink can take
abbrev pub room_left : SinkState → ℕ
room_left s = s.room - length s.taken

-- there are bytes to write, and no room
abbrev pub FindsNoRoom : SinkState → List ℕ → Type 0
FindsNoRoom s piece = (room_left s ≡ 0) × (0 < length piece)
