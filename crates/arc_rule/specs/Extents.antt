-- What the places of a heap's words depend on.
use Rattle.std.specs.Prelude.{ℕ, ◌≤◌}

pub record Extent : Type 0 where
  pub globals : ℕ
  pub slots : ℕ
  pub entries : ℕ

pub record IsExtent (globals slots entries : ℕ) : Type 0 where
  pub globals_fit : globals ≤ 64
  pub some_slot : 1 ≤ slots
  pub slots_fit : slots ≤ 4096
  pub some_entry : 1 ≤ entries
  pub entries_fit : entries ≤ 4096
