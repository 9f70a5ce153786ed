-- What contracts see of a source over a reader, and of a sink over a writer.
use Rattle.std.specs.Prelude.{ℕ}

-- the reader or the writer, and how many of its errors were counted
pub record Counted (T : Type 0) : Type 0 where
  pub inner : T
  pub faults : ℕ
