-- What a sum on the packed word makes of it.
use Rattle.std.specs.Prelude.{ℕ, ◌==◌, nat_lt, Bool, false, not, ◌&&◌, if◌then◌else◌, Option, Some, None}
use Rattle.arc_bits.specs.declared.packing.Word.{Word}
use Rattle.arc_bits.specs.declared.packing.Word.TheVariants.{Free, Counts, Slow, Immortal}
use Rattle.arc_bits.specs.Words.{packed}
use Rattle.arc_bits.specs.Moves.{strong_more, strong_less}

-- the word has the counts of a live object
abbrev pub is_live : Option Word → Bool
is_live (Some (Counts c)) = not c.deiniting
is_live (Some Free) = false
is_live (Some (Slow e)) = false
is_live (Some Immortal) = false
is_live None = false

-- the counts have no strong reference beyond one
abbrev pub has_no_strong_extra : Option Word → Bool
has_no_strong_extra (Some (Counts c)) = c.strong_extra == 0
has_no_strong_extra (Some Free) = false
has_no_strong_extra (Some (Slow e)) = false
has_no_strong_extra (Some Immortal) = false
has_no_strong_extra None = false

-- one strong reference more, of a live object below the cap
abbrev pub strong_up_packed : ℕ → Option Word → Option ℕ
strong_up_packed cap (Some (Counts c)) = if not c.deiniting && nat_lt c.strong_extra cap then Some (packed (Counts (strong_more c))) else None
strong_up_packed cap (Some Free) = None
strong_up_packed cap (Some (Slow e)) = None
strong_up_packed cap (Some Immortal) = None
strong_up_packed cap None = None

-- one strong reference fewer, of a live object
abbrev pub strong_down_packed : Option Word → Option ℕ
strong_down_packed (Some (Counts c)) = if c.deiniting then None else Some (packed (Counts (strong_less c)))
strong_down_packed (Some Free) = None
strong_down_packed (Some (Slow e)) = None
strong_down_packed (Some Immortal) = None
strong_down_packed None = None
