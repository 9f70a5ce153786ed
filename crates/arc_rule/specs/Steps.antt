-- What a step made on the words gives back and leaves.
use Rattle.std.specs.Prelude.{ℕ, ◌==◌, if◌then◌else◌, List, slice_index, slice_set, bit_and, bit_or}
use Rattle.arc_rule.specs.declared.step.Step.{Step}
use Rattle.arc_rule.specs.declared.step.Step.TheVariants.{Load, Exchange, Store, Or, And}

abbrev pub place_of : Step → ℕ
place_of (Load place) = place
place_of (Exchange place old new) = place
place_of (Store place new) = place
place_of (Or place bits) = place
place_of (And place bits) = place

-- the word that the step gives back
abbrev pub found_by : Step → List ℕ → ℕ
found_by (Load place) words = slice_index words place
found_by (Exchange place old new) words = slice_index words place
found_by (Store place new) words = 0
found_by (Or place bits) words = slice_index words place
found_by (And place bits) words = slice_index words place

-- the words after it
abbrev pub made_by : Step → List ℕ → List ℕ
made_by (Load place) words = words
made_by (Exchange place old new) words = if slice_index words place == old then slice_set words place new else words
made_by (Store place new) words = slice_set words place new
made_by (Or place bits) words = slice_set words place (bit_or (slice_index words place) bits)
made_by (And place bits) words = slice_set words place (bit_and (slice_index words place) bits)
