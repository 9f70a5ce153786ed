-- What the four moves make of the counts.
use Rattle.std.specs.Prelude.{◌+◌, ◌-◌, ◌==◌, true, if◌then◌else◌}
use Rattle.arc_bits.specs.declared.packing.Inline.{Inline}

abbrev pub strong_more : Inline → Inline
strong_more c = record c { strong_extra = c.strong_extra + 1 }

-- one strong reference fewer, or deiniting after the last one
abbrev pub strong_less : Inline → Inline
strong_less c = if c.strong_extra == 0 then record c { deiniting = true } else record c { strong_extra = c.strong_extra - 1 }

abbrev pub unowned_more : Inline → Inline
unowned_more c = record c { unowned = c.unowned + 1 }

abbrev pub unowned_less : Inline → Inline
unowned_less c = record c { unowned = c.unowned - 1 }
