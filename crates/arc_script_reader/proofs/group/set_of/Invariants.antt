use Rattle.std.proofs.Common.{◌≡◌, List, ℕ, map, take}
use Rattle.arc_script.specs.Lookups.{is_among}
use Rattle.arc_script.specs.Group.{group_names}
use Rattle.arc_script_reader.specs.Ahead.{seen}
use Rattle.arc_script_reader.specs.NameSets.{holds}
use Rattle.arc_script_reader.proofs.group.set_of.Given as goal

abbrev pub invariant-loop-name : goal.invariant-loop-name
invariant-loop-name l = (q : List ℕ) → holds l.set q ≡ is_among (group_names (map seen (take l.name-index l.names))) q
