-- What a line says of a run of class lines.
use Rattle.std.specs.Prelude.{ℕ, Bool, true, false, ◌&&◌, List, [], ◌∷◌, Option, Some, None, ◌==◌, if◌then◌else◌, bytes_eq, codes}
use Rattle.arc_script_reader.specs.declared.group.GroupName.{GroupName}
use Rattle.arc_script_reader.specs.declared.group.Ahead.{Ahead}
use Rattle.arc_script_reader.specs.declared.group.Ahead.TheVariants as ahead
use Rattle.arc_script.specs.Said.{Grouped}

abbrev pub seen : GroupName → Grouped
seen n = record { name = n.name.now; immortal = n.immortal }

-- whether a class line that begins so is that of an immortal class
abbrev pub class_mark : ℕ → List ℕ → Option Bool
class_mark version w =
    if bytes_eq w (codes "class") then Some false else
    if bytes_eq w (codes "immortal") && version == 2 then Some true else None

-- what the run names, before what comes later
abbrev pub names_with : Ahead → List Grouped → List Grouped
names_with ahead.Nothing later = later
names_with (ahead.Name name) later = seen name ∷ later
names_with ahead.End later = []
