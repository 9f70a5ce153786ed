-- What the words of a class line stand for.
use Rattle.std.specs.Prelude.{ℕ, List}
use Rattle.arc_script_reader.specs.declared.field.FieldWord.{FieldWord}
use Rattle.arc_script.specs.HeadLines.{Spelled}

abbrev pub seen : FieldWord → Spelled
seen f = record { name = f.name.now; kind = f.kind.now; class = f.class.now }

abbrev pub name_of : Spelled → List ℕ
name_of f = f.name
