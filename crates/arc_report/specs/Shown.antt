-- What objects and cells with their names print.
use Rattle.std.specs.Prelude.{ℕ, List, ◌++◌, codes}
use Rattle.std.specs.Fmt.{decimal}
use Rattle.arc_report.specs.declared.shown.ObjectText.{ObjectText}
use Rattle.arc_report.specs.declared.shown.CellText.{CellText}
use Rattle.arc_report.specs.declared.shown.CellText.TheVariants as cell
use Rattle.arc_report.specs.declared.shown.OriginText.{OriginText}
use Rattle.arc_report.specs.declared.shown.OriginText.TheVariants as origin

abbrev pub shown_object : ObjectText → List ℕ
shown_object o = o.class.now ++ (codes "#" ++ (decimal o.thread ++ (codes "." ++ decimal o.number)))

abbrev pub shown_cell : CellText → List ℕ
shown_cell (cell.Field slot field) = decimal slot ++ (codes "." ++ decimal field)
shown_cell (cell.Global name) = codes "@" ++ name.now

abbrev pub shown_origin : OriginText → List ℕ
shown_origin (origin.Hand hand) = decimal hand
shown_origin (origin.Cell c) = shown_cell c
