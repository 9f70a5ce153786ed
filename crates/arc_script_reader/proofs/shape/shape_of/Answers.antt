use Rattle.std.proofs.Common.{sym, subst}
use Rattle.arc_model.specs.Ranges.{ClassesFit, FieldsFit, GlobalsFit}
use Rattle.arc_script_reader.proofs.ShapeFit.{unless_refused, classes_fit, fields_fit, globals_fit}
use Rattle.arc_script_reader.proofs.shape.shape_of.Goals as goal

pub unwrap-requires : goal.unwrap-requires
unwrap-requires c =
    let classes = subst ClassesFit (sym c.in_ok-classes.ensures) (classes_fit c.args.classes.now c.requires.classes) in
    let fields = subst FieldsFit (sym c.in_ok-classes.ensures) (fields_fit c.args.classes.now c.requires.fields) in
    let globals = subst GlobalsFit (sym c.in_ok-globals.ensures) (globals_fit c.args.globals.now c.requires.globals) in
    unless_refused c.new.result
    (λ e. c.new.ensures.slots.0 e c.requires.slots)
    (λ e. (c.new.ensures.entries.0 e).1 c.requires.entries)
    (λ e. (c.new.ensures.classes.0 e).2 classes)
    (λ e. (c.new.ensures.fields.0 e).3 fields)
    (λ e. (c.new.ensures.globals.0 e).4 globals)
