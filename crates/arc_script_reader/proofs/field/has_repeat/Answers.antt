use Rattle.std.proofs.Common.{[], get_or, arith}
use Rattle.arc_script_reader.specs.declared.field.FieldWord.{FieldWord}
use Rattle.arc_script_reader.specs.NameSets.{holds}
use Rattle.arc_script_reader.proofs.FieldSteps.{known_next, said_next}
use Rattle.arc_script_reader.proofs.field.has_repeat.Goals as goal

pub loop-field-preserved : goal.loop-field-preserved
loop-field-preserved c =
    let fs = c.args.fields.now in
    let i = c.loop-field.field-index in
    let nobody : FieldWord = record { name = record { ref_ptr = (0, 0); now = [] }; kind = record { ref_ptr = (0, 0); now = [] }; class = record { ref_ptr = (0, 0); now = [] } } in
    let name = (get_or fs i nobody).name.now in
    record {
      known = λ q. known_next fs i nobody q (holds c.add_name.new.names q) (holds c.loop-field.names q) (omega arith) (c.loop-field.invariant.known q) (c.in_ok-add_name.ensures.holds q);
      said = said_next fs i nobody c.in_ok-add_name.field-0 (holds c.loop-field.names name) _ (omega arith) (c.loop-field.invariant.known name) c.in_ok-add_name.ensures.fresh c.if-not-branch.false c.loop-field.invariant.said;
    }
