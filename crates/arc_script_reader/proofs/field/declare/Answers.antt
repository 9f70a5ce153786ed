use Rattle.std.proofs.Common.{◌≡◌, false, slice_index_or, [], arith, rules, tests}
use Rattle.arc_script_reader.specs.declared.field.FieldWord.{FieldWord}
use Rattle.arc_script_reader.specs.Fields.{seen}
use Rattle.arc_script.specs.HeadLines.{is_misspelled}
use Rattle.arc_script_reader.proofs.Any.{none_at}
use Rattle.arc_script_reader.proofs.field.declare.Goals as goal

pub declared-requires-clause-named : goal.declared-requires-clause-named
declared-requires-clause-named c =
    let nobody : FieldWord = record { name = record { ref_ptr = (0, 0); now = [] }; kind = record { ref_ptr = (0, 0); now = [] }; class = record { ref_ptr = (0, 0); now = [] } } in
    let well : is_misspelled (seen (slice_index_or c.args.fields.now c.loop-field.field-index nobody)) ≡ false =
    none_at is_misspelled seen c.args.fields.now c.loop-field.field-index nobody c.requires.named (omega arith) in
    search (rules, tests)
