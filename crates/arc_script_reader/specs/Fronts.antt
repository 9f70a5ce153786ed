-- What a reader has understood.
use Rattle.arc_script_reader.specs.declared.reader.Reader.{Reader}
use Rattle.arc_script.specs.Grammar.{Front}

abbrev pub front : Reader → Front
front r = record { place = r.place; head = r.head; body = r.body }
