use Rattle.std.proofs.Common.{arith, rules, ◌≡◌, ap, sym, codes}
use Rattle.std.proofs.lemmas.Slice.Eq.{text_from_reads}
use Rattle.arc_check.specs.EventWords.{event_word_of}
use Rattle.arc_check.proofs.word.event_word_of.Goals as goal

pub returns-in-unown : goal.returns-in-unown
returns-in-unown c =
    let spelled : c.args.word.now ≡ codes "unown" = text_from_reads c.args.word.now (codes "unown") (omega arith) (search rules) in
    sym (ap event_word_of spelled)

pub returns-in-countfull : goal.returns-in-countfull
returns-in-countfull c =
    let spelled : c.args.word.now ≡ codes "countfull" = text_from_reads c.args.word.now (codes "countfull") (omega arith) (search rules) in
    sym (ap event_word_of spelled)

pub returns-in-claim : goal.returns-in-claim
returns-in-claim c =
    let spelled : c.args.word.now ≡ codes "claim" = text_from_reads c.args.word.now (codes "claim") (omega arith) (search rules) in
    sym (ap event_word_of spelled)

pub returns-in-noentry : goal.returns-in-noentry
returns-in-noentry c =
    let spelled : c.args.word.now ≡ codes "noentry" = text_from_reads c.args.word.now (codes "noentry") (omega arith) (search rules) in
    sym (ap event_word_of spelled)

pub returns-in-finish : goal.returns-in-finish
returns-in-finish c =
    let spelled : c.args.word.now ≡ codes "finish" = text_from_reads c.args.word.now (codes "finish") (omega arith) (search rules) in
    sym (ap event_word_of spelled)

pub returns-in-vacate : goal.returns-in-vacate
returns-in-vacate c =
    let spelled : c.args.word.now ≡ codes "vacate" = text_from_reads c.args.word.now (codes "vacate") (omega arith) (search rules) in
    sym (ap event_word_of spelled)
