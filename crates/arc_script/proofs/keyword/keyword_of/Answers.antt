use Rattle.std.proofs.Common.{arith, rules, ◌≡◌, ap, sym, codes}
use Rattle.std.proofs.lemmas.Slice.Eq.{text_from_reads}
use Rattle.arc_script.specs.Keywords.{keyword_of}
use Rattle.arc_script.proofs.keyword.keyword_of.Goals as goal

pub returns-in-slots : goal.returns-in-slots
returns-in-slots c =
    let spelled : c.args.word.now ≡ codes "slots" = text_from_reads c.args.word.now (codes "slots") (omega arith) (search rules) in
    sym (ap keyword_of spelled)

pub returns-in-entries : goal.returns-in-entries
returns-in-entries c =
    let spelled : c.args.word.now ≡ codes "entries" = text_from_reads c.args.word.now (codes "entries") (omega arith) (search rules) in
    sym (ap keyword_of spelled)

pub returns-in-class : goal.returns-in-class
returns-in-class c =
    let spelled : c.args.word.now ≡ codes "class" = text_from_reads c.args.word.now (codes "class") (omega arith) (search rules) in
    sym (ap keyword_of spelled)

pub returns-in-global : goal.returns-in-global
returns-in-global c =
    let spelled : c.args.word.now ≡ codes "global" = text_from_reads c.args.word.now (codes "global") (omega arith) (search rules) in
    sym (ap keyword_of spelled)

pub returns-in-thread : goal.returns-in-thread
returns-in-thread c =
    let spelled : c.args.word.now ≡ codes "thread" = text_from_reads c.args.word.now (codes "thread") (omega arith) (search rules) in
    sym (ap keyword_of spelled)

pub returns-in-unown : goal.returns-in-unown
returns-in-unown c =
    let spelled : c.args.word.now ≡ codes "unown" = text_from_reads c.args.word.now (codes "unown") (omega arith) (search rules) in
    sym (ap keyword_of spelled)

pub returns-in-phase : goal.returns-in-phase
returns-in-phase c =
    let spelled : c.args.word.now ≡ codes "phase" = text_from_reads c.args.word.now (codes "phase") (omega arith) (search rules) in
    sym (ap keyword_of spelled)

pub returns-in-schedule : goal.returns-in-schedule
returns-in-schedule c =
    let spelled : c.args.word.now ≡ codes "schedule" = text_from_reads c.args.word.now (codes "schedule") (omega arith) (search rules) in
    sym (ap keyword_of spelled)

pub returns-in-ifnil : goal.returns-in-ifnil
returns-in-ifnil c =
    let spelled : c.args.word.now ≡ codes "ifnil" = text_from_reads c.args.word.now (codes "ifnil") (omega arith) (search rules) in
    sym (ap keyword_of spelled)

pub returns-in-ifsome : goal.returns-in-ifsome
returns-in-ifsome c =
    let spelled : c.args.word.now ≡ codes "ifsome" = text_from_reads c.args.word.now (codes "ifsome") (omega arith) (search rules) in
    sym (ap keyword_of spelled)

pub returns-in-immortal : goal.returns-in-immortal
returns-in-immortal c =
    let spelled : c.args.word.now ≡ codes "immortal" = text_from_reads c.args.word.now (codes "immortal") (omega arith) (search rules) in
    sym (ap keyword_of spelled)
