use Rattle.std.proofs.Common.{◌∙◌, List, ℕ, Option, Some, None, length, drop, subst, sym, ap, arith}
use Rattle.std.proofs.lemmas.List.{take_rest}
use Rattle.arc_text.specs.Lines.{lines_of}
use Rattle.arc_check.specs.declared.text.Started.{Started}
use Rattle.arc_check.specs.EventTexts.{behind_start, opened_from, told_behind}
use Rattle.arc_check.specs.Reading.{BeginsAt}
use Rattle.arc_check.proofs.Headings.{heading_is}
use Rattle.arc_check.proofs.OpenedTexts.{start_range, open_then, told_is, refuses_same, heading_room}
use Rattle.arc_check.proofs.text.open_history.Goals as goal

pub begin-requires : goal.begin-requires
begin-requires c =
    let b : BeginsAt c.args.text.now (behind_start (lines_of c.args.text.now)) (Some c.in-Some.started) = subst (λ (o : Option Started). BeginsAt c.args.text.now (behind_start (lines_of c.args.text.now)) o) c.in-Some.is c.in_ok-started.ensures in
    let short = b.3 in
    let begins = c.new-lines.ensures ∙ take_rest c.in-Some.started.text.now c.in-Ok.heading.end in
    let room = heading_room c.in-Some.started.version c.in-Some.started.text.now c.in-Some.started.at c.in-Ok.heading (heading_is c.in-Some.started.version c.in-Some.started.text.now c.in-Some.started.at c.in-Ok.heading c.in-Ok.ensures) in
    rw begins (omega arith)

pub read_heading-requires-clause-version : goal.read_heading-requires-clause-version
read_heading-requires-clause-version c =
    let b : BeginsAt c.args.text.now (behind_start (lines_of c.args.text.now)) (Some c.in-Some.started) = subst (λ (o : Option Started). BeginsAt c.args.text.now (behind_start (lines_of c.args.text.now)) o) c.in-Some.is c.in_ok-started.ensures in
    start_range (lines_of c.args.text.now) (record { version = c.in-Some.started.version; lines = lines_of (drop c.in-Some.started.at c.in-Some.started.text.now) }) b.0

pub returns-in-Err-clause-opens : goal.returns-in-Err-clause-opens
returns-in-Err-clause-opens c =
    let b : BeginsAt c.args.text.now (behind_start (lines_of c.args.text.now)) (Some c.in-Some.started) = subst (λ (o : Option Started). BeginsAt c.args.text.now (behind_start (lines_of c.args.text.now)) o) c.in-Some.is c.in_ok-started.ensures in
    let text = c.in-Some.started.text.now in
    let at = c.in-Some.started.at in
    let h = c.in-Ok.heading in
    let i = heading_is c.in-Some.started.version text at h c.in-Ok.ensures in
    let begins = c.new-lines.ensures ∙ take_rest text h.end in
    let same = open_then c.in-Some.started.version c.args.text.now text at h b.0 i ∙ ap (λ (ls : List ℕ). opened_from h.line None (lines_of ls) (told_behind i.end.head)) (sym begins) in
    refuses_same c.in-Err.fault _ _ same (c.in-Err.ensures.begins (told_behind i.end.head))

pub returns-clause-opens : goal.returns-clause-opens
returns-clause-opens c =
    let b : BeginsAt c.args.text.now (behind_start (lines_of c.args.text.now)) (Some c.in-Some.started) = subst (λ (o : Option Started). BeginsAt c.args.text.now (behind_start (lines_of c.args.text.now)) o) c.in-Some.is c.in_ok-started.ensures in
    let text = c.in-Some.started.text.now in
    let at = c.in-Some.started.at in
    let h = c.in-Ok.heading in
    let i = heading_is c.in-Some.started.version text at h c.in-Ok.ensures in
    let begins = c.new-lines.ensures ∙ take_rest text h.end in
    open_then c.in-Some.started.version c.args.text.now text at h b.0 i
    ∙ (ap (λ (ls : List ℕ). opened_from h.line None (lines_of ls) (told_behind i.end.head)) (sym begins)
    ∙ (c.in-Ok-begin.ensures.begins (told_behind i.end.head)
    ∙ told_is c.in-Some.started.version text at h i c.in-Ok-begin.begun.threads c.in-Ok-begin.begun.number (lines_of c.begin.new.lines) c.new-scope.result (cc (c.new-scope.ensures, c.slots.ensures.value, c.entries.ensures.value))))

pub returns-clause-room : goal.returns-clause-room
returns-clause-room c =
    let b : BeginsAt c.args.text.now (behind_start (lines_of c.args.text.now)) (Some c.in-Some.started) = subst (λ (o : Option Started). BeginsAt c.args.text.now (behind_start (lines_of c.args.text.now)) o) c.in-Some.is c.in_ok-started.ensures in
    let short = b.3 in
    let begins = c.new-lines.ensures ∙ take_rest c.in-Some.started.text.now c.in-Ok.heading.end in
    let room = heading_room c.in-Some.started.version c.in-Some.started.text.now c.in-Some.started.at c.in-Ok.heading (heading_is c.in-Some.started.version c.in-Some.started.text.now c.in-Some.started.at c.in-Ok.heading c.in-Ok.ensures) in
    let same = ap (λ (ls : List ℕ). length (lines_of ls)) begins in
    let more = c.in-Ok-begin.ensures.room in
    omega arith
