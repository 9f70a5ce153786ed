use Rattle.std.proofs.Common.{◌≡◌, ℕ, Bool, List, Some, inl, ap, subst, sym, ◌∙◌}
use Rattle.std.specs.Io.KnownBytes.{Appends}
use Rattle.arc_model.proofs.Basics.{Some-inj}
use Rattle.arc_command.specs.Commands.{command_of}
use Rattle.arc.proofs.Printed.{prints_schedule, prints_phases, prints_main_last, prints_no_other, prints_once, prints_deinits, prints_loads, prints_slots, prints_entries, prints_no_claim, prints_leaves}
use Rattle.arc.specs.Statuses.{Sends, ended, number_of}
use Rattle.arc_command.specs.declared.command.Command.{Command}
use Rattle.arc.specs.Outputs.{IsUnservedInput}
use Rattle.arc.proofs.Unserved.{gives_nothing, asked_of}
use Rattle.arc.proofs.Judged.{told_legal, not_refused}
use Rattle.arc.proofs.calls.arc_plain_top.Goals as goal

pub returns-in-Ok-refused_line-clause-refused : goal.returns-in-Ok-refused_line-clause-refused
returns-in-Ok-refused_line-clause-refused g c = λ _.
    let taken = g.K.Sink.taken in
    let faults = g.K.Sink.faults in
    let old = c.args.sink.now in
    let new = c.tell-in-Ok-refused_line.new.sink in
    let sent = λ (text : List ℕ). Sends (taken old) (taken new) (faults old) (faults new) text in
    let cause = rw c.in-Err-Refused.field-0-is at c.in-Err-Refused.ensures.fault in
    let known : command_of c.args.words.now ≡ Some c.in-Some.command = sym c.command_of.ensures.command ∙ c.in-Some.is in
    rw known (
      c.in-Err-Refused.line,
      c.in-Err-Refused.why,
      cause.0,
      subst sent (c.as_bytes.ensures.value ∙ c.in-Ok-refused_line.ensures) c.tell-in-Ok-refused_line.ensures.sent,
    )

pub returns-in-Ok-write_all-clause-scheduled : goal.returns-in-Ok-write_all-clause-scheduled
returns-in-Ok-write_all-clause-scheduled g c = λ done is.
    let sent = λ (text : List ℕ). Appends (g.K.Sink.taken c.args.sink.now) (g.K.Sink.taken c.write_all.new.sink) text in
    prints_schedule c.in-Some.command (g.S.Source.left c.args.source.now) (g.K.Sink.taken c.args.sink.now) (g.K.Sink.taken c.write_all.new.sink) c.in-Ok.output.legal c.in-Ok.output.text.items (Some-inj (c.in-Some.ensures.command ∙ is))
    c.in-Ok.ensures.output (subst sent c.deref.ensures.value c.in-Ok-write_all.ensures.ok)

pub returns-in-Ok-write_all-clause-phases_follow : goal.returns-in-Ok-write_all-clause-phases_follow
returns-in-Ok-write_all-clause-phases_follow g c = λ done is.
    let sent = λ (text : List ℕ). Appends (g.K.Sink.taken c.args.sink.now) (g.K.Sink.taken c.write_all.new.sink) text in
    prints_phases c.in-Some.command (g.S.Source.left c.args.source.now) (g.K.Sink.taken c.args.sink.now) (g.K.Sink.taken c.write_all.new.sink) c.in-Ok.output.legal c.in-Ok.output.text.items (Some-inj (c.in-Some.ensures.command ∙ is))
    c.in-Ok.ensures.output (subst sent c.deref.ensures.value c.in-Ok-write_all.ensures.ok)

pub returns-in-Ok-write_all-clause-main_stands_last : goal.returns-in-Ok-write_all-clause-main_stands_last
returns-in-Ok-write_all-clause-main_stands_last g c = λ done is.
    let sent = λ (text : List ℕ). Appends (g.K.Sink.taken c.args.sink.now) (g.K.Sink.taken c.write_all.new.sink) text in
    prints_main_last c.in-Some.command (g.S.Source.left c.args.source.now) (g.K.Sink.taken c.args.sink.now) (g.K.Sink.taken c.write_all.new.sink) c.in-Ok.output.legal c.in-Ok.output.text.items (Some-inj (c.in-Some.ensures.command ∙ is))
    c.in-Ok.ensures.output (subst sent c.deref.ensures.value c.in-Ok-write_all.ensures.ok)

pub returns-in-Ok-write_all-clause-no_other_thread : goal.returns-in-Ok-write_all-clause-no_other_thread
returns-in-Ok-write_all-clause-no_other_thread g c = λ done is.
    let sent = λ (text : List ℕ). Appends (g.K.Sink.taken c.args.sink.now) (g.K.Sink.taken c.write_all.new.sink) text in
    prints_no_other c.in-Some.command (g.S.Source.left c.args.source.now) (g.K.Sink.taken c.args.sink.now) (g.K.Sink.taken c.write_all.new.sink) c.in-Ok.output.legal c.in-Ok.output.text.items (Some-inj (c.in-Some.ensures.command ∙ is))
    c.in-Ok.ensures.output (subst sent c.deref.ensures.value c.in-Ok-write_all.ensures.ok)

pub returns-in-Ok-write_all-clause-deinited_once : goal.returns-in-Ok-write_all-clause-deinited_once
returns-in-Ok-write_all-clause-deinited_once g c = λ done is.
    let sent = λ (text : List ℕ). Appends (g.K.Sink.taken c.args.sink.now) (g.K.Sink.taken c.write_all.new.sink) text in
    prints_once c.in-Some.command (g.S.Source.left c.args.source.now) (g.K.Sink.taken c.args.sink.now) (g.K.Sink.taken c.write_all.new.sink) c.in-Ok.output.legal c.in-Ok.output.text.items (Some-inj (c.in-Some.ensures.command ∙ is))
    c.in-Ok.ensures.output (subst sent c.deref.ensures.value c.in-Ok-write_all.ensures.ok)

pub returns-in-Ok-write_all-clause-deinits_told : goal.returns-in-Ok-write_all-clause-deinits_told
returns-in-Ok-write_all-clause-deinits_told g c = λ done is.
    let sent = λ (text : List ℕ). Appends (g.K.Sink.taken c.args.sink.now) (g.K.Sink.taken c.write_all.new.sink) text in
    prints_deinits c.in-Some.command (g.S.Source.left c.args.source.now) (g.K.Sink.taken c.args.sink.now) (g.K.Sink.taken c.write_all.new.sink) c.in-Ok.output.legal c.in-Ok.output.text.items (Some-inj (c.in-Some.ensures.command ∙ is))
    c.in-Ok.ensures.output (subst sent c.deref.ensures.value c.in-Ok-write_all.ensures.ok)

pub returns-in-Ok-write_all-clause-loads_before : goal.returns-in-Ok-write_all-clause-loads_before
returns-in-Ok-write_all-clause-loads_before g c = λ done is.
    let sent = λ (text : List ℕ). Appends (g.K.Sink.taken c.args.sink.now) (g.K.Sink.taken c.write_all.new.sink) text in
    prints_loads c.in-Some.command (g.S.Source.left c.args.source.now) (g.K.Sink.taken c.args.sink.now) (g.K.Sink.taken c.write_all.new.sink) c.in-Ok.output.legal c.in-Ok.output.text.items (Some-inj (c.in-Some.ensures.command ∙ is))
    c.in-Ok.ensures.output (subst sent c.deref.ensures.value c.in-Ok-write_all.ensures.ok)

pub returns-in-Ok-write_all-clause-slots_vacated : goal.returns-in-Ok-write_all-clause-slots_vacated
returns-in-Ok-write_all-clause-slots_vacated g c = λ done is.
    let sent = λ (text : List ℕ). Appends (g.K.Sink.taken c.args.sink.now) (g.K.Sink.taken c.write_all.new.sink) text in
    prints_slots c.in-Some.command (g.S.Source.left c.args.source.now) (g.K.Sink.taken c.args.sink.now) (g.K.Sink.taken c.write_all.new.sink) c.in-Ok.output.legal c.in-Ok.output.text.items (Some-inj (c.in-Some.ensures.command ∙ is))
    c.in-Ok.ensures.output (subst sent c.deref.ensures.value c.in-Ok-write_all.ensures.ok)

pub returns-in-Ok-write_all-clause-entries_given_back : goal.returns-in-Ok-write_all-clause-entries_given_back
returns-in-Ok-write_all-clause-entries_given_back g c = λ done is.
    let sent = λ (text : List ℕ). Appends (g.K.Sink.taken c.args.sink.now) (g.K.Sink.taken c.write_all.new.sink) text in
    prints_entries c.in-Some.command (g.S.Source.left c.args.source.now) (g.K.Sink.taken c.args.sink.now) (g.K.Sink.taken c.write_all.new.sink) c.in-Ok.output.legal c.in-Ok.output.text.items (Some-inj (c.in-Some.ensures.command ∙ is))
    c.in-Ok.ensures.output (subst sent c.deref.ensures.value c.in-Ok-write_all.ensures.ok)

pub returns-in-Ok-write_all-clause-none_claimed : goal.returns-in-Ok-write_all-clause-none_claimed
returns-in-Ok-write_all-clause-none_claimed g c = λ done is.
    let sent = λ (text : List ℕ). Appends (g.K.Sink.taken c.args.sink.now) (g.K.Sink.taken c.write_all.new.sink) text in
    prints_no_claim c.in-Some.command (g.S.Source.left c.args.source.now) (g.K.Sink.taken c.args.sink.now) (g.K.Sink.taken c.write_all.new.sink) c.in-Ok.output.legal c.in-Ok.output.text.items (Some-inj (c.in-Some.ensures.command ∙ is))
    c.in-Ok.ensures.output (subst sent c.deref.ensures.value c.in-Ok-write_all.ensures.ok)

pub returns-in-Ok-write_all-clause-leaves_nothing : goal.returns-in-Ok-write_all-clause-leaves_nothing
returns-in-Ok-write_all-clause-leaves_nothing g c = λ done is.
    let sent = λ (text : List ℕ). Appends (g.K.Sink.taken c.args.sink.now) (g.K.Sink.taken c.write_all.new.sink) text in
    prints_leaves c.in-Some.command (g.S.Source.left c.args.source.now) (g.K.Sink.taken c.args.sink.now) (g.K.Sink.taken c.write_all.new.sink) c.in-Ok.output.legal c.in-Ok.output.text.items (Some-inj (c.in-Some.ensures.command ∙ is))
    c.in-Ok.ensures.output (subst sent c.deref.ensures.value c.in-Ok-write_all.ensures.ok)

pub returns-in-Ok-write_all-clause-replays_are_legal : goal.returns-in-Ok-write_all-clause-replays_are_legal
returns-in-Ok-write_all-clause-replays_are_legal g c = λ is events had read wrote.
    let sent = λ (text : List ℕ). Appends (g.K.Sink.taken c.args.sink.now) (g.K.Sink.taken c.write_all.new.sink) text in
    let told = told_legal (g.S.Source.left c.args.source.now) events had c.in-Some.command (Some-inj (c.in-Some.ensures.command ∙ is)) c.in-Ok.output.legal c.in-Ok.output.text.items c.in-Ok.ensures.output in
    inl (c.ended.ensures ∙ ap (λ (b : Bool). number_of (ended b)) told.0, subst sent (c.deref.ensures.value ∙ told.1) c.in-Ok-write_all.ensures.ok)

pub returns-in-Ok-refused_line-clause-replays_are_legal : goal.returns-in-Ok-refused_line-clause-replays_are_legal
returns-in-Ok-refused_line-clause-replays_are_legal g c = λ is events had read wrote.
    let cause = rw c.in-Err-Refused.field-0-is at c.in-Err-Refused.ensures.fault in
    absurd (not_refused (g.S.Source.left c.args.source.now) events had c.in-Some.command (Some-inj (c.in-Some.ensures.command ∙ is)) c.in-Err-Refused.line c.in-Err-Refused.why cause.0)

pub returns-in-Ok-write_all-clause-refuses : goal.returns-in-Ok-write_all-clause-refuses
returns-in-Ok-write_all-clause-refuses g c = λ unserved read.
    let left = g.S.Source.left c.args.source.now in
    let asked = asked_of (command_of c.args.words.now) c.in-Some.command (λ (x : Command). IsUnservedInput x left) c.in-Some.ensures.command unserved in
    absurd (gives_nothing c.in-Some.command left c.in-Ok.output.legal c.in-Ok.output.text.items c.in-Ok.ensures.output asked)

pub returns-in-Ok-clause-refuses : goal.returns-in-Ok-clause-refuses
returns-in-Ok-clause-refuses g c = λ unserved read.
    let left = g.S.Source.left c.args.source.now in
    let asked = asked_of (command_of c.args.words.now) c.in-Some.command (λ (x : Command). IsUnservedInput x left) c.in-Some.ensures.command unserved in
    absurd (gives_nothing c.in-Some.command left c.in-Ok.output.legal c.in-Ok.output.text.items c.in-Ok.ensures.output asked)
