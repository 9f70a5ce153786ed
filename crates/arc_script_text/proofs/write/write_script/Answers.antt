use Rattle.std.proofs.Common.{[], ◌∷◌, codes, rules}
use Rattle.arc_script.specs.Canonical.{numbers_line, heading_lines, threads_lines, schedule_lines}
use Rattle.arc_script_text.proofs.Joined.{joined}
use Rattle.arc_script_text.proofs.write.write_script.Goals as goal

pub returns : goal.returns
returns c =
    let s = c.args.script.now in
    joined (numbers_line (codes "arc") (s.version ∷ [])) (heading_lines s.shape s.classes s.globals) (threads_lines s.classes s.globals 1 s.threads) (schedule_lines s.schedule) (codes "done" ∷ [])
    c.put_numbers.new.out.items c.put_heading.new.out.items c.put_threads.new.out.items c.put_schedule.new.out.items c.put_line.new.out.items
    (search rules) (search rules) (search rules) (search rules) (search rules)
