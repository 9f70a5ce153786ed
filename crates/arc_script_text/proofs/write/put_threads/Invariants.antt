use Rattle.std.proofs.Common.{◌≡◌, ◌+◌, ◌++◌, drop}
use Rattle.arc_script.specs.Canonical.{text_of, threads_lines}
use Rattle.arc_script_text.proofs.write.put_threads.Given as goal

abbrev pub invariant-loop-thread : goal.invariant-loop-thread
invariant-loop-thread l = record {
  text : l.out.items ++ text_of (threads_lines l.classes l.globals l.number (drop l.thread-index l.threads)) ≡ l.fn.out.items ++ text_of (threads_lines l.classes l.globals 1 l.threads);
  next : l.number ≡ l.thread-index + 1;
}
