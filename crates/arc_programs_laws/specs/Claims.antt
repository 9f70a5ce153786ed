-- Entries that are claimed when every program has come to its end: none.
use Rattle.std.specs.Prelude.{ℕ, false, ◌≡◌}
use Rattle.arc_model.specs.Heaps.{Heap}
use Rattle.arc_model.specs.Holders.{is_claimed_by}
use Rattle.arc_model.specs.History.{History, heap_after, IsLegal}
use Rattle.arc_spelling.specs.SpellingTies.{Causes}
use Rattle.arc_script.specs.declared.script.Script.{Script}
use Rattle.arc_script.specs.Valid.{IsScript}
use Rattle.arc_quiet.specs.Whole.{AllFinish, NoOtherThread}

-- no thread has claimed an entry
abbrev pub NoEntryIsClaimed : Heap → Type 0
NoEntryIsClaimed heap = (p e : ℕ) → is_claimed_by p e heap ≡ false

-- Where all threads of a script have their programs, no entry is claimed in the end.
abbrev pub ClaimsEnd : Type 0
ClaimsEnd = (causes : Causes) (script : Script) (h : History) → IsScript script → IsLegal script.shape h → AllFinish causes script h → NoOtherThread script h → NoEntryIsClaimed (heap_after h)
