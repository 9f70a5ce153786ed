-- What a line's first word says, and where it may stand.
use Rattle.std.specs.Prelude.{ℕ, Bool, true, false, not, ◌&&◌, ◌||◌, List, ◌==◌, if◌then◌else◌, Option, Some, None, bytes_eq, codes}
use Rattle.arc_script.specs.declared.keyword.PairWord.TheVariants as pair
use Rattle.arc_script.specs.declared.keyword.BlockWord.TheVariants as block
use Rattle.arc_script.specs.declared.keyword.Keyword.{Keyword}
use Rattle.arc_script.specs.declared.keyword.Keyword.TheVariants as word
use Rattle.arc_script.specs.declared.keyword.Place.{Place}
use Rattle.arc_script.specs.declared.keyword.Place.TheVariants as behind

abbrev pub keyword_of : List ℕ → Option Keyword
keyword_of w =
    if bytes_eq w (codes "arc") then Some word.Arc else
    if bytes_eq w (codes "slots") then Some word.Slots else
    if bytes_eq w (codes "entries") then Some word.Entries else
    if bytes_eq w (codes "caps") then Some word.Caps else
    if bytes_eq w (codes "class") then Some word.Class else
    if bytes_eq w (codes "immortal") then Some word.Immortal else
    if bytes_eq w (codes "global") then Some word.Global else
    if bytes_eq w (codes "thread") then Some word.Thread else
    if bytes_eq w (codes "var") then Some word.Var else
    if bytes_eq w (codes "new") then Some word.New else
    if bytes_eq w (codes "drop") then Some word.Drop else
    if bytes_eq w (codes "copy") then Some (word.Pair pair.Copy) else
    if bytes_eq w (codes "move") then Some (word.Pair pair.Move) else
    if bytes_eq w (codes "unown") then Some (word.Pair pair.Unown) else
    if bytes_eq w (codes "weak") then Some (word.Pair pair.Weak) else
    if bytes_eq w (codes "load") then Some (word.Pair pair.Load) else
    if bytes_eq w (codes "get") then Some word.Get else
    if bytes_eq w (codes "set") then Some word.Set else
    if bytes_eq w (codes "ifnil") then Some (word.Block block.IfNil) else
    if bytes_eq w (codes "ifsome") then Some (word.Block block.IfSome) else
    if bytes_eq w (codes "end") then Some word.End else
    if bytes_eq w (codes "phase") then Some word.Phase else
    if bytes_eq w (codes "schedule") then Some word.Schedule else
    if bytes_eq w (codes "done") then Some word.Done else None

-- a thread is open, to which variables or operations may be added
abbrev pub is_open : Place → Bool
is_open behind.Thread = true
is_open behind.Operation = true
is_open p = false

-- the entries are known, and no class or global was declared
abbrev pub has_caps : Place → Bool
has_caps behind.Entries = true
has_caps behind.Caps = true
has_caps p = false

abbrev pub takes_class : Place → Bool
takes_class behind.Class = true
takes_class p = has_caps p

abbrev pub takes_global : Place → Bool
takes_global behind.Global = true
takes_global p = takes_class p

-- where a heading has its last line or a thread is open
abbrev pub takes_thread : Place → Bool
takes_thread behind.Thread = true
takes_thread behind.Operation = true
takes_thread p = takes_global p

abbrev pub takes_end : Place → Bool
takes_end behind.Schedule = true
takes_end p = takes_thread p

abbrev pub is_start : Place → Bool
is_start behind.Start = true
is_start p = false

abbrev pub is_version : Place → Bool
is_version behind.Version = true
is_version p = false

abbrev pub is_slots : Place → Bool
is_slots behind.Slots = true
is_slots p = false

abbrev pub is_entries : Place → Bool
is_entries behind.Entries = true
is_entries p = false

abbrev pub is_class : Place → Bool
is_class behind.Class = true
is_class p = false

abbrev pub is_thread : Place → Bool
is_thread behind.Thread = true
is_thread p = false

-- lines that begin so are of version 2 alone
abbrev pub is_later : Keyword → Bool
is_later word.Immortal = true
is_later (word.Block w) = true
is_later word.End = true
is_later k = false

-- a line that begins so may come behind that line, where its version has such lines
abbrev pub comes : Place → Keyword → Bool
comes p word.Arc = is_start p
comes p word.Slots = is_version p
comes p word.Entries = is_slots p
comes p word.Caps = is_entries p
comes p word.Class = takes_class p
comes p word.Immortal = takes_class p
comes p word.Global = takes_global p
comes p word.Thread = takes_thread p
comes p word.Var = is_thread p
comes p word.New = is_open p
comes p word.Drop = is_open p
comes p (word.Pair w) = is_open p
comes p word.Get = is_open p
comes p word.Set = is_open p
comes p (word.Block w) = is_open p
comes p word.End = not (is_start p)
comes p word.Phase = is_open p
comes p word.Schedule = takes_end p
comes p word.Done = takes_end p

abbrev pub stands : ℕ → Place → Keyword → Bool
stands version p k = not (is_later k && not (version == 2)) && comes p k

abbrev pub is_heading_word : Keyword → Bool
is_heading_word word.Slots = true
is_heading_word word.Entries = true
is_heading_word word.Caps = true
is_heading_word word.Class = true
is_heading_word word.Immortal = true
is_heading_word word.Global = true
is_heading_word k = false
