-- What the word of an event says.
use Rattle.std.specs.Prelude.{ℕ, List, if◌then◌else◌, Option, Some, None, bytes_eq, codes}
use Rattle.arc_check.specs.declared.word.EventWord.{EventWord}
use Rattle.arc_check.specs.declared.word.EventWord.TheVariants as word

abbrev pub event_word_of : List ℕ → Option EventWord
event_word_of w =
    if bytes_eq w (codes "new") then Some word.New else
    if bytes_eq w (codes "full") then Some word.Full else
    if bytes_eq w (codes "copy") then Some word.Copy else
    if bytes_eq w (codes "unown") then Some word.Unown else
    if bytes_eq w (codes "weak") then Some word.Weak else
    if bytes_eq w (codes "load") then Some word.Load else
    if bytes_eq w (codes "drop") then Some word.Drop else
    if bytes_eq w (codes "countfull") then Some word.CountFull else
    if bytes_eq w (codes "claim") then Some word.Claim else
    if bytes_eq w (codes "noentry") then Some word.NoEntry else
    if bytes_eq w (codes "side") then Some word.Side else
    if bytes_eq w (codes "back") then Some word.Back else
    if bytes_eq w (codes "swap") then Some word.Swap else
    if bytes_eq w (codes "look") then Some word.Look else
    if bytes_eq w (codes "take") then Some word.Take else
    if bytes_eq w (codes "finish") then Some word.Finish else
    if bytes_eq w (codes "vacate") then Some word.Vacate else
    if bytes_eq w (codes "gone") then Some word.Gone else None
