-- A line with a wrong number of words.
use Rattle.std.proofs.Common.{◌≡◌, ◌≢◌, ℕ, ◌<◌, List, [], ◌∷◌, length, map, Err, refl, arith}
use Rattle.arc_script.specs.declared.reason.Reason.TheVariants as why
use Rattle.arc_check.specs.declared.word.EventWord.{EventWord}
use Rattle.arc_check.specs.declared.word.EventWord.TheVariants as word
use Rattle.arc_check.specs.Scopes.{Naming}
use Rattle.arc_check.specs.EventForms.{act_of, event_line}

pub few_words : {B : Type 0} (scope : Naming) (step : List ℕ) (f : B → List ℕ) (ws : List B) → length ws < 2 → Err why.WordCount ≡ event_line scope step (map f ws)
few_words scope step f [] h = refl
few_words scope step f (w ∷ []) h = refl
few_words scope step f (w ∷ v ∷ ws) h = absurd (omega arith)

-- how many words stand behind an event word
abbrev pub count : EventWord → ℕ
count word.New = 3
count word.Full = 0
count word.Copy = 2
count word.Unown = 2
count word.Weak = 2
count word.Load = 2
count word.Drop = 2
count word.CountFull = 2
count word.Claim = 1
count word.NoEntry = 0
count word.Side = 3
count word.Back = 1
count word.Swap = 3
count word.Look = 1
count word.Take = 2
count word.Finish = 2
count word.Vacate = 1
count word.Gone = 2

pub wrong_count : {B : Type 0} (scope : Naming) (f : B → List ℕ) (w : EventWord) (ws : List B) → length ws ≢ count w → Err why.WordCount ≡ act_of scope w (map f ws)
wrong_count scope f word.New [] h = refl
wrong_count scope f word.New (a ∷ []) h = refl
wrong_count scope f word.New (a ∷ b ∷ []) h = refl
wrong_count scope f word.New (a ∷ b ∷ c ∷ []) h = absurd (h refl)
wrong_count scope f word.New (a ∷ b ∷ c ∷ d ∷ ws) h = refl
wrong_count scope f word.Full [] h = absurd (h refl)
wrong_count scope f word.Full (a ∷ ws) h = refl
wrong_count scope f word.Copy [] h = refl
wrong_count scope f word.Copy (a ∷ []) h = refl
wrong_count scope f word.Copy (a ∷ b ∷ []) h = absurd (h refl)
wrong_count scope f word.Copy (a ∷ b ∷ c ∷ ws) h = refl
wrong_count scope f word.Unown [] h = refl
wrong_count scope f word.Unown (a ∷ []) h = refl
wrong_count scope f word.Unown (a ∷ b ∷ []) h = absurd (h refl)
wrong_count scope f word.Unown (a ∷ b ∷ c ∷ ws) h = refl
wrong_count scope f word.Weak [] h = refl
wrong_count scope f word.Weak (a ∷ []) h = refl
wrong_count scope f word.Weak (a ∷ b ∷ []) h = absurd (h refl)
wrong_count scope f word.Weak (a ∷ b ∷ c ∷ ws) h = refl
wrong_count scope f word.Load [] h = refl
wrong_count scope f word.Load (a ∷ []) h = refl
wrong_count scope f word.Load (a ∷ b ∷ []) h = absurd (h refl)
wrong_count scope f word.Load (a ∷ b ∷ c ∷ ws) h = refl
wrong_count scope f word.Drop [] h = refl
wrong_count scope f word.Drop (a ∷ []) h = refl
wrong_count scope f word.Drop (a ∷ b ∷ []) h = absurd (h refl)
wrong_count scope f word.Drop (a ∷ b ∷ c ∷ ws) h = refl
wrong_count scope f word.CountFull [] h = refl
wrong_count scope f word.CountFull (a ∷ []) h = refl
wrong_count scope f word.CountFull (a ∷ b ∷ []) h = absurd (h refl)
wrong_count scope f word.CountFull (a ∷ b ∷ c ∷ ws) h = refl
wrong_count scope f word.Claim [] h = refl
wrong_count scope f word.Claim (a ∷ []) h = absurd (h refl)
wrong_count scope f word.Claim (a ∷ b ∷ ws) h = refl
wrong_count scope f word.NoEntry [] h = absurd (h refl)
wrong_count scope f word.NoEntry (a ∷ ws) h = refl
wrong_count scope f word.Side [] h = refl
wrong_count scope f word.Side (a ∷ []) h = refl
wrong_count scope f word.Side (a ∷ b ∷ []) h = refl
wrong_count scope f word.Side (a ∷ b ∷ c ∷ []) h = absurd (h refl)
wrong_count scope f word.Side (a ∷ b ∷ c ∷ d ∷ ws) h = refl
wrong_count scope f word.Back [] h = refl
wrong_count scope f word.Back (a ∷ []) h = absurd (h refl)
wrong_count scope f word.Back (a ∷ b ∷ ws) h = refl
wrong_count scope f word.Swap [] h = refl
wrong_count scope f word.Swap (a ∷ []) h = refl
wrong_count scope f word.Swap (a ∷ b ∷ []) h = refl
wrong_count scope f word.Swap (a ∷ b ∷ c ∷ []) h = absurd (h refl)
wrong_count scope f word.Swap (a ∷ b ∷ c ∷ d ∷ ws) h = refl
wrong_count scope f word.Look [] h = refl
wrong_count scope f word.Look (a ∷ []) h = absurd (h refl)
wrong_count scope f word.Look (a ∷ b ∷ ws) h = refl
wrong_count scope f word.Take [] h = refl
wrong_count scope f word.Take (a ∷ []) h = refl
wrong_count scope f word.Take (a ∷ b ∷ []) h = absurd (h refl)
wrong_count scope f word.Take (a ∷ b ∷ c ∷ ws) h = refl
wrong_count scope f word.Finish [] h = refl
wrong_count scope f word.Finish (a ∷ []) h = refl
wrong_count scope f word.Finish (a ∷ b ∷ []) h = absurd (h refl)
wrong_count scope f word.Finish (a ∷ b ∷ c ∷ ws) h = refl
wrong_count scope f word.Vacate [] h = refl
wrong_count scope f word.Vacate (a ∷ []) h = absurd (h refl)
wrong_count scope f word.Vacate (a ∷ b ∷ ws) h = refl
wrong_count scope f word.Gone [] h = refl
wrong_count scope f word.Gone (a ∷ []) h = refl
wrong_count scope f word.Gone (a ∷ b ∷ []) h = absurd (h refl)
wrong_count scope f word.Gone (a ∷ b ∷ c ∷ ws) h = refl
