-- What the act of each call doesn't spend: so what a pass has still after the call.
use Rattle.std.specs.Prelude.{⊤}
use Rattle.std.proofs.Common.{◌≡◌, ◌≢◌, ℕ, false, Option, refl, sym, ne_eqb}
use Rattle.arc_model.specs.declared.event.Act.{Act}
use Rattle.arc_model.specs.declared.shape.Kind.{Kind}
use Rattle.arc_model.specs.Heaps.{Deinit, Vacating}
use Rattle.arc_table.specs.declared.tokens.Strong.{Strong as Token}
use Rattle.arc_table.specs.declared.tokens.Any.{Any}
use Rattle.arc_table.specs.declared.tokens.Any.TheVariants as anys
use Rattle.arc_table.specs.declared.tokens.Made.{Made}
use Rattle.arc_table.specs.declared.tokens.Made.TheVariants as made
use Rattle.arc_table.specs.declared.tokens.Up.{Up}
use Rattle.arc_table.specs.declared.tokens.Up.TheVariants as ups
use Rattle.arc_table.specs.declared.tokens.Dying.{Dying}
use Rattle.arc_table.specs.declared.tokens.Release.{Release}
use Rattle.arc_table.specs.declared.tokens.Release.TheVariants as releases
use Rattle.arc_table.specs.declared.tokens.Swapped.{Swapped}
use Rattle.arc_table.specs.declared.tokens.Swapped.TheVariants as swaps
use Rattle.arc_table.specs.declared.ends.Finish.{Finish}
use Rattle.arc_table.specs.declared.ends.Finish.TheVariants as finishes
use Rattle.arc_table.specs.Tokens.{hand_of, up_act, made_act, release_act}
use Rattle.arc_table.specs.Cells.{swap_act}
use Rattle.arc_table.specs.Ends.{finish_act}
use Rattle.arc_table.specs.Possessions.{reference, duty, spends}

-- the act spends no reference, no deinit, no vacating
abbrev pub SparesReferences : Option Act → Type 0
SparesReferences act = (k : ℕ) (kind : Kind) → spends act (reference k kind) ≡ false

abbrev pub SparesDeinits : Option Act → Type 0
SparesDeinits act = (s : ℕ) → spends act (duty Deinit s) ≡ false

abbrev pub SparesVacatings : Option Act → Type 0
SparesVacatings act = (s : ℕ) → spends act (duty Vacating s) ≡ false

-- a retain and a new object spend none of them
pub up_spares : (of : Token) (r : Up Token) → SparesReferences (up_act of r) × SparesDeinits (up_act of r) × SparesVacatings (up_act of r)
up_spares of (ups.Ok t) = (λ k kind. refl, λ s. refl, λ s. refl)
up_spares of ups.AtCap = (λ k kind. refl, λ s. refl, λ s. refl)
up_spares of ups.CountFull = (λ k kind. refl, λ s. refl, λ s. refl)
up_spares of (ups.Again c) = (λ k kind. refl, λ s. refl, λ s. refl)

pub made_spares : (class : ℕ) (r : Made) → SparesReferences (made_act class r) × SparesDeinits (made_act class r) × SparesVacatings (made_act class r)
made_spares class (made.Ok t) = (λ k kind. refl, λ s. refl, λ s. refl)
made_spares class made.NoSlot = (λ k kind. refl, λ s. refl, λ s. refl)
made_spares class (made.Again c) = (λ k kind. refl, λ s. refl, λ s. refl)

-- a release spends its reference alone
pub release_spares : (held : Token) (r : Release) → ((k : ℕ) (kind : Kind) → k ≢ hand_of held → spends (release_act held r) (reference k kind) ≡ false) × SparesDeinits (release_act held r) × SparesVacatings (release_act held r)
release_spares held releases.More = (λ k kind other. ne_eqb (hand_of held) k (λ e. other (sym e)), λ s. refl, λ s. refl)
release_spares held (releases.Last d) = (λ k kind other. ne_eqb (hand_of held) k (λ e. other (sym e)), λ s. refl, λ s. refl)
release_spares held (releases.Again t c) = (λ k kind other. refl, λ s. refl, λ s. refl)

-- the end of a deinit spends that deinit alone
pub finish_spares : (d : Dying) (r : Finish) → SparesReferences (finish_act d r) × ((s : ℕ) → s ≢ d.slot → spends (finish_act d r) (duty Deinit s) ≡ false) × SparesVacatings (finish_act d r)
finish_spares d finishes.More = (λ k kind. refl, λ s other. ne_eqb s d.slot other, λ s. refl)
finish_spares d (finishes.Last f) = (λ k kind. refl, λ s other. ne_eqb s d.slot other, λ s. refl)
finish_spares d (finishes.Again t c) = (λ k kind. refl, λ s other. refl, λ s. refl)

-- an exchange spends what was put in alone
abbrev pub IsUnput : Any → ℕ → Type 0
IsUnput anys.Nil k = ⊤
IsUnput (anys.Strong t) k = k ≢ hand_of t

pub swap_spares : (g : ℕ) (put : Any) (r : Swapped) → ((k : ℕ) (kind : Kind) → IsUnput put k → spends (swap_act g put r) (reference k kind) ≡ false) × SparesDeinits (swap_act g put r) × SparesVacatings (swap_act g put r)
swap_spares g anys.Nil (swaps.Ok got) = (λ k kind other. refl, λ s. refl, λ s. refl)
swap_spares g (anys.Strong t) (swaps.Ok got) = (λ k kind other. ne_eqb (hand_of t) k (λ e. other (sym e)), λ s. refl, λ s. refl)
swap_spares g put (swaps.Busy back) = (λ k kind other. refl, λ s. refl, λ s. refl)
swap_spares g put (swaps.Again back c) = (λ k kind other. refl, λ s. refl, λ s. refl)
