-- A stepper between phases, whose pass takes in what others had seen; and notes of passes that were taken in.
use Rattle.std.proofs.Common.{◌≡◌, ℕ, [], refl, sym, ap, ◌∙◌, subst}
use Rattle.arc_model.specs.History.{History, share}
use Rattle.arc_spelling.specs.SpellingTies.{Ties}
use Rattle.arc_spelling.specs.SpellingTies.Causes.{Judged}
use Rattle.arc_spelling.proofs.SpellTies.{ties_others}
use Rattle.arc_programs.specs.ProgramsTied.{hands_in}
use Rattle.arc_spelled.specs.Came.{Extends}
use Rattle.arc_spelled.proofs.MoreKnown.{more_is_known}
use Rattle.arc_view.proofs.Lists.{others_came}
use Rattle.arc_view_laws.proofs.Moving.{called_follows}
use Rattle.arc_ops_passes.specs.References.{references}
use Rattle.arc_ops_passes.specs.Drives.{IsFree, ComesOfClass, UnderWay}
use Rattle.arc_ops_passes.specs.Laws.{SteppersMeet, NotesAreTakenIn, HandsAreTakenIn}
use Rattle.arc_ops_passes.proofs.Hands.{others_bring_none}
use Rattle.arc_ops_passes.proofs.Goes.{known, owns_still, owes_still, claims_still, classed_still}

pub steppers_meet : SteppersMeet
steppers_meet w t v v' n d ready c works =
    let f = called_follows w.shape [] n v v' c in
    let others : share f.rest w.thread ≡ [] = ap (share f.rest) (sym d.number) ∙ f.mine in
    let free : IsFree v = subst (UnderWay w.shape v d.chain) ready d.under_way in
    let extends : Extends (hands_in v.number v.seen) (hands_in v'.number v'.seen) = subst (λ (x : ℕ × History). Extends (hands_in v.number v.seen) (hands_in x.0 x.1)) (λ j. (sym f.number j, sym f.is j))
    (λ k r is. others_bring_none v.number f.rest v.seen k f.mine ∙ is) in record {
      pass = c.grew.role ∙ d.pass;
      number = c.grew.number ∙ d.number;
      legal = c.legal;
      in_shape = c.in_shape;
      notes = d.notes;
      chain = d.chain;
      stands = more_is_known (known v w) (hands_in v'.number v'.seen) t d.chain d.notes d.stands extends;
      tied = subst (Ties Judged w.shape w.thread d.notes) (sym f.is) (ties_others Judged w.shape w.thread d.notes v.seen f.rest others d.tied);
      count = d.count;
      owns = owns_still w.shape n v v' t.hands (references t.vars t.hands t.doing) (references t.vars t.hands t.doing) c d.owns (λ g. refl);
      classed = classed_still w.shape n w.classes v v' t.vars c d.classed;
      coming = subst (ComesOfClass w.classes v') (sym ready) tt;
      no_claim = claims_still w.shape n v v' c d.no_claim;
      asks = d.asks;
      under_way = subst (UnderWay w.shape v' d.chain) (sym ready) (record { working = works ∙ free.working; none = owes_still w.shape n v v' c free.none });
    }

pub notes_are_taken_in : NotesAreTakenIn
notes_are_taken_in shape p notes v u v' tied number t =
    let rest = t.takes.0 in
    let others : share rest p ≡ [] = ap (share rest) (sym number) ∙ others_came u.number v'.seen u.seen rest t.takes.1 t.other in
    subst (Ties Judged shape p notes) (sym t.takes.1) (ties_others Judged shape p notes u.seen rest others tied)

pub hands_are_taken_in : HandsAreTakenIn
hands_are_taken_in shape p v u v' number t =
    let rest = t.takes.0 in
    let others : share rest p ≡ [] = ap (share rest) (sym number) ∙ others_came u.number v'.seen u.seen rest t.takes.1 t.other in
    λ k r is. ap (λ (h : History). hands_in p h k) t.takes.1 ∙ (others_bring_none p rest u.seen k others ∙ is)
