-- The steps by which the object is made and counted inline go as they are written.
use Rattle.std.proofs.Common.{◌≡◌, refl, false, inl, inr}
use Rattle.arc_model.specs.declared.shape.Kind.TheVariants as kinds
use Rattle.arc_rule.specs.declared.layout.Place.TheVariants.{Count, Isa, SlotBits}
use Rattle.arc_bits.specs.Words.{unpacked}
use Rattle.arc_rule.specs.Places.{place_at}
use Rattle.arc_view.specs.Views.{first_view}
use Rattle.arc_life.specs.declared.life.TheConstants.{BORN}
use Rattle.arc_life.specs.Alone.{IsAlone, GoesAs, after_all}
use Rattle.arc_life.specs.Life.{life_shape, after_born}
use Rattle.arc_life.proofs.BitWords.{slots_read, shows_0, shows_1}
use Rattle.arc_life.proofs.Witness.{le, counts, word, strong_not_weak, unowned_not_weak, unowned_not_strong, never}

pub born_goes : GoesAs life_shape first_view BORN
unfolding place_at unpacked
born_goes = (
  (SlotBits 0, refl, le refl, refl, (0, refl, le refl, refl, le refl, le refl)),
  (SlotBits 0, le refl, refl, (λ n r. slots_read (shows_0 3 (le refl)) refl refl refl r)),
  refl,
  (
    (Count 0, refl, le refl, (_, _, refl, refl, inl (refl, refl, refl))),
    refl,
    refl,
    (
      (Isa 0, refl, le refl, (_, _, refl, refl, inr (refl, refl, refl))),
      refl,
      refl,
      (
        (SlotBits 0, refl, le refl, refl, tt, tt),
        (SlotBits 0, le refl, refl, (λ n r. slots_read (shows_1 3 (le refl)) refl refl refl r)),
        refl,
        (
          (Isa 0, refl, le refl, refl, (0, _, refl, refl, inl (1, refl)), tt),
          (Isa 0, le refl, refl, (λ n r. r.says never)),
          refl,
          (
            (Count 0, refl, le refl, refl, (0, _, refl, refl, inl (1, kinds.Strong, refl, strong_not_weak)), tt),
            (Count 0, le refl, refl, (λ n r. (r.says never).0)),
            refl,
            (
              (Count 0, refl, le refl, refl, (kinds.Strong, 0, _, (refl, tt), refl, refl, (counts 0 1 false, word 0 1 false refl refl refl, refl, le refl, refl))),
              (Count 0, le refl, refl, (λ n r. (r.says never).0)),
              refl,
              (
                (Count 0, refl, le refl, refl, (0, _, refl, refl, inl (1, kinds.Strong, refl, strong_not_weak)), tt),
                (Count 0, le refl, refl, (λ n r. (r.says never).0)),
                refl,
                (
                  (Count 0, refl, le refl, refl, (kinds.Strong, 0, _, refl, refl, refl, refl, (counts 1 1 false, word 1 1 false refl refl refl, refl, refl))),
                  (Count 0, le refl, refl, (λ n r. (r.says never).0)),
                  refl,
                  (
                    (Count 0, refl, le refl, refl, (0, _, refl, refl, inl (1, kinds.Strong, refl, strong_not_weak)), tt),
                    (Count 0, le refl, refl, (λ n r. (r.says never).0)),
                    refl,
                    (
                      (Count 0, refl, le refl, refl, (kinds.Strong, 0, _, (refl, tt), refl, refl, (counts 0 2 false, word 0 2 false refl refl refl, refl, le refl, refl))),
                      (Count 0, le refl, refl, (λ n r. (r.says never).0)),
                      refl,
                      (
                        (Count 0, refl, le refl, refl, (0, _, refl, refl, inl (1, kinds.Strong, refl, strong_not_weak)), tt),
                        (Count 0, le refl, refl, (λ n r. (r.says never).0)),
                        refl,
                        (
                          (Count 0, refl, le refl, refl, (0, _, refl, refl, refl, (counts 0 1 false, word 0 1 false refl refl refl, le refl, refl))),
                          (Count 0, le refl, refl, (λ n r. (r.says never).0)),
                          refl,
                          (
                            (Count 0, refl, le refl, refl, (0, _, refl, refl, inl (1, kinds.Strong, refl, strong_not_weak)), tt),
                            (Count 0, le refl, refl, (λ n r. (r.says never).0)),
                            refl,
                            (
                              (Count 0, refl, le refl, refl, (kinds.Unowned, 0, _, refl, unowned_not_strong, (λ s e. unowned_not_weak), refl, refl, (counts 0 2 false, word 0 2 false refl refl refl, refl, le refl, refl))),
                              (Count 0, le refl, refl, (λ n r. (r.says never).0)),
                              refl,
                              (
                                (Count 0, refl, le refl, refl, (0, _, refl, refl, inl (1, kinds.Strong, refl, strong_not_weak)), tt),
                                (Count 0, le refl, refl, (λ n r. (r.says never).0)),
                                refl,
                                (
                                  (Count 0, refl, le refl, refl, (kinds.Unowned, 0, _, refl, refl, refl, refl, (counts 1 2 false, word 1 2 false refl refl refl, le refl, refl))),
                                  (Count 0, le refl, refl, (λ n r. (r.says never).0)),
                                  refl,
                                  (
                                    (Count 0, refl, le refl, refl, (0, _, refl, refl, inl (1, kinds.Strong, refl, strong_not_weak)), tt),
                                    (Count 0, le refl, refl, (λ n r. (r.says never).0)),
                                    refl,
                                    (
                                      (Count 0, refl, le refl, refl, (0, _, refl, refl, refl, (counts 1 1 false, word 1 1 false refl refl refl, le refl, refl))),
                                      (Count 0, le refl, refl, (λ n r. (r.says never).0)),
                                      refl,
                                      (
                                        (Count 0, refl, le refl, refl, (0, _, refl, refl, inl (1, kinds.Strong, refl, strong_not_weak)), tt),
                                        (Count 0, le refl, refl, (λ n r. (r.says never).0)),
                                        refl,
                                        tt,
                                      ),
                                    ),
                                  ),
                                ),
                              ),
                            ),
                          ),
                        ),
                      ),
                    ),
                  ),
                ),
              ),
            ),
          ),
        ),
      ),
    ),
  ),
)

pub born_is : after_all life_shape first_view BORN ≡ after_born
unfolding after_born
born_is = refl

-- nobody else had a part before
pub alone_before : IsAlone first_view
alone_before = record { first = refl; only = refl; up_to_date = refl }
