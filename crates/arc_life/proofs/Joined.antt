-- The steps by which two other objects are made, one of them immortal, go as they are written.
use Rattle.std.proofs.Common.{◌≡◌, refl, inl, inr}
use Rattle.arc_model.specs.declared.shape.Kind.TheVariants as kinds
use Rattle.arc_rule.specs.declared.layout.Place.TheVariants.{Count, Isa, SlotBits}
use Rattle.arc_bits.specs.Words.{unpacked}
use Rattle.arc_rule.specs.Places.{place_at}
use Rattle.arc_life.specs.declared.life.TheConstants.{JOINED}
use Rattle.arc_life.specs.Alone.{IsAlone, GoesAs, after_all}
use Rattle.arc_life.specs.Life.{life_shape, after_born, after_migrated, after_counted, after_joined}
use Rattle.arc_life.proofs.BitWords.{slots_read, shows_1, shows_3, shows_7}
use Rattle.arc_life.proofs.Witness.{le, strong_not_weak, never}

pub joined_goes : GoesAs life_shape after_counted JOINED
unfolding place_at unpacked after_born after_migrated after_counted
joined_goes = (
  (SlotBits 0, refl, le refl, refl, (1, refl, le refl, refl, le refl, le refl)),
  (SlotBits 0, le refl, refl, (λ n r. slots_read (shows_1 3 (le refl)) refl refl refl r)),
  refl,
  (
    (Count 1, refl, le refl, (_, _, refl, refl, inl (refl, refl, refl))),
    refl,
    refl,
    (
      (Isa 1, refl, le refl, (_, _, refl, refl, inr (refl, refl, refl))),
      refl,
      refl,
      (
        (Count 1, refl, le refl, refl, (1, _, refl, refl, inl (13, kinds.Strong, refl, strong_not_weak)), tt),
        (Count 1, le refl, refl, (λ n r. (r.says never).0)),
        refl,
        (
          (Isa 1, refl, le refl, refl, (1, _, refl, refl, inl (13, refl)), tt),
          (Isa 1, le refl, refl, (λ n r. r.says never)),
          refl,
          (
            (SlotBits 0, refl, le refl, refl, (2, refl, le refl, refl, le refl, le refl)),
            (SlotBits 0, le refl, refl, (λ n r. slots_read (shows_3 3 (le refl)) refl refl refl r)),
            refl,
            (
              (Count 2, refl, le refl, (_, _, refl, refl, inl (refl, refl, refl))),
              refl,
              refl,
              (
                (Isa 2, refl, le refl, (_, _, refl, refl, inr (refl, refl, refl))),
                refl,
                refl,
                (
                  (Count 2, refl, le refl, refl, (2, _, refl, refl, inl (14, kinds.Strong, refl, strong_not_weak)), tt),
                  (Count 2, le refl, refl, (λ n r. r.says never)),
                  refl,
                  (
                    (Isa 2, refl, le refl, refl, (2, _, refl, refl, inl (14, refl)), tt),
                    (Isa 2, le refl, refl, (λ n r. r.says never)),
                    refl,
                    (
                      (SlotBits 0, refl, le refl, refl, tt, tt),
                      (SlotBits 0, le refl, refl, (λ n r. slots_read (shows_7 3 (le refl)) refl refl refl r)),
                      refl,
                      (
                        (SlotBits 0, refl, le refl, refl, (0, refl, le refl, refl, le refl, le refl)),
                        (SlotBits 0, le refl, refl, (λ n r. slots_read (shows_7 3 (le refl)) refl refl refl r)),
                        refl,
                        (
                          (Count 2, refl, le refl, refl, (2, _, refl, refl, inl (14, kinds.Strong, refl, strong_not_weak)), tt),
                          (Count 2, le refl, refl, (λ n r. r.says never)),
                          refl,
                          (
                            (Count 2, refl, le refl, refl, (2, _, refl, refl, inl (14, kinds.Strong, refl, strong_not_weak)), tt),
                            (Count 2, le refl, refl, (λ n r. r.says never)),
                            refl,
                            (
                              (Count 2, refl, le refl, refl, (2, _, refl, refl, inl (14, kinds.Strong, refl, strong_not_weak)), tt),
                              (Count 2, le refl, refl, (λ n r. r.says never)),
                              refl,
                              (
                                (Count 2, refl, le refl, refl, (2, _, refl, refl, inl (14, kinds.Strong, refl, strong_not_weak)), tt),
                                (Count 2, le refl, refl, (λ n r. r.says never)),
                                refl,
                                (
                                  (Count 2, refl, le refl, refl, (2, _, refl, refl, inl (14, kinds.Strong, refl, strong_not_weak)), tt),
                                  (Count 2, le refl, refl, (λ n r. r.says never)),
                                  refl,
                                  (
                                    (Count 2, refl, le refl, refl, (2, _, refl, refl, inl (14, kinds.Strong, refl, strong_not_weak)), tt),
                                    (Count 2, le refl, refl, (λ n r. r.says never)),
                                    refl,
                                    (
                                      (Count 2, refl, le refl, refl, (2, _, refl, refl, inl (14, kinds.Strong, refl, strong_not_weak)), tt),
                                      (Count 2, le refl, refl, (λ n r. r.says never)),
                                      refl,
                                      tt,
                                    ),
                                  ),
                                ),
                              ),
                            ),
                          ),
                        ),
                      ),
                    ),
                  ),
                ),
              ),
            ),
          ),
        ),
      ),
    ),
  ),
)

pub joined_is : after_all life_shape after_counted JOINED ≡ after_joined
unfolding after_joined
joined_is = refl

-- nobody else had a part before
pub alone_before : IsAlone after_counted
unfolding after_born after_migrated after_counted
alone_before = record { first = refl; only = refl; up_to_date = refl }
