-- The steps by which the object with fields ends go as they are written.
use Rattle.std.proofs.Common.{◌≡◌, refl, None, true, false, inr, inl}
use Rattle.arc_model.specs.declared.shape.Kind.TheVariants as kinds
use Rattle.arc_model.specs.Heaps.{Deinit, Vacating}
use Rattle.arc_rule.specs.declared.layout.Place.TheVariants.{Count, Next, Field, SlotBits}
use Rattle.arc_bits.specs.Words.{unpacked}
use Rattle.arc_rule.specs.Places.{place_at}
use Rattle.arc_life.specs.declared.life.TheConstants.{EMPTIED}
use Rattle.arc_life.specs.Alone.{IsAlone, GoesAs, after_all}
use Rattle.arc_life.specs.Life.{life_shape, after_born, after_migrated, after_counted, after_joined, after_held, after_emptied}
use Rattle.arc_life.proofs.BitWords.{slots_read, shows_7, shows_5}
use Rattle.arc_life.proofs.Witness.{le, counts, word, none_there, none_below, one_below, two_below, never, field_read}

pub emptied_goes : GoesAs life_shape after_held EMPTIED
unfolding place_at unpacked after_born after_migrated after_counted after_joined after_held
emptied_goes = (
  (Count 1, refl, le refl, refl, (kinds.Strong, 1, _, refl, refl, refl, refl, (counts 0 1 false, word 0 1 false refl refl refl, refl, refl))),
  (Count 1, le refl, refl, (λ n r. (r.says never).0)),
  refl,
  (
    (Count 1, refl, le refl, refl, (1, _, refl, refl, inr (inl (Deinit, refl))), tt),
    (Count 1, le refl, refl, (λ n r. (r.says never).0)),
    refl,
    (
      (Next 1, refl, le refl, (refl, (1, _, None, refl, refl, refl, refl, (λ h. none_there h.1 h.0 h.2), tt, refl))),
      refl,
      refl,
      (
        (Field 1 0, refl, (le refl, le refl), refl, (1, _, refl, refl, inr refl), tt),
        (Field 1 0, (le refl, le refl), refl, (λ n r. field_read refl refl refl r)),
        refl,
        (
          (Field 1 0, refl, (le refl, le refl), (refl, (1, _, refl, refl, refl, refl, refl, (_, 0, refl, refl), refl, (λ g lt. absurd (none_below g lt)), refl))),
          refl,
          refl,
          (
            (Field 1 0, refl, (le refl, le refl), refl, (1, _, refl, refl, inr refl), tt),
            (Field 1 0, (le refl, le refl), refl, (λ n r. field_read refl refl refl r)),
            refl,
            (
              (Field 1 1, refl, (le refl, le refl), (refl, (1, _, refl, refl, refl, refl, refl, (_, 0, refl, refl), refl, (one_below _ refl), refl))),
              refl,
              refl,
              (
                (Field 1 1, refl, (le refl, le refl), refl, (1, _, refl, refl, inr refl), tt),
                (Field 1 1, (le refl, le refl), refl, (λ n r. field_read refl refl refl r)),
                refl,
                (
                  (Field 1 2, refl, (le refl, le refl), (refl, (1, _, refl, refl, refl, refl, refl, (_, 0, refl, refl), refl, (two_below _ refl refl), refl))),
                  refl,
                  refl,
                  (
                    (Field 1 2, refl, (le refl, le refl), refl, (1, _, refl, refl, inr refl), tt),
                    (Field 1 2, (le refl, le refl), refl, (λ n r. field_read refl refl refl r)),
                    refl,
                    (
                      (Field 1 3, refl, (le refl, le refl), refl, (1, _, refl, refl, inr refl), tt),
                      (Field 1 3, (le refl, le refl), refl, (λ n r. field_read refl refl refl r)),
                      refl,
                      (
                        (Next 1, refl, le refl, refl, ((1, _, refl, refl, refl, refl), (_, 0, refl, refl)), tt),
                        (Next 1, le refl, refl, (λ n r. r.private.0 refl)),
                        refl,
                        (
                          (Count 1, refl, le refl, refl, (1, _, refl, refl, refl, refl, refl, (counts 0 1 true, word 0 1 true refl refl refl, le refl, refl))),
                          (Count 1, le refl, refl, (λ n r. (r.says never).0)),
                          refl,
                          (
                            (Count 1, refl, le refl, refl, (1, _, refl, refl, inr (inl (Vacating, refl))), tt),
                            (Count 1, le refl, refl, (λ n r. (r.says never).0)),
                            refl,
                            (
                              (SlotBits 0, refl, le refl, refl, (1, 1, _, refl, le refl, refl, refl, refl, refl)),
                              (SlotBits 0, le refl, refl, (λ n r. slots_read (shows_7 3 (le refl)) refl refl refl r)),
                              refl,
                              (
                                (SlotBits 0, refl, le refl, refl, tt, tt),
                                (SlotBits 0, le refl, refl, (λ n r. slots_read (shows_5 3 (le refl)) refl refl refl r)),
                                refl,
                                tt,
                              ),
                            ),
                          ),
                        ),
                      ),
                    ),
                  ),
                ),
              ),
            ),
          ),
        ),
      ),
    ),
  ),
)

pub emptied_is : after_all life_shape after_held EMPTIED ≡ after_emptied
unfolding after_emptied
emptied_is = refl

-- nobody else had a part before
pub alone_before : IsAlone after_held
unfolding after_born after_migrated after_counted after_joined after_held
alone_before = record { first = refl; only = refl; up_to_date = refl }
