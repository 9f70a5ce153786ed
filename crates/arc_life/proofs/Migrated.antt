-- The steps by which the object gets its entry go as they are written.
use Rattle.std.proofs.Common.{◌≡◌, refl, false, inl, inr}
use Rattle.arc_model.specs.declared.shape.Kind.TheVariants as kinds
use Rattle.arc_rule.specs.declared.layout.Place.TheVariants.{Count, Link, Strong, Unowned, Weak, EntryBits}
use Rattle.arc_bits.specs.Words.{unpacked}
use Rattle.arc_rule.specs.Places.{place_at}
use Rattle.arc_life.specs.declared.life.TheConstants.{MIGRATED}
use Rattle.arc_life.specs.Alone.{IsAlone, GoesAs, after_all}
use Rattle.arc_life.specs.Life.{life_shape, after_born, after_migrated}
use Rattle.arc_life.proofs.BitWords.{entries_read, shows_0, shows_1}
use Rattle.arc_life.proofs.Witness.{le, counts, word, strong_not_weak, never}

pub migrated_goes : GoesAs life_shape after_born MIGRATED
unfolding place_at unpacked after_born
migrated_goes = (
  (EntryBits 0, refl, le refl, refl, tt, tt),
  (EntryBits 0, le refl, refl, (λ n r. entries_read (shows_0 1 (le refl)) refl r)),
  refl,
  (
    (EntryBits 0, refl, le refl, refl, (0, 0, kinds.Strong, 0, _, refl, le refl, refl, (refl, tt), strong_not_weak, refl, refl)),
    (EntryBits 0, le refl, refl, (λ n r. entries_read (shows_0 1 (le refl)) refl r)),
    refl,
    (
      (Link 0, refl, le refl, (refl, (0, refl, refl))),
      refl,
      refl,
      (
        (Strong 0, refl, le refl, (refl, (0, inr (inl refl), refl))),
        refl,
        refl,
        (
          (Unowned 0, refl, le refl, (refl, (0, inr (inr (inl refl)), refl))),
          refl,
          refl,
          (
            (Weak 0, refl, le refl, (refl, (0, inr (inr (inr refl)), refl))),
            refl,
            refl,
            (
              (Count 0, refl, le refl, refl, (0, 0, kinds.Strong, 0, _, counts 1 2 false, refl, le refl, word 1 2 false refl refl refl, refl, (refl, tt), strong_not_weak, refl, refl, (refl, refl), record { claim = refl; link = refl; strong = refl; unowned = refl; weak = refl })),
              (Count 0, le refl, refl, (λ n r. (r.says never).0)),
              refl,
              (
                (Count 0, refl, le refl, refl, (0, _, refl, refl, inl (1, kinds.Strong, refl, strong_not_weak)), tt),
                (Count 0, le refl, refl, (λ n r. r.says never)),
                refl,
                (
                  (Link 0, refl, le refl, refl, (0, _, refl, refl, inl (1, kinds.Strong, refl)), tt),
                  (Link 0, le refl, refl, (λ n r. r.says never)),
                  refl,
                  (
                    (Strong 0, refl, le refl, refl, (0, _, refl, refl, inl (1, kinds.Strong, refl)), tt),
                    (Strong 0, le refl, refl, (λ n r. (r.says never).0)),
                    refl,
                    (
                      (Unowned 0, refl, le refl, refl, (0, _, refl, refl, inl (1, kinds.Strong, refl)), tt),
                      (Unowned 0, le refl, refl, (λ n r. (r.says never).0)),
                      refl,
                      (
                        (Weak 0, refl, le refl, refl, (0, _, refl, refl, inl (1, kinds.Strong, refl)), tt),
                        (Weak 0, le refl, refl, (λ n r. (r.says never).0)),
                        refl,
                        (
                          (EntryBits 0, refl, le refl, refl, tt, tt),
                          (EntryBits 0, le refl, refl, (λ n r. entries_read (shows_1 1 (le refl)) refl r)),
                          refl,
                          (
                            (EntryBits 0, refl, le refl, refl, (0, 0, kinds.Strong, 0, _, refl, le refl, refl, (refl, tt), strong_not_weak, refl, refl)),
                            (EntryBits 0, le refl, refl, (λ n r. entries_read (shows_1 1 (le refl)) refl r)),
                            refl,
                            tt,
                          ),
                        ),
                      ),
                    ),
                  ),
                ),
              ),
            ),
          ),
        ),
      ),
    ),
  ),
)

pub migrated_is : after_all life_shape after_born MIGRATED ≡ after_migrated
unfolding after_migrated
migrated_is = refl

-- nobody else had a part before
pub alone_before : IsAlone after_born
unfolding after_born
alone_before = record { first = refl; only = refl; up_to_date = refl }
