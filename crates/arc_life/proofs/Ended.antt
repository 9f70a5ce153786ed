-- The steps by which the object ends go as they are written.
use Rattle.std.proofs.Common.{◌≡◌, refl, None, inl}
use Rattle.arc_model.specs.declared.shape.Kind.TheVariants as kinds
use Rattle.arc_rule.specs.declared.layout.Place.TheVariants.{Next, Strong, Unowned, Weak, SlotBits, EntryBits}
use Rattle.arc_bits.specs.Words.{unpacked}
use Rattle.arc_rule.specs.Places.{place_at}
use Rattle.arc_life.specs.declared.life.TheConstants.{ENDED}
use Rattle.arc_life.specs.Alone.{IsAlone, GoesAs, after_all}
use Rattle.arc_life.specs.Life.{whole_life, life_shape, after_born, after_migrated, after_counted, after_joined, after_held, after_emptied, at_end}
use Rattle.arc_life.proofs.BitWords.{slots_read, entries_read, shows_0, shows_1, shows_5, shows_4}
use Rattle.arc_life.proofs.Witness.{le, none_there, never}

pub ended_goes : GoesAs life_shape after_emptied ENDED
unfolding place_at unpacked after_born after_migrated after_counted after_joined after_held after_emptied
ended_goes = (
  (Strong 0, refl, le refl, refl, (kinds.Strong, 0, _, refl, refl, refl, refl, refl)),
  (Strong 0, le refl, refl, (λ n r. (r.says never).0)),
  refl,
  (
    (Strong 0, refl, le refl, refl, (0, _, refl, refl, inl (7, kinds.Unowned, refl)), tt),
    (Strong 0, le refl, refl, (λ n r. (r.says never).0)),
    refl,
    (
      (Strong 0, refl, le refl, refl, (kinds.Strong, 0, _, refl, refl, refl, refl, refl)),
      (Strong 0, le refl, refl, (λ n r. (r.says never).0)),
      refl,
      (
        (Strong 0, refl, le refl, refl, (0, _, refl, refl, inl (7, kinds.Unowned, refl)), tt),
        (Strong 0, le refl, refl, (λ n r. (r.says never).0)),
        refl,
        (
          (Strong 0, refl, le refl, refl, (kinds.Strong, 0, _, refl, refl, refl, refl, refl)),
          (Strong 0, le refl, refl, (λ n r. (r.says never).0)),
          refl,
          (
            (Strong 0, refl, le refl, refl, (0, _, refl, refl, inl (7, kinds.Unowned, refl)), tt),
            (Strong 0, le refl, refl, (λ n r. (r.says never).0)),
            refl,
            (
              (Strong 0, refl, le refl, refl, (kinds.Strong, 0, _, refl, refl, refl, refl, refl)),
              (Strong 0, le refl, refl, (λ n r. (r.says never).0)),
              refl,
              (
                (Strong 0, refl, le refl, refl, (0, _, refl, refl, inl (7, kinds.Unowned, refl)), tt),
                (Strong 0, le refl, refl, (λ n r. (r.says never).0)),
                refl,
                (
                  (Strong 0, refl, le refl, refl, (kinds.Strong, 0, _, refl, refl, refl, refl, refl)),
                  (Strong 0, le refl, refl, (λ n r. (r.says never).0)),
                  refl,
                  (
                    (Strong 0, refl, le refl, refl, (0, _, refl, refl, inl (7, kinds.Unowned, refl)), tt),
                    (Strong 0, le refl, refl, (λ n r. (r.says never).0)),
                    refl,
                    (
                      (Strong 0, refl, le refl, refl, (0, _, refl, refl, inl (7, kinds.Unowned, refl)), tt),
                      (Strong 0, le refl, refl, (λ n r. (r.says never).0)),
                      refl,
                      (
                        (Strong 0, refl, le refl, refl, (0, _, refl, refl, inl (20, kinds.Weak, refl)), tt),
                        (Strong 0, le refl, refl, (λ n r. (r.says never).0)),
                        refl,
                        (
                          (Strong 0, refl, le refl, refl, (0, _, refl, refl, inl (7, kinds.Unowned, refl)), tt),
                          (Strong 0, le refl, refl, (λ n r. (r.says never).0)),
                          refl,
                          (
                            (Next 0, refl, le refl, (refl, (0, _, None, refl, refl, refl, refl, (λ h. none_there h.1 h.0 h.2), tt, refl))),
                            refl,
                            refl,
                            (
                              (Next 0, refl, le refl, refl, ((0, _, refl, refl, refl, refl), (_, 0, refl, refl)), tt),
                              (Next 0, le refl, refl, (λ n r. r.private.0 refl)),
                              refl,
                              (
                                (Unowned 0, refl, le refl, refl, (0, _, refl, refl, refl, refl, refl, refl)),
                                (Unowned 0, le refl, refl, (λ n r. (r.says never).0)),
                                refl,
                                (
                                  (Unowned 0, refl, le refl, refl, (0, _, refl, refl, inl (7, kinds.Unowned, refl)), tt),
                                  (Unowned 0, le refl, refl, (λ n r. (r.says never).0)),
                                  refl,
                                  (
                                    (Unowned 0, refl, le refl, refl, (kinds.Unowned, 0, _, refl, refl, refl, refl, refl)),
                                    (Unowned 0, le refl, refl, (λ n r. (r.says never).0)),
                                    refl,
                                    (
                                      (Unowned 0, refl, le refl, refl, (0, _, refl, refl, inl (19, kinds.Unowned, refl)), tt),
                                      (Unowned 0, le refl, refl, (λ n r. (r.says never).0)),
                                      refl,
                                      (
                                        (Unowned 0, refl, le refl, refl, (kinds.Unowned, 0, _, refl, refl, refl, refl, refl)),
                                        (Unowned 0, le refl, refl, (λ n r. (r.says never).0)),
                                        refl,
                                        (
                                          (Unowned 0, refl, le refl, refl, (0, _, refl, refl, inl (23, kinds.Unowned, refl)), tt),
                                          (Unowned 0, le refl, refl, (λ n r. (r.says never).0)),
                                          refl,
                                          (
                                            (Unowned 0, refl, le refl, refl, (kinds.Unowned, 0, _, refl, refl, refl, refl, refl)),
                                            (Unowned 0, le refl, refl, (λ n r. (r.says never).0)),
                                            refl,
                                            (
                                              (Unowned 0, refl, le refl, refl, (0, _, refl, refl, inl (20, kinds.Weak, refl)), tt),
                                              (Unowned 0, le refl, refl, (λ n r. (r.says never).0)),
                                              refl,
                                              (
                                                (SlotBits 0, refl, le refl, refl, (0, 0, _, refl, le refl, refl, refl, refl, refl)),
                                                (SlotBits 0, le refl, refl, (λ n r. slots_read (shows_5 3 (le refl)) refl refl refl r)),
                                                refl,
                                                (
                                                  (SlotBits 0, refl, le refl, refl, tt, tt),
                                                  (SlotBits 0, le refl, refl, (λ n r. slots_read (shows_4 3 (le refl)) refl refl refl r)),
                                                  refl,
                                                  (
                                                    (Weak 0, refl, le refl, refl, (0, 0, _, refl, refl, refl, refl, refl)),
                                                    (Weak 0, le refl, refl, (λ n r. (r.says never).0)),
                                                    refl,
                                                    (
                                                      (Weak 0, refl, le refl, refl, (0, _, refl, refl, inl (20, kinds.Weak, refl)), tt),
                                                      (Weak 0, le refl, refl, (λ n r. (r.says never).0)),
                                                      refl,
                                                      (
                                                        (Weak 0, refl, le refl, refl, (kinds.Weak, 0, _, refl, refl, refl, refl, refl)),
                                                        (Weak 0, le refl, refl, (λ n r. (r.says never).0)),
                                                        refl,
                                                        (
                                                          (Weak 0, refl, le refl, refl, (0, _, refl, refl, inl (24, kinds.Weak, refl)), tt),
                                                          (Weak 0, le refl, refl, (λ n r. (r.says never).0)),
                                                          refl,
                                                          (
                                                            (Weak 0, refl, le refl, refl, (kinds.Weak, 0, _, refl, refl, refl, refl, refl)),
                                                            (Weak 0, le refl, refl, (λ n r. (r.says never).0)),
                                                            refl,
                                                            (
                                                              (EntryBits 0, refl, le refl, refl, (0, refl, le refl, refl, refl)),
                                                              (EntryBits 0, le refl, refl, (λ n r. entries_read (shows_1 1 (le refl)) refl r)),
                                                              refl,
                                                              (
                                                                (EntryBits 0, refl, le refl, refl, tt, tt),
                                                                (EntryBits 0, le refl, refl, (λ n r. entries_read (shows_0 1 (le refl)) refl r)),
                                                                refl,
                                                                tt,
                                                              ),
                                                            ),
                                                          ),
                                                        ),
                                                      ),
                                                    ),
                                                  ),
                                                ),
                                              ),
                                            ),
                                          ),
                                        ),
                                      ),
                                    ),
                                  ),
                                ),
                              ),
                            ),
                          ),
                        ),
                      ),
                    ),
                  ),
                ),
              ),
            ),
          ),
        ),
      ),
    ),
  ),
)

pub ended_is : after_all life_shape after_emptied ENDED ≡ at_end
unfolding at_end
ended_is = refl

-- nobody else had a part before
pub alone_before : IsAlone after_emptied
unfolding after_born after_migrated after_counted after_joined after_held after_emptied
alone_before = record { first = refl; only = refl; up_to_date = refl }

-- what was seen at the end are the events that are written
pub end_tells : at_end.seen ≡ whole_life
unfolding place_at unpacked after_born after_migrated after_counted after_joined after_held after_emptied at_end
end_tells = refl
