-- The steps on fields and on the global go as they are written.
use Rattle.std.proofs.Common.{◌≡◌, refl, arith, inl}
use Rattle.arc_model.specs.declared.shape.Kind.TheVariants as kinds
use Rattle.arc_model.specs.declared.event.CellName.TheVariants as cells
use Rattle.arc_rule.specs.declared.layout.Place.TheVariants.{Global, Field, Strong, Unowned, Weak}
use Rattle.arc_bits.specs.Words.{unpacked}
use Rattle.arc_rule.specs.Places.{place_at}
use Rattle.arc_life.specs.declared.life.TheConstants.{HELD}
use Rattle.arc_life.specs.Alone.{IsAlone, GoesAs, after_all}
use Rattle.arc_life.specs.Life.{life_shape, after_born, after_migrated, after_counted, after_joined, after_held}
use Rattle.arc_life.proofs.Witness.{le, never, field_read, global_read}

pub held_goes : GoesAs life_shape after_joined HELD
unfolding place_at unpacked after_born after_migrated after_counted after_joined
held_goes = (
  (Field 1 0, refl, (le refl, le refl), refl, (1, _, refl, refl, inl (13, refl)), (refl, (13, 1, _, refl, refl, refl, refl))),
  (Field 1 0, (le refl, le refl), refl, (λ n r. field_read refl refl refl r)),
  refl,
  (
    (Field 1 0, refl, (le refl, le refl), refl, (1, _, refl, refl, inl (13, refl)), tt),
    (Field 1 0, (le refl, le refl), refl, (λ n r. field_read refl refl refl r)),
    refl,
    (
      (Field 1 0, refl, (le refl, le refl), refl, (refl, (λ e. omega (arith, e)), refl, (13, 1, _, refl, refl, refl, refl), (kinds.Strong, 0, _, _, refl, refl, refl, refl, refl, (0, refl, refl)))),
      (Field 1 0, (le refl, le refl), refl, (λ n r. field_read refl refl refl r)),
      refl,
      (
        (Field 1 0, refl, (le refl, le refl), refl, (1, _, refl, refl, inl (13, refl)), tt),
        (Field 1 0, (le refl, le refl), refl, (λ n r. field_read refl refl refl r)),
        refl,
        (
          (Field 1 1, refl, (le refl, le refl), refl, (refl, (λ e. omega (arith, e)), refl, (13, 1, _, refl, refl, refl, refl), (kinds.Unowned, 0, _, _, refl, refl, refl, refl, refl, (0, refl, refl)))),
          (Field 1 1, (le refl, le refl), refl, (λ n r. field_read refl refl refl r)),
          refl,
          (
            (Field 1 1, refl, (le refl, le refl), refl, (1, _, refl, refl, inl (13, refl)), tt),
            (Field 1 1, (le refl, le refl), refl, (λ n r. field_read refl refl refl r)),
            refl,
            (
              (Field 1 2, refl, (le refl, le refl), refl, (refl, (λ e. omega (arith, e)), refl, (13, 1, _, refl, refl, refl, refl), (kinds.Weak, 0, _, _, refl, refl, refl, refl, refl, (0, refl, refl)))),
              (Field 1 2, (le refl, le refl), refl, (λ n r. field_read refl refl refl r)),
              refl,
              (
                (Field 1 2, refl, (le refl, le refl), refl, (1, _, refl, refl, inl (13, refl)), tt),
                (Field 1 2, (le refl, le refl), refl, (λ n r. field_read refl refl refl r)),
                refl,
                (
                  (Field 1 0, refl, (le refl, le refl), refl, (refl, le refl, refl, refl, (13, 1, _, refl, refl, refl, refl))),
                  (Field 1 0, (le refl, le refl), refl, (λ n r. field_read refl refl refl r)),
                  refl,
                  (
                    (Field 1 0, refl, (le refl, le refl), refl, (1, _, refl, refl, inl (13, refl)), tt),
                    (Field 1 0, (le refl, le refl), refl, (λ n r. r.own (cells.Field 1 0) refl (_, refl, refl))),
                    refl,
                    (
                      (Strong 0, refl, le refl, refl, (kinds.Strong, 0, _, (refl, (_, refl, refl)), refl, refl, (le refl, le refl, refl))),
                      (Strong 0, le refl, refl, (λ n r. (r.says never).0)),
                      refl,
                      (
                        (Strong 0, refl, le refl, refl, (0, _, refl, refl, inl (1, kinds.Strong, refl)), tt),
                        (Strong 0, le refl, refl, (λ n r. (r.says never).0)),
                        refl,
                        (
                          (Field 1 0, refl, (le refl, le refl), (refl, (_, refl, refl, refl, refl))),
                          refl,
                          refl,
                          (
                            (Field 1 0, refl, (le refl, le refl), refl, (1, _, refl, refl, inl (13, refl)), tt),
                            (Field 1 0, (le refl, le refl), refl, (λ n r. field_read refl refl refl r)),
                            refl,
                            (
                              (Field 1 1, refl, (le refl, le refl), refl, (refl, le refl, refl, refl, (13, 1, _, refl, refl, refl, refl))),
                              (Field 1 1, (le refl, le refl), refl, (λ n r. field_read refl refl refl r)),
                              refl,
                              (
                                (Field 1 1, refl, (le refl, le refl), refl, (1, _, refl, refl, inl (13, refl)), tt),
                                (Field 1 1, (le refl, le refl), refl, (λ n r. r.own (cells.Field 1 1) refl (_, refl, refl))),
                                refl,
                                (
                                  (Unowned 0, refl, le refl, refl, (kinds.Unowned, 0, _, (refl, (_, refl, refl)), refl, refl, (le refl, refl))),
                                  (Unowned 0, le refl, refl, (λ n r. (r.says never).0)),
                                  refl,
                                  (
                                    (Unowned 0, refl, le refl, refl, (0, _, refl, refl, inl (1, kinds.Strong, refl)), tt),
                                    (Unowned 0, le refl, refl, (λ n r. (r.says never).0)),
                                    refl,
                                    (
                                      (Field 1 1, refl, (le refl, le refl), (refl, (_, refl, refl, refl, refl))),
                                      refl,
                                      refl,
                                      (
                                        (Field 1 1, refl, (le refl, le refl), refl, (1, _, refl, refl, inl (13, refl)), tt),
                                        (Field 1 1, (le refl, le refl), refl, (λ n r. field_read refl refl refl r)),
                                        refl,
                                        (
                                          (Field 1 2, refl, (le refl, le refl), refl, (refl, le refl, refl, refl, (13, 1, _, refl, refl, refl, refl))),
                                          (Field 1 2, (le refl, le refl), refl, (λ n r. field_read refl refl refl r)),
                                          refl,
                                          (
                                            (Field 1 2, refl, (le refl, le refl), refl, (1, _, refl, refl, inl (13, refl)), tt),
                                            (Field 1 2, (le refl, le refl), refl, (λ n r. r.own (cells.Field 1 2) refl (_, refl, refl))),
                                            refl,
                                            (
                                              (Weak 0, refl, le refl, refl, (kinds.Weak, 0, _, (refl, (_, refl, refl)), refl, refl, (le refl, refl))),
                                              (Weak 0, le refl, refl, (λ n r. (r.says never).0)),
                                              refl,
                                              (
                                                (Weak 0, refl, le refl, refl, (0, _, refl, refl, inl (1, kinds.Strong, refl)), tt),
                                                (Weak 0, le refl, refl, (λ n r. (r.says never).0)),
                                                refl,
                                                (
                                                  (Field 1 2, refl, (le refl, le refl), (refl, (_, refl, refl, refl, refl))),
                                                  refl,
                                                  refl,
                                                  (
                                                    (Field 1 2, refl, (le refl, le refl), refl, (1, _, refl, refl, inl (13, refl)), tt),
                                                    (Field 1 2, (le refl, le refl), refl, (λ n r. field_read refl refl refl r)),
                                                    refl,
                                                    (
                                                      (Global 0, refl, le refl, refl, (refl, (λ e. omega (arith, e)), refl, tt, (kinds.Strong, 0, _, _, refl, refl, refl, refl, refl, (0, refl, refl)))),
                                                      (Global 0, le refl, refl, (λ n r. global_read refl refl refl r)),
                                                      refl,
                                                      (
                                                        (Global 0, refl, le refl, refl, tt, tt),
                                                        (Global 0, le refl, refl, (λ n r. global_read refl refl refl r)),
                                                        refl,
                                                        (
                                                          (Global 0, refl, le refl, refl, (refl, (λ e. omega (arith, e)), refl, tt, refl)),
                                                          (Global 0, le refl, refl, (λ n r. global_read refl refl refl r)),
                                                          refl,
                                                          (
                                                            (Global 0, refl, le refl, refl, tt, tt),
                                                            (Global 0, le refl, refl, (λ n r. global_read refl refl refl r)),
                                                            refl,
                                                            tt,
                                                          ),
                                                        ),
                                                      ),
                                                    ),
                                                  ),
                                                ),
                                              ),
                                            ),
                                          ),
                                        ),
                                      ),
                                    ),
                                  ),
                                ),
                              ),
                            ),
                          ),
                        ),
                      ),
                    ),
                  ),
                ),
              ),
            ),
          ),
        ),
      ),
    ),
  ),
)

pub held_is : after_all life_shape after_joined HELD ≡ after_held
unfolding after_held
held_is = refl

-- nobody else had a part before
pub alone_before : IsAlone after_joined
unfolding after_born after_migrated after_counted after_joined
alone_before = record { first = refl; only = refl; up_to_date = refl }
