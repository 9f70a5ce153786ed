-- The steps by which its references are counted in the entry go as they are written.
use Rattle.std.proofs.Common.{◌≡◌, refl, inl}
use Rattle.arc_model.specs.declared.shape.Kind.TheVariants as kinds
use Rattle.arc_rule.specs.declared.layout.Place.TheVariants.{Link, Strong, Unowned, Weak}
use Rattle.arc_bits.specs.Words.{unpacked}
use Rattle.arc_rule.specs.Places.{place_at}
use Rattle.arc_life.specs.declared.life.TheConstants.{COUNTED}
use Rattle.arc_life.specs.Alone.{IsAlone, GoesAs, after_all}
use Rattle.arc_life.specs.Life.{life_shape, after_born, after_migrated, after_counted}
use Rattle.arc_life.proofs.Witness.{le, unowned_not_weak, unowned_not_strong, weak_not_strong, no_count, never}

pub counted_goes : GoesAs life_shape after_migrated COUNTED
unfolding place_at unpacked after_born after_migrated
counted_goes = (
  (Link 0, refl, le refl, refl, (0, _, refl, refl, inl (1, kinds.Strong, refl)), tt),
  (Link 0, le refl, refl, (λ n r. r.says never)),
  refl,
  (
    (Strong 0, refl, le refl, refl, (kinds.Strong, 0, _, (refl, tt), refl, refl, (le refl, le refl, refl))),
    (Strong 0, le refl, refl, (λ n r. (r.says never).0)),
    refl,
    (
      (Strong 0, refl, le refl, refl, (0, _, refl, refl, inl (1, kinds.Strong, refl)), tt),
      (Strong 0, le refl, refl, (λ n r. (r.says never).0)),
      refl,
      (
        (Unowned 0, refl, le refl, refl, (kinds.Unowned, 0, _, (refl, tt), refl, refl, (le refl, refl))),
        (Unowned 0, le refl, refl, (λ n r. (r.says never).0)),
        refl,
        (
          (Unowned 0, refl, le refl, refl, (0, _, refl, refl, inl (1, kinds.Strong, refl)), tt),
          (Unowned 0, le refl, refl, (λ n r. (r.says never).0)),
          refl,
          (
            (Weak 0, refl, le refl, refl, (0, _, refl, refl, refl, (le refl, refl))),
            (Weak 0, le refl, refl, (λ n r. (r.says never).0)),
            refl,
            (
              (Weak 0, refl, le refl, refl, (0, _, refl, refl, inl (1, kinds.Strong, refl)), tt),
              (Weak 0, le refl, refl, (λ n r. (r.says never).0)),
              refl,
              (
                (Weak 0, refl, le refl, refl, (kinds.Weak, 0, _, (refl, tt), refl, refl, (le refl, refl))),
                (Weak 0, le refl, refl, (λ n r. (r.says never).0)),
                refl,
                (
                  (Weak 0, refl, le refl, refl, (0, _, refl, refl, inl (1, kinds.Strong, refl)), tt),
                  (Weak 0, le refl, refl, (λ n r. (r.says never).0)),
                  refl,
                  (
                    (Strong 0, refl, le refl, refl, (kinds.Weak, 0, _, refl, weak_not_strong, (λ s e. no_count s 0 e), refl, refl, (le refl, le refl, refl))),
                    (Strong 0, le refl, refl, (λ n r. (r.says never).0)),
                    refl,
                    (
                      (Strong 0, refl, le refl, refl, (0, _, refl, refl, inl (1, kinds.Strong, refl)), tt),
                      (Strong 0, le refl, refl, (λ n r. (r.says never).0)),
                      refl,
                      (
                        (Strong 0, refl, le refl, refl, (kinds.Unowned, 0, _, refl, unowned_not_strong, (λ s e. unowned_not_weak), refl, refl, (le refl, le refl, refl))),
                        (Strong 0, le refl, refl, (λ n r. (r.says never).0)),
                        refl,
                        (
                          (Strong 0, refl, le refl, refl, (0, _, refl, refl, inl (1, kinds.Strong, refl)), tt),
                          (Strong 0, le refl, refl, (λ n r. (r.says never).0)),
                          refl,
                          (
                            (Strong 0, refl, le refl, refl, (0, _, refl, refl, inl (1, kinds.Strong, refl)), tt),
                            (Strong 0, le refl, refl, (λ n r. (r.says never).0)),
                            refl,
                            (
                              (Strong 0, refl, le refl, refl, (0, _, refl, refl, inl (1, kinds.Strong, refl)), tt),
                              (Strong 0, le refl, refl, (λ n r. (r.says never).0)),
                              refl,
                              (
                                (Unowned 0, refl, le refl, refl, (0, _, refl, refl, refl, (le refl, refl))),
                                (Unowned 0, le refl, refl, (λ n r. (r.says never).0)),
                                refl,
                                (
                                  (Unowned 0, refl, le refl, refl, (0, _, refl, refl, inl (1, kinds.Strong, refl)), tt),
                                  (Unowned 0, le refl, refl, (λ n r. (r.says never).0)),
                                  refl,
                                  (
                                    (Strong 0, refl, le refl, refl, (kinds.Strong, 0, _, refl, refl, refl, refl, refl)),
                                    (Strong 0, le refl, refl, (λ n r. (r.says never).0)),
                                    refl,
                                    (
                                      (Strong 0, refl, le refl, refl, (0, _, refl, refl, inl (1, kinds.Strong, refl)), tt),
                                      (Strong 0, le refl, refl, (λ n r. (r.says never).0)),
                                      refl,
                                      (
                                        (Unowned 0, refl, le refl, refl, (kinds.Unowned, 0, _, refl, refl, refl, refl, refl)),
                                        (Unowned 0, le refl, refl, (λ n r. (r.says never).0)),
                                        refl,
                                        (
                                          (Unowned 0, refl, le refl, refl, (0, _, refl, refl, inl (1, kinds.Strong, refl)), tt),
                                          (Unowned 0, le refl, refl, (λ n r. (r.says never).0)),
                                          refl,
                                          (
                                            (Weak 0, refl, le refl, refl, (kinds.Weak, 0, _, refl, refl, refl, refl, refl)),
                                            (Weak 0, le refl, refl, (λ n r. (r.says never).0)),
                                            refl,
                                            (
                                              (Weak 0, refl, le refl, refl, (0, _, refl, refl, inl (1, kinds.Strong, refl)), tt),
                                              (Weak 0, le refl, refl, (λ n r. (r.says never).0)),
                                              refl,
                                              tt,
                                            ),
                                          ),
                                        ),
                                      ),
                                    ),
                                  ),
                                ),
                              ),
                            ),
                          ),
                        ),
                      ),
                    ),
                  ),
                ),
              ),
            ),
          ),
        ),
      ),
    ),
  ),
)

pub counted_is : after_all life_shape after_migrated COUNTED ≡ after_counted
unfolding after_counted
counted_is = refl

-- nobody else had a part before
pub alone_before : IsAlone after_migrated
unfolding after_born after_migrated
alone_before = record { first = refl; only = refl; up_to_date = refl }
