use Rattle.std.proofs.Common.{◌∙◌, ap, replicate, subst}
use Rattle.arc_model.specs.Shapes.{CapNumbers}
use Rattle.arc_model.specs.Ranges.{CapsFit}
use Rattle.arc_rule.specs.Places.{word_count}
use Rattle.arc_view.proofs.Seats.{begins}
use Rattle.arc_table.proofs.heap.Heap.make.Goals as goal

pub of_words-requires : goal.of_words-requires
of_words-requires c = begins {S = Unit {0}} c.args.shape c.as_slice.result.now
    (record { shape_fits = c.slots-slots.ensures.fits; caps_fit = subst (λ (n : CapNumbers). CapsFit n.strong n.unowned n.wide) c.caps-caps.ensures (assumption (c.caps-caps.type_inv)) })
    (c.as_slice.ensures.value ∙ c.in_ok-words.ensures.items_if_clones_equal (λ y e. e) ∙ ap (λ n. replicate n 0) (c.words.ensures.words ∙ ap word_count c.of-layout.ensures.extent))
