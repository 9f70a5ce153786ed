use Rattle.std.proofs.Common.{◌≡◌, ◌+◌, ◌-◌, List, ℕ, Ok, length, drop, refl, sym, subst, ◌∙◌, arith}
use Rattle.std.proofs.lemmas.List.{length-drop, take_rest}
use Rattle.arc_text.specs.Lines.{lines_of}
use Rattle.arc_text.proofs.FirstLine.{length-lines_of}
use Rattle.arc_script_reader.specs.Fronts.{front}
use Rattle.arc_script.specs.HeadingText.{headed_line}
use Rattle.arc_script_reader.specs.Heads.{Heads}
use Rattle.arc_script_reader.proofs.HeadingSteps.{said_more, marked_more, rest_more, ends_more, shorter, fits_more}
use Rattle.arc_script_reader.proofs.heading.read_heading.Goals as goal

pub reading-init : goal.reading-init
reading-init c =
    let text = c.args.text.now in
    let begins = c.new-lines.ensures ∙ take_rest text c.args.at in
    let none : c.args.line - c.args.line ≡ 0 = omega arith in
    record {
      said = rw (c.new-reader.ensures, begins) refl;
      fits = rw begins (omega (arith, length-lines_of (drop c.args.at text), length-drop c.args.at text));
      short = rw begins (omega (arith, length-drop c.args.at text));
      begun = omega arith;
      marked = omega arith;
      rest = rw none begins;
      ends = rw none (omega (arith, length-drop c.args.at text));
    }

pub reading-preserved : goal.reading-preserved
reading-preserved c =
    let goes_on = sym c.is_behind.ensures ∙ c.if-is_behind.false in
    let taken = subst (λ (r : List ℕ). Heads (Ok c.in-Ok.taken) (headed_line c.args.caps (front c.reading.reader) c.in-Some.next.now (lines_of r)) (front c.reading.reader) (front c.take_line.new.reader)) c.rest.ensures c.in-Ok.ensures in
    let rest = rest_more c.reading.number c.args.line (drop c.args.at c.args.text.now) c.reading.lines c.next_line.new.self c.reading.invariant.begun c.reading.invariant.rest c.in-Some.ensures.1 in
    record {
      said = rw c.last_behind-last.ensures (said_more c.args.caps c.in-Ok.taken c.reading.number c.reading.last (front c.reading.reader) (front c.take_line.new.reader) c.in-Some.next.now (lines_of c.reading.lines) (lines_of c.next_line.new.self) _ goes_on c.in-Some.ensures.0 taken c.reading.invariant.said);
      fits = fits_more c.reading.number (c.args.line + length c.args.text.now) c.in-Some.next.now (lines_of c.reading.lines) (lines_of c.next_line.new.self) c.in-Some.ensures.0 c.reading.invariant.fits;
      short = shorter c.reading.lines c.next_line.new.self (length c.args.text.now) c.in-Some.ensures.1 c.reading.invariant.short;
      begun = omega arith;
      marked = rw c.last_behind-last.ensures (marked_more c.in-Ok.taken c.reading.number c.reading.last c.args.line c.reading.invariant.begun c.reading.invariant.marked);
      rest = rest;
      ends = c.end_behind-end.ensures ∙ rw (c.rest-in-Ok.ensures, c.last_behind-last.ensures) (ends_more c.in-Ok.taken c.reading.number c.reading.last c.args.line c.reading.end (length c.args.text.now) (drop c.args.at c.args.text.now) c.next_line.new.self rest c.reading.invariant.ends);
    }
