-- At its end a stream has all its lines: those before, and the line answered, which is none after a bad length.
use Rattle.std.proofs.Common.{List, ℕ, ◌++◌, refl, sym, ap, ◌∙◌, append-nil, subst}
use Rattle.ws_frame.specs.Lines.{AreLinesOf}
use Rattle.ws_frame.specs.declared.showing.StreamEnd.TheVariants.{BadLengthAt}
use Rattle.ws_frame.proofs.Fronts.{all_lines}
use Rattle.ws_frame.proofs.Runs.{all_written, left_at_end}
use Rattle.ws_frame.proofs.Streams.{going, stopped}
use Rattle.ws_frame.proofs.stream_lines.StreamLines.end_line.Goals as goal

pub returns-then-self-clause-ended : goal.returns-then-self-clause-ended
returns-then-self-clause-ended c = λ taken written t.
    let self = c.args.self.now in
    let (place, are) = stopped self.run self.stopped taken written c.if-self.true t.stands in
    let same = ap (λ (t : List ℕ). written ++ t) c.none.ensures ∙ append-nil written in
    (BadLengthAt place, subst (λ (t : List ℕ). AreLinesOf self.run.source taken (BadLengthAt place) t) (sym same) are)

pub returns-clause-ended : goal.returns-clause-ended
returns-clause-ended c = λ taken written t.
    let self = c.args.self.now in
    let run = self.run in
    let (none, told) = going run self.stopped taken written c.if-self.false t.stands in
    let end = c.end_of_input-end.result in
    let s = all_written run.source run.source taken run.offset run.partial written run.lines told.so_far none refl in
    let left = left_at_end run.source taken run.offset run.partial written end s (c.end_of_input-end.ensures s.rest s.is_kept) in
    let line = c.take_line.ensures.line ∙ c.push_last_line.ensures.pushed in
    (end, subst (λ (t : List ℕ). AreLinesOf run.source taken end (written ++ t)) (sym line) (all_lines run.source taken end written left))
