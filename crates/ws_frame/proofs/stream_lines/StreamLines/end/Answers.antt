-- At its end a stream has all its lines: the last one is written, or a beginning of it where a write fails.
use Rattle.std.proofs.Common.{List, ℕ, [], refl, sym, append-nil, subst}
use Rattle.std.proofs.lemmas.Result.{err_from_is_err_and}
use Rattle.std.proofs.KnownBytes.{Appends-nil}
use Rattle.ws_frame.specs.Lines.{last_line, AreLinesOf}
use Rattle.ws_frame.specs.declared.showing.StreamEnd.TheVariants.{BadLengthAt}
use Rattle.ws_frame.proofs.Fronts.{all_lines}
use Rattle.ws_frame.proofs.Runs.{all_written, left_at_end}
use Rattle.ws_frame.proofs.Streams.{going, stopped}
use Rattle.ws_frame.proofs.stream_lines.StreamLines.end.Goals as goal

pub returns-then-self-clause-ended : goal.returns-then-self-clause-ended
returns-then-self-clause-ended g c = λ taken written t.
    let self = c.args.self.now in
    let (place, are) = stopped self.run self.stopped taken written c.if-self.true t.stands in
    record {
      end = BadLengthAt place;
      last = [];
      all = subst (λ (t : List ℕ). AreLinesOf self.run.source taken (BadLengthAt place) t) (sym (append-nil written)) are;
      writes = (Appends-nil _, c.requires.writer_works);
    }

pub returns-in_err-write_last_line-clause-ended : goal.returns-in_err-write_last_line-clause-ended
returns-in_err-write_last_line-clause-ended g c = λ taken written t.
    let self = c.args.self.now in
    let run = self.run in
    let (none, told) = going run self.stopped taken written c.if-self.false t.stands in
    let end = c.end_of_input-end.result in
    let s = all_written run.source run.source taken run.offset run.partial written run.lines told.so_far none refl in
    let left = left_at_end run.source taken run.offset run.partial written end s (c.end_of_input-end.ensures s.rest s.is_kept) in
    let p = err_from_is_err_and c.from_residual.result c.from_residual.ensures.1 in
    let begun = c.in_err-write_last_line.ensures.written in
    rw p.1 (record { end = end; last = last_line run.source end; all = all_lines run.source taken end written left; writes = begun })

pub returns-clause-ended : goal.returns-clause-ended
returns-clause-ended g c = λ taken written t.
    let self = c.args.self.now in
    let run = self.run in
    let (none, told) = going run self.stopped taken written c.if-self.false t.stands in
    let end = c.end_of_input-end.result in
    let s = all_written run.source run.source taken run.offset run.partial written run.lines told.so_far none refl in
    let left = left_at_end run.source taken run.offset run.partial written end s (c.end_of_input-end.ensures s.rest s.is_kept) in
    record { end = end; last = last_line run.source end; all = all_lines run.source taken end written left; writes = c.in_ok-write_last_line.ensures.written }
