-- A transcript that ends is told: the lines of the cuts, and how it ended; where a write fails, a beginning of these.
use Rattle.std.specs.Prelude.{◌||◌, true, false}
use Rattle.std.proofs.Common.{Bool, ap, ◌∙◌, ◌++◌, List, ℕ, subst}
use Rattle.std.proofs.lemmas.Result.{err_from_is_err_and}
use Rattle.std.proofs.KnownBytes.{Appends-trans}
use Rattle.ws_frame.specs.Devices.{watched, HasWritten, HasBegun}
use Rattle.ws_frame.proofs.Streams.{certain_lines_end}
use Rattle.ws_lines.specs.TurnLines.{bytes_in, lines_in, sent_by_tester, got_by_tester, end_line}
use Rattle.ws_lines.proofs.Directions.{certain_of}
use Rattle.ws_lines.proofs.Tellings.{all_is_told, cut_of, begun_more, begun_behind}
use Rattle.ws_lines.proofs.transcript_lines.TranscriptLines.end.Goals as goal

pub returns-in_err-end : goal.returns-in_err-end
returns-in_err-end g c = record {
  told = λ showing turns written h.
      let self = c.args.self.now in
      let from = sent_by_tester showing in
      let to = got_by_tester showing in
      let s = c.in_err-end.ensures.ended (bytes_in from turns) (lines_in from h.lines) h.sent.shown in
      let (end, last, are) = certain_lines_end to.source (bytes_in to turns) (lines_in to h.lines) (certain_of to.source self.got (bytes_in to turns) (lines_in to h.lines) h.got.source h.got.shown) in
      let all = all_is_told showing self turns c.args.ended written s.last last h (cut_of from _ turns h.lines s.end s.last h.sent.source s.all) (end, are) in
      let p = err_from_is_err_and c.from_residual.result c.from_residual.ensures.1 in
      rw p.1 (record { last = s.last ++ (last ++ end_line c.args.ended); all = all; writes = (begun_more _ _ s.last (last ++ end_line c.args.ended) s.writes.0, s.writes.1) });
}

pub returns-in_err-end-2 : goal.returns-in_err-end-2
returns-in_err-end-2 g c = record {
  told = λ showing turns written h.
      let self = c.args.self.now in
      let from = sent_by_tester showing in
      let to = got_by_tester showing in
      let s = c.in_ok-end.ensures.ended (bytes_in from turns) (lines_in from h.lines) h.sent.shown in
      let t = c.in_err-end-2.ensures.ended (bytes_in to turns) (lines_in to h.lines) h.got.shown in
      let all = all_is_told showing self turns c.args.ended written s.last t.last h (cut_of from _ turns h.lines s.end s.last h.sent.source s.all) (cut_of to _ turns h.lines t.end t.last h.got.source t.all) in
      let p = err_from_is_err_and c.from_residual-in_err-end-2.result c.from_residual-in_err-end-2.ensures.1 in
      rw p.1 (record {
        last = s.last ++ (t.last ++ end_line c.args.ended);
        all = all;
        writes = (begun_behind _ _ _ s.last (t.last ++ end_line c.args.ended) s.writes.0 (begun_more _ _ t.last (end_line c.args.ended) t.writes.0), t.writes.1);
      });
}

pub returns-in_err-write_whole : goal.returns-in_err-write_whole
returns-in_err-write_whole g c = record {
  told = λ showing turns written h.
      let self = c.args.self.now in
      let from = sent_by_tester showing in
      let to = got_by_tester showing in
      let s = c.in_ok-end.ensures.ended (bytes_in from turns) (lines_in from h.lines) h.sent.shown in
      let t = c.in_ok-end-2.ensures.ended (bytes_in to turns) (lines_in to h.lines) h.got.shown in
      let all = all_is_told showing self turns c.args.ended written s.last t.last h (cut_of from _ turns h.lines s.end s.last h.sent.source s.all) (cut_of to _ turns h.lines t.end t.last h.got.source t.all) in
      let begun = subst (λ (l : List ℕ). HasBegun l (watched g.W.Write.contents c.end-2.new.writer c.write_whole.new.writer)) (c.as_bytes.ensures.value ∙ c.end_line.ensures) c.in_err-write_whole.ensures.begun in
      let p = err_from_is_err_and c.from_residual-in_err-write_whole.result c.from_residual-in_err-write_whole.ensures.1 in
      rw p.1 (record {
        last = s.last ++ (t.last ++ end_line c.args.ended);
        all = all;
        writes = (begun_behind _ _ _ s.last (t.last ++ end_line c.args.ended) s.writes.0 (begun_behind _ _ _ t.last (end_line c.args.ended) t.writes.0 begun), c.in_err-write_whole.ensures.failed ∙ ap (λ (b : Bool). b || true) t.writes.1);
      });
}

pub returns : goal.returns
returns g c = record {
  told = λ showing turns written h.
      let self = c.args.self.now in
      let from = sent_by_tester showing in
      let to = got_by_tester showing in
      let s = c.in_ok-end.ensures.ended (bytes_in from turns) (lines_in from h.lines) h.sent.shown in
      let t = c.in_ok-end-2.ensures.ended (bytes_in to turns) (lines_in to h.lines) h.got.shown in
      let all = all_is_told showing self turns c.args.ended written s.last t.last h (cut_of from _ turns h.lines s.end s.last h.sent.source s.all) (cut_of to _ turns h.lines t.end t.last h.got.source t.all) in
      let wrote = subst (λ (l : List ℕ). HasWritten l (watched g.W.Write.contents c.end-2.new.writer c.write_whole.new.writer)) (c.as_bytes.ensures.value ∙ c.end_line.ensures) c.in_ok-write_whole.ensures.written in
      record {
        last = s.last ++ (t.last ++ end_line c.args.ended);
        all = all;
        writes = (Appends-trans _ _ _ _ _ s.writes.0 (Appends-trans _ _ _ _ _ t.writes.0 wrote), c.in_ok-write_whole.ensures.failed ∙ ap (λ (b : Bool). b || false) t.writes.1);
      };
}
