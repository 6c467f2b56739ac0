-- What was told stays, with that frame marked.
use Rattle.ws_lines.proofs.LineMarks.{got_marked}
use Rattle.ws_lines.proofs.transcript_lines.TranscriptLines.mark_got.Goals as goal

pub returns : goal.returns
returns c = record {
  marked = λ showing turns written unmarked told ends.
      got_marked showing c.args.self.now c.mark.new.self c.args.place turns written unmarked ends c.mark.ensures.source
      c.mark.ensures.kept c.mark.ensures.marked told;
}
