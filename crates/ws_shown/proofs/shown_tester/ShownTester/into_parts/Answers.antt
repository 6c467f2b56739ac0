-- What comes of its tester, and the last lines.
use Rattle.std.proofs.Common.{[], refl}
use Rattle.ws_shown.proofs.ShownLemmas.{ends_lines}
use Rattle.ws_shown.proofs.shown_tester.ShownTester.into_parts.Goals as goal

pub returns : goal.returns
returns c = record {
  is_end = λ start told h. c.in_ok-transcript.ensures start told h;
  lines = λ run taken h. ends_lines c.args.self c.in_ok-transcript.transcript c.in_ok-last.last.items taken c.requires
      (c.in_ok-transcript.ensures c.args.self.tester [] (refl, run.was_told.1)) c.in_ok-last.ensures h;
}
