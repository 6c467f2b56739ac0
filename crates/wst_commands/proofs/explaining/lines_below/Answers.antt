-- The lines below a verdict Loose or Fail are those that explain it.
use Rattle.std.proofs.Common.{string_bytes}
use Rattle.wst_commands.proofs.Explained.{fail_explained, loose_explained}
use Rattle.wst_commands.proofs.explaining.lines_below.Goals as goal

pub returns-in_ok-below-in-Loose : goal.returns-in_ok-below-in-Loose
returns-in_ok-below-in-Loose g c =
    loose_explained c.args.style c.args.tested c.args.expected (g.T.AsTranscript.transcript c.args.transcript.now) c.args.explanation.now _
    (string_bytes c.in_ok-below-in-Loose.below) c.in-Loose.is c.requires c.in_ok-below-in-Loose.ensures

pub returns-in_ok-below-in-Fail : goal.returns-in_ok-below-in-Fail
returns-in_ok-below-in-Fail g c =
    fail_explained c.args.style c.args.tested c.args.expected (g.T.AsTranscript.transcript c.args.transcript.now) c.args.explanation.now _
    (string_bytes c.in_ok-below-in-Fail.below) c.in-Fail.is c.requires c.in_ok-below-in-Fail.ensures
