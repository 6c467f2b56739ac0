-- Read after read.
use Rattle.std.proofs.Common.{◌≡◌, false, rules}
use Rattle.std.proofs.KnownBytes.{Consumes-trans}
use Rattle.ws_frame.specs.Watching.{has_failed, inner_of}
use Rattle.wst_commands.proofs.reading_lines.drop_rest.Goals as goal

pub reads-preserved : goal.reads-preserved
reads-preserved g c =
    let (read, bytes) = c.reads.invariant.1 in
    let remaining = g.R.Read.remaining in
    let works_now : has_failed c.read.new.self ≡ false = search rules in (
      works_now,
      (_, Consumes-trans (remaining (inner_of c.args.reader.now)) (remaining (inner_of c.reads.reader)) (remaining (inner_of c.read.new.self)) read _ bytes c.in-Ok.ensures.bytes.0),
    )
