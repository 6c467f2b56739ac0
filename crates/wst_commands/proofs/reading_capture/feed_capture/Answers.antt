-- Piece after piece is fed, until the reader ends or the feed refuses one.
use Rattle.std.proofs.Common.{◌≡◌, [], false, List, ℕ, sym, subst, append_assoc, rules}
use Rattle.std.proofs.KnownBytes.{Consumes-nil, Consumes-trans}
use Rattle.ws_frame.specs.Devices.{watched}
use Rattle.ws_frame.specs.Watching.{has_failed, inner_of}
use Rattle.ws_scripts.specs.Captures.{DamagesCapture}
use Rattle.ws_scripts.specs.Captures2.{IsAnyCaptureOf}
use Rattle.wst_commands.proofs.ReadLines.{capture_ended}
use Rattle.wst_commands.proofs.reading_capture.feed_capture.Goals as goal

pub reads-init : goal.reads-init
reads-init g c =
    (c.requires, ([], Consumes-nil (g.R.Read.remaining (inner_of c.args.reader.now)), c.new-feed.ensures))

pub reads-preserved : goal.reads-preserved
reads-preserved g c =
    let (read, bytes, fed) = c.reads.invariant.1 in
    let remaining = g.R.Read.remaining in
    let works_now : has_failed c.read.new.self ≡ false = search rules in (
      works_now,
      (
        _,
        Consumes-trans (remaining (inner_of c.args.reader.now)) (remaining (inner_of c.reads.reader)) (remaining (inner_of c.read.new.self)) read _ bytes c.in-Ok.ensures.bytes.0,
        c.in-Ok-feed.ensures read fed,
      ),
    )

pub returns-in-Err-feed : goal.returns-in-Err-feed
returns-in-Err-feed g c =
    let (read, bytes, fed) = c.reads.invariant.1 in
    let remaining = g.R.Read.remaining in
    let works_now : has_failed c.read.new.self ≡ false = search rules in
    capture_ended c.in-Err-feed.fault c.capture_stop.result (watched remaining c.args.reader.now c.read.new.self)
    c.capture_stop.ensures record {
      read = _;
      bytes = Consumes-trans (remaining (inner_of c.args.reader.now)) (remaining (inner_of c.reads.reader))
          (remaining (inner_of c.read.new.self)) read _ bytes c.in-Ok.ensures.bytes.0;
      works = works_now;
      damages = λ more. subst (λ (t : List ℕ). DamagesCapture IsAnyCaptureOf c.in-Err-feed.fault t)
          (sym (append_assoc read _ more)) (c.in-Err-feed.ensures read fed more);
    }
