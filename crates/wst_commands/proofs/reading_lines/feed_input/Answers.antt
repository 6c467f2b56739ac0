-- Piece after piece is fed, until the reader ends or the feed refuses one.
use Rattle.std.proofs.Common.{◌≡◌, ◌++◌, [], false, List, ℕ, sym, subst, append-nil, append_assoc, rules}
use Rattle.std.proofs.KnownBytes.{Consumes-nil, Consumes-trans}
use Rattle.ws_formats.specs.Lines.{Damages, HasLineForEach}
use Rattle.ws_frame.specs.Devices.{watched}
use Rattle.ws_frame.specs.Watching.{has_failed, inner_of}
use Rattle.ws_text_feed.specs.Feeding.{IsFed}
use Rattle.wst_commands.proofs.ReadLines.{feeding_ended}
use Rattle.wst_commands.proofs.reading_lines.feed_input.Goals as goal

pub reads-init : goal.reads-init
reads-init g c =
    let remaining = g.R.Read.remaining in (
      c.requires.works,
      (
        [],
        Consumes-nil (remaining (inner_of c.args.reader.now)),
        λ first text h. subst (λ (t : List ℕ). IsFed g.T.TakeValues.is_line_of g.T.TakeValues.has_taken first t c.args.feed.now)
            (sym (append-nil text)) h,
      ),
    )

pub reads-preserved : goal.reads-preserved
reads-preserved g c =
    let (read, bytes, fed) = c.reads.invariant.1 in
    let remaining = g.R.Read.remaining in
    let works_now : has_failed c.read.new.self ≡ false = search rules in (
      works_now,
      (
        _,
        Consumes-trans (remaining (inner_of c.args.reader.now)) (remaining (inner_of c.reads.reader)) (remaining (inner_of c.read.new.self)) read _ bytes c.in-Ok.ensures.bytes.0,
        λ first text h. subst (λ (t : List ℕ). IsFed g.T.TakeValues.is_line_of g.T.TakeValues.has_taken first t c.feed.new.self)
            (append_assoc text read _) (c.in-Ok-feed.ensures first (text ++ read) (fed first text h)),
      ),
    )

pub returns-in-Err-feed : goal.returns-in-Err-feed
returns-in-Err-feed g c = λ first h.
    let (read, bytes, fed) = c.reads.invariant.1 in
    let remaining = g.R.Read.remaining in
    let works_now : has_failed c.read.new.self ≡ false = search rules in
    feeding_ended g.T.TakeValues.is_line_of c.in-Err-feed.fault c.input_fault.result
    (watched remaining c.args.reader.now c.read.new.self) c.input_fault.ensures record {
      read = _;
      bytes = Consumes-trans (remaining (inner_of c.args.reader.now)) (remaining (inner_of c.reads.reader))
          (remaining (inner_of c.read.new.self)) read _ bytes c.in-Ok.ensures.bytes.0;
      works = works_now;
      damages = λ more. subst
          (λ (t : List ℕ). Damages (HasLineForEach g.T.TakeValues.is_line_of) c.in-Err-feed.fault t)
          (sym (append_assoc read _ more)) (c.in-Err-feed.ensures first read (fed first [] h) more);
    }

pub feed-requires : goal.feed-requires
feed-requires g c =
    let (first, text, h) = c.requires.fed in
    let (read, bytes, fed) = c.reads.invariant.1 in
    (first, text ++ read, fed first text h)
