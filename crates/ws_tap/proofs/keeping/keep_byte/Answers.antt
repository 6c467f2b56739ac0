-- One more byte of the frames makes a line certain, or none, and it is kept where it fits, by whichever way the lines
-- are made.
use Rattle.std.proofs.Common.{subst}
use Rattle.ws_frame.specs.declared.frame_lines.FrameLines.{FrameLines}
use Rattle.ws_frame.specs.FrameStreaming.{StandsEitherWay}
use Rattle.ws_tap.proofs.keeping.keep_byte.Goals as goal

pub take_byte-line-requires : goal.take_byte-line-requires
take_byte-line-requires c =
    let (taken, written, t, small) = c.requires in
    record {
      room = (
        taken,
        written,
        subst (λ (s : FrameLines). StandsEitherWay s taken written) c.in-Digits.is t.stands,
        small,
      );
    }

pub take-requires : goal.take-requires
take-requires c =
    let (taken, written, t, small) = c.requires in
    record {
      room = (
        taken,
        written,
        subst (λ (s : FrameLines). StandsEitherWay s taken written) c.in-Whole.is t.stands,
        small,
      );
    }
