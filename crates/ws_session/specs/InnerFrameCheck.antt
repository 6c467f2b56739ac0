-- Inside the crate: what a piece makes of the frame under way, for contracts of private functions. A reader may skip
-- this file.
use Rattle.std.specs.Prelude.{ℕ, List, Option}
use Rattle.ws_session.specs.declared.reason.Reason.{Reason}
use Rattle.ws_session.specs.declared.receiver.under_way.UnderWay.{UnderWay}
use Rattle.ws_session.specs.InnerContent.{Content}

-- the frame isn't whole with the piece and nothing is wrong with it: what has come of it then, and the stream that has
-- read the message with it; or it is whole with so many bytes of the piece; or its first fault is told at the last of
-- so many
pub data FrameCheck : Type 0 where
  Need : UnderWay → Option (List ℕ) → FrameCheck
  Whole : ℕ → Content → FrameCheck
  Fault : Reason → ℕ → FrameCheck
