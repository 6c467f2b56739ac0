-- Part after part: what stands before the rest of the piece has come to the end, and the rest grows shorter.
use Rattle.std.proofs.Common.{◌≡◌, ◌++◌, ◌+◌, ◌<◌, ℕ, List, length, false}
use Rattle.ws_wire.specs.declared.role.Role.{Role}
use Rattle.ws_wire.specs.Frame.{KeyedFrame, stream_bytes}
use Rattle.ws_session.specs.Limits.{LimitsValue}
use Rattle.ws_pair.specs.Link.{LinkEnd}
use Rattle.ws_pair.specs.InnerPlaying.{AreSentBy, IsEnd, IsNextIn, grown, peer}
use Rattle.ws_pair.proofs.endpoint.Endpoint.deliver.Given as goal

-- what stands before the rest has come
abbrev pub invariant-loop-rest : goal.invariant-loop-rest
invariant-loop-rest l = (done : List ℕ) × (l.piece ≡ done ++ l.rest) × (l.self.reached ≡ l.fn.self.reached + length done)
    × ((role : Role) (limits : LimitsValue) (x : LinkEnd) (xs : List KeyedFrame) → IsEnd role limits x xs l.fn.self
    → AreSentBy (peer role) xs → IsNextIn (stream_bytes xs) x.reached l.piece → (0 < length l.piece → x.is_cut ≡ false)
    → IsEnd role limits (grown role limits x xs (length done) l.key) xs l.self)

abbrev pub decreases-loop-rest : goal.decreases-loop-rest
decreases-loop-rest l = length l.rest
