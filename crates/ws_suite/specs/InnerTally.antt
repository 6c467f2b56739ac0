-- Inside the crate: the last pong as it is kept in place. A reader may skip this file.
use Rattle.std.specs.Prelude.{ℕ, List, Option, Some, None}
use Rattle.ws_suite.specs.declared.evidence.InTurn.{InTurn}
use Rattle.ws_suite.specs.declared.evidence.Reply.{Reply}
use Rattle.ws_suite.specs.declared.evidence.Reply.TheVariants.{Pong}

-- the pong with this payload, in this turn
abbrev pub pong_of : ℕ → List ℕ → InTurn Reply
pong_of turn payload = record { turn = turn; what = Pong payload }

-- it, where there is a turn
abbrev pub pong_kept : Option ℕ → List ℕ → Option (InTurn Reply)
pong_kept None payload = None
pong_kept (Some turn) payload = Some (pong_of turn payload)
