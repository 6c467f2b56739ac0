-- The last ping that was sent, whether a pong that was got answers it, and the pongs of the turn that has begun last.
use Rattle.std.specs.Prelude.{◌≡◌, ◌&&◌, nat_le, ℕ, Bool, true, List, filter, map, Option, Some, None}
use Rattle.std.specs.List.{AllByRecursion, last_or, list_any}
use Rattle.ws_suite.specs.declared.evidence.InTurn.{InTurn}
use Rattle.ws_suite.specs.declared.evidence.Reply.{Reply}
use Rattle.ws_suite.specs.declared.evidence.kept.Kept.{Kept}
use Rattle.ws_suite.specs.declared.evidence.last_ping.LastPing.{LastPing}
use Rattle.ws_suite.specs.InnerTally.{pong_of}
use Rattle.ws_suite.specs.Matching.{has_payload_of, payload_of, pong_replies}

-- a pong that was got answers the due one, if there is one: it has its payload, and stands in no earlier turn
abbrev pub answers_due : Option (InTurn Reply) → InTurn Reply → Bool
answers_due None got = true
answers_due (Some due) got = has_payload_of got due && nat_le due.turn got.turn

-- one of these pongs that were got does
abbrev pub is_due_among : Option (InTurn Reply) → List (InTurn Reply) → Bool
is_due_among None gots = true
is_due_among (Some due) gots = list_any (λ got. has_payload_of got due && nat_le due.turn got.turn) gots

-- the payloads of the pongs among these replies that stand in no earlier turn than this one
abbrev pub pongs_since : ℕ → List (InTurn Reply) → List (List ℕ)
pongs_since turn replies = map (λ x. payload_of x.what) (filter (λ x. nat_le turn x.turn) (pong_replies replies))

-- these replies are of this turn
abbrev pub AreOfTurn : ℕ → List (InTurn Reply) → Type 0
AreOfTurn turn replies = AllByRecursion (λ x. x.turn ≡ turn) replies

-- What is kept of these replies, those that are due and those that were got: the last pong that is due, whether one
-- that was got answers it, and the payloads of those that were got from this turn on.
pub record IsLastPingOf (turn : ℕ) (dues gots : List (InTurn Reply)) (x : LastPing) : Type 0 where
  pub due : x.due ≡ last_or None (pong_replies dues)
  pub is_answered : x.is_answered ≡ is_due_among x.due (pong_replies gots)
  pub in_turn : x.in_turn ≡ pongs_since turn gots

-- ---- inside the crate: a reader may skip what follows

-- a pong whose payload is lent, if there is one
abbrev pub lent_pong : Option Kept → Option (InTurn Reply)
lent_pong None = None
lent_pong (Some x) = Some (pong_of x.turn x.payload.now)
