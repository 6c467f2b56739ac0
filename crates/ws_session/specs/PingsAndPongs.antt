-- Pings and pongs, which each end may send at any time: RFC 6455 sections 5.2, 5.5.2 and 5.5.3.
use Rattle.std.specs.Prelude.{ℕ, ◌%◌, ◌==◌, ◌||◌, Bool, true, false, List, [], ◌∷◌}
use Rattle.ws_session.specs.declared.event.Event.{Event}
use Rattle.ws_session.specs.declared.event.Event.TheVariants as event

-- the opcode of a ping or a pong
abbrev pub means_ping_or_pong : ℕ → Bool
means_ping_or_pong opcode = (opcode == 9) || (opcode == 10)

-- The bytes of a frame that isn't whole begin a ping or a pong: the lower half of the first byte is such an opcode.
abbrev pub begins_ping_or_pong : List ℕ → Bool
begins_ping_or_pong [] = false
begins_ping_or_pong (first ∷ bytes) = means_ping_or_pong (first % 16)

-- the event is a ping or a pong
abbrev pub is_ping_or_pong : Event → Bool
is_ping_or_pong event.Part = false
is_ping_or_pong (event.Message message) = false
is_ping_or_pong (event.Ping payload) = true
is_ping_or_pong (event.Pong payload) = true
is_ping_or_pong (event.Close close) = false
is_ping_or_pong (event.Failed reason) = false
