-- The turns of a followed connection, as the end that is judged has them: what it was sent, and what it sent. A first
-- turn begins with the connection, and a further one with bytes to that end behind bytes from it.
use Rattle.std.specs.Prelude.{ℕ, ◌-◌, ◌&&◌, if◌then◌else◌, Bool, true, false, List, [], ◌∷◌, ◌++◌, length, drop, map}
use Rattle.std.specs.List.{flat_map}
use Rattle.ws_scripts.specs.declared.transcript.Turn.{Turn}
use Rattle.ws_scripts.specs.Scripts.{has_any}
use Rattle.ws_followed.specs.declared.segment.Node.{Node}
use Rattle.ws_followed.specs.declared.segment.Node.TheVariants.{Zero, One}
use Rattle.ws_followed.specs.declared.segment.Segment.{Segment}
use Rattle.ws_followed.specs.declared.turns.OpenTurns.{OpenTurns}

-- ---- what an end sent

abbrev pub is_node : Node → Node → Bool
is_node Zero Zero = true
is_node Zero One = false
is_node One Zero = false
is_node One One = true

-- all bytes of an end, one after the other
abbrev pub bytes_from : Node → List Segment → List ℕ
bytes_from node segments =
    flat_map (λ (segment : Segment). if is_node node segment.node then segment.bytes else []) segments

-- ---- turns

abbrev pub made_turn : List ℕ → List ℕ → Turn
made_turn sent got = record { sent = sent; got = got }

-- The turns of a turn that has begun and the segments behind it. Of what the judged end was sent so many bytes are left
-- out, and so many of what it sent: its head and the other's, as far as they are still to come.
abbrev pub turns_on : Node → ℕ → ℕ → List ℕ → List ℕ → List Segment → List Turn
turns_on judged to_end from_end sent got [] = made_turn sent got ∷ []
turns_on judged to_end from_end sent got (segment ∷ segments) =
    if is_node judged segment.node
    then turns_on judged to_end (from_end - length segment.bytes) sent (got ++ drop from_end segment.bytes) segments
    else (if has_any got && has_any (drop to_end segment.bytes)
    then made_turn sent got
    ∷ turns_on judged (to_end - length segment.bytes) from_end (drop to_end segment.bytes) [] segments
    else turns_on judged (to_end - length segment.bytes) from_end (sent ++ drop to_end segment.bytes) got segments)

-- the turns of a connection whose heads are so long
abbrev pub turns_behind : Node → ℕ → ℕ → List Segment → List Turn
turns_behind judged to_end from_end segments = turns_on judged to_end from_end [] [] segments

-- ---- inside the crate. A reader may skip what follows.

-- the turns that are over, and those of the one that goes on and of the segments that are left
abbrev pub all_turns_with : Node → OpenTurns → List Segment → List Turn
all_turns_with judged turns segments =
    turns.done ++ turns_on judged turns.to_end turns.from_end turns.sent turns.got segments
