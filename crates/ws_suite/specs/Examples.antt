-- Worked examples of matched pongs and an echo's answers, each a theorem. The law `worked_verdicts`
-- has verdicts on the transcripts that stand last.
use Rattle.std.specs.Prelude.{◌≡◌, ℕ, true, false, List, [], ◌∷◌, Some, None, refl}
use Rattle.ws_wire.specs.declared.role.Role.TheVariants.{Client, Server}
use Rattle.ws_session.specs.declared.reason.Reason.TheVariants.{Opcode}
use Rattle.ws_session.specs.declared.event.Event.TheVariants as event
use Rattle.ws_scripts.specs.declared.transcript.Ended.{Ended}
use Rattle.ws_scripts.specs.declared.transcript.Transcript.{Transcript}
use Rattle.ws_scripts.specs.Examples.{turn_of}
use Rattle.ws_suite.specs.declared.evidence.InTurn.{InTurn}
use Rattle.ws_suite.specs.declared.evidence.Reply.{Reply}
use Rattle.ws_suite.specs.declared.evidence.Reply.TheVariants as reply
use Rattle.ws_suite.specs.Matching.{matches_of}
use Rattle.ws_suite.specs.Fairness.{echo_bytes, ends_echo}

-- ---- pongs

abbrev pub pong : ℕ → List ℕ → InTurn Reply
pong turn payload = record { turn = turn; what = reply.Pong payload }

-- each is matched with the first due pong after the last match that has its payload
pub matched_in_order :
    matches_of (pong 0 (1 ∷ []) ∷ pong 0 (2 ∷ []) ∷ pong 1 (1 ∷ []) ∷ []) (pong 1 (1 ∷ []) ∷ pong 1 (1 ∷ []) ∷ [])
    ≡ (pong 1 (1 ∷ []), Some (pong 0 (1 ∷ []))) ∷ (pong 1 (1 ∷ []), Some (pong 1 (1 ∷ []))) ∷ []
matched_in_order = refl

-- and one without a match leaves those that are due
pub matched_after_another :
    matches_of (pong 0 (1 ∷ []) ∷ []) (pong 0 (2 ∷ []) ∷ pong 0 (1 ∷ []) ∷ [])
    ≡ (pong 0 (2 ∷ []), None) ∷ (pong 0 (1 ∷ []), Some (pong 0 (1 ∷ []))) ∷ []
matched_after_another = refl

-- ---- an echo's answers

pub a_ping_echoed : echo_bytes Server [] (event.Ping (7 ∷ []) ∷ event.Part ∷ []) ≡ 0x8a ∷ 0x01 ∷ 7 ∷ []
a_ping_echoed = refl

pub a_fault_closed : echo_bytes Server [] (event.Failed Opcode ∷ []) ≡ 0x88 ∷ 0x02 ∷ 0x03 ∷ 0xea ∷ []
a_fault_closed = refl

-- a client's pong, masked with its key: 7 xor 1 is 6
pub a_ping_echoed_by_a_client :
    echo_bytes Client (1 ∷ 2 ∷ 3 ∷ 4 ∷ []) (event.Ping (7 ∷ []) ∷ []) ≡ 0x8a ∷ 0x81 ∷ 1 ∷ 2 ∷ 3 ∷ 4 ∷ 6 ∷ []
a_ping_echoed_by_a_client = refl

pub ended_by_a_close : ends_echo (event.Ping [] ∷ event.Close None ∷ []) ≡ true
ended_by_a_close = refl

pub not_ended_by_a_ping : ends_echo (event.Ping [] ∷ []) ≡ false
not_ended_by_a_ping = refl

-- ---- transcripts for the worked verdicts

-- an empty ping under a key of zeros, and the pong that answers it
abbrev pub ping_sent : List ℕ
ping_sent = 0x89 ∷ 0x80 ∷ 0x00 ∷ 0x00 ∷ 0x00 ∷ 0x00 ∷ []

abbrev pub pong_got : List ℕ
pong_got = 0x8a ∷ 0x00 ∷ []

-- an empty text, and a close with code 1000, both masked
abbrev pub text_sent : List ℕ
text_sent = 0x81 ∷ 0x80 ∷ 0x37 ∷ 0xfa ∷ 0x21 ∷ 0x3d ∷ []

abbrev pub close_sent : List ℕ
close_sent = 0x88 ∷ 0x82 ∷ 0x37 ∷ 0xfa ∷ 0x21 ∷ 0x3d ∷ 0x34 ∷ 0x12 ∷ []

-- the text "a", a close with code 1000, and one with code 1008
abbrev pub text_got : List ℕ
text_got = 0x81 ∷ 0x01 ∷ 0x61 ∷ []

abbrev pub close_got : List ℕ
close_got = 0x88 ∷ 0x02 ∷ 0x03 ∷ 0xe8 ∷ []

abbrev pub policy_got : List ℕ
policy_got = 0x88 ∷ 0x02 ∷ 0x03 ∷ 0xf0 ∷ []

abbrev pub in_one_turn : List ℕ → List ℕ → Ended → Transcript
in_one_turn sent got ended = record { turns = turn_of sent got ∷ []; ended = ended }

abbrev pub in_two_turns : List ℕ → List ℕ → List ℕ → List ℕ → Ended → Transcript
in_two_turns sent got then_sent then_got ended =
    record { turns = turn_of sent got ∷ turn_of then_sent then_got ∷ []; ended = ended }
