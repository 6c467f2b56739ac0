-- The transcript of a tester and an echo: RFC 6455 sections 5.4 to 5.6 and 7.1.
use Rattle.std.specs.Prelude.{◌≡◌, ℕ, ◌<◌, ◌≤◌, Bool, false, if◌then◌else◌, List, [], length, map, take}
use Rattle.std.specs.List.{concat}
use Rattle.ws_wire.specs.declared.role.Role.{Role}
use Rattle.ws_wire.specs.Header.{AreBytes, IsMaskingKey}
use Rattle.ws_wire.specs.Frame.{stream_bytes}
use Rattle.ws_session.specs.declared.event.Event.{Event}
use Rattle.ws_session.specs.Events.{HasEvents}
use Rattle.ws_session.specs.Replies.{echo_replies_of, key_for, under_key}
use Rattle.ws_session.specs.Exchange.{is_over, status_of}
use Rattle.ws_session.specs.Sends.{most_limits}
use Rattle.ws_scripts.specs.declared.transcript.Ended.TheVariants.{Tester, Peer}
use Rattle.ws_scripts.specs.declared.transcript.Transcript.{Transcript}
use Rattle.ws_suite.specs.Evidence.{sent_turns, got_turns}

-- all that was sent in the first turns, and all that was got
abbrev pub sent_within : Transcript → ℕ → List ℕ
sent_within transcript n = concat (take n (sent_turns transcript.turns))

abbrev pub got_within : Transcript → ℕ → List ℕ
got_within transcript n = concat (take n (got_turns transcript.turns))

-- what an echo of this role puts for all that it was told: a client masks each frame with the key, a server none
abbrev pub echo_bytes : Role → List ℕ → List Event → List ℕ
echo_bytes role key events = stream_bytes (map (under_key role key) (echo_replies_of [] events))

-- the echo's session is over by these events, before its stream ends
abbrev pub ends_echo : List Event → Bool
ends_echo events = is_over (status_of (echo_replies_of [] events) false events)

-- A tester and an echo at the tested end, that was new and takes the largest messages:
-- (1) what was sent is bytes;
-- (2) after each turn, all that was got is what the echo puts for the events of all that was sent, under one key where
--     it is a client;
-- (3) its session isn't over before the last turn;
-- (4) the end is Peer where it is over after the last turn, else Tester.
-- Nothing is asked of what was sent: it may break every rule.
pub record IsEchoTranscript (tested : Role) (transcript : Transcript) : Type 0 where
  pub bytes : AreBytes (concat (sent_turns transcript.turns))
  pub key : List ℕ
  pub is_key : IsMaskingKey (key_for tested key)
  pub events : ℕ → List Event
  pub has_events : (n : ℕ) → n ≤ length transcript.turns →
      HasEvents tested most_limits (sent_within transcript n) (events n)
  pub got : (n : ℕ) → n ≤ length transcript.turns → got_within transcript n ≡ echo_bytes tested key (events n)
  pub goes_on : (n : ℕ) → n < length transcript.turns → ends_echo (events n) ≡ false
  pub ended : transcript.ended ≡ (if ends_echo (events (length transcript.turns)) then Peer else Tester)
