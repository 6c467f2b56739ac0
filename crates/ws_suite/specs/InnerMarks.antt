-- Inside the crate: how the marks of a connection are found, and what its pings come to. A reader may skip this file.
use Rattle.std.specs.Prelude.{◌≡◌, ◌≢◌, ℕ, ◌+◌, ◌-◌, ◌<◌, ◌≤◌, ◌⊎◌, ◌↔◌, ◌&&◌, nat_le, nat_lt, Bool, true, false}
use Rattle.std.specs.Prelude.{List, []}
use Rattle.std.specs.Prelude.{◌++◌, if◌then◌else◌, length, drop, take, flat_map, map, not, Option, Some, None}
use Rattle.std.specs.Prelude.{⊤}
use Rattle.std.specs.List.{AllByRecursion, concat, last_or, list_any}
use Rattle.ws_wire.specs.declared.role.Role.{Role}
use Rattle.ws_wire.specs.Frame.{Frame, IsWireFrame, KeyedFrame, WireFrame, stream_bytes, wire_bytes}
use Rattle.ws_wire.specs.Header.{HeaderFields, is_longer_than_needed, is_masked}
use Rattle.ws_wire.specs.Masking.{masked_payload}
use Rattle.ws_wire.specs.Stream.{SplitsInto, SplitsIntoAnyForm}
use Rattle.ws_text.specs.Close.{CloseValue, IsClosePayload}
use Rattle.ws_session.specs.declared.event.Event.{Event}
use Rattle.ws_session.specs.declared.payload_room.EventKind.{EventKind}
use Rattle.ws_session.specs.declared.payload_room.EventKind.TheVariants as lent
use Rattle.ws_session.specs.declared.reason.Reason.{Reason}
use Rattle.ws_session.specs.Events.{HasEvents}
use Rattle.ws_session.specs.Exchange.{HasExchanged, SessionValue, is_over}
use Rattle.ws_session.specs.Faults.{IsFirstFault, expects_key}
use Rattle.ws_session.specs.Sends.{most_limits}
use Rattle.ws_scripts.specs.declared.transcript.Transcript.{Transcript}
use Rattle.ws_scripts.specs.declared.transcript.Turn.{Turn}
use Rattle.ws_suite.specs.declared.evidence.InTurn.{InTurn}
use Rattle.ws_suite.specs.declared.evidence.Reply.{Reply}
use Rattle.ws_suite.specs.declared.evidence.Ending.{Ending}
use Rattle.ws_suite.specs.declared.evidence.Ending.TheVariants.{Closed}
use Rattle.ws_suite.specs.declared.evidence.Evidence.{Evidence}
use Rattle.ws_suite.specs.declared.evidence.behind.GotPlace.{GotPlace}
use Rattle.ws_suite.specs.declared.evidence.kept.Head.{Head}
use Rattle.ws_suite.specs.declared.evidence.kept.ReplyKind.{ReplyKind}
use Rattle.ws_suite.specs.declared.evidence.kept.ReplyKind.TheVariants.{Text, Binary, Pong, Ping}
use Rattle.ws_suite.specs.declared.evidence.marks.MarkedEvidence.{MarkedEvidence}
use Rattle.ws_suite.specs.declared.evidence.marks.Marks.{Marks}
use Rattle.ws_suite.specs.declared.evidence.marks.Told.{Told}
use Rattle.ws_suite.specs.declared.evidence.collecting.Way.{Way}
use Rattle.ws_suite.specs.declared.evidence.streams.LastFrame.{LastFrame}
use Rattle.ws_suite.specs.declared.evidence.streams.LastFrame.TheVariants as frame
use Rattle.ws_suite.specs.declared.evidence.streams.Seen.{Seen}
use Rattle.ws_suite.specs.declared.evidence.streams.StreamEnd.{StreamEnd}
use Rattle.ws_suite.specs.declared.evidence.streams.StreamEnd.TheVariants as stream
use Rattle.ws_suite.specs.declared.evidence.streams.Streams.{Streams}
use Rattle.ws_suite.specs.declared.evidence.wire_frames.WholeFrame.{WholeFrame}
use Rattle.ws_suite.specs.declared.judging.noted.Noted.{Noted}
use Rattle.ws_suite.specs.declared.judging.owed.OwedPongs.{OwedPongs}
use Rattle.ws_suite.specs.declared.verdict.LooseWhy.{LooseWhy}
use Rattle.ws_suite.specs.declared.verdict.LooseWhy.TheVariants as loose
use Rattle.ws_suite.specs.Evidence.{AreEventsByTurn, HoldsByte, by_turn, ending_in, got_turns, other_role, sent_turns}
use Rattle.ws_suite.specs.InnerCollecting.{way_bytes}
use Rattle.ws_suite.specs.InnerJudging.{without_pings}
use Rattle.ws_suite.specs.InnerNoted.{noted_of}
use Rattle.ws_suite.specs.Kept.{turn_in}
use Rattle.ws_suite.specs.Marks.{ArePongsAmong, HoldsUndefinedCode, StandBehind, begins_message, is_last_fragment}
use Rattle.ws_suite.specs.Marks.{leaves_open, with_pongs}
use Rattle.ws_suite.specs.Matching.{has_payload_of, is_pong, payload_of}
use Rattle.ws_suite.specs.Protocol.{HasOwnClose, HasOwnFault, IsLastAnswered, IsLooseByProtocol, OwesPongs}
use Rattle.ws_suite.specs.Protocol.{earlier_pongs, is_answered}
use Rattle.ws_suite.specs.Verdicts.{loose_number}

-- ---- frames on the wire

-- a frame at the front of the bytes, and the bytes behind it
pub record IsFrontFrame (bytes : List ℕ) (found : WholeFrame) : Type 0 where
  pub payload : List ℕ
  pub is_frame : IsWireFrame (record { header = found.header; payload = payload })
  pub masked : found.payload.now ≡ masked_payload found.header.key payload
  pub parts : bytes ≡ wire_bytes (record { header = found.header; payload = payload }) ++ found.after.now

-- this is the frame that was found: its header, and its payload as it stands on the wire
abbrev pub IsFrameFound : WireFrame → WholeFrame → Type 0
IsFrameFound x found = (x.header ≡ found.header) × (found.payload.now ≡ masked_payload x.header.key x.payload)

-- a header with FIN that breaks no rule but for its opcode, and a payload as short as that of a control frame
abbrev pub IsPlainControl : Role → HeaderFields → List ℕ → Type 0
IsPlainControl role header payload = (header.fin ≡ true) × (header.rsv ≡ 0)
    × (is_longer_than_needed header.form header.len ≡ false) × (is_masked header.key ≡ expects_key role)
    × (length payload ≤ 125)

-- whether a frame is the last fragment of a message under way, or begins another message; or neither
abbrev pub message_end : WireFrame → Option Bool
message_end x =
    if is_last_fragment x then Some true else (if begins_message x then Some false else None)

-- what a close frame may say, or nothing, or a code that the standard leaves undefined
abbrev pub IsRightClose : List ℕ → Type 0
IsRightClose payload = ((close : Option CloseValue) × IsClosePayload payload close)
    ⊎ ((code : ℕ) × HoldsUndefinedCode payload code)

-- ---- a stream that was taken

-- the events end so: with neither a close nor a fault, with a close, or with a fault, whose frame begins at this place
abbrev pub EndsSo : Role → List ℕ → List Event → Option StreamEnd → ℕ → Type 0
EndsSo role bytes events None last = flat_map ending_in events ≡ []
EndsSo role bytes events (Some stream.Closed) last = (flat_map ending_in events ≢ [])
    × ((reason : Reason) (place : ℕ) → ¬ (IsFirstFault role most_limits bytes place reason))
EndsSo role bytes events (Some (stream.Failed reason)) last = (place : ℕ)
    × (found : IsFirstFault role most_limits bytes place reason) × (length (stream_bytes found.fault.before) ≡ last)

-- with a fault they end at this place: with the byte at fault
abbrev pub FailsWithByte : Role → List ℕ → Option StreamEnd → ℕ → Type 0
FailsWithByte role bytes None after = ⊤
FailsWithByte role bytes (Some stream.Closed) after = ⊤
FailsWithByte role bytes (Some (stream.Failed reason)) after = IsFirstFault role most_limits bytes after reason

-- the reason of the fault that ends the stream, if one does
abbrev pub fault_of : Option StreamEnd → Option Reason
fault_of None = None
fault_of (Some stream.Closed) = None
fault_of (Some (stream.Failed reason)) = Some reason

-- whether the last frame of a message that came leaves that open, if one did
abbrev pub left_open : LastFrame → Option Bool
left_open frame.Nothing = None
left_open frame.Fragment = Some true
left_open frame.Message = Some false

-- the place of the first byte that is asked about
abbrev pub first_asked_by : Option StreamEnd → ℕ → ℕ → ℕ
first_asked_by None last after = after
first_asked_by (Some end) last after = last

abbrev pub first_asked : Seen → ℕ
first_asked seen = first_asked_by seen.end seen.last seen.after

-- what a session of this role tells of the bytes is seen
pub record IsSeen (role : Role) (bytes : List ℕ) (seen : Seen) : Type 0 where
  pub events : List Event
  pub are_events : HasEvents role most_limits bytes events
  pub left : left_open seen.frame ≡ last_or None (flat_map leaves_open events)
  pub ends : EndsSo role bytes events seen.end seen.last
  pub fails : FailsWithByte role bytes seen.end seen.after
  pub order : seen.last ≤ seen.after
  pub within : seen.after ≤ length bytes
  pub behind : StandBehind role bytes events (drop seen.after bytes)

-- so it is of both directions
pub record AreStreamsOf (tested : Role) (transcript : Transcript) (streams : Streams) : Type 0 where
  pub sent : IsSeen tested (concat (sent_turns transcript.turns)) streams.sent
  pub got : IsSeen (other_role tested) (concat (got_turns transcript.turns)) streams.got

-- or of what was sent and what goes this way
pub record AreStreamsBy (way : Way) (tested : Role) (transcript : Transcript) (streams : Streams) : Type 0 where
  pub sent : IsSeen tested (concat (sent_turns transcript.turns)) streams.sent
  pub got : IsSeen (other_role tested) (concat (map (way_bytes way) transcript.turns)) streams.got

-- this was seen of the bytes, and those that are asked about are there
abbrev pub IsTold : Seen → List ℕ → Told → Type 0
IsTold seen bytes told = (told.seen ≡ seen) × (told.bytes.items ≡ drop (first_asked seen) bytes)

pub record IsToldStream (role : Role) (bytes : List ℕ) (told : Told) : Type 0 where
  pub is_seen : IsSeen role bytes told.seen
  pub asked : told.bytes.items ≡ drop (first_asked told.seen) bytes

-- the bytes behind the last event are among them
abbrev pub HasAllAsked : Told → Type 0
HasAllAsked told = (first_asked told.seen ≤ told.seen.after)
    × (told.seen.after ≤ first_asked told.seen + length told.bytes.items)

-- A session of this role has taken the bytes, and what it told is seen of them. While they go on those up to the last
-- event are whole frames; from their end on the session is over.
pub record HasSeenBytes (role : Role) (session : SessionValue) (bytes : List ℕ) (seen : Seen) : Type 0 where
  pub sent : List Frame
  pub events : List Event
  pub exchanged : HasExchanged session sent bytes false
  pub same_role : session.role ≡ role
  pub limits : session.limits ≡ most_limits
  pub place : seen.place ≡ length bytes
  pub left : left_open seen.frame ≡ last_or None (flat_map leaves_open events)
  pub ends : EndsSo role (take seen.after bytes) events seen.end seen.last
  pub fails : FailsWithByte role (take seen.after bytes) seen.end seen.after
  pub order : seen.last ≤ seen.after
  pub within : seen.after ≤ length bytes
  pub quiet : (n : ℕ) → seen.after ≤ n → HasEvents role most_limits (take n bytes) events
  pub fewest : (n : ℕ) → n < seen.after → ¬ (HasEvents role most_limits (take n bytes) events)
  pub whole : seen.end ≡ None → (frames : List KeyedFrame) × SplitsInto (take seen.after bytes) frames []
  pub over : (seen.end ≡ None) ⊎ (is_over session.status ≡ true)

-- nothing is seen of no bytes
abbrev pub nothing_seen : Seen
nothing_seen = record { place = 0; after = 0; last = 0; end = None; frame = frame.Nothing }

-- what is seen with so many bytes more
abbrev pub seen_more : Seen → ℕ → Seen
seen_more seen used = record {
  place = seen.place + used;
  after = seen.after;
  last = seen.last;
  end = seen.end;
  frame = seen.frame;
}

-- and with an event that ends with the last byte: of a message, another one, and one that ends the stream
abbrev pub seen_frame : Seen → LastFrame → Seen
seen_frame seen last = record {
  place = seen.place;
  after = seen.place;
  last = seen.last;
  end = seen.end;
  frame = last;
}

abbrev pub seen_control : Seen → Seen
seen_control seen = record {
  place = seen.place;
  after = seen.place;
  last = seen.last;
  end = seen.end;
  frame = seen.frame;
}

abbrev pub seen_end : Seen → StreamEnd → Seen
seen_end seen end = record {
  place = seen.place;
  after = seen.place;
  last = seen.after;
  end = Some end;
  frame = seen.frame;
}

abbrev pub seen_with : Seen → EventKind → Seen
seen_with seen lent.Part = seen_frame seen frame.Fragment
seen_with seen (lent.Message kind) = seen_frame seen frame.Message
seen_with seen lent.Ping = seen_control seen
seen_with seen lent.Pong = seen_control seen
seen_with seen (lent.Close code) = seen_end seen stream.Closed
seen_with seen (lent.Failed reason) = seen_end seen (stream.Failed reason)

abbrev pub seen_if_any : Seen → Option EventKind → Seen
seen_if_any seen None = seen
seen_if_any seen (Some event) = seen_with seen event

-- ---- the evidence with a close counted

-- what came turn by turn to an endpoint of this role ends so: with its close or fault, in its turn
pub record IsEndingByTurn (role : Role) (turns : List (List ℕ)) (ending : Option (InTurn Ending)) : Type 0 where
  pub events : List (List Event)
  pub are_events : AreEventsByTurn role turns events
  pub is_last : ending ≡ last_or None (by_turn ending_in 0 events)

-- a close of this code, if there is one, in place of a fault
abbrev pub closed_with : Option (InTurn Ending) → Option ℕ → Option (InTurn Ending)
closed_with None code = None
closed_with (Some ending) None = Some ending
closed_with (Some ending) (Some code) = Some (record { turn = ending.turn; what = Closed (Some code) })

-- the evidence with that
abbrev pub evidence_closed : Evidence → Option ℕ → Evidence
evidence_closed x code = record {
  due = x.due;
  got = record { replies = x.got.replies; ending = closed_with x.got.ending code; has_rest = x.got.has_rest };
  turns = x.turns;
  ended = x.ended;
  answers_doom = x.answers_doom;
}

-- the byte at this place, counted from 0, is one of this turn; or there is no such byte
abbrev pub IsTurnOfPlace : List (List ℕ) → ℕ → Option ℕ → Type 0
IsTurnOfPlace turns place None = length (concat turns) ≤ place
IsTurnOfPlace turns place (Some turn) = HoldsByte turns turn (place + 1)

-- ---- pongs behind a close

-- so many bytes of all that was got in these turns are before the place
pub record IsPlaceIn (turns : List Turn) (n : ℕ) (place : GotPlace) : Type 0 where
  pub begun : ℕ
  pub most : begun ≤ length turns
  pub later : place.later ≡ drop begun turns
  pub count : place.count ≡ length turns
  pub left : n + place.left ≡ length (concat (take begun (got_turns turns)))
  -- and all those of the turns before the one under way
  pub before : length (concat (take (begun - 1) (got_turns turns))) ≤ n
  -- the last of them is in the turn under way
  pub last : 0 < n → HoldsByte (got_turns turns) (begun - 1) n

-- so many bytes more are there
abbrev pub CanPass : GotPlace → ℕ → Type 0
CanPass place passed = (turns : List Turn) × (n : ℕ) × IsPlaceIn turns n place
    × (n + passed ≤ length (concat (got_turns turns)))

-- the right pongs among the frames of these bytes, before which stand so many
abbrev pub HavePongsAmong : Role → List (List ℕ) → ℕ → List ℕ → List (InTurn Reply) → Type 0
HavePongsAmong role turns before bytes pongs = (frames : List WireFrame) × (rest : List ℕ)
    × SplitsIntoAnyForm bytes frames rest × ArePongsAmong role turns before frames pongs

-- ---- a close of its own

-- what is told of an own close: whether it blames a fault where none was sent
abbrev pub IsOwnLoose : Evidence → LooseWhy → Type 0
IsOwnLoose x loose.PongsSkipped = ⊥
IsOwnLoose x loose.PongElsewhere = ⊥
IsOwnLoose x loose.OtherCode = ⊥
IsOwnLoose x loose.LateEnd = ⊥
IsOwnLoose x loose.EchoShort = ⊥
IsOwnLoose x loose.BrokenEnd = ⊥
IsOwnLoose x loose.OwnFault = HasOwnFault x
IsOwnLoose x loose.OwnClose = HasOwnClose x × ¬ (HasOwnFault x)
IsOwnLoose x loose.OwnEnd = ⊥
IsOwnLoose x loose.LateFault = ⊥
IsOwnLoose x loose.Tolerated = ⊥
IsOwnLoose x loose.NoClose = ⊥
IsOwnLoose x loose.BehindClose = ⊥
IsOwnLoose x loose.TooBig = ⊥

-- this Loose applies, and is behind those of an own close
abbrev pub IsLaterLoose : Role → Evidence → Marks → LooseWhy → Type 0
IsLaterLoose tested x marks why = (loose_number loose.OwnClose < loose_number why)
    × IsLooseByProtocol tested x marks why

-- ---- pings

-- the evidence that the verdict is told on: the pings that were got are no part of it, and the pongs behind the close
-- are
abbrev pub counted_of : MarkedEvidence → Evidence
counted_of x = with_pongs (without_pings x.evidence) x.behind

-- what came of the pings for which a pong is owed
pub record AreOwedFindings (x : Evidence) (found : OwedPongs) : Type 0 where
  pub lacks_last : (found.lacks_last ≡ true) ↔ (OwesPongs x × ¬ (IsLastAnswered x))
  pub skips_one : (found.skips_one ≡ true) ↔ (list_any (λ due. not (is_answered x due)) (earlier_pongs x) ≡ true)

-- some of these pongs answers the ping
abbrev pub is_answered_by : List (InTurn Reply) → InTurn Reply → Bool
is_answered_by gots due = list_any (λ got. has_payload_of got due && nat_le due.turn got.turn) gots

-- each of these pings is answered by some of these pongs
abbrev pub AreMet : List (InTurn Reply) → List (InTurn Reply) → Type 0
AreMet dues gots = AllByRecursion (λ due. is_answered_by gots due ≡ true) dues

-- whether a ping of this turn is answered is told by what is known of its payload; where that has no place, it isn't,
-- or not all have one
abbrev pub IsAnswerTold : Bool → Bool → ℕ → Option ℕ → Type 0
IsAnswerTold has_all is_answered turn None = has_all ≡ true → is_answered ≡ false
IsAnswerTold has_all is_answered turn (Some end) = (is_answered ≡ true) ↔ (turn < end)

-- which pings some of these pongs answer is known by the last turn that is noted for each payload
abbrev pub AreLastTurns : List (InTurn Reply) → Noted → Type 0
AreLastTurns gots noted = (due : InTurn Reply)
    → IsAnswerTold noted.has_all (is_answered_by gots due) due.turn (noted_of noted (payload_of due.what))

-- a turn is before another one, if there is such
abbrev pub is_turn_before : Option ℕ → ℕ → Bool
is_turn_before None turn = true
is_turn_before (Some end) turn = nat_lt turn end

-- a pong of a turn before this one
abbrev pub is_pong_before : Option ℕ → InTurn Reply → Bool
is_pong_before end reply = is_pong reply.what && is_turn_before end reply.turn

-- so it is by its head
abbrev pub is_pong_kind : ReplyKind → Bool
is_pong_kind Text = false
is_pong_kind Binary = false
is_pong_kind Pong = true
is_pong_kind Ping = false

abbrev pub is_head_before : Option ℕ → Head → Bool
is_head_before end head = is_pong_kind head.kind && is_turn_before end (turn_in head)

-- the payloads of replies, one behind the other
abbrev pub joined_payloads : List (InTurn Reply) → List ℕ
joined_payloads replies = flat_map (λ reply. payload_of reply.what) replies
