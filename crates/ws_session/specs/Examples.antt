-- Worked examples of the definitions, as theorems. The masking key is that of section 5.7 of RFC 6455.
use Rattle.std.proofs.Common.{◌≡◌, ℕ, zero, suc, ◌<◌, ◌≤◌, true, false, List, [], ◌∷◌, take, Some, None, refl, arith}
use Rattle.std.proofs.Common.{inl, inr, lit≤}
use Rattle.std.proofs.lemmas.List.Elements.{All-nil, All-cons}
use Rattle.ws_wire.specs.Header.{AreBytes}
use Rattle.ws_wire.specs.declared.header.Form.TheVariants.{Short}
use Rattle.ws_text.specs.Text.{IsScalarValue, char_bytes, IsText}
use Rattle.ws_wire.specs.Frame.{KeyedFrame, frame_bytes, stream_bytes}
use Rattle.ws_wire.specs.declared.role.Role.TheVariants.{Client, Server}
use Rattle.ws_session.specs.declared.message.Kind.TheVariants.{Text, Binary}
use Rattle.ws_session.specs.declared.reason.Reason.TheVariants.{TooBig, FrameBig, MessageOpen}
use Rattle.ws_session.specs.declared.event.Event.TheVariants as event
use Rattle.ws_session.specs.declared.status.Status.TheVariants as status
use Rattle.ws_session.specs.Limits.{LimitsValue}
use Rattle.ws_session.specs.Messages.{messages_of, open_message_of}
use Rattle.ws_session.specs.Faults.{frames_of, IsFaultAt}
use Rattle.ws_session.specs.Validity.{AreValidFrames}
use Rattle.ws_session.specs.Events.{events_of, close_in}
use Rattle.ws_session.specs.Replies.{replies_of, echo_replies_of, control_frame, close_frame, under_key}
use Rattle.ws_session.specs.Reach.{frames_within, size_fault, events_within}
use Rattle.ws_session.specs.Exchange.{status_of}
use Rattle.ws_session.specs.declared.send_fault.SendFault.{SendFault}
use Rattle.ws_session.specs.declared.send_fault.SendFault.TheVariants.{Over, Busy, NothingOpen, NotText, TooLong}
use Rattle.ws_session.specs.declared.send_fault.SendFault.TheVariants.{BadCode, NoMemory}
use Rattle.ws_session.specs.Sends.{Begin, More, Close, frame_of, IsWrong, IsRefusal, number_of_fault}

abbrev key : List ℕ
key = 0x37 ∷ 0xfa ∷ 0x21 ∷ 0x3d ∷ []

abbrev hello : List ℕ
hello = 0x48 ∷ 0x65 ∷ 0x6c ∷ 0x6c ∷ 0x6f ∷ []

abbrev ten_at_most : LimitsValue
ten_at_most = record { max_message = 10; max_frame = 10 }

-- "Hel" and "lo" as two fragments, with a ping between them
abbrev fragments : List KeyedFrame
fragments =
    record { frame = record { fin = false; rsv = 0; opcode = 1; payload = 0x48 ∷ 0x65 ∷ 0x6c ∷ [] }; key = Some key }
    ∷ record { frame = record { fin = true; rsv = 0; opcode = 9; payload = [] }; key = Some key }
    ∷ record { frame = record { fin = true; rsv = 0; opcode = 0; payload = 0x6c ∷ 0x6f ∷ [] }; key = Some key } ∷ []

fragments_on_the_wire : stream_bytes fragments
    ≡ 0x01 ∷ 0x83 ∷ 0x37 ∷ 0xfa ∷ 0x21 ∷ 0x3d ∷ 0x7f ∷ 0x9f ∷ 0x4d ∷ 0x89 ∷ 0x80 ∷ 0x37 ∷ 0xfa ∷ 0x21 ∷ 0x3d ∷ 0x80
    ∷ 0x82 ∷ 0x37 ∷ 0xfa ∷ 0x21 ∷ 0x3d ∷ 0x5b ∷ 0x95 ∷ []
fragments_on_the_wire = refl

one_message : messages_of (frames_of fragments) ≡ record { kind = Text; payload = hello } ∷ []
one_message = refl

nothing_is_open_after_it : open_message_of (frames_of fragments) ≡ None
nothing_is_open_after_it = refl

-- after the first fragment alone
open_after_one : open_message_of (record { fin = false; rsv = 0; opcode = 2; payload = 1 ∷ 2 ∷ [] } ∷ [])
    ≡ Some (record { kind = Binary; payload = 1 ∷ 2 ∷ [] })
open_after_one = refl

events_of_fragments : events_of fragments None
    ≡ event.Part ∷ event.Ping [] ∷ event.Message (record { kind = Text; payload = hello }) ∷ []
events_of_fragments = refl

-- an endpoint may send the fragments: each is valid alone, none is a close, and the joined payload is a text
hello_is_text : IsText hello
unfolding char_bytes
hello_is_text = record {
  characters = hello;
  scalar = All-cons IsScalarValue 0x48 (0x65 ∷ 0x6c ∷ 0x6c ∷ 0x6f ∷ []) (inl (lit≤ tt))
      (All-cons IsScalarValue 0x65 (0x6c ∷ 0x6c ∷ 0x6f ∷ []) (inl (lit≤ tt))
      (All-cons IsScalarValue 0x6c (0x6c ∷ 0x6f ∷ []) (inl (lit≤ tt))
      (All-cons IsScalarValue 0x6c (0x6f ∷ []) (inl (lit≤ tt))
      (All-cons IsScalarValue 0x6f [] (inl (lit≤ tt)) (All-nil IsScalarValue)))));
  spelled = refl;
}

fragments_are_valid : AreValidFrames ten_at_most (frames_of fragments)
fragments_are_valid = record {
  each = (
    record { rsv = refl; opcode = inl (lit≤ tt); control = λ control. absurd cc },
    (
      record { rsv = refl; opcode = inr (lit≤ tt, lit≤ tt); control = λ control. (refl, lit≤ tt) },
      (record { rsv = refl; opcode = inl (lit≤ tt); control = λ control. absurd cc }, tt),
    ),
  );
  sizes = (λ small. lit≤ tt, (λ small. lit≤ tt, (λ small. lit≤ tt, tt)));
  close = (λ close. absurd cc, (λ close. absurd cc, (λ close. absurd cc, tt)));
  finished = (record { frames = (inl refl, (refl, tt)); size = lit≤ tt; text = hello_is_text }, tt);
  unfinished = record { frames = tt; size = lit≤ tt; text = tt };
}

-- the same, but the third frame begins a new message inside the open one
abbrev restarted : List KeyedFrame
restarted =
    record { frame = record { fin = false; rsv = 0; opcode = 1; payload = 0x48 ∷ 0x65 ∷ 0x6c ∷ [] }; key = Some key }
    ∷ record { frame = record { fin = true; rsv = 0; opcode = 9; payload = [] }; key = Some key }
    ∷ record { frame = record { fin = true; rsv = 0; opcode = 1; payload = 0x6c ∷ 0x6f ∷ [] }; key = Some key } ∷ []

no_bytes : AreBytes []
no_bytes i = omega arith

and_byte : (byte : ℕ) (bytes : List ℕ) → byte < 256 → AreBytes bytes → AreBytes (byte ∷ bytes)
and_byte byte bytes small are zero = small
and_byte byte bytes small are (suc i) = are i

key_bytes : AreBytes key
key_bytes = and_byte 0x37 (0xfa ∷ 0x21 ∷ 0x3d ∷ []) (lit≤ tt) (and_byte 0xfa (0x21 ∷ 0x3d ∷ []) (lit≤ tt)
    (and_byte 0x21 (0x3d ∷ []) (lit≤ tt) (and_byte 0x3d [] (lit≤ tt) no_bytes)))

hel_bytes : AreBytes (0x48 ∷ 0x65 ∷ 0x6c ∷ [])
hel_bytes = and_byte 0x48 (0x65 ∷ 0x6c ∷ []) (lit≤ tt) (and_byte 0x65 (0x6c ∷ []) (lit≤ tt)
    (and_byte 0x6c [] (lit≤ tt) no_bytes))

-- that is a fault at the last byte of its header
a_fault : IsFaultAt Server ten_at_most (stream_bytes restarted) 21 MessageOpen
a_fault = record {
  before = take 2 restarted;
  sent = (
    record { rsv = lit≤ tt; opcode = lit≤ tt; key = (refl, key_bytes); payload = hel_bytes; len = lit≤ tt },
    (record { rsv = lit≤ tt; opcode = lit≤ tt; key = (refl, key_bytes); payload = no_bytes; len = lit≤ tt }, tt),
  );
  no_close = (refl, (refl, tt));
  header = record { fin = true; rsv = 0; opcode = 1; key = Some key; len = 2; form = Short };
  is_header = record { rsv = lit≤ tt; opcode = lit≤ tt; len = lit≤ tt; key = (refl, key_bytes) };
  payload = [];
  are_bytes = no_bytes;
  within = lit≤ tt;
  long = lit≤ tt;
  parts = refl;
  applies = inl (refl, (inl refl, λ none. absurd cc));
}

-- only the two frames before it count
events_before_a_fault : events_of restarted (Some (21, MessageOpen))
    ≡ event.Part ∷ event.Ping [] ∷ event.Failed MessageOpen ∷ []
events_before_a_fault = refl

a_ping_is_answered : replies_of [] (events_of fragments None) ≡ control_frame 10 [] ∷ []
a_ping_is_answered = refl

-- but not once a close was sent
nothing_after_a_close : replies_of (close_frame 1000 ∷ []) (events_of fragments None) ≡ []
nothing_after_a_close = refl

-- a close is answered by its code, and nothing is owed after that answer
one_close_is_answered : replies_of [] (event.Close (Some (record { code = 1001; reason = hello })) ∷ event.Ping [] ∷ [])
    ≡ control_frame 8 (0x03 ∷ 0xe9 ∷ []) ∷ []
one_close_is_answered = refl

a_fault_is_answered : replies_of [] (event.Failed TooBig ∷ []) ≡ control_frame 8 (0x03 ∷ 0xf1 ∷ []) ∷ []
a_fault_is_answered = refl

-- a client masks its answers, a server does not
a_servers_pong : frame_bytes (under_key Server key (control_frame 10 [])) ≡ 0x8a ∷ 0x00 ∷ []
a_servers_pong = refl

a_clients_pong : frame_bytes (under_key Client key (control_frame 10 [])) ≡ 0x8a ∷ 0x80 ∷ 0x37 ∷ 0xfa ∷ 0x21 ∷ 0x3d ∷ []
a_clients_pong = refl

a_code_and_a_reason : close_in (0x03 ∷ 0xe8 ∷ 0x6f ∷ 0x6b ∷ [])
    ≡ Some (record { code = 1000; reason = 0x6f ∷ 0x6b ∷ [] })
a_code_and_a_reason = refl

-- ---- what the first bytes hold

abbrev ten_bytes : List ℕ
ten_bytes = 0 ∷ 1 ∷ 2 ∷ 3 ∷ 4 ∷ 5 ∷ 6 ∷ 7 ∷ 8 ∷ 9 ∷ []

abbrev binary : List ℕ → KeyedFrame
binary payload = record { frame = record { fin = true; rsv = 0; opcode = 2; payload = payload }; key = Some key }

-- a client sends a message of ten bytes, and then one of eleven
abbrev ten_and_eleven : List KeyedFrame
ten_and_eleven = binary ten_bytes ∷ binary (10 ∷ ten_bytes) ∷ []

-- the first sixteen bytes are the first frame
one_frame_within : frames_within ten_at_most 16 ten_and_eleven ≡ binary ten_bytes ∷ []
one_frame_within = refl

none_within_fewer : frames_within ten_at_most 15 ten_and_eleven ≡ []
none_within_fewer = refl

-- the header of the second ends with byte 22
header_still_cut : size_fault ten_at_most 21 ten_and_eleven ≡ None
header_still_cut = refl

eleven_are_too_big : size_fault ten_at_most 22 ten_and_eleven ≡ Some TooBig
eleven_are_too_big = refl

told_at_its_header : events_within ten_at_most 22 ten_and_eleven
    ≡ event.Message (record { kind = Binary; payload = ten_bytes }) ∷ event.Failed TooBig ∷ []
told_at_its_header = refl

abbrev four_a_frame : LimitsValue
four_a_frame = record { max_message = 10; max_frame = 4 }

-- ten bytes are a message that is taken, and a frame that is not
a_frame_too_big : size_fault four_a_frame 6 ten_and_eleven ≡ Some FrameBig
a_frame_too_big = refl

-- eleven are neither: the message's reason is told
the_message_first : size_fault four_a_frame 6 (binary (10 ∷ ten_bytes) ∷ []) ≡ Some TooBig
the_message_first = refl

-- ---- the status

-- the peer's code is reported, whatever this end sent
the_peers_code : status_of (close_frame 1000 ∷ []) false (event.Close (Some (record { code = 1001; reason = [] })) ∷ [])
    ≡ status.Clean (Some 1001)
the_peers_code = refl

a_lost_stream : status_of (close_frame 1000 ∷ []) true (event.Part ∷ []) ≡ status.Lost
a_lost_stream = refl

still_closing : status_of (close_frame 1000 ∷ []) false (event.Part ∷ []) ≡ status.Closing
still_closing = refl

-- ---- sending

a_close_with_a_code : (frame_of (Close (Some (record { code = 1000; reason = [] })))).payload ≡ 0x03 ∷ 0xe8 ∷ []
a_close_with_a_code = refl

-- a text in two fragments: the second continues the first
two_fragments : frame_of (Begin Text (0xce ∷ []) false) ∷ frame_of (More (0xba ∷ []) true) ∷ []
    ≡ record { fin = false; rsv = 0; opcode = 1; payload = 0xce ∷ [] }
    ∷ record { fin = true; rsv = 0; opcode = 0; payload = 0xba ∷ [] } ∷ []
two_fragments = refl

-- a second message can't begin before the first has ended
a_second_beginning : IsWrong (frame_of (Begin Binary [] false) ∷ []) status.Open (Begin Binary [] false) Busy
a_second_beginning = λ none. absurd cc

nothing_to_go_on_with : IsWrong [] status.Open (More [] true) NothingOpen
nothing_to_go_on_with = refl

none_before : (payload : List ℕ) (other : SendFault) → IsWrong [] status.Open (More payload true) other
    → number_of_fault NothingOpen ≤ number_of_fault other
none_before payload Over (inl e) = absurd cc
none_before payload Over (inr e) = absurd cc
none_before payload Busy wrong = absurd wrong
none_before payload NothingOpen wrong = lit≤ tt
none_before payload NotText wrong = lit≤ tt
none_before payload TooLong wrong = lit≤ tt
none_before payload BadCode wrong = lit≤ tt
none_before payload NoMemory wrong = lit≤ tt

-- that is what is told, also where the payload is too long
a_refusal : (payload : List ℕ) → IsRefusal [] status.Open (More payload true) NothingOpen
a_refusal payload = record { wrong = refl; first = none_before payload }

-- an echo answers the message of the fragments in one frame, after the pong
an_echo_of_fragments : echo_replies_of [] (events_of fragments None)
    ≡ control_frame 10 [] ∷ record { fin = true; rsv = 0; opcode = 1; payload = hello } ∷ []
an_echo_of_fragments = refl

no_echo_after_a_close : echo_replies_of (close_frame 1000 ∷ []) (events_of fragments None) ≡ []
no_echo_after_a_close = refl
