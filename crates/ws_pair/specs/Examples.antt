-- Worked examples of the definitions, as theorems. The masking key is four zeros, under which bytes stay as they are.
use Rattle.std.specs.Prelude.{◌≡◌, ℕ, true, false, List, [], ◌∷◌, Some, refl, None}
use Rattle.ws_wire.specs.Frame.{KeyedFrame, stream_bytes}
use Rattle.ws_session.specs.declared.message.Kind.TheVariants.{Binary}
use Rattle.ws_session.specs.declared.reason.Reason.TheVariants.{TooBig, FrameBig}
use Rattle.ws_session.specs.declared.status.Status.TheVariants.{Open, Closing, Clean, Failed, Lost}
use Rattle.ws_session.specs.Messages.{messages_of}
use Rattle.ws_session.specs.Faults.{frames_of}
use Rattle.ws_session.specs.Replies.{control_frame, close_frame, under_key}
use Rattle.ws_pair.specs.declared.moves.End.TheVariants.{Client, Server}
use Rattle.ws_pair.specs.Link.{Link, BothLimits, new_link, role_at, frames_reached, size_fault_at, status_at}
use Rattle.ws_pair.specs.Moves.{count_arriving, with_arrived, with_cut}

abbrev key : List ℕ
key = 0 ∷ 0 ∷ 0 ∷ 0 ∷ []

-- the server takes at most two bytes in a message
abbrev limits : BothLimits
limits = record {
  client = record { max_message = 1000; max_frame = 1000 };
  server = record { max_message = 2; max_frame = 2 };
}

abbrev binary : List ℕ → KeyedFrame
binary payload = record { frame = record { fin = true; rsv = 0; opcode = 2; payload = payload }; key = Some key }

nothing_has_happened : status_at limits new_link Client ≡ Open
nothing_has_happened = refl

-- ---- two closes that cross

-- the client closed with 1000, of which all has come, and the server with 1001, of which three bytes have
abbrev crossing : Link
crossing = record {
  client = record { sent = under_key (role_at Client) key (close_frame 1000) ∷ []; reached = 3; is_cut = false };
  server = record { sent = under_key (role_at Server) key (close_frame 1001) ∷ []; reached = 8; is_cut = false };
}

the_servers_close : stream_bytes crossing.server.sent ≡ 0x88 ∷ 0x02 ∷ 0x03 ∷ 0xe9 ∷ []
the_servers_close = refl

-- each end reports the other's code, once all of it has come
the_server_is_clean : status_at limits crossing Server ≡ Clean (Some 1000)
the_server_is_clean = refl

the_client_waits : status_at limits crossing Client ≡ Closing
the_client_waits = refl

-- one byte is left, however many are asked for
one_byte_comes : count_arriving crossing Client 100 ≡ 1
one_byte_comes = refl

-- the last byte ends the close, and is not answered by a second one
no_second_close : (with_arrived limits crossing Client 1 key).sent ≡ crossing.client.sent
no_second_close = refl

-- ---- a message that is too big

-- the client sent two messages, and the first byte of the payload of the second has not come
abbrev too_big : Link
too_big = record {
  client = record { sent = binary (1 ∷ 2 ∷ []) ∷ binary (1 ∷ 2 ∷ 3 ∷ []) ∷ []; reached = 0; is_cut = false };
  server = record { sent = []; reached = 14; is_cut = false };
}

the_first_is_delivered : messages_of (frames_of (frames_reached limits too_big Server))
    ≡ record { kind = Binary; payload = 1 ∷ 2 ∷ [] } ∷ []
the_first_is_delivered = refl

the_second_fails_at_its_header : status_at limits too_big Server ≡ Failed TooBig
the_second_fails_at_its_header = refl

one_byte_less_of_it : size_fault_at limits
    (record { client = too_big.client; server = record { sent = []; reached = 13; is_cut = false } }) Server ≡ None
one_byte_less_of_it = refl

-- under a limit of one byte a frame the first is already too big
a_frame_fails_alone : status_at (record { client = limits.client; server = record { max_message = 2; max_frame = 1 } })
    too_big Server ≡ Failed FrameBig
a_frame_fails_alone = refl

-- ---- a cut

abbrev cut : Link
cut = record { client = too_big.client; server = with_cut (record { sent = []; reached = 9; is_cut = false }) }

a_cut_loses : status_at limits cut Server ≡ Lost
a_cut_loses = refl

nothing_comes_behind_a_cut : count_arriving cut Server 5 ≡ 0
nothing_comes_behind_a_cut = refl

-- what had come before it was delivered
delivered_before_the_cut : messages_of (frames_of (frames_reached limits cut Server))
    ≡ record { kind = Binary; payload = 1 ∷ 2 ∷ [] } ∷ []
delivered_before_the_cut = refl

-- ---- a ping

-- a ping of which all has come is answered under the key of the move that brought it
abbrev pinged : Link
pinged = record {
  client = record { sent = []; reached = 0; is_cut = false };
  server = record {
    sent = under_key (role_at Server) key (control_frame 9 (7 ∷ [])) ∷ [];
    reached = 0;
    is_cut = false;
  };
}

answered_on_the_way : (with_arrived limits pinged Client 3 key).sent
    ≡ under_key (role_at Client) key (control_frame 10 (7 ∷ [])) ∷ []
answered_on_the_way = refl

not_answered_before_it_is_whole : (with_arrived limits pinged Client 2 key).sent ≡ []
not_answered_before_it_is_whole = refl
