-- Worked examples beside those of specs/Examples.antt, whose proofs need lemmas: a first fault and the events with it, an
-- exchange, a piece that is taken, and what is doomed.
use Rattle.std.proofs.Common.{◌≡◌, ℕ, zero, suc, ◌+◌, ◌*◌, ◌<◌, ◌≤◌, Bool, true, false, List, [], ◌∷◌, ◌++◌, length, get_or, Some, None, refl, ap, ◌∙◌, subst, arith, inl, inr, lit≤}
use Rattle.std.specs.Prelude.{take}
use Rattle.std.proofs.lemmas.List.{length-append}
use Rattle.ws_wire.specs.Header.{HeaderFields, IsHeader, AreBytes, top_bit}
use Rattle.ws_wire.specs.declared.role.Role.TheVariants.{Client}
use Rattle.ws_wire.specs.declared.header.Form.TheVariants.{Short}
use Rattle.ws_wire.specs.Frame.{KeyedFrame, FitsTheLayout, frame_bytes}
use Rattle.ws_wire.proofs.Frames.{length-frame_bytes}
use Rattle.ws_session.specs.declared.reason.Reason.{Reason}
use Rattle.ws_session.specs.declared.reason.Reason.TheVariants as reason
use Rattle.ws_session.specs.declared.event.Event.{Event}
use Rattle.ws_session.specs.declared.event.Event.TheVariants as event
use Rattle.ws_session.specs.declared.status.Status.TheVariants as status
use Rattle.ws_session.specs.Limits.{LimitsValue}
use Rattle.ws_session.specs.Faults.{frames_of, number_of, IsFaultAt, IsFirstFault, HasNoFault}
use Rattle.ws_session.specs.Validity.{AreValidFrames}
use Rattle.ws_session.specs.Doomed.{CanBeRight, IsDoomed}
use Rattle.ws_session.specs.Events.{HasEvents}
use Rattle.ws_session.specs.Replies.{reply_to}
use Rattle.ws_session.specs.Exchange.{SessionValue, HasExchanged}
use Rattle.ws_session.specs.Taking.{Takes}
use Rattle.ws_session.specs.InnerChecking.{NoneAtHeader}
use Rattle.ws_session.specs.InnerNextFrame.{BeginsNoFrame, header_of}
use Rattle.ws_session.proofs.Calls.{exchange_of, call_of}
use Rattle.ws_session.proofs.EventsGoOn.{one_events}
use Rattle.ws_session.proofs.FineFrames.{begins_nothing}
use Rattle.ws_session.proofs.Next.{place_is, two_bytes}
use Rattle.ws_session.proofs.OneMoreFrame.{none_in_nothing}
use Rattle.ws_session.proofs.RightPayloads.{right_data}
use Rattle.ws_session.proofs.ValidStreams.{valid_has_none}
use Rattle.ws_text.proofs.Wanted.{nothing_wanted}

abbrev ten_at_most : LimitsValue
ten_at_most = record { max_message = 10; max_frame = 10 }

no_bytes : AreBytes []
no_bytes i = omega arith

and_byte : (byte : ℕ) (bytes : List ℕ) → byte < 256 → AreBytes bytes → AreBytes (byte ∷ bytes)
and_byte byte bytes small are zero = small
and_byte byte bytes small are (suc i) = are i

-- ---- a first fault

-- an empty text to a client, with a reserved bit
abbrev reserved : List ℕ
reserved = 0xc1 ∷ 0x00 ∷ []

abbrev reserved_frame : KeyedFrame
reserved_frame = record { frame = record { fin = true; rsv = 4; opcode = 1; payload = [] }; key = None }

one_least : (r : Reason) → 1 ≤ number_of r
one_least reason.ReservedBits = lit≤ tt
one_least reason.Opcode = lit≤ tt
one_least reason.MaskWrong = lit≤ tt
one_least reason.NotShortest = lit≤ tt
one_least reason.BadLength = lit≤ tt
one_least reason.ControlCut = lit≤ tt
one_least reason.ControlLong = lit≤ tt
one_least reason.NothingToContinue = lit≤ tt
one_least reason.MessageOpen = lit≤ tt
one_least reason.TooBig = lit≤ tt
one_least reason.FrameBig = lit≤ tt
one_least reason.NotText = lit≤ tt
one_least reason.TextCut = lit≤ tt
one_least reason.CloseOneByte = lit≤ tt
one_least reason.CloseCode = lit≤ tt
one_least reason.CloseReason = lit≤ tt

-- no fault comes before the second byte of a stream
place_after_one : (bytes : List ℕ) (place : ℕ) (r : Reason) → IsFaultAt Client ten_at_most bytes place r → 2 ≤ place
place_after_one bytes place r fault = omega (arith, place_is Client ten_at_most bytes place r fault, two_bytes fault.header)

reserved_bit : IsFaultAt Client ten_at_most reserved 2 reason.ReservedBits
reserved_bit = record {
  before = [];
  sent = tt;
  no_close = tt;
  header = record { fin = true; rsv = 4; opcode = 1; key = None; len = 0; form = Short };
  is_header = record { rsv = lit≤ tt; opcode = lit≤ tt; len = lit≤ tt; key = tt };
  payload = [];
  are_bytes = no_bytes;
  within = lit≤ tt;
  long = lit≤ tt;
  parts = refl;
  applies = inl (refl, λ none. absurd cc);
}

first_is_the_reserved_bit : IsFirstFault Client ten_at_most reserved 2 reason.ReservedBits
first_is_the_reserved_bit = record {
  fault = reserved_bit;
  first = λ place other fault. inr (omega (arith, place_after_one reserved place other fault, fault.long), one_least other);
}

-- the frame ends with the fault, and so gives no event of its own
events_with_a_fault : HasEvents Client ten_at_most reserved (event.Failed reason.ReservedBits ∷ [])
events_with_a_fault = record {
  frames = reserved_frame ∷ [];
  rest = [];
  split = record { each = (record { rsv = lit≤ tt; opcode = lit≤ tt; key = tt; payload = no_bytes; len = lit≤ tt }, tt); whole = refl; left = none_in_nothing };
  fault = Some (2, reason.ReservedBits);
  is_fault = first_is_the_reserved_bit;
  are = refl;
}

-- ---- an exchange

-- the first byte of a pong
abbrev first_byte : List ℕ
first_byte = 0x8a ∷ []

begins_no_frame : BeginsNoFrame first_byte
begins_no_frame x more can e =
    let size : 1 ≡ length (frame_bytes x) + length more = ap (λ (l : List ℕ). length l) e ∙ length-append (frame_bytes x) more in
    omega (arith, size, length-frame_bytes x, two_bytes (header_of x))

no_fault_yet : HasNoFault Client ten_at_most first_byte
no_fault_yet place r fault = omega (arith, place_after_one first_byte place r fault, fault.long)

abbrev waiting : SessionValue
waiting = record { role = Client; limits = ten_at_most; opened = None; partial_frame = first_byte; kept = 0; sending = None; status = status.Open }

-- a client that has sent nothing and taken this byte keeps it
an_exchange : HasExchanged waiting [] first_byte false
an_exchange = record {
  bytes = and_byte 0x8a [] (lit≤ tt) no_bytes;
  events = [];
  has_events = record { frames = []; rest = first_byte; split = record { each = tt; whole = refl; left = begins_no_frame }; fault = None; is_fault = no_fault_yet; are = refl };
  status = refl;
  sending = tt;
  taking = λ going. (refl, refl);
}

-- ---- a piece that is taken

-- the rest of the pong, and the first byte of what follows
abbrev piece : List ℕ
piece = 0x00 ∷ 0x77 ∷ []

abbrev pong : KeyedFrame
pong = record { frame = record { fin = true; rsv = 0; opcode = 10; payload = [] }; key = None }

pong_is_valid : AreValidFrames ten_at_most (frames_of (pong ∷ []))
pong_is_valid = record {
  each = (record { rsv = refl; opcode = inr (lit≤ tt, lit≤ tt); control = λ control. (refl, lit≤ tt) }, tt);
  sizes = (λ small. absurd (omega (arith, small)), tt);
  close = (λ close. absurd cc, tt);
  finished = tt;
  unfinished = record { frames = tt; size = lit≤ tt; text = tt };
}

pong_fits : FitsTheLayout pong
pong_fits = record { rsv = lit≤ tt; opcode = lit≤ tt; key = tt; payload = no_bytes; len = lit≤ tt }

events_of_the_pong : HasEvents Client ten_at_most (0x8a ∷ 0x00 ∷ []) (event.Pong [] ∷ [])
events_of_the_pong = record {
  frames = pong ∷ [];
  rest = [];
  split = record { each = (pong_fits, tt); whole = refl; left = none_in_nothing };
  fault = None;
  is_fault = valid_has_none Client ten_at_most (pong ∷ []) (pong_fits, tt) (refl, tt) pong_is_valid;
  are = refl;
}

abbrev after_it : SessionValue
after_it = record waiting { partial_frame = [] }

-- one byte of the piece is used: it ends the pong, which is told and not answered
a_taken_piece : Takes reply_to waiting after_it (exchange_of [] first_byte false) (call_of piece [] [] []) (record { used = 1; event = Some (event.Pong []) })
unfolding an_exchange events_of_the_pong
a_taken_piece = record {
  used = lit≤ tt;
  agrees = record {
    bytes = and_byte 0x8a (0x00 ∷ []) (lit≤ tt) (and_byte 0x00 [] (lit≤ tt) no_bytes);
    events = event.Pong [] ∷ [];
    has_events = events_of_the_pong;
    status = refl;
    sending = tt;
    taking = λ going. (refl, refl);
  };
  event = λ events has. subst (λ (l : List Event). HasEvents Client ten_at_most (0x8a ∷ 0x00 ∷ []) (l ++ event.Pong [] ∷ [])) (one_events Client ten_at_most first_byte [] events an_exchange.has_events has) events_of_the_pong;
  least = λ n events lt has. let none : 0 ≡ n = omega arith in subst (λ k. HasEvents Client ten_at_most (first_byte ++ take k piece) events) none has;
  whole = λ none. absurd cc;
  put = refl;
  same = (refl, refl);
}

-- ---- what is doomed

-- the opcode is in the lowest four bits
opcode_is_three : (fin : Bool) (rsv opcode : ℕ) → rsv < 8 → opcode < 16 → top_bit fin + (16 * rsv + opcode) ≡ 0x83
    → opcode ≡ 3
opcode_is_three true rsv opcode r o e = omega arith
opcode_is_three false rsv opcode r o e = absurd (omega arith)

-- a reserved opcode is there with the first byte, and the header that has to follow changes nothing
doomed_in_one_byte : IsDoomed Client ten_at_most None (0x83 ∷ [])
doomed_in_one_byte = record {
  begun = λ e. cc;
  never = λ can.
      let h = can.header in
      let first : top_bit h.fin + (16 * h.rsv + h.opcode) ≡ 0x83 = ap (λ (l : List ℕ). get_or l 0 0) can.parts in
      let three : h.opcode ≡ 3 = opcode_is_three h.fin h.rsv h.opcode can.right.is_header.rsv can.right.is_header.opcode
      first in
      can.right.right 0 reason.Opcode (omega arith) (inl (refl, inl (omega arith, omega arith)));
}

-- a text of five bytes to a client
abbrev text_of_five : HeaderFields
text_of_five = record { fin = true; rsv = 0; opcode = 1; key = None; len = 5; form = Short }

text_header_is_fine : NoneAtHeader Client ten_at_most None text_of_five
text_header_is_fine reason.ReservedBits a = a refl
text_header_is_fine reason.Opcode (inl a) = omega (arith, a.0)
text_header_is_fine reason.Opcode (inr a) = omega arith
text_header_is_fine reason.MaskWrong a = a refl
text_header_is_fine reason.NotShortest (inl a) = let e = a.0 in absurd cc
text_header_is_fine reason.NotShortest (inr a) = let e = a.0 in absurd cc
text_header_is_fine reason.BadLength a = omega arith
text_header_is_fine reason.ControlCut a = omega (arith, a.0.0)
text_header_is_fine reason.ControlLong a = omega (arith, a.0.0)
text_header_is_fine reason.NothingToContinue a = omega (arith, a.0)
text_header_is_fine reason.MessageOpen a = a.1 refl
text_header_is_fine reason.TooBig a = omega (arith, a.1)
text_header_is_fine reason.FrameBig a = omega (arith, a.1)
text_header_is_fine reason.NotText a = a
text_header_is_fine reason.TextCut a = a
text_header_is_fine reason.CloseOneByte a = a
text_header_is_fine reason.CloseCode a = a
text_header_is_fine reason.CloseReason a = a

-- its header alone, and each front of it, can still become right
right_so_far : CanBeRight Client ten_at_most None (0x81 ∷ 0x05 ∷ [])
right_so_far =
    let is : IsHeader text_of_five = record { rsv = lit≤ tt; opcode = lit≤ tt; len = lit≤ tt; key = tt } in
    let right = right_data Client ten_at_most None text_of_five is text_header_is_fine [] no_bytes (lit≤ tt) (lit≤ tt)
    (λ of_text. begins_nothing) (λ ends. (0, nothing_wanted, lit≤ tt)) in
    record { header = text_of_five; payload = right.0; later = right.0; parts = refl; right = right.1 }
