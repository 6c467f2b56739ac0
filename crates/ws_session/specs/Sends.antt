-- What an endpoint may send, and the frame that a send makes: RFC 6455 sections 5.4 to 5.6, 7.1, 7.4 and 8.1.
use Rattle.std.specs.Prelude.{◌≡◌, ◌≢◌, ℕ, ◌+◌, ◌<◌, ◌⊎◌, Bool, true, List, [], ◌∷◌, ◌++◌, length, Option, Some}
use Rattle.std.specs.Prelude.{None, String, string_bytes}
use Rattle.std.specs.declared.alloc.Global.{Global}
use Rattle.std.specs.Borrow.{Bor}
use Rattle.ws_wire.specs.Frame.{Frame, FitsTheLayout, frame_bytes}
use Rattle.ws_text.specs.Text.{IsText, BeginsText}
use Rattle.ws_text.specs.Close.{CloseValue, CodeAllowed, close_payload}
use Rattle.ws_session.specs.declared.message.Kind.{Kind}
use Rattle.ws_session.specs.declared.message.Kind.TheVariants.{Text}
use Rattle.ws_session.specs.declared.message.Message.{Message}
use Rattle.ws_session.specs.declared.outgoing.Outgoing.{Outgoing}
use Rattle.ws_session.specs.declared.outgoing.Outgoing.TheVariants as out
use Rattle.ws_session.specs.declared.send_fault.SendFault.{SendFault}
use Rattle.ws_session.specs.declared.send_fault.SendFault.TheVariants.{Over, Busy, NothingOpen, NotText, TooLong}
use Rattle.ws_session.specs.declared.send_fault.SendFault.TheVariants.{BadCode, NoMemory}
use Rattle.ws_session.specs.declared.status.Status.{Status}
use Rattle.ws_session.specs.Limits.{LimitsValue}
use Rattle.ws_session.specs.Messages.{opcode_of, open_message_of}
use Rattle.ws_session.specs.Faults.{IsOpenText, open_payload, IsLowest}
use Rattle.ws_session.specs.Replies.{has_close, control_frame, under_key}
use Rattle.ws_session.specs.Exchange.{SessionValue, Exchange, HasExchanged, is_over}

-- a frame that an endpoint is asked to send: the first of a message, the next of it, or a control frame
pub data Send : Type 0 where
  Begin : Kind → List ℕ → Bool → Send
  More : List ℕ → Bool → Send
  Ping : List ℕ → Send
  Pong : List ℕ → Send
  Close : Option CloseValue → Send

-- the code and the reason that a close is given, if any
abbrev pub close_given : Option (ℕ × Bor (List ℕ)) → Option CloseValue
close_given None = None
close_given (Some given) = Some (record { code = given.0; reason = given.1.now })

-- the same of a code and a reason that are owned
abbrev pub close_owned : Option (ℕ × String Global) → Option CloseValue
close_owned None = None
close_owned (Some given) = Some (record { code = given.0; reason = string_bytes given.1 })

-- the send that an endpoint is asked for by a value of the code
abbrev pub send_of : Outgoing → Send
send_of (out.Begin kind payload fin) = Begin kind payload.now fin
send_of (out.More payload fin) = More payload.now fin
send_of (out.Ping payload) = Ping payload.now
send_of (out.Pong payload) = Pong payload.now
send_of (out.Close given) = Close (close_given given)

abbrev pub frame_of : Send → Frame
frame_of (Begin kind payload fin) = record { fin = fin; rsv = 0; opcode = opcode_of kind; payload = payload }
frame_of (More payload fin) = record { fin = fin; rsv = 0; opcode = 0; payload = payload }
frame_of (Ping payload) = control_frame 9 payload
frame_of (Pong payload) = control_frame 10 payload
frame_of (Close close) = control_frame 8 (close_payload close)

-- the reason of a close is a text, as the type of what is handed in says
abbrev pub HasTextReason : Send → Type 0
HasTextReason (Close (Some close)) = IsText close.reason
HasTextReason _ = Unit {0}

-- ---- refusals

-- the limits that the frames of an endpoint keep to
-- our choice: section 10.4 leaves them open
abbrev pub most_limits : LimitsValue
most_limits = record { max_message = 16777216; max_frame = 16777216 }

-- nothing makes these bytes of a message a text, or it ends with them and they are none
abbrev pub IsNoText : Bool → List ℕ → Type 0
IsNoText fin bytes = (¬ BeginsText bytes) ⊎ ((fin ≡ true) × (¬ IsText bytes))

-- what the send itself is refused for, after an open message
abbrev pub IsWrongWith : Option Message → Send → SendFault → Type 0
IsWrongWith opened (Begin kind payload fin) Busy = opened ≢ None
IsWrongWith opened (More payload fin) NothingOpen = opened ≡ None
IsWrongWith opened (Begin kind payload fin) NotText = (kind ≡ Text) × IsNoText fin payload
IsWrongWith opened (More payload fin) NotText = IsOpenText opened × IsNoText fin (open_payload opened ++ payload)
IsWrongWith opened (Begin kind payload fin) TooLong = 16777216 < length payload
IsWrongWith opened (More payload fin) TooLong = 16777216 < length (open_payload opened) + length payload
IsWrongWith opened (Ping payload) TooLong = 125 < length payload
IsWrongWith opened (Pong payload) TooLong = 125 < length payload
IsWrongWith opened (Close (Some close)) TooLong = 123 < length close.reason
IsWrongWith opened (Close (Some close)) BadCode = ¬ CodeAllowed close.code
IsWrongWith opened _ _ = ⊥

-- what a send is refused for by an endpoint that has sent these frames and has this status
-- our choice: after its close an endpoint sends no frame of any kind (section 5.5.1 forbids data frames)
abbrev pub IsWrong : List Frame → Status → Send → SendFault → Type 0
IsWrong sent status send Over = (has_close sent ≡ true) ⊎ (is_over status ≡ true)
IsWrong sent status send fault = IsWrongWith (open_message_of sent) send fault

-- nothing is wrong with the send
abbrev pub MaySend : List Frame → Status → Send → Type 0
MaySend sent status send = (fault : SendFault) → IsWrong sent status send fault → ⊥

-- of several refusals the one with the lowest number is told
abbrev pub number_of_fault : SendFault → ℕ
number_of_fault Over = 1
number_of_fault Busy = 2
number_of_fault NothingOpen = 3
number_of_fault NotText = 4
number_of_fault TooLong = 5
number_of_fault BadCode = 6
number_of_fault NoMemory = 7

abbrev pub IsFirstWrong : List Frame → Status → Send → SendFault → Type 0
IsFirstWrong sent status send fault = IsLowest SendFault number_of_fault (IsWrong sent status send) fault

-- the refusal that is told: want of memory only where nothing else is wrong
abbrev pub IsRefusal : List Frame → Status → Send → SendFault → Type 0
IsRefusal sent status send NoMemory = MaySend sent status send
IsRefusal sent status send fault = IsFirstWrong sent status send fault

-- ---- a send that is done

-- A session that has exchanged this sends one more frame: nothing was wrong with it, it can be sent, afterwards it was
-- sent too, and it is put after what was there, under the key that was handed in if this is a client
pub record Sends (old new : SessionValue) (exchange : Exchange) (send : Send) (key before after : List ℕ) : Type 0 where
  pub may : MaySend exchange.sent old.status send
  pub can : FitsTheLayout (under_key old.role key (frame_of send))
  pub agrees : HasExchanged new (exchange.sent ++ frame_of send ∷ []) exchange.taken exchange.ended
  pub put : after ≡ before ++ frame_bytes (under_key old.role key (frame_of send))
  pub same : (new.role ≡ old.role) × (new.limits ≡ old.limits)

-- it does so whatever it has exchanged
abbrev pub HasSent : SessionValue → SessionValue → Send → List ℕ → List ℕ → List ℕ → Type 0
HasSent old new send key before after = (exchange : Exchange)
    → HasExchanged old exchange.sent exchange.taken exchange.ended → Sends old new exchange send key before after

-- whatever the session has exchanged, this is what the send is refused for
abbrev pub IsRefusedBy : SessionValue → Send → SendFault → Type 0
IsRefusedBy session send fault = (exchange : Exchange)
    → HasExchanged session exchange.sent exchange.taken exchange.ended
    → IsRefusal exchange.sent session.status send fault
