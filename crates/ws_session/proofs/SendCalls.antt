-- Sends: from what is kept of the open message to what the frames say, and to what a session shows.
use Rattle.std.proofs.Common.{◌≡◌, ◌≢◌, ℕ, ◌≤◌, Bool, true, false, cond, List, [], ◌∷◌, ◌++◌, length, Option, Some, None, ◌⊎◌, Result, Ok, Err, inl, inr, refl, sym, ap, ◌∙◌, arith, subst}
use Rattle.std.specs.Prelude.{IsErrAnd, IfErr}
use Rattle.ws_wire.specs.declared.role.Role.{Role}
use Rattle.ws_wire.specs.Frame.{Frame, FitsTheLayout, frame_bytes}
use Rattle.ws_session.specs.declared.message.Kind.{Kind}
use Rattle.ws_session.specs.declared.message.Kind.TheVariants.{Text, Binary}
use Rattle.ws_session.specs.declared.message.Message.{Message}
use Rattle.ws_session.specs.declared.outgoing.Outgoing.{Outgoing}
use Rattle.ws_session.specs.declared.send_fault.SendFault.{SendFault}
use Rattle.ws_session.specs.declared.send_fault.SendFault.TheVariants.{Over, Busy, NothingOpen, NotText, TooLong, BadCode, NoMemory}
use Rattle.ws_session.specs.declared.status.Status.{Status}
use Rattle.ws_session.specs.declared.status.Status.TheVariants as status
use Rattle.ws_session.specs.Limits.{LimitsValue}
use Rattle.ws_session.specs.Messages.{opcode_of, is_close, open_message_of}
use Rattle.ws_session.specs.Events.{IsFaultOf}
use Rattle.ws_session.specs.Replies.{has_close, under_key}
use Rattle.ws_session.specs.Exchange.{SessionValue, HasExchanged, IsSendingOf, is_over, last_event, status_before_close, status_of}
use Rattle.ws_session.specs.Sends.{Send, Begin, More, Ping, Pong, Close, frame_of, send_of, IsWrongWith, IsWrong}
use Rattle.ws_session.specs.Sends.{number_of_fault, IsRefusal, IsRefusedBy, Sends, HasSent}
use Rattle.ws_session.specs.InnerSending.{IsFineWith, IsFirstWrongWith, IsSentWith}
use Rattle.ws_session.proofs.Calls.{exchange_of}
use Rattle.ws_session.proofs.OpenMessage.{open_snoc}
use Rattle.ws_session.proofs.Statuses.{IsGoingOn, is_going_on, other_sent}
use Rattle.ws_session.proofs.StatusReplies.{closes_snoc, has_close_snoc}

-- ---- one send of a session

no_over : (opened : Option Message) (send : Send) → IsWrongWith opened send Over → ⊥
no_over opened (Begin kind payload fin) a = a
no_over opened (More payload fin) a = a
no_over opened (Ping payload) a = a
no_over opened (Pong payload) a = a
no_over opened (Close None) a = a
no_over opened (Close (Some close)) a = a

no_memory : (opened : Option Message) (send : Send) → IsWrongWith opened send NoMemory → ⊥
no_memory opened (Begin kind payload fin) a = a
no_memory opened (More payload fin) a = a
no_memory opened (Ping payload) a = a
no_memory opened (Pong payload) a = a
no_memory opened (Close None) a = a
no_memory opened (Close (Some close)) a = a

one_least : (other : SendFault) → 1 ≤ number_of_fault other
one_least Over = omega arith
one_least Busy = omega arith
one_least NothingOpen = omega arith
one_least NotText = omega arith
one_least TooLong = omega arith
one_least BadCode = omega arith
one_least NoMemory = omega arith

closing_by : (b : Bool) → status.Closing ≡ cond b status.Closing status.Open → b ≡ true
closing_by true e = refl
closing_by false e = absurd cc

open_by : (b : Bool) → status.Open ≡ cond b status.Closing status.Open → b ≡ false
open_by true e = absurd cc
open_by false e = refl

-- the status after a send
abbrev pub status_sent : Send → Status
status_sent (Close given) = status.Closing
status_sent _ = status.Open

module _ (old : SessionValue) (sent : List Frame) (s : List ℕ) (ended : Bool) (h : HasExchanged old sent s ended) where
  going_of : (t : Status) → is_over t ≡ false → old.status ≡ t → IsGoingOn old sent s ended
  going_of t going e = is_going_on old sent s ended h (ap (λ (x : Status). is_over x) e ∙ going)

  no_close_yet : old.status ≡ status.Open → has_close sent ≡ false
  no_close_yet e = let g = going_of status.Open refl e in open_by (has_close sent) (sym e ∙ g.status)

  is_not_over : old.status ≡ status.Open → (send : Send) → IsWrong sent old.status send Over → ⊥
  is_not_over e send (inl close) = let both : true ≡ false = sym close ∙ no_close_yet e in absurd cc
  is_not_over e send (inr over) = let both : true ≡ false = sym over ∙ ap (λ (x : Status). is_over x) e in absurd cc

  over_by : (t : Status) → old.status ≡ t → old.status ≢ status.Open → (has_close sent ≡ true) ⊎ (is_over old.status ≡ true)
  over_by status.Open e not = absurd (not e)
  over_by status.Closing e not = let g = going_of status.Closing refl e in inl (closing_by (has_close sent) (sym e ∙ g.status))
  over_by (status.Clean c) e not = inr (ap (λ (x : Status). is_over x) e)
  over_by (status.Failed r) e not = inr (ap (λ (x : Status). is_over x) e)
  over_by status.Lost e not = inr (ap (λ (x : Status). is_over x) e)

  -- it is over
  pub over_refusal : (send : Send) → old.status ≢ status.Open → IsRefusal sent old.status send Over
  over_refusal send not = record { wrong = over_by old.status refl not; first = λ other a. one_least other }

  first_by : (e : old.status ≡ status.Open) (send : Send) (fault : SendFault) → IsFirstWrongWith (open_message_of sent) send fault → (other : SendFault) → IsWrong sent old.status send other → number_of_fault fault ≤ number_of_fault other
  first_by e send fault is Over a = absurd (is_not_over e send a)
  first_by e send fault is Busy a = is.first Busy a
  first_by e send fault is NothingOpen a = is.first NothingOpen a
  first_by e send fault is NotText a = is.first NotText a
  first_by e send fault is TooLong a = is.first TooLong a
  first_by e send fault is BadCode a = is.first BadCode a
  first_by e send fault is NoMemory a = is.first NoMemory a

  -- something is wrong with the send itself
  pub wrong_refusal : (send : Send) (fault : SendFault) → old.status ≡ status.Open → IsFirstWrongWith (open_message_of sent) send fault → IsRefusal sent old.status send fault
  wrong_refusal send Over e is = absurd (no_over (open_message_of sent) send is.wrong)
  wrong_refusal send NoMemory e is = absurd (no_memory (open_message_of sent) send is.wrong)
  wrong_refusal send Busy e is = record { wrong = is.wrong; first = first_by e send Busy is }
  wrong_refusal send NothingOpen e is = record { wrong = is.wrong; first = first_by e send NothingOpen is }
  wrong_refusal send NotText e is = record { wrong = is.wrong; first = first_by e send NotText is }
  wrong_refusal send TooLong e is = record { wrong = is.wrong; first = first_by e send TooLong is }
  wrong_refusal send BadCode e is = record { wrong = is.wrong; first = first_by e send BadCode is }

  may_by : (e : old.status ≡ status.Open) (send : Send) → IsFineWith (open_message_of sent) send → (fault : SendFault) → IsWrong sent old.status send fault → ⊥
  may_by e send fine Over a = is_not_over e send a
  may_by e send fine Busy a = fine Busy a
  may_by e send fine NothingOpen a = fine NothingOpen a
  may_by e send fine NotText a = fine NotText a
  may_by e send fine TooLong a = fine TooLong a
  may_by e send fine BadCode a = fine BadCode a
  may_by e send fine NoMemory a = fine NoMemory a

  -- nothing is, and memory was refused
  pub memory_refusal : (send : Send) (fault : SendFault) → old.status ≡ status.Open → IsFineWith (open_message_of sent) send → fault ≡ NoMemory → IsRefusal sent old.status send fault
  memory_refusal send fault e fine is = subst (λ (x : SendFault). IsRefusal sent old.status send x) (sym is) (may_by e send fine)

  begun_status : (kind : Kind) (payload : List ℕ) (fin : Bool) → is_close (frame_of (Begin kind payload fin)) ≡ false
  begun_status Text payload fin = refl
  begun_status Binary payload fin = refl

  status_after_send : (send : Send) → has_close sent ≡ false → status_before_close (sent ++ frame_of send ∷ []) false ≡ status_sent send
  status_after_send (Begin kind payload fin) none = ap (λ b. cond b status.Closing status.Open) (has_close_snoc sent (frame_of (Begin kind payload fin)) (begun_status kind payload fin) ∙ none)
  status_after_send (More payload fin) none = ap (λ b. cond b status.Closing status.Open) (has_close_snoc sent (frame_of (More payload fin)) refl ∙ none)
  status_after_send (Ping payload) none = ap (λ b. cond b status.Closing status.Open) (has_close_snoc sent (frame_of (Ping payload)) refl ∙ none)
  status_after_send (Pong payload) none = ap (λ b. cond b status.Closing status.Open) (has_close_snoc sent (frame_of (Pong payload)) refl ∙ none)
  status_after_send (Close given) none = ap (λ b. cond b status.Closing status.Open) (closes_snoc sent (frame_of (Close given)) refl)

  -- the frame is sent
  pub send_done : (new : SessionValue) (send : Send) (key before after : List ℕ) → old.status ≡ status.Open → IsSentWith (open_message_of sent) send new.sending
      → FitsTheLayout (under_key old.role key (frame_of send)) → after ≡ before ++ frame_bytes (under_key old.role key (frame_of send))
      → new.role ≡ old.role → new.limits ≡ old.limits → new.opened ≡ old.opened → new.partial_frame ≡ old.partial_frame → new.status ≡ status_sent send → Sends old new (exchange_of sent s ended) send key before after
  send_done new send key before after e is can put role limits opened rest status =
      let going : is_over old.status ≡ false = ap (λ (x : Status). is_over x) e in
      let was : is_over (status_of sent ended h.events) ≡ false = ap (λ (x : Status). is_over x) (sym h.status) ∙ going in
      let now : status_of (sent ++ frame_of send ∷ []) ended h.events ≡ status_sent send = other_sent sent (sent ++ frame_of send ∷ []) ended (last_event h.events) was ∙ status_after_send send (no_close_yet e) in
      record {
        may = may_by e send is.fine;
        can = can;
        agrees = record {
          bytes = h.bytes;
          events = h.events;
          has_events = record {
            frames = h.has_events.frames;
            rest = h.has_events.rest;
            split = h.has_events.split;
            fault = h.has_events.fault;
            is_fault = subst (λ (k : LimitsValue). IsFaultOf new.role k s h.has_events.fault) (sym limits) (subst (λ (k : Role). IsFaultOf k old.limits s h.has_events.fault) (sym role) h.has_events.is_fault);
            are = h.has_events.are;
          };
          status = status ∙ sym now;
          taking = λ still. let taken = h.taking going in (opened ∙ taken.0, rest ∙ taken.1);
          sending = subst (λ (o : Option Message). IsSendingOf o new.sending) (sym (open_snoc sent (frame_of send))) is.sending;
        };
        put = put;
        same = (role, limits);
      }

-- ---- a call: the session by its fields, and as it is shown

-- the fact of the error that is answered
of_error : {T E : Type 0} (P : E → Type 0) (e : E) (r : Result T E) → IsErrAnd r (λ x. x ≡ e) → P e → IfErr r P
of_error P e (Ok v) h p = tt
of_error P e (Err x) h p = subst P (sym h) p

pub ping_fine : (opened : Option Message) (payload : List ℕ) → length payload ≤ 125 → IsFineWith opened (Ping payload)
ping_fine opened payload short Over a = a
ping_fine opened payload short Busy a = a
ping_fine opened payload short NothingOpen a = a
ping_fine opened payload short NotText a = a
ping_fine opened payload short TooLong a = omega (arith, a, short)
ping_fine opened payload short BadCode a = a
ping_fine opened payload short NoMemory a = a

pub pong_fine : (opened : Option Message) (payload : List ℕ) → length payload ≤ 125 → IsFineWith opened (Pong payload)
pong_fine opened payload short Over a = a
pong_fine opened payload short Busy a = a
pong_fine opened payload short NothingOpen a = a
pong_fine opened payload short NotText a = a
pong_fine opened payload short TooLong a = omega (arith, a, short)
pong_fine opened payload short BadCode a = a
pong_fine opened payload short NoMemory a = a

make_frame : Bool → ℕ → List ℕ → Frame
make_frame fin opcode payload = record { fin = fin; rsv = 0; opcode = opcode; payload = payload }

pub begin_frame : (kind : Kind) (payload : List ℕ) (fin : Bool) (opcode : ℕ) → opcode ≡ opcode_of kind
    → (let frame : Frame = record { fin = fin; rsv = 0; opcode = opcode; payload = payload }
    in frame ≡ frame_of (Begin kind payload fin))
unfolding make_frame
begin_frame kind payload fin opcode e = ap (λ n. make_frame fin n payload) e

-- `v` is the session by its fields and `w` as it is shown; it is open, and `frame` asks for this send
module _ (v w : SessionValue) (same : v ≡ w) (e : w.status ≡ status.Open) (frame : Outgoing) (send : Send)
    (is : send_of frame ≡ send) where
  -- what is kept is of the message that is open
  kept_of : (sent : List Frame) (s : List ℕ) (ended : Bool) → HasExchanged w sent s ended
      → IsSendingOf (open_message_of sent) v.sending
  kept_of sent s ended h =
      subst (λ (x : SessionValue). IsSendingOf (open_message_of sent) x.sending) (sym same) h.sending

  -- the send itself is refused
  pub first_refusal : {T : Type 0} (fault : SendFault) (r : Result T SendFault) → IsErrAnd r (λ x. x ≡ fault)
      → ((opened : Option Message) → IsSendingOf opened v.sending → IsFirstWrongWith opened send fault)
      → IfErr r (IsRefusedBy w (send_of frame))
  first_refusal fault r err wrong =
      let refusal : IsRefusedBy w send fault = λ exchange h.
      wrong_refusal w exchange.sent exchange.taken exchange.ended h send fault e
      (wrong (open_message_of exchange.sent) (kept_of exchange.sent exchange.taken exchange.ended h)) in
      of_error (IsRefusedBy w (send_of frame)) fault r err
      (subst (λ (x : Send). IsRefusedBy w x fault) (sym is) refusal)

  -- nothing is wrong with it, and memory was refused
  pub last_refusal : {T : Type 0} (fault : SendFault) (r : Result T SendFault) → IsErrAnd r (λ x. x ≡ fault)
      → ((opened : Option Message) → IsSendingOf opened v.sending → IsFineWith opened send) → fault ≡ NoMemory
      → IfErr r (IsRefusedBy w (send_of frame))
  last_refusal fault r err fine memory =
      let refusal : IsRefusedBy w send fault = λ exchange h.
      memory_refusal w exchange.sent exchange.taken exchange.ended h send fault e
      (fine (open_message_of exchange.sent) (kept_of exchange.sent exchange.taken exchange.ended h)) memory in
      of_error (IsRefusedBy w (send_of frame)) fault r err
      (subst (λ (x : Send). IsRefusedBy w x fault) (sym is) refusal)

  -- its frame is put, and what is kept of the open message and the status are as they are to be
  pub frame_sent : (new : SessionValue) (f : Frame) (key before after : List ℕ)
      → ((opened : Option Message) → IsSendingOf opened v.sending → IsSentWith opened send new.sending)
      → f ≡ frame_of send
      → (after ≡ before ++ frame_bytes (under_key w.role key f)) × FitsTheLayout (under_key w.role key f)
      → new.role ≡ v.role → new.limits ≡ v.limits → new.opened ≡ v.opened → new.partial_frame ≡ v.partial_frame
      → new.status ≡ status_sent send → HasSent w new (send_of frame) key before after
  frame_sent new f key before after with f_is put role limits opened rest status =
      let put_here = subst (λ (f : Frame). (after ≡ before ++ frame_bytes (under_key w.role key f))
      × FitsTheLayout (under_key w.role key f)) f_is put in
      let done : HasSent w new send key before after = λ exchange h.
      send_done w exchange.sent exchange.taken exchange.ended h new send key before after e
      (with (open_message_of exchange.sent) (kept_of exchange.sent exchange.taken exchange.ended h))
      put_here.1 put_here.0 (role ∙ ap (λ (x : SessionValue). x.role) same)
      (limits ∙ ap (λ (x : SessionValue). x.limits) same) (opened ∙ ap (λ (x : SessionValue). x.opened) same)
      (rest ∙ ap (λ (x : SessionValue). x.partial_frame) same) status in
      subst (λ (x : Send). HasSent w new x key before after) (sym is) done
