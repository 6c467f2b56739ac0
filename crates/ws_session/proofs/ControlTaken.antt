-- A piece with payload of a control frame: the frame goes on with all of it, or is whole with a part of it.
use Rattle.std.proofs.Common.{◌≡◌, ℕ, ◌+◌, ◌-◌, ◌<◌, ◌≤◌, List, [], ◌++◌, length, take, drop, Option, Some, None, refl, sym, ap, ◌∙◌, append-nil, arith, subst, inl, inr}
use Rattle.std.specs.Prelude.{min, map, Result, Ok, Err, MatchResult}
use Rattle.std.proofs.lemmas.Bool.{cases_lt}
use Rattle.std.proofs.lemmas.List.{take_all}
use Rattle.ws_wire.specs.declared.role.Role.{Role}
use Rattle.ws_wire.specs.declared.opcode.Opcode.{Opcode}
use Rattle.ws_wire.specs.declared.opcode.Opcode.TheVariants as opcode
use Rattle.ws_wire.specs.Opcode.{IsOpcode}
use Rattle.ws_wire.specs.Header.{HeaderFields, AreBytes}
use Rattle.ws_text.specs.Close.{CloseValue}
use Rattle.ws_session.specs.declared.message.Message.{Message}
use Rattle.ws_session.specs.declared.reason.Reason.{Reason}
use Rattle.ws_session.specs.declared.event.Event.{Event}
use Rattle.ws_session.specs.declared.event.Event.TheVariants as event
use Rattle.ws_session.specs.declared.replying.Replying.{Replying}
use Rattle.ws_session.specs.declared.receiver.under_way.UnderWay.{UnderWay}
use Rattle.ws_session.specs.declared.receiver.under_way.UnderWay.TheVariants as under_way
use Rattle.ws_session.specs.declared.status.Status.{Status}
use Rattle.ws_session.specs.declared.status.Status.TheVariants as status
use Rattle.ws_wire.specs.Frame.{Frame, stream_bytes}
use Rattle.ws_session.specs.Limits.{LimitsValue}
use Rattle.ws_session.specs.Replies.{under_key}
use Rattle.ws_session.specs.InnerNextFrame.{due_at}
use Rattle.ws_session.specs.InnerReplying.{bytes_put}
use Rattle.ws_session.specs.Events.{close_in}
use Rattle.ws_session.specs.InnerChecking.{NoneInPayload, IsFirstInPayload}
use Rattle.ws_session.specs.InnerContent as content
use Rattle.ws_session.specs.InnerFrameCheck.{FrameCheck}
use Rattle.ws_session.specs.InnerFrameCheck as check
use Rattle.ws_session.specs.InnerMasked.{masked_from}
use Rattle.ws_session.specs.InnerReceiving.{AssemblyValue, arrived_payload, control_payload_of, partial_of, IsUnderWay, IsControlAt, IsPayloadCheck, IsWholeControl, IsFrameCheck}
use Rattle.ws_session.specs.InnerReceiver.{ReceiverValue, HasReceived, receiver_of, assembly_of}
use Rattle.ws_session.specs.InnerTaking.{HoldsEvent, ReceivesSo, Receives, WantsRoom}
use Rattle.ws_session.proofs.Arriving.{control_part, control_whole}
use Rattle.ws_session.proofs.ControlPayloads.{none_of_ping}
use Rattle.ws_session.proofs.Pieces.{control_checked}
use Rattle.ws_session.proofs.ReceivedCalls.{holds_frame, holds_fault}

module _ (role : Role) (limits : LimitsValue) (a : AssemblyValue) (f : UnderWay) (piece rest came : List ℕ)
    (h : HeaderFields) (start : ℕ) (u : IsUnderWay role limits a f) (are : AreBytes (partial_of a f ++ piece))
    (at : IsControlAt role limits a f piece h start) (behind : rest ≡ drop start piece)
    (came_is : came ≡ control_payload_of f) where
  so_checked : (j : FrameCheck) → IsPayloadCheck h (length came) start a (arrived_payload h came rest) j
      → IsFrameCheck role limits a (length (partial_of a f)) (partial_of a f ++ piece) j
  so_checked j c = control_checked role limits a f piece rest h start j u are at behind
      (subst (λ (l : List ℕ). IsPayloadCheck h (length l) start a (arrived_payload h l rest) j) came_is c)

  within : length came ≤ h.len
  within = omega (arith, at.came, ap (λ (l : List ℕ). length l) came_is)

  -- the payload isn't whole with the piece
  pub part_check : (payload : List ℕ) → payload ≡ came ++ masked_from h.key (length came) rest
      → length came + length rest < h.len
      → IsFrameCheck role limits a (length (partial_of a f)) (partial_of a f ++ piece)
      (check.Need (under_way.Control h payload) a.text)
  part_check payload put short =
      let all : take (length rest) rest ≡ rest = take_all (length rest) rest (omega arith) in
      let is_here : length rest ≡ min (h.len - length came) (length rest) = omega (arith, short) in
      so_checked (check.Need (under_way.Control h payload) a.text) (control_part h came rest payload (length rest) within
      is_here (put ∙ ap (λ (l : List ℕ). came ++ masked_from h.key (length came) l) (sym all)) a start a.text
      at.control short refl)

  -- it is whole with so much of it
  module _ (left : ℕ) (payload : List ℕ) (whole : length came + left ≡ h.len) (enough : left ≤ length rest)
      (put : payload ≡ came ++ masked_from h.key (length came) (take left rest)) where
    pub whole_check : (j : FrameCheck) → IsWholeControl h (start + left) payload a j
        → IsFrameCheck role limits a (length (partial_of a f)) (partial_of a f ++ piece) j
    whole_check j is =
        let is_here : left ≡ min (h.len - length came) (length rest) = omega (arith, whole, enough) in
        so_checked j (control_whole h came rest payload left within is_here put a start j whole is)

    pub ping_check : h.opcode ≡ 9 → IsFrameCheck role limits a (length (partial_of a f)) (partial_of a f ++ piece)
        (check.Whole (start + left) (content.Ping payload))
    ping_check ping = whole_check (check.Whole (start + left) (content.Ping payload))
        (refl, none_of_ping a.opened h payload at.control.0 (λ e. omega (arith, e, ping)), (ping, refl))

    pub pong_check : h.opcode ≡ 10 → IsFrameCheck role limits a (length (partial_of a f)) (partial_of a f ++ piece)
        (check.Whole (start + left) (content.Pong payload))
    pong_check pong = whole_check (check.Whole (start + left) (content.Pong payload))
        (refl, none_of_ping a.opened h payload at.control.0 (λ e. omega (arith, e, pong)), (pong, refl))

    pub close_check : (close : Option CloseValue) → h.opcode ≡ 8 → close ≡ close_in payload
        → NoneInPayload a.opened h payload
        → IsFrameCheck role limits a (length (partial_of a f)) (partial_of a f ++ piece)
        (check.Whole (start + left) (content.Close close))
    close_check close opcode is none = whole_check (check.Whole (start + left) (content.Close close)) (refl, none, (opcode, is))

    pub fault_check : (reason : Reason) → IsFirstInPayload a.opened h payload (length payload) reason
        → IsFrameCheck role limits a (length (partial_of a f)) (partial_of a f ++ piece)
        (check.Fault reason (start + left))
    fault_check reason first = whole_check (check.Fault reason (start + left)) (refl, first)

-- ---- what the receiving side makes of it, where the payload is whole

module _ (role : Role) (limits : LimitsValue) (a : AssemblyValue) (f : UnderWay) (v : ReceiverValue)
    (view : receiver_of role limits a f ≡ v) (piece rest came : List ℕ) (h : HeaderFields) (start : ℕ)
    (u : IsUnderWay role limits a f) (are : AreBytes (v.partial_frame ++ piece))
    (at : IsControlAt v.role v.limits (assembly_of v) v.frame piece h start) (behind : rest ≡ drop start piece)
    (came_is : came ≡ control_payload_of f) where
  pub bytes_of : AreBytes (partial_of a f ++ piece)
  bytes_of = subst (λ (x : ReceiverValue). AreBytes (x.partial_frame ++ piece)) (sym view) are

  pub at_of : IsControlAt role limits a f piece h start
  at_of = subst (λ (x : ReceiverValue). IsControlAt x.role x.limits (assembly_of x) x.frame piece h start) (sym view) at

  module _ (left : ℕ) (payload : List ℕ) (whole : length came + left ≡ h.len) (enough : left ≤ length rest)
      (put : payload ≡ came ++ masked_from h.key (length came) (take left rest)) where
    pub holds_ping : h.opcode ≡ 9 → HoldsEvent v piece (start + left) (event.Ping payload) v.opened
    holds_ping ping = subst (λ (m : Option Message). HoldsEvent v piece (start + left) (event.Ping payload) m) (ap (λ (w : ReceiverValue). w.opened) view)
        (holds_frame (receiver_of role limits a f) v view piece a f refl (start + left) (content.Ping payload)
        (event.Ping payload) (ping_check role limits a f piece rest came h start u bytes_of at_of behind came_is left payload whole enough put ping) refl)

    pub holds_pong : h.opcode ≡ 10 → HoldsEvent v piece (start + left) (event.Pong payload) v.opened
    holds_pong pong = subst (λ (m : Option Message). HoldsEvent v piece (start + left) (event.Pong payload) m) (ap (λ (w : ReceiverValue). w.opened) view)
        (holds_frame (receiver_of role limits a f) v view piece a f refl (start + left) (content.Pong payload)
        (event.Pong payload) (pong_check role limits a f piece rest came h start u bytes_of at_of behind came_is left payload whole enough put pong) refl)

    pub holds_close : (close : Option CloseValue) → h.opcode ≡ 8
        → (close ≡ close_in payload) × NoneInPayload a.opened h payload
        → HoldsEvent v piece (start + left) (event.Close close) None
    holds_close close opcode is = holds_frame (receiver_of role limits a f) v view piece a f refl (start + left) (content.Close close)
        (event.Close close) (close_check role limits a f piece rest came h start u bytes_of at_of behind came_is left payload whole enough put close opcode is.0 is.1) refl

    pub holds_wrong : (reason : Reason) → IsFirstInPayload a.opened h payload (length payload) reason
        → HoldsEvent v piece (start + left) (event.Failed reason) None
    holds_wrong reason first = holds_fault (receiver_of role limits a f) v view piece a f refl (start + left) reason bytes_of
        (fault_check role limits a f piece rest came h start u bytes_of at_of behind came_is left payload whole enough put reason first)

    -- so an event is told, be it a close that is right or wrong
    pub close_wants : (read : Result (Option CloseValue) Reason) → ((opened : Option Message) → MatchResult read
        (λ close. (close ≡ close_in payload) × NoneInPayload opened h payload)
        (λ reason. IsFirstInPayload opened h payload (length payload) reason)) → h.opcode ≡ 8
        → WantsRoom (λ e. Unit {0}) v piece
    close_wants (Ok close) is opcode = inr (start + left, event.Close close, None, holds_close close opcode (is a.opened), tt)
    close_wants (Err reason) is opcode = inr (start + left, event.Failed reason, None, holds_wrong reason (is a.opened), tt)

    -- or a ping or a pong
    pub other_wants : (h.opcode ≡ 8 → ⊥) → WantsRoom (λ e. Unit {0}) v piece
    other_wants no_close =
        let control = at_of in
        let low = control.control.0 in
        let high = control.control.1 in
        elim (cases_lt h.opcode 10) [
          | inl nine ↦ elim (cases_lt 8 h.opcode) [
            | inl above ↦ inr (start + left, event.Ping payload, v.opened, holds_ping (omega (arith, nine, above)), tt)
            | inr below ↦ absurd (no_close (omega (arith, low, below)))
          ]
          | inr ten ↦ inr (start + left, event.Pong payload, v.opened, holds_pong (omega (arith, ten, high)), tt)
        ]

-- what was told is what the piece holds
pub so_receives : (r : Replying) (v new : ReceiverValue) (piece before after : List ℕ) (used : ℕ) (e : Event)
    (opened : Option Message) (told : Option Event) → told ≡ Some e → HoldsEvent v piece used e opened
    → HasReceived r v new before after e opened
    → Receives r v new piece before after (record { used = used; event = told })
so_receives r v new piece before after used e opened told is holds came =
    subst (λ (t : Option Event). ReceivesSo r v new piece before after used t) (sym is) (opened, holds, came)

none_due : (status : Status) → due_at status [] ≡ []
none_due status.Open = refl
none_due status.Closing = refl
none_due (status.Clean code) = refl
none_due (status.Failed reason) = refl
none_due status.Lost = refl

-- where nothing is owed nothing is put
pub none_put : (r : Replying) (before : List ℕ) → before ≡ before ++ bytes_put r []
none_put r before = sym (ap (λ (frames : List Frame). before ++ stream_bytes (map (under_key r.role r.key) frames)) (none_due r.status) ∙ append-nil before)

-- what is no close by its number is none
pub not_close : (kind : Opcode) (number : ℕ) → IsOpcode kind number → (kind ≡ opcode.Close → ⊥) → number ≡ 8 → ⊥
not_close opcode.Continuation number is never eight = omega (arith, is, eight)
not_close opcode.Text number is never eight = omega (arith, is, eight)
not_close opcode.Binary number is never eight = omega (arith, is, eight)
not_close opcode.Close number is never eight = never refl
not_close opcode.Ping number is never eight = omega (arith, is, eight)
not_close opcode.Pong number is never eight = omega (arith, is, eight)
not_close (opcode.Reserved other) number (is, inl low) never eight = omega (arith, low.1, eight)
not_close (opcode.Reserved other) number (is, inr high) never eight = omega (arith, high, eight)
