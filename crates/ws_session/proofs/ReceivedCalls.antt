-- What a call of the receiving side makes of a piece, and where it may want memory, is what a session that has it does.
use Rattle.std.proofs.Common.{◌≡◌, ℕ, ◌+◌, false, List, ◌++◌, length, Option, Some, None, refl, sym, ap, ◌∙◌, arith, inl, inr, subst}
use Rattle.ws_wire.specs.declared.role.Role.{Role}
use Rattle.ws_wire.specs.Header.{HeaderFields, AreBytes}
use Rattle.ws_session.specs.declared.message.Message.{Message}
use Rattle.ws_session.specs.declared.reason.Reason.{Reason}
use Rattle.ws_session.specs.declared.event.Event.{Event}
use Rattle.ws_session.specs.declared.event.Event.TheVariants as event
use Rattle.ws_session.specs.declared.event.Taken.{Taken}
use Rattle.ws_session.specs.declared.replying.Replying.{Replying}
use Rattle.ws_session.specs.declared.status.Status.{Status}
use Rattle.ws_session.specs.declared.receiver.under_way.UnderWay.{UnderWay}
use Rattle.ws_session.specs.InnerContent.{Content}
use Rattle.ws_session.specs.InnerContent as content
use Rattle.ws_session.specs.declared.receiver.piece_check.PieceCheck.{PieceCheck}
use Rattle.ws_session.specs.declared.receiver.piece_check.PieceCheck.TheVariants as piece_check
use Rattle.ws_session.specs.Limits.{LimitsValue}
use Rattle.ws_session.specs.Exchange.{SendingValue, is_over}
use Rattle.ws_session.specs.Taking.{Takes, HasTaken}
use Rattle.ws_session.specs.Memory.{WantsMemory, WantsMemoryToTell}
use Rattle.ws_session.specs.InnerInvariant.{CanAnswer, reply_by}
use Rattle.ws_session.specs.InnerNextFrame.{IsPartOfFrame, IsFirstFaultOfNext}
use Rattle.ws_session.specs.InnerReceiving.{AssemblyValue, IsWholeFrame, HasNewData, IsPieceCheck, partial_of}
use Rattle.ws_session.specs.InnerReceiver.{ReceiverValue, receiver_of, assembly_of, session_with, status_by, telling, event_of_kept, opened_by, HasReceived, IsOwed}
use Rattle.ws_session.specs.InnerTaking.{FrameGoesOn, HoldsEvent, ReceivesSo, Receives, WantsRoom}
use Rattle.ws_session.proofs.Calls.{call_of}
use Rattle.ws_session.proofs.Receipts.{UsesSome, received_part, received_frame, received_fault, uses_frame, uses_fault}
use Rattle.ws_session.proofs.Wants.{wants_data}
use Rattle.ws_session.proofs.Owed.{wants_frame, wants_fault, frame_tells, fault_tells}

-- how an endpoint of this role replies
abbrev pub as_role : Role → Replying → Replying
as_role role r = record { role = role; status = r.status; answering = r.answering; key = r.key }

-- ---- of parts that a value shows

module _ (o v : ReceiverValue) (view : o ≡ v) (piece : List ℕ) where
  -- the frame goes on
  pub goes_on : (new : ReceiverValue) → IsPartOfFrame o.role o.limits o.opened (o.partial_frame ++ piece)
      → new.opened ≡ o.opened → new.partial_frame ≡ o.partial_frame ++ piece → FrameGoesOn v new piece
  goes_on new part opened partial = subst (λ (x : ReceiverValue). FrameGoesOn x new piece) view
      (record { part = part; opened_is = opened; partial = partial })

  -- this was put into the assembly before the frame was found to be whole, or at fault
  module _ (b : AssemblyValue) (g : UnderWay) (opened : b.opened ≡ o.opened) where
    pub holds_frame : (used : ℕ) (x : Content) (e : Event)
        → IsWholeFrame o.role o.limits b (o.partial_frame ++ piece) (length o.partial_frame + used) x
        → e ≡ event_of_kept (receiver_of o.role o.limits b g) x
        → HoldsEvent v piece used e (opened_by (receiver_of o.role o.limits b g) x)
    holds_frame used x e whole told = subst (λ (w : ReceiverValue). HoldsEvent w piece used e (opened_by (receiver_of o.role o.limits b g) x)) view
        (inl (record { assembly = b; frame = g; content = x; opened_is = opened; whole = whole; told = told; opens = refl }))

    pub holds_fault : (used : ℕ) (reason : Reason) → AreBytes (o.partial_frame ++ piece)
        → IsFirstFaultOfNext o.role o.limits b.opened (o.partial_frame ++ piece) (length o.partial_frame + used) reason
        → HoldsEvent v piece used (event.Failed reason) None
    holds_fault used reason are first =
        let at : IsFirstFaultOfNext o.role o.limits o.opened (o.partial_frame ++ piece) (length o.partial_frame + used) reason = subst (λ (m : Option Message). IsFirstFaultOfNext o.role o.limits m (o.partial_frame ++ piece) (length o.partial_frame + used) reason) opened first in
        subst (λ (w : ReceiverValue). HoldsEvent w piece used (event.Failed reason) None) view
        (inr (record { reason = reason; bytes = are; first = at; told = refl; opens = refl }))

    received_so : (r : Replying) (new : ReceiverValue) (before after : List ℕ) (e : Event) (m : Option Message)
        → HasReceived r (receiver_of o.role o.limits b g) new before after e m → HasReceived r v new before after e m
    received_so r new before after e m came = record {
      role = came.role ∙ ap (λ (w : ReceiverValue). w.role) view;
      limits = came.limits ∙ ap (λ (w : ReceiverValue). w.limits) view;
      opened_is = came.opened_is;
      partial = came.partial;
      put = came.put;
    }

    pub receives_frame : (r : Replying) (used : ℕ) (new : ReceiverValue) (before after : List ℕ) (x : Content)
        (taken : Taken)
        → IsWholeFrame o.role o.limits b (o.partial_frame ++ piece) (length o.partial_frame + used) x
        → taken ≡ telling used (event_of_kept (receiver_of o.role o.limits b g) x)
        → HasReceived r (receiver_of o.role o.limits b g) new before after
        (event_of_kept (receiver_of o.role o.limits b g) x) (opened_by (receiver_of o.role o.limits b g) x)
        → Receives r v new piece before after taken
    receives_frame r used new before after x taken whole is came =
        let m = opened_by (receiver_of o.role o.limits b g) x in
        let e = event_of_kept (receiver_of o.role o.limits b g) x in
        subst (λ (t : Taken). Receives r v new piece before after t) (sym is)
        (m, holds_frame used x e whole refl, received_so r new before after e m came)

    pub receives_fault : (r : Replying) (used : ℕ) (new : ReceiverValue) (before after : List ℕ) (reason : Reason)
        (taken : Taken) → AreBytes (o.partial_frame ++ piece)
        → IsFirstFaultOfNext o.role o.limits b.opened (o.partial_frame ++ piece) (length o.partial_frame + used) reason
        → taken ≡ telling used (event.Failed reason)
        → HasReceived r (receiver_of o.role o.limits b g) new before after (event.Failed reason) None
        → Receives r v new piece before after taken
    receives_fault r used new before after reason taken are first is came =
        let e = event.Failed reason in
        subst (λ (t : Taken). Receives r v new piece before after t) (sym is)
        (None, holds_fault used reason are first, received_so r new before after e None came)

    pub frame_wants : (wants : Event → Type 0) (used : ℕ) (x : Content)
        → IsWholeFrame o.role o.limits b (o.partial_frame ++ piece) (length o.partial_frame + used) x
        → wants (event_of_kept (receiver_of o.role o.limits b g) x) → WantsRoom wants v piece
    frame_wants wants used x whole owed =
        let m = opened_by (receiver_of o.role o.limits b g) x in
        let e = event_of_kept (receiver_of o.role o.limits b g) x in
        inr (used, e, m, holds_frame used x e whole refl, owed)

    pub fault_wants : (wants : Event → Type 0) (used : ℕ) (reason : Reason) → AreBytes (o.partial_frame ++ piece)
        → IsFirstFaultOfNext o.role o.limits b.opened (o.partial_frame ++ piece) (length o.partial_frame + used) reason
        → wants (event.Failed reason) → WantsRoom wants v piece
    fault_wants wants used reason are first owed = inr (used, event.Failed reason, None, holds_fault used reason are first, owed)

  -- of a data frame's payload a byte is new
  pub data_wants : (wants : Event → Type 0) → AreBytes (o.partial_frame ++ piece)
      → HasNewData o.role o.limits o.opened (length o.partial_frame) (o.partial_frame ++ piece)
      → WantsRoom wants v piece
  data_wants wants are new = subst (λ (w : ReceiverValue). WantsRoom wants w piece) view (inl (are, new))

-- the same of a piece of which something is told that isn't left to be read
pub piece_wants : (role : Role) (limits : LimitsValue) (a b : AssemblyValue) (f g : UnderWay) (v : ReceiverValue)
    → receiver_of role limits a f ≡ v → (piece : List ℕ) → b.opened ≡ a.opened → (control : Option HeaderFields) (y : PieceCheck)
    → AreBytes (partial_of a f ++ piece) → IsPieceCheck role limits a f b g piece control (Some y)
    → ((start : ℕ) → y ≡ piece_check.Control start → ⊥) → WantsRoom (λ e. Unit {0}) v piece
piece_wants role limits a b f g v view piece opened control (piece_check.Whole used fin kind text) are is not_control =
    frame_wants (receiver_of role limits a f) v view piece b g opened (λ e. Unit {0}) used (content.Data fin kind text) is.1 tt
piece_wants role limits a b f g v view piece opened control (piece_check.Control start) are is not_control = absurd (not_control start refl)
piece_wants role limits a b f g v view piece opened control (piece_check.Fault reason used) are is not_control =
    fault_wants (receiver_of role limits a f) v view piece b g opened (λ e. Unit {0}) used reason are is.1 tt

-- ---- what is taken

-- of a piece that holds an event some bytes are used, where there are some
event_uses : (old : ReceiverValue) (piece : List ℕ) (used : ℕ) (e : Event) (opened : Option Message)
    → IsPartOfFrame old.role old.limits old.opened old.partial_frame → HoldsEvent old piece used e opened
    → UsesSome used piece
event_uses old piece used e opened part (inl is) = uses_frame old.role old.limits old.opened is.assembly old.partial_frame piece used is.content part is.whole
event_uses old piece used e opened part (inr is) = uses_fault old.role old.limits old.opened (assembly_of old) old.partial_frame piece used is.reason refl part is.first

so_uses : (r : Replying) (old new : ReceiverValue) (piece before after : List ℕ) (used : ℕ) (told : Option Event)
    → IsPartOfFrame old.role old.limits old.opened old.partial_frame → ReceivesSo r old new piece before after used told
    → UsesSome used piece
so_uses r old new piece before after used None part is = let all = is.0 in (λ some. omega (arith, all, some), omega (arith, all))
so_uses r old new piece before after used (Some e) part is = event_uses old piece used e is.0 part is.1

-- so do all calls
pub uses_some : (r : Replying) (old new : ReceiverValue) (piece before after : List ℕ) (taken : Taken)
    → IsPartOfFrame old.role old.limits old.opened old.partial_frame → Receives r old new piece before after taken
    → UsesSome taken.used piece
uses_some r old new piece before after taken part is = so_uses r old new piece before after taken.used taken.event part is

module _ (r : Replying) (old new : ReceiverValue) (same_role : r.role ≡ old.role) (going : is_over r.status ≡ false)
    (piece before after : List ℕ) (bytes : AreBytes piece) (sending : Option SendingValue)
    (can : CanAnswer r.answering sending) where
  event_taken : (used : ℕ) (e : Event) (opened : Option Message) → HoldsEvent old piece used e opened → HasReceived r old new before after e opened
      → HasTaken (reply_by r.answering) (session_with old sending r.status)
      (session_with new sending (status_by r.status (Some e))) (call_of piece r.key before after)
      (record { used = used; event = Some e })
  event_taken used e opened (inl is) came exchange unended h =
      let received : HasReceived r (receiver_of old.role old.limits is.assembly is.frame) new before after e (opened_by (receiver_of old.role old.limits is.assembly is.frame) is.content) = record { role = came.role; limits = came.limits; opened_is = came.opened_is ∙ is.opens; partial = came.partial; put = came.put } in
      received_frame r old new sending exchange.sent exchange.taken piece exchange.ended before after can same_role going h bytes is.assembly is.frame used is.content e is.opened_is is.whole is.told received
  event_taken used e opened (inr is) came exchange unended h =
      let received : HasReceived r (receiver_of old.role old.limits (assembly_of old) old.frame) new before after e None = record { role = came.role; limits = came.limits; opened_is = came.opened_is ∙ is.opens; partial = came.partial; put = came.put } in
      received_fault r old new sending exchange.sent exchange.taken piece exchange.ended before after can same_role going h bytes (assembly_of old) old.frame used is.reason e refl is.bytes is.first is.told received

  so_taken : (used : ℕ) (told : Option Event) → new.role ≡ old.role → new.limits ≡ old.limits
      → ReceivesSo r old new piece before after used told
      → HasTaken (reply_by r.answering) (session_with old sending r.status)
      (session_with new sending (status_by r.status told)) (call_of piece r.key before after)
      (record { used = used; event = told })
  so_taken used None role limits is = λ exchange unended h.
      let on = is.1 in
      subst (λ n. Takes (reply_by r.answering) (session_with old sending r.status) (session_with new sending r.status) exchange (call_of piece r.key before after) (record { used = n; event = None })) (sym is.0)
      (subst (λ (l : List ℕ). Takes (reply_by r.answering) (session_with old sending r.status) (session_with new sending r.status) exchange (call_of piece r.key before l) (record { used = length piece; event = None })) (sym is.2)
      (received_part r old new sending exchange.sent exchange.taken piece exchange.ended before before can same_role going h bytes on.part role limits on.opened_is on.partial))
  so_taken used (Some e) role limits is = event_taken used e is.0 is.1 is.2

  -- the call is one of the session
  pub taken_by : (taken : Taken) → new.role ≡ old.role → new.limits ≡ old.limits
      → Receives r old new piece before after taken
      → HasTaken (reply_by r.answering) (session_with old sending r.status)
      (session_with new sending (status_by r.status taken.event)) (call_of piece r.key before after) taken
  taken_by taken role limits is = so_taken taken.used taken.event role limits is

-- ---- where memory is wanted

-- for an answer
module _ (r : Replying) (old : ReceiverValue) (same_role : r.role ≡ old.role) (going : is_over r.status ≡ false)
    (piece : List ℕ) (bytes : AreBytes piece) (sending : Option SendingValue) (can : CanAnswer r.answering sending)
    (part : IsPartOfFrame old.role old.limits old.opened old.partial_frame) where
  pub wants_by : WantsRoom (IsOwed r) old piece → WantsMemory (reply_by r.answering) (session_with old sending r.status) piece
  wants_by (inl is) exchange unended h t would = inl (wants_data (session_with old sending r.status) exchange piece h going bytes is.0 part is.1 t would)
  wants_by (inr (used, e, opened, inl is, owed)) exchange unended h t would =
      wants_frame r old sending exchange piece can same_role going h bytes is.assembly is.frame used is.content is.opened_is is.whole (subst (λ (d : Event). IsOwed r d) is.told owed) t would
  wants_by (inr (used, e, opened, inr is, owed)) exchange unended h t would =
      wants_fault r old sending exchange piece can same_role going h bytes (assembly_of old) old.frame used is.reason refl is.bytes is.first (subst (λ (d : Event). IsOwed r d) is.told owed) t would

-- for an event
module _ (old : ReceiverValue) (status : Status) (going : is_over status ≡ false) (piece : List ℕ)
    (bytes : AreBytes piece) (sending : Option SendingValue)
    (part : IsPartOfFrame old.role old.limits old.opened old.partial_frame) where
  pub wants_told : WantsRoom (λ e. Unit {0}) old piece → WantsMemoryToTell (session_with old sending status) piece
  wants_told (inl is) = λ exchange unended h t would. inl (wants_data (session_with old sending status) exchange piece h going bytes is.0 part is.1 t would)
  wants_told (inr (used, e, opened, inl is, any)) = frame_tells old sending status going piece bytes is.assembly is.frame used is.content is.opened_is is.whole
  wants_told (inr (used, e, opened, inr is, any)) = fault_tells old sending status going piece bytes (assembly_of old) old.frame used is.reason refl is.bytes is.first
