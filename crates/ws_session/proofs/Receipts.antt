-- A call of the receiving side as one of a session that has it.
use Rattle.std.proofs.Common.{◌≡◌, ◌≢◌, ℕ, ◌+◌, ◌<◌, ◌≤◌, Bool, true, false, cond, List, [], ◌∷◌, ◌++◌, length, Option, Some, None, refl, sym, ap, ◌∙◌, arith, subst}
use Rattle.std.specs.Prelude.{map, nat_le, ◌==◌}
use Rattle.ws_wire.specs.declared.role.Role.{Role}
use Rattle.ws_wire.specs.Header.{AreBytes}
use Rattle.ws_wire.specs.Frame.{Frame, frame_bytes, stream_bytes}
use Rattle.ws_text.specs.Close.{CloseValue}
use Rattle.ws_session.specs.declared.message.Message.{Message}
use Rattle.ws_session.specs.declared.reason.Reason.{Reason}
use Rattle.ws_session.specs.declared.event.Event.{Event}
use Rattle.ws_session.specs.declared.event.Event.TheVariants as event
use Rattle.ws_session.specs.declared.status.Status.{Status}
use Rattle.ws_session.specs.declared.status.Status.TheVariants as status
use Rattle.ws_session.specs.declared.replying.Replying.{Replying}
use Rattle.ws_session.specs.declared.receiver.under_way.UnderWay.{UnderWay}
use Rattle.ws_session.specs.InnerContent.{Content}
use Rattle.ws_session.specs.InnerContent as content
use Rattle.ws_session.specs.Limits.{LimitsValue}
use Rattle.ws_session.specs.Messages.{is_control}
use Rattle.ws_session.specs.Events.{event_of_control, close_in}
use Rattle.ws_session.specs.Replies.{under_key}
use Rattle.ws_session.specs.Exchange.{SendingValue, HasExchanged, is_over}
use Rattle.ws_session.specs.Taking.{Takes}
use Rattle.ws_session.specs.InnerNextFrame.{IsPartOfFrame, HasNoFaultOfNext, IsFirstFaultOfNext, message_with, opened_with, event_behind, due_at, IsAfter}
use Rattle.ws_session.specs.InnerInvariant.{CanAnswer, reply_by}
use Rattle.ws_session.specs.InnerReceiving.{AssemblyValue, IsContentOf, IsWholeFrame, message_kept}
use Rattle.ws_session.specs.InnerReplying.{bytes_put}
use Rattle.ws_session.specs.InnerReceiver.{ReceiverValue, receiver_of, session_with, status_by, event_of_kept, opened_by, HasReceived}
use Rattle.ws_session.proofs.Calls.{exchange_of, call_of}
use Rattle.ws_session.proofs.OneTake.{takes_part, takes_frame, takes_fault, frame_behind_kept, fault_behind_kept, within_bytes}
use Rattle.std.proofs.lemmas.List.{length-append}

-- ---- what a whole frame holds

data_event : (b c d : Bool) (opened : Option Message) (m n : Message) (frame : Frame) → is_control frame ≡ false → d ≡ frame.fin → m ≡ n → (cond d (event.Message m) event.Part) ≡ cond (is_control frame) (event_of_control frame) (cond frame.fin (event.Message n) event.Part)
data_event b c d opened m n frame control fin same =
    ap (λ x. cond x (event.Message m) event.Part) fin ∙ ap (λ (x : Message). cond frame.fin (event.Message x) event.Part) same ∙ ap (λ x. cond x (event_of_control frame) (cond frame.fin (event.Message n) event.Part)) (sym control)

-- the event of the content is the frame's
pub event_kept : (role : Role) (limits : LimitsValue) (a : AssemblyValue) (f : UnderWay) (frame : Frame) (x : Content) → IsContentOf a frame x → event_of_kept (receiver_of role limits a f) x ≡ event_behind a.opened frame
event_kept role limits a f frame (content.Data fin kind text) is = data_event true true fin a.opened (message_kept a kind) (message_with a.opened frame) frame is.0 is.1 is.2
event_kept role limits a f frame (content.Ping payload) is = ap (λ (l : List ℕ). event.Ping l) is.1 ∙ sym (ap (λ n. cond (nat_le 8 n) (cond (n == 8) (event.Close (close_in frame.payload)) (cond (n == 9) (event.Ping frame.payload) (event.Pong frame.payload))) (cond frame.fin (event.Message (message_with a.opened frame)) event.Part)) is.0)
event_kept role limits a f frame (content.Pong payload) is = ap (λ (l : List ℕ). event.Pong l) is.1 ∙ sym (ap (λ n. cond (nat_le 8 n) (cond (n == 8) (event.Close (close_in frame.payload)) (cond (n == 9) (event.Ping frame.payload) (event.Pong frame.payload))) (cond frame.fin (event.Message (message_with a.opened frame)) event.Part)) is.0)
event_kept role limits a f frame (content.Close close) is = ap (λ (c : Option CloseValue). event.Close c) is.1 ∙ sym (ap (λ n. cond (nat_le 8 n) (cond (n == 8) (event.Close (close_in frame.payload)) (cond (n == 9) (event.Ping frame.payload) (event.Pong frame.payload))) (cond frame.fin (event.Message (message_with a.opened frame)) event.Part)) is.0)

data_opened : (d : Bool) (opened : Option Message) (m n : Message) (frame : Frame) → is_control frame ≡ false → d ≡ frame.fin → m ≡ n → (cond d None (Some m)) ≡ cond (is_control frame) opened (cond frame.fin None (Some n))
data_opened d opened m n frame control fin same =
    ap (λ x. cond x None (Some m)) fin ∙ ap (λ (x : Message). cond frame.fin None (Some x)) same ∙ ap (λ x. cond x opened (cond frame.fin None (Some n))) (sym control)

-- and so is the message that is open after it, unless all is over
pub opened_kept : (role : Role) (limits : LimitsValue) (a : AssemblyValue) (f : UnderWay) (frame : Frame) (s : Status) (x : Content) → IsContentOf a frame x → is_over (status_by s (Some (event_of_kept (receiver_of role limits a f) x))) ≡ false → opened_by (receiver_of role limits a f) x ≡ opened_with a.opened frame
opened_kept role limits a f frame s (content.Data fin kind text) is going = data_opened fin a.opened (message_kept a kind) (message_with a.opened frame) frame is.0 is.1 is.2
opened_kept role limits a f frame s (content.Ping payload) is going = sym (ap (λ n. cond (nat_le 8 n) a.opened (cond frame.fin None (Some (message_with a.opened frame)))) is.0)
opened_kept role limits a f frame s (content.Pong payload) is going = sym (ap (λ n. cond (nat_le 8 n) a.opened (cond frame.fin None (Some (message_with a.opened frame)))) is.0)
opened_kept role limits a f frame s (content.Close close) is going = absurd cc

-- ---- the three cases

module _ (r : Replying) (old new : ReceiverValue) (sending : Option SendingValue) (sent : List Frame) (s piece : List ℕ) (ended : Bool) (before after : List ℕ) (can : CanAnswer r.answering sending) (same_role : r.role ≡ old.role) (going : is_over r.status ≡ false) (h : HasExchanged (session_with old sending r.status) sent s ended) (bytes : AreBytes piece) where
  -- the frame isn't whole
  pub received_part : IsPartOfFrame old.role old.limits old.opened (old.partial_frame ++ piece) → new.role ≡ old.role → new.limits ≡ old.limits → new.opened ≡ old.opened → new.partial_frame ≡ old.partial_frame ++ piece
      → Takes (reply_by r.answering) (session_with old sending r.status) (session_with new sending r.status) (exchange_of sent s ended) (call_of piece r.key before before) (record { used = length piece; event = None })
  received_part part role limits opened partial =
      takes_part r.answering (session_with old sending r.status) can sent s piece ended r.key before before h going bytes (session_with new sending r.status) part refl role limits opened partial refl refl

  put_is : (d e : Event) → e ≡ d → after ≡ before ++ bytes_put r (reply_by r.answering e) → after ≡ before ++ stream_bytes (map (under_key old.role r.key) (due_at r.status (reply_by r.answering d)))
  put_is d e is put = put ∙ ap (λ (x : Event). before ++ bytes_put r (reply_by r.answering x)) is ∙ ap (λ (x : Role). before ++ stream_bytes (map (under_key x r.key) (due_at r.status (reply_by r.answering d)))) same_role

  -- the frame is whole
  pub received_frame : (a : AssemblyValue) (f : UnderWay) (used : ℕ) (x : Content) (e : Event) → a.opened ≡ old.opened → IsWholeFrame old.role old.limits a (old.partial_frame ++ piece) (length old.partial_frame + used) x
      → e ≡ event_of_kept (receiver_of old.role old.limits a f) x → HasReceived r (receiver_of old.role old.limits a f) new before after e (opened_by (receiver_of old.role old.limits a f) x)
      → Takes (reply_by r.answering) (session_with old sending r.status) (session_with new sending (status_by r.status (Some e))) (exchange_of sent s ended) (call_of piece r.key before after) (record { used = used; event = Some e })
  received_frame a f used x e opened w is_event received =
      let v = receiver_of old.role old.limits a f in
      let behind : e ≡ event_behind old.opened w.frame.frame = is_event ∙ event_kept old.role old.limits a f w.frame.frame x w.is_content ∙ ap (λ (o : Option Message). event_behind o w.frame.frame) opened in
      let clean : HasNoFaultOfNext old.role old.limits old.opened (old.partial_frame ++ piece) = subst (λ (o : Option Message). HasNoFaultOfNext old.role old.limits o (old.partial_frame ++ piece)) opened w.clean in
      let after_e : IsAfter (session_with old sending r.status) (session_with new sending (status_by r.status (Some e))) e (opened_with old.opened w.frame.frame) = record {
        role = received.role;
        limits = received.limits;
        sending = refl;
        status = refl;
        taking = λ more. (
          received.opened_is ∙ opened_kept old.role old.limits a f w.frame.frame r.status x w.is_content (subst (λ (d : Event). is_over (status_by r.status (Some d)) ≡ false) is_event more) ∙ ap (λ (o : Option Message). opened_with o w.frame.frame) opened,
          received.partial,
        );
      } in
      subst (λ (d : Event). Takes (reply_by r.answering) (session_with old sending r.status) (session_with new sending (status_by r.status (Some d))) (exchange_of sent s ended) (call_of piece r.key before after) (record { used = used; event = Some d })) (sym behind)
      (takes_frame r.answering (session_with old sending r.status) can sent s piece ended r.key before after h going bytes (session_with new sending (status_by r.status (Some (event_behind old.opened w.frame.frame)))) w.frame w.more used w.can w.front (sym w.size) clean
      (put_is (event_behind old.opened w.frame.frame) e behind received.put)
      (subst (λ (d : Event). IsAfter (session_with old sending r.status) (session_with new sending (status_by r.status (Some d))) d (opened_with old.opened w.frame.frame)) behind after_e))

  -- a rule was broken
  pub received_fault : (a : AssemblyValue) (f : UnderWay) (used : ℕ) (reason : Reason) (e : Event) → a.opened ≡ old.opened → AreBytes (old.partial_frame ++ piece) → IsFirstFaultOfNext old.role old.limits a.opened (old.partial_frame ++ piece) (length old.partial_frame + used) reason
      → e ≡ event.Failed reason → HasReceived r (receiver_of old.role old.limits a f) new before after e None
      → Takes (reply_by r.answering) (session_with old sending r.status) (session_with new sending (status_by r.status (Some e))) (exchange_of sent s ended) (call_of piece r.key before after) (record { used = used; event = Some e })
  received_fault a f used reason e opened are first is_event received =
      let fault : IsFirstFaultOfNext old.role old.limits old.opened (old.partial_frame ++ piece) (length old.partial_frame + used) reason = subst (λ (o : Option Message). IsFirstFaultOfNext old.role old.limits o (old.partial_frame ++ piece) (length old.partial_frame + used) reason) opened first in
      let after_e : IsAfter (session_with old sending r.status) (session_with new sending (status_by r.status (Some e))) e None = record {
        role = received.role;
        limits = received.limits;
        sending = refl;
        status = refl;
        taking = λ more. (received.opened_is, received.partial);
      } in
      subst (λ (d : Event). Takes (reply_by r.answering) (session_with old sending r.status) (session_with new sending (status_by r.status (Some d))) (exchange_of sent s ended) (call_of piece r.key before after) (record { used = used; event = Some d })) (sym is_event)
      (takes_fault r.answering (session_with old sending r.status) can sent s piece ended r.key before after h going bytes (session_with new sending (status_by r.status (Some (event.Failed reason)))) (length old.partial_frame + used) used reason are fault refl
      (put_is (event.Failed reason) e is_event received.put)
      (subst (λ (d : Event). IsAfter (session_with old sending r.status) (session_with new sending (status_by r.status (Some d))) d None) is_event after_e))

-- ---- how much is used

-- at least a byte, where there is one, and no more than there are
abbrev pub UsesSome : ℕ → List ℕ → Type 0
UsesSome used piece = (0 < length piece → 0 < used) × (used ≤ length piece)

pub uses_frame : (role : Role) (limits : LimitsValue) (opened : Option Message) (a : AssemblyValue) (kept piece : List ℕ) (used : ℕ) (x : Content) → IsPartOfFrame role limits opened kept → IsWholeFrame role limits a (kept ++ piece) (length kept + used) x → UsesSome used piece
uses_frame role limits opened a kept piece used x p w =
    let total : length kept + length piece ≡ length (frame_bytes w.frame) + length w.more = sym (length-append kept piece) ∙ ap (λ (l : List ℕ). length l) w.front ∙ length-append (frame_bytes w.frame) w.more in
    let behind = frame_behind_kept role limits opened kept piece w.frame w.more p w.can w.front in
    (λ some. omega (arith, behind, w.size), omega (arith, total, w.size))

pub uses_fault : (role : Role) (limits : LimitsValue) (opened : Option Message) (a : AssemblyValue) (kept piece : List ℕ) (used : ℕ) (reason : Reason) → a.opened ≡ opened → IsPartOfFrame role limits opened kept → IsFirstFaultOfNext role limits a.opened (kept ++ piece) (length kept + used) reason → UsesSome used piece
uses_fault role limits opened a kept piece used reason same p first =
    let here : IsFirstFaultOfNext role limits opened (kept ++ piece) (length kept + used) reason = subst (λ (o : Option Message). IsFirstFaultOfNext role limits o (kept ++ piece) (length kept + used) reason) same first in
    let behind = fault_behind_kept role limits opened kept piece (length kept + used) reason p here.fault in
    let within = within_bytes role limits opened (kept ++ piece) (length kept + used) reason here.fault in
    (λ some. omega (arith, behind), omega (arith, within, length-append kept piece))

-- ---- what is owed

-- who sends nothing more was not asked to
pub owed_unless_closing : (s : Status) (frame : Frame) (frames : List Frame) → (s ≡ status.Closing → ⊥) → due_at s (frame ∷ frames) ≢ []
owed_unless_closing status.Open frame frames never = λ e. absurd cc
owed_unless_closing status.Closing frame frames never = λ e. never refl
owed_unless_closing (status.Clean code) frame frames never = λ e. absurd cc
owed_unless_closing (status.Failed reason) frame frames never = λ e. absurd cc
owed_unless_closing status.Lost frame frames never = λ e. absurd cc
