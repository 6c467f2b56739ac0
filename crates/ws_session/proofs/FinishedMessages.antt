-- The messages that frames finish are those that their events tell.
use Rattle.std.proofs.Common.{◌≡◌, Bool, true, false, cond, List, [], ◌∷◌, ◌++◌, map, refl, ap, sym, ◌∙◌}
use Rattle.std.specs.Prelude.{◌==◌}
use Rattle.std.proofs.lemmas.List.{append-nil, append_assoc, map-append}
use Rattle.ws_wire.specs.Frame.{Frame}
use Rattle.ws_session.specs.declared.message.Message.{Message}
use Rattle.ws_session.specs.declared.event.Event.TheVariants as event
use Rattle.ws_session.specs.Messages.{is_control, data_frames, Groups, groups_of, message_of, messages_of}
use Rattle.ws_session.specs.Events.{event_of_control, event_of, events_after, close_in, message_in, messages_in}
use Rattle.ws_session.proofs.OpenMessage.{groups_control, groups_end, groups_more}

no_message_by : (b c : Bool) (f : Frame) → message_in (cond b (event.Close (close_in f.payload)) (cond c (event.Ping f.payload) (event.Pong f.payload))) ≡ []
no_message_by true c f = refl
no_message_by false true f = refl
no_message_by false false f = refl

-- the event of one more frame tells the message that it finishes
one_by : (b c : Bool) (fs : List Frame) (f : Frame) → is_control f ≡ b → f.fin ≡ c → messages_of (fs ++ f ∷ []) ≡ messages_of fs ++ message_in (event_of fs f)
one_by true c fs f e fin =
    ap (λ (g : Groups). map message_of g.finished) (groups_control fs f e)
    ∙ sym (ap (λ (es : List Message). messages_of fs ++ es) (ap (λ d. message_in (cond d (event_of_control f) (cond f.fin (event.Message (message_of ((groups_of (data_frames fs)).unfinished ++ f ∷ []))) event.Part))) e ∙ no_message_by (f.opcode == 8) (f.opcode == 9) f) ∙ append-nil (messages_of fs))
one_by false true fs f e fin =
    ap (λ (g : Groups). map message_of g.finished) (groups_end fs f e fin)
    ∙ map-append message_of (groups_of (data_frames fs)).finished (((groups_of (data_frames fs)).unfinished ++ f ∷ []) ∷ [])
    ∙ sym (ap (λ (es : List Message). messages_of fs ++ es) (ap (λ d. message_in (cond d (event_of_control f) (cond f.fin (event.Message (message_of ((groups_of (data_frames fs)).unfinished ++ f ∷ []))) event.Part))) e ∙ ap (λ d. message_in (cond d (event.Message (message_of ((groups_of (data_frames fs)).unfinished ++ f ∷ []))) event.Part)) fin))
one_by false false fs f e fin =
    ap (λ (g : Groups). map message_of g.finished) (groups_more fs f e fin)
    ∙ sym (ap (λ (es : List Message). messages_of fs ++ es) (ap (λ d. message_in (cond d (event_of_control f) (cond f.fin (event.Message (message_of ((groups_of (data_frames fs)).unfinished ++ f ∷ []))) event.Part))) e ∙ ap (λ d. message_in (cond d (event.Message (message_of ((groups_of (data_frames fs)).unfinished ++ f ∷ []))) event.Part)) fin) ∙ append-nil (messages_of fs))

messages_behind : (before fs : List Frame) → messages_of (before ++ fs) ≡ messages_of before ++ messages_in (events_after before fs)
messages_behind before [] = ap (λ (l : List Frame). messages_of l) (append-nil before) ∙ sym (append-nil (messages_of before))
messages_behind before (f ∷ fs) =
    ap (λ (l : List Frame). messages_of l) (sym (append_assoc before (f ∷ []) fs))
    ∙ messages_behind (before ++ f ∷ []) fs
    ∙ ap (λ (ms : List Message). ms ++ messages_in (events_after (before ++ f ∷ []) fs)) (one_by (is_control f) f.fin before f refl refl)
    ∙ append_assoc (messages_of before) (message_in (event_of before f)) (messages_in (events_after (before ++ f ∷ []) fs))

-- the messages that the events of frames tell
pub messages_told : (fs : List Frame) → messages_in (events_after [] fs) ≡ messages_of fs
messages_told fs = sym (messages_behind [] fs)
