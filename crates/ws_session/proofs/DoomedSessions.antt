-- A session goes on while what it took ends doomed: neither close nor fault has come.
use Rattle.std.proofs.Common.{◌≡◌, ℕ, Bool, true, false, cond, List, [], Option, None, Some, refl, ap, ◌∙◌}
use Rattle.ws_wire.specs.declared.role.Role.{Role}
use Rattle.ws_wire.specs.Frame.{Frame, KeyedFrame, FitsTheLayout, frame_bytes}
use Rattle.ws_wire.proofs.Frames.{none_begins}
use Rattle.ws_wire.proofs.Splits.{split_is_one}
use Rattle.ws_session.specs.declared.reason.Reason.{Reason}
use Rattle.ws_session.specs.declared.event.Event.{Event}
use Rattle.ws_session.specs.declared.status.Status.{Status}
use Rattle.ws_session.specs.declared.status.Status.TheVariants as status
use Rattle.ws_session.specs.Limits.{LimitsValue}
use Rattle.ws_session.specs.Faults.{frames_of, HasNoFault}
use Rattle.ws_session.specs.Doomed.{EndsDoomed}
use Rattle.ws_session.specs.Events.{IsFaultOf, events_after, events_of}
use Rattle.ws_session.specs.Replies.{has_close}
use Rattle.ws_session.specs.Exchange.{SessionValue, HasExchanged, is_over, last_event, status_before_close, status_of}
use Rattle.ws_session.proofs.OneMoreFrame.{through_close_same}
use Rattle.ws_session.proofs.Over.{last_ends_not, status_unless}

open_is_not_over : (closed : Bool) → is_over (cond closed status.Closing status.Open) ≡ false
open_is_not_over true = refl
open_is_not_over false = refl

no_fault : (role : Role) (limits : LimitsValue) (bytes : List ℕ) (fault : Option (ℕ × Reason))
    → IsFaultOf role limits bytes fault → HasNoFault role limits bytes → fault ≡ None
no_fault role limits bytes None is none = refl
no_fault role limits bytes (Some fault) is none = absurd (none fault.0 fault.1 is.fault)

pub goes_on_in_doom : (v : SessionValue) (sent : List Frame) (bytes : List ℕ) (frames : List KeyedFrame)
    (rest : List ℕ) → HasExchanged v sent bytes false → EndsDoomed v.role v.limits bytes frames rest
    → is_over v.status ≡ false
goes_on_in_doom v sent bytes frames rest h d =
    let same = split_is_one FitsTheLayout frame_bytes none_begins bytes h.has_events.frames frames h.has_events.rest
    rest h.has_events.split d.split in
    let none = no_fault v.role v.limits bytes h.has_events.fault h.has_events.is_fault d.clean in
    let told : h.events ≡ events_after [] (frames_of frames) =
    h.has_events.are ∙ (ap (λ (f : Option (ℕ × Reason)). events_of h.has_events.frames f) none
    ∙ (ap (λ (l : List KeyedFrame). events_of l None) same.0
    ∙ ap (λ (l : List KeyedFrame). events_after [] (frames_of l)) (through_close_same frames d.no_close))) in
    let is : v.status ≡ status_before_close sent false =
    h.status ∙ (ap (λ (l : List Event). status_of sent false l) told
    ∙ status_unless sent false (last_event (events_after [] (frames_of frames)))
    (last_ends_not [] frames d.no_close)) in
    ap (λ (s : Status). is_over s) is ∙ open_is_not_over (has_close sent)
