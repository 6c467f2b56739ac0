-- Whether bytes hold a close or a fault is what a session that has taken them tells.
use Rattle.std.proofs.Common.{◌≡◌, ◌∙◌, ℕ, ◌↔◌, ◌++◌, [], Bool, true, false, List, refl, ap, sym, subst, if◌then◌else◌}
use Rattle.std.proofs.Common.{Option, Some, None}
use Rattle.ws_wire.specs.declared.role.Role.{Role}
use Rattle.ws_wire.specs.Frame.{Frame as SentFrame}
use Rattle.ws_session.specs.declared.event.Event.{Event}
use Rattle.ws_session.specs.declared.event.Event.TheVariants as event
use Rattle.ws_session.specs.declared.status.Status.TheVariants.{Closing, Open}
use Rattle.ws_session.specs.Exchange.{HasExchanged, SessionValue, is_over, last_event, status_after}
use Rattle.ws_session.specs.Limits.{LimitsValue}
use Rattle.ws_session.specs.Events.{HasEvents}
use Rattle.ws_session.specs.declared.event.PlacedEvent.{PlacedEvent}
use Rattle.ws_session.specs.Taking.{HasTakenAll, TakeCall, events_in}
use Rattle.ws_session.specs.Replies.{has_close, replies_by, reply_to}
use Rattle.ws_session.specs.Sends.{most_limits}
use Rattle.ws_sweep.specs.InnerFronts.{IsSessionAfter}
use Rattle.ws_sweep.specs.InnerLaws.{OneListOfEvents}
use Rattle.ws_sweep.specs.ShortCases.{HasEnd, IsCloseOrFault}

-- ---- a close or a fault

going_by : (b : Bool) → is_over (if b then Closing else Open) ≡ false
going_by true = refl
going_by false = refl

over_is_end : (sent : List SentFrame) (last : Option Event) → is_over (status_after sent false last) ≡ true
    → IsCloseOrFault last
over_is_end sent None over = let bad : false ≡ true = sym (going_by (has_close sent)) ∙ over in absurd cc
over_is_end sent (Some event.Part) over = let bad : false ≡ true = sym (going_by (has_close sent)) ∙ over in absurd cc
over_is_end sent (Some (event.Message message)) over =
    let bad : false ≡ true = sym (going_by (has_close sent)) ∙ over in absurd cc
over_is_end sent (Some (event.Ping payload)) over =
    let bad : false ≡ true = sym (going_by (has_close sent)) ∙ over in absurd cc
over_is_end sent (Some (event.Pong payload)) over =
    let bad : false ≡ true = sym (going_by (has_close sent)) ∙ over in absurd cc
over_is_end sent (Some (event.Close close)) over = tt
over_is_end sent (Some (event.Failed reason)) over = tt

end_is_over : (sent : List SentFrame) (last : Option Event) → IsCloseOrFault last
    → is_over (status_after sent false last) ≡ true
end_is_over sent None ends = absurd ends
end_is_over sent (Some event.Part) ends = absurd ends
end_is_over sent (Some (event.Message message)) ends = absurd ends
end_is_over sent (Some (event.Ping payload)) ends = absurd ends
end_is_over sent (Some (event.Pong payload)) ends = absurd ends
end_is_over sent (Some (event.Close close)) ends = refl
end_is_over sent (Some (event.Failed reason)) ends = refl

-- a session that has taken the bytes is over exactly where they hold one
pub over_at_end : OneListOfEvents → (v : SessionValue) (tested : Role) (sent : List SentFrame) (bytes : List ℕ)
    → HasExchanged v sent bytes false → v.role ≡ tested → v.limits ≡ most_limits
    → (is_over v.status ≡ true) ↔ HasEnd tested bytes
over_at_end law v tested sent bytes h role limits =
    let here : HasEvents tested most_limits bytes h.events =
    subst (λ (r : Role). HasEvents r most_limits bytes h.events) role
    (subst (λ (l : LimitsValue). HasEvents v.role l bytes h.events) limits h.has_events) in (
      λ over. record {
        events = h.events;
        are_events = here;
        ends = over_is_end sent (last_event h.events) (ap is_over (sym h.status) ∙ over);
      },
      λ ends.
          let same : ends.events ≡ h.events = law tested most_limits bytes ends.events h.events ends.are_events here in
          ap is_over h.status
          ∙ end_is_over sent (last_event h.events)
          (subst (λ (l : List Event). IsCloseOrFault (last_event l)) same ends.ends),
    )

-- ---- a session that has taken them

-- is over exactly where they hold one
pub after_tells : OneListOfEvents → (tested : Role) (bytes : List ℕ) (v : SessionValue) (ends : Bool)
    → IsSessionAfter tested bytes v → ends ≡ is_over v.status → (ends ≡ true) ↔ HasEnd tested bytes
after_tells law tested bytes v ends after told =
    let both = over_at_end law v tested after.sent bytes after.agrees after.role after.limits in
    (λ t. both.0 (sym told ∙ t), λ h. told ∙ both.1 h)

-- one that takes more
pub after_more : (tested : Role) (bytes : List ℕ) (old new : SessionValue) (call : TakeCall) (told : List PlacedEvent)
    → IsSessionAfter tested bytes old → HasTakenAll reply_to old new call [] told
    → IsSessionAfter tested (bytes ++ call.piece) new
after_more tested bytes old new call told after took =
    let takes = took.takes (record { sent = after.sent; taken = bytes; ended = false }) refl after.agrees in record {
      role = took.same.0 ∙ after.role;
      limits = took.same.1 ∙ after.limits;
      sent = after.sent ++ replies_by reply_to after.sent (events_in took.told);
      agrees = takes.agrees;
    }
