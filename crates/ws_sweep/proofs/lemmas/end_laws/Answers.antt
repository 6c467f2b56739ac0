-- They are laws of the layer below: a close and a fault are the two events after which nothing comes.
use Rattle.std.proofs.Common.{◌≡◌, List, [], ◌∷◌, ◌++◌, ℕ, Some}
use Rattle.ws_wire.specs.declared.role.Role.{Role}
use Rattle.ws_session.specs.declared.event.Event.{Event}
use Rattle.ws_session.specs.declared.event.Event.TheVariants as event
use Rattle.ws_session.specs.Limits.{LimitsValue}
use Rattle.ws_session.specs.Events.{HasEvents}
use Rattle.ws_sweep.specs.ShortCases.{IsCloseOrFault}
use Rattle.ws_sweep.proofs.lemmas.end_laws.Goals as goal

by_event : ((role : Role) (limits : LimitsValue) (bytes : List ℕ) (events later : List Event) (close : _)
    → HasEvents role limits bytes (events ++ event.Close close ∷ later) → later ≡ [])
    → ((role : Role) (limits : LimitsValue) (bytes : List ℕ) (events later : List Event) (reason : _)
    → HasEvents role limits bytes (events ++ event.Failed reason ∷ later) → later ≡ [])
    → (role : Role) (limits : LimitsValue) (bytes : List ℕ) (events later : List Event) (last : Event)
    → IsCloseOrFault (Some last) → HasEvents role limits bytes (events ++ last ∷ later) → later ≡ []
by_event close fault role limits bytes events later event.Part ends h = absurd ends
by_event close fault role limits bytes events later (event.Message message) ends h = absurd ends
by_event close fault role limits bytes events later (event.Ping payload) ends h = absurd ends
by_event close fault role limits bytes events later (event.Pong payload) ends h = absurd ends
by_event close fault role limits bytes events later (event.Close given) ends h =
    close role limits bytes events later given h
by_event close fault role limits bytes events later (event.Failed reason) ends h =
    fault role limits bytes events later reason h

pub returns : goal.returns
returns c = record {
  some = c.every_stream_has_events.ensures.events;
  go_on = c.events_go_on.ensures;
  end_last = by_event c.the_end_comes_last.ensures.close c.the_end_comes_last.ensures.fault;
}
