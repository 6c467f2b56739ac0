-- How bytes stand, by the status of the session that has taken them, and what a run makes of it.
use Rattle.std.proofs.Common.{◌≡◌, ◌∙◌, ℕ, ◌⊎◌, List, ◌++◌, Bool, true, false, if◌then◌else◌, Option, refl, sym, ap, subst}
use Rattle.std.proofs.Common.{inl, inr}
use Rattle.std.specs.Prelude.{None, Some}
use Rattle.ws_wire.specs.declared.role.Role.{Role}
use Rattle.ws_wire.specs.Frame.{Frame}
use Rattle.ws_session.specs.declared.event.Event.{Event}
use Rattle.ws_session.specs.declared.event.Event.TheVariants as event
use Rattle.ws_session.specs.declared.status.Status.{Status}
use Rattle.ws_session.specs.declared.status.Status.TheVariants as status
use Rattle.ws_session.specs.Limits.{LimitsValue}
use Rattle.ws_session.specs.Events.{HasEvents}
use Rattle.ws_session.specs.Exchange.{SessionValue, is_over, last_event, status_after}
use Rattle.ws_session.specs.Replies.{has_close}
use Rattle.ws_session.specs.Sends.{most_limits}
use Rattle.ws_suite.specs.Evidence.{other_role}
use Rattle.ws_scripts.specs.declared.expectation.Expectation.{Expectation}
use Rattle.ws_scripts.specs.declared.expectation.Expectation.TheVariants.{Echo, Protocol}
use Rattle.ws_suite.proofs.UndefinedCloses.{undefined_is_last, undefined_stays}
use Rattle.ws_tester.specs.Standings.{CountsAsClose, HasStanding, HearsAll, StandsAs, is_server_close, standing_after}
use Rattle.ws_tester.specs.Standings.{standing_of_status}
use Rattle.ws_tester.specs.declared.standing.Standing.{Standing}
use Rattle.ws_tester.specs.declared.standing.Standing.TheVariants.{Going, Closed, Faulty}

-- ---- by the status

before_close : (closing : Bool) → standing_of_status (if closing then status.Closing else status.Open) ≡ Going
before_close true = refl
before_close false = refl

same_standing : (sent : List Frame) (last : Option Event)
    → standing_after last ≡ standing_of_status (status_after sent false last)
same_standing sent None = sym (before_close (has_close sent))
same_standing sent (Some event.Part) = sym (before_close (has_close sent))
same_standing sent (Some (event.Message message)) = sym (before_close (has_close sent))
same_standing sent (Some (event.Ping payload)) = sym (before_close (has_close sent))
same_standing sent (Some (event.Pong payload)) = sym (before_close (has_close sent))
same_standing sent (Some (event.Close close)) = refl
same_standing sent (Some (event.Failed reason)) = refl

under : (r s : Role) (l m : LimitsValue) (bytes : List ℕ) (events : List Event) → r ≡ s → l ≡ m
    → HasEvents r l bytes events → HasEvents s m bytes events
under r s l m bytes events e f h =
    subst (λ (x : Role). HasEvents x m bytes events) e (subst (λ (x : LimitsValue). HasEvents r x bytes events) f h)

pub heard_stands : (reader : Role) (session : SessionValue) (bytes : List ℕ) → HearsAll reader session bytes
    → HasStanding reader (standing_of_status session.status) bytes
heard_stands reader session bytes h = record {
  events = h.exchanged.events;
  are_events = under session.role reader session.limits most_limits bytes h.exchanged.events h.role h.limits
      h.exchanged.has_events;
  last = same_standing h.sent (last_event h.exchanged.events)
      ∙ sym (ap (λ (s : Status). standing_of_status s) h.exchanged.status);
}

-- ---- one standing

abbrev pub OneList : Type 0
OneList = (role : Role) (limits : LimitsValue) (bytes : List ℕ) (events others : List Event)
    → HasEvents role limits bytes events → HasEvents role limits bytes others → events ≡ others

pub one_standing : OneList → (reader : Role) (s t : Standing) (got : List ℕ) → HasStanding reader s got → HasStanding reader t got
    → s ≡ t
one_standing one reader s t got a b = sym a.last
    ∙ ap (λ (l : List Event). standing_after (last_event l))
    (one reader most_limits got a.events b.events a.are_events b.are_events) ∙ b.last

-- what was got stands to a run in one way
pub one_stands : (tested : Role) (expected : Expectation) (got : List ℕ)
    → ((s t : Standing) → HasStanding (other_role tested) s got → HasStanding (other_role tested) t got → s ≡ t)
    → (s t : Standing) → StandsAs tested expected s got → StandsAs tested expected t got → s ≡ t
one_stands tested expected got one s t a b = pick a.counted b.counted
  where
    pick : (CountsAsClose expected (other_role tested) got × (s ≡ Closed))
        ⊎ ((¬ (CountsAsClose expected (other_role tested) got)) × HasStanding (other_role tested) s got)
        → (CountsAsClose expected (other_role tested) got × (t ≡ Closed))
        ⊎ ((¬ (CountsAsClose expected (other_role tested) got)) × HasStanding (other_role tested) t got) → s ≡ t
    pick (inl a) (inl b) = a.1 ∙ sym b.1
    pick (inl a) (inr b) = absurd (b.0 a.0)
    pick (inr a) (inl b) = absurd (a.0 b.0)
    pick (inr a) (inr b) = one s t a.1 b.1

-- ---- what counts as a close

-- where the last event isn't a fault, nothing does
pub never_counts : (expected : Expectation) (reader : Role) (standing : Standing) (bytes : List ℕ)
    → HasStanding reader standing bytes → (standing ≡ Faulty → ⊥) → ¬ (CountsAsClose expected reader bytes)
never_counts Echo reader standing bytes h other counts = counts
never_counts Protocol reader standing bytes h other (code, fails) =
    other (sym h.last ∙ ap (λ (o : Option Event). standing_after o)
    (undefined_is_last reader bytes code h.events fails h.are_events))

-- more bytes leave what does
pub counts_on : (expected : Expectation) (reader : Role) (bytes more : List ℕ) → CountsAsClose expected reader bytes
    → CountsAsClose expected reader (bytes ++ more)
counts_on Echo reader bytes more counts = counts
counts_on Protocol reader bytes more (code, fails) = (code, undefined_stays reader bytes more code fails)

-- what shows no fault stands to a run as it shows
pub stands_shown : (tested : Role) (expected : Expectation) (standing : Standing) (got : List ℕ)
    → HasStanding (other_role tested) standing got → (standing ≡ Faulty → ⊥) → StandsAs tested expected standing got
stands_shown tested expected standing got h other =
    record { counted = inr (never_counts expected (other_role tested) standing got h other, h) }

-- what shows a fault stands as a close where that counts as one
pub stands_faulty : (tested : Role) (expected : Expectation) (standing : Standing) (got : List ℕ)
    → HasStanding (other_role tested) Faulty got
    → (CountsAsClose expected (other_role tested) got × (standing ≡ Closed))
    ⊎ ((¬ (CountsAsClose expected (other_role tested) got)) × (standing ≡ Faulty)) → StandsAs tested expected standing got
stands_faulty tested expected standing got h (inl counts) = record { counted = inl counts }
stands_faulty tested expected standing got h (inr (never, is)) = record {
  counted = inr (never, subst (λ (s : Standing). HasStanding (other_role tested) s got) (sym is) h);
}

-- a close of a server is one
pub close_is : (tested : Role) (standing : Standing) → is_server_close tested standing ≡ true → standing ≡ Closed
close_is tested Going e = absurd cc
close_is tested Closed e = refl
close_is tested Faulty e = absurd cc

-- a session that has heard a close is over
pub closed_is_over : (s : Status) → standing_of_status s ≡ Closed → is_over s ≡ true
closed_is_over status.Open e = absurd cc
closed_is_over status.Closing e = absurd cc
closed_is_over (status.Clean code) e = refl
closed_is_over (status.Failed reason) e = absurd cc
closed_is_over status.Lost e = absurd cc
