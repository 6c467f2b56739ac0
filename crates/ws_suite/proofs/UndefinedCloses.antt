-- The fault of a close frame whose code the standard leaves undefined is the last event, and more bytes leave it.
use Rattle.std.proofs.Common.{◌≡◌, ◌∙◌, ℕ, ◌≤◌, ◌<◌, List, ◌++◌, length, take, Option, Some, ap, arith, inl}
use Rattle.std.proofs.lemmas.Bool.{cases_lt}
use Rattle.std.proofs.lemmas.List.{length-append, take-append-le}
use Rattle.ws_wire.specs.declared.role.Role.{Role}
use Rattle.ws_session.specs.declared.event.Event.{Event}
use Rattle.ws_session.specs.declared.event.Event.TheVariants as event
use Rattle.ws_session.specs.declared.reason.Reason.{Reason}
use Rattle.ws_session.specs.declared.reason.Reason.TheVariants.{CloseCode}
use Rattle.ws_session.specs.Events.{HasEvents}
use Rattle.ws_session.specs.Exchange.{last_event}
use Rattle.ws_session.specs.Faults.{IsFaultAt, IsFirstFault, IsNoLater}
use Rattle.ws_session.specs.Sends.{most_limits}
use Rattle.ws_session.proofs.Faults.{first_stays}
use Rattle.ws_session.proofs.Statuses.{last_snoc}
use Rattle.ws_suite.specs.Marks.{FailsByUndefinedCode}
use Rattle.ws_suite.proofs.OneFault.{fault_is_told}

pub undefined_is_last : (role : Role) (bytes : List ℕ) (code : ℕ) (events : List Event)
    → FailsByUndefinedCode role bytes code → HasEvents role most_limits bytes events
    → last_event events ≡ Some (event.Failed CloseCode)
undefined_is_last role bytes code events f h =
    let told = fault_is_told role most_limits bytes events f.place CloseCode h f.is_first in
    ap (λ (l : List Event). last_event l) told.1 ∙ last_snoc told.0 (event.Failed CloseCode)

pub undefined_stays : (role : Role) (bytes more : List ℕ) (code : ℕ) → FailsByUndefinedCode role bytes code
    → FailsByUndefinedCode role (bytes ++ more) code
undefined_stays role bytes more code f =
    let a = f.is_first.fault in
    record {
      place = f.place;
      is_first = record {
        fault = record {
          before = a.before;
          sent = a.sent;
          no_close = a.no_close;
          header = a.header;
          is_header = a.is_header;
          payload = a.payload;
          are_bytes = a.are_bytes;
          within = a.within;
          long = omega (arith, a.long, length-append bytes more);
          parts = take-append-le f.place bytes more a.long ∙ a.parts;
          applies = a.applies;
        };
        first = (first_stays role most_limits bytes more f.place CloseCode f.is_first).first;
      };
      holds = f.holds;
    }
