-- The fault, and what is behind the last event.
use Rattle.std.proofs.Common.{◌≡◌, rules}
use Rattle.ws_suite.proofs.evidence.found.found_in.Goals as goal

pub returns : goal.returns
returns c = λ role h. record {
  fault = c.in_ok-fault.ensures role h;
  behind = record {
    events = h.events;
    are_events = h.are_events;
    behind = _;
    stand_behind = h.behind;
    first = c.in_ok-behind.ensures;
  };
}
