-- Event after event: the list has the events so far without their places.
use Rattle.std.proofs.Common.{◌≡◌}
use Rattle.ws_session.specs.Taking.{events_in}
use Rattle.ws_session.proofs.feeding.without_places.Given as goal

-- the events so far
abbrev pub invariant-loop-placed : goal.invariant-loop-placed
invariant-loop-placed l = l.events.items ≡ events_in l.yielded
