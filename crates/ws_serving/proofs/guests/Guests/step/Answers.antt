-- One thing has happened among clients, and was seen to.
use Rattle.std.proofs.Common.{◌∙◌, subst, sym}
use Rattle.ws_loops.specs.Listeners.{HasHeard}
use Rattle.ws_clients.specs.Counting.{CountedValue, HasCounted}
use Rattle.ws_clients.specs.Numbers.{HasNumbered}
use Rattle.ws_serving.specs.InnerGuests.{TellsReasons}
use Rattle.ws_serving.proofs.GuestLemmas.{echoes_on, to_see}
use Rattle.ws_serving.proofs.guests.Guests.step.Goals as goal

pub see_to-requires-clause-plays : goal.see_to-requires-clause-plays
see_to-requires-clause-plays g c = echoes_on g.L.Client.NonBlocking.did c.args.self.now.service.now _
    c.args.self.now.clients.places c.next.new.self.places _ _ c.in_ok-event.event c.in_ok-event.ensures.plays
    c.in_ok-event.ensures.stands c.in_ok-event.ensures.only c.requires.plays

pub see_to-requires-clause-is : goal.see_to-requires-clause-is
see_to-requires-clause-is g c = (
  c.in_ok-event.ensures.takes.before,
  to_see g.L.Client.NonBlocking.did c.args.self.now.service.now _ _ c.args.self.now.listener c.next.new.listener
      c.args.self.now.clients c.next.new.self _ _ c.in_ok-event.event c.in_ok-event.ensures.takes
      c.in_ok-event.ensures.plays c.in_ok-event.ensures.only c.in_ok-event.ensures.stands c.in_ok-event.ensures.holds
      (c.in_ok-event.ensures.known ∙ c.requires.known) c.requires.plays,
)

pub returns-clause-steps : goal.returns-clause-steps
returns-clause-steps g c =
    let takes = c.in_ok-event.ensures.takes in
    let seen = to_see g.L.Client.NonBlocking.did c.args.self.now.service.now _ _ c.args.self.now.listener
    c.next.new.listener c.args.self.now.clients c.next.new.self _ _ c.in_ok-event.event takes
    c.in_ok-event.ensures.plays c.in_ok-event.ensures.only c.in_ok-event.ensures.stands c.in_ok-event.ensures.holds
    (c.in_ok-event.ensures.known ∙ c.requires.known) c.requires.plays in
    let sees = c.see_to.ensures.sees takes.before seen in record {
      deeds = takes.deeds;
      heard = subst (λ (l : CountedValue g.row.L.Denot). HasHeard (λ start now told.
          HasCounted g.L.Listener.did start now told) c.args.self.now.listener l takes.deeds)
          (sym c.see_to.ensures.rest.listener) takes.heard;
      before = takes.before;
      given = subst (λ n. HasNumbered takes.deeds c.args.self.now.clients.taken c.args.self.now.clients.numbers n
          takes.before) (sym sees.taken) takes.given;
      tells = sees.tells;
      reasons = subst (λ r. TellsReasons c.see_to.result r) (sym takes.reasons) c.see_to.ensures.reasons;
      known = sees.known ∙ c.in_ok-event.ensures.known;
      plays = sees.plays;
    }
