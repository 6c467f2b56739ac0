-- A client whose request is accepted is played to, and another one is left.
use Rattle.std.proofs.Common.{subst}
use Rattle.ws_handshake.specs.declared.admission.Admission.{Admission}
use Rattle.ws_serving.specs.InnerGuests.{HoldsAsked}
use Rattle.ws_serving.specs.declared.client_end.ClientEnd.TheVariants.{Lost, Refused}
use Rattle.ws_serving.proofs.GuestLemmas.{left_quiet, left_sees}
use Rattle.ws_serving.proofs.guests.Guests.answer.Goals as goal

pub echo_to-requires-clause-holds : goal.echo_to-requires-clause-holds
echo_to-requires-clause-holds g c = subst (λ (a : Admission). HoldsAsked g.L.Client.NonBlocking.did
    c.args.self.now.service.now c.args.self.now.clients.held c.args.at a) c.in-Accepted.is c.requires.holds

pub returns-in-Refused-clause-sees : goal.returns-in-Refused-clause-sees
returns-in-Refused-clause-sees g c =
    let (is, held) = subst (λ (a : Admission). HoldsAsked g.L.Client.NonBlocking.did c.args.self.now.service.now
    c.args.self.now.clients.held c.args.at a) c.in-Refused.is c.requires.holds in
    left_sees g.L.Client.NonBlocking.did c.args.self.now.service.now c.args.self.now.clients
    c.leave.new.clients c.args.at (Refused c.in-Refused.fault) c.leave.result c.leave.ensures.left is
    c.leave.ensures.taken c.leave.ensures.known c.requires.plays c.leave.ensures.only c.leave.ensures.others

pub returns-in-Lost-clause-sees : goal.returns-in-Lost-clause-sees
returns-in-Lost-clause-sees g c =
    let (is, held) = subst (λ (a : Admission). HoldsAsked g.L.Client.NonBlocking.did c.args.self.now.service.now
    c.args.self.now.clients.held c.args.at a) c.in-Lost.is c.requires.holds in
    left_sees g.L.Client.NonBlocking.did c.args.self.now.service.now c.args.self.now.clients
    c.leave-in-Lost.new.clients c.args.at Lost c.leave-in-Lost.result c.leave-in-Lost.ensures.left is
    c.leave-in-Lost.ensures.taken c.leave-in-Lost.ensures.known c.requires.plays c.leave-in-Lost.ensures.only
    c.leave-in-Lost.ensures.others

pub returns-in-Refused-clause-quiet : goal.returns-in-Refused-clause-quiet
returns-in-Refused-clause-quiet g c = left_quiet c.args.self.now.clients c.leave.new.clients c.args.at
    (Refused c.in-Refused.fault) c.leave.result c.leave.ensures.left

pub returns-in-Lost-clause-quiet : goal.returns-in-Lost-clause-quiet
returns-in-Lost-clause-quiet g c = left_quiet c.args.self.now.clients c.leave-in-Lost.new.clients c.args.at Lost
    c.leave-in-Lost.result c.leave-in-Lost.ensures.left
