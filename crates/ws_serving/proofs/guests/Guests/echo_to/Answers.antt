-- An echo of the service is played to the client, or memory ran out for it.
use Rattle.std.proofs.Common.{List, [], ◌∷◌, subst, ℕ}
use Rattle.ws_wire.specs.declared.role.Role.TheVariants.{Server}
use Rattle.ws_echo.specs.EchoMachines.{BeginsEcho}
use Rattle.ws_serving.specs.declared.client_end.ClientEnd.TheVariants.{NoMemory}
use Rattle.ws_serving.proofs.GuestLemmas.{left_quiet, left_sees, play_sees}
use Rattle.ws_serving.proofs.guests.Guests.echo_to.Goals as goal

pub returns-in-Ok-clause-sees : goal.returns-in-Ok-clause-sees
returns-in-Ok-clause-sees g c =
    let (is, held) = c.requires.holds in
    let service = c.args.self.now.service.now in
    let begins = subst (λ (l : List ℕ). BeginsEcho (record {
      role = Server;
      limits = service.limits;
      key = 0 ∷ 0 ∷ 0 ∷ 0 ∷ [];
      first = l;
      budget = service.budget;
    }) c.in-Ok.machine) c.as_slice.ensures.value c.in-Ok.ensures.begins in
    play_sees g.L.Client.NonBlocking.did service c.args.self.now.clients c.play.new.self c.args.at c.args.request.now
    c.in-Ok.machine c.requires.holds begins (c.play.ensures.plays (c.play.ensures.begins is.last held))
    c.play.ensures.only c.play.ensures.others c.play.ensures.numbers c.play.ensures.taken c.play.ensures.known
    c.requires.plays

pub returns-in-Err-clause-sees : goal.returns-in-Err-clause-sees
returns-in-Err-clause-sees g c =
    left_sees g.L.Client.NonBlocking.did c.args.self.now.service.now c.args.self.now.clients
    c.leave.new.clients c.args.at NoMemory c.leave.result c.leave.ensures.left tt
    c.leave.ensures.taken c.leave.ensures.known c.requires.plays c.leave.ensures.only c.leave.ensures.others

pub returns-in-Err-clause-quiet : goal.returns-in-Err-clause-quiet
returns-in-Err-clause-quiet g c = left_quiet c.args.self.now.clients c.leave.new.clients c.args.at NoMemory
    c.leave.result c.leave.ensures.left
