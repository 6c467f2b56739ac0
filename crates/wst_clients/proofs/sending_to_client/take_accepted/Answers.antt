-- Who passes by is told.
use Rattle.std.proofs.Common.{None, Some, refl, subst, sym}
use Rattle.std.proofs.KnownBytes.{Keeps-refl}
use Rattle.ws_frame.specs.Devices.{watched}
use Rattle.ws_frame.specs.Watching.{inner_of}
use Rattle.ws_handshake.specs.declared.admission.Admission.{Admission}
use Rattle.wst_clients.specs.ClientSends.{TakesAccepted}
use Rattle.wst_clients.proofs.SendLemmas.{stay_twice}
use Rattle.wst_clients.proofs.sending_to_client.take_accepted.Goals as goal

pub returns-in-Accepted-clause-takes : goal.returns-in-Accepted-clause-takes
returns-in-Accepted-clause-takes g c = subst (λ (a : Admission). TakesAccepted a (Some c.in-Accepted.request.behind)
    (watched g.F.Write.contents c.args.faults.now c.args.faults.now)) (sym c.in-Accepted.is)
    (refl, Keeps-refl (g.F.Write.contents (inner_of c.args.faults.now)))

pub returns-in_ok-tell_refused-in-Refused-clause-takes : goal.returns-in_ok-tell_refused-in-Refused-clause-takes
returns-in_ok-tell_refused-in-Refused-clause-takes g c = subst (λ (a : Admission). TakesAccepted a None
    (watched g.F.Write.contents c.args.faults.now c.tell_refused.new.faults)) (sym c.in-Refused.is)
    c.in_ok-tell_refused-in-Refused.ensures.told

pub returns-in_ok-tell_refused-in-Refused-clause-stay : goal.returns-in_ok-tell_refused-in-Refused-clause-stay
returns-in_ok-tell_refused-in-Refused-clause-stay g c = stay_twice c.args.visitors.now c.wait_anew.new.self
    c.leave.new.self c.wait_anew.ensures.stay c.leave.ensures.stay

pub returns-in-Lost-clause-takes : goal.returns-in-Lost-clause-takes
returns-in-Lost-clause-takes g c = subst (λ (a : Admission). TakesAccepted a None
    (watched g.F.Write.contents c.args.faults.now c.args.faults.now)) (sym c.in-Lost.is)
    (Keeps-refl (g.F.Write.contents (inner_of c.args.faults.now)))
