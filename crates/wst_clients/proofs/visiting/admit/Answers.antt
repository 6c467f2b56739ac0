-- Who is refused passes by, and is told so; and who is left leaves all others as they were.
use Rattle.std.proofs.Common.{OnOk, refl, subst, sym}
use Rattle.ws_clients.specs.Talks.{IsAdmission}
use Rattle.ws_frame.specs.Devices.{watched}
use Rattle.ws_handshake.specs.declared.admission.Admission.{Admission}
use Rattle.ws_tester.specs.Following.{WasTold}
use Rattle.wst_testing.specs.Servers.{DidThese}
use Rattle.wst_commands.specs.TimeLimits.{milliseconds_of}
use Rattle.wst_clients.specs.Turns.{met_clients}
use Rattle.wst_clients.specs.Visitors.{StayHeldWith}
use Rattle.wst_clients.specs.Visits.{known_by}
use Rattle.wst_clients.specs.Visits.Passing.{Refused}
use Rattle.wst_clients.proofs.HeldLemmas.{with_but}
use Rattle.wst_clients.proofs.TurnLemmas.{passed_one}
use Rattle.wst_clients.proofs.VisitingLemmas.{plays_since}
use Rattle.wst_clients.proofs.visiting.admit.Goals as goal

pub returns-in_ok-tell_refused-in-Refused-clause-passed : goal.returns-in_ok-tell_refused-in-Refused-clause-passed
returns-in_ok-tell_refused-in-Refused-clause-passed g c =
    passed_one met_clients c.args.round.rules.now c.args.round.standing.now (Refused c.in-Refused.fault)
    (watched g.F.Write.contents c.args.faults.now c.tell_refused.new.faults)
    (subst (λ (a : Admission). IsAdmission DidThese (known_by c.args.round.rules.now) a) c.in-Refused.is
    c.requires.came) c.in_ok-tell_refused-in-Refused.ensures.told

pub returns-in_ok-tell_refused-in-Refused-clause-plays : goal.returns-in_ok-tell_refused-in-Refused-clause-plays
returns-in_ok-tell_refused-in-Refused-clause-plays g c = plays_since (λ start now told. WasTold start now told)
    g.L.Client.NonBlocking.did c.args.visitors.now.clients c.wait_anew.new.self.clients c.leave.new.self.clients
    c.wait_anew.ensures.clients c.leave.ensures.plays

pub returns-in-Lost-clause-are : goal.returns-in-Lost-clause-are
returns-in-Lost-clause-are g c = c.leave-in-Lost.ensures.stay.stay (known_by c.args.round.rules.now)
    (milliseconds_of c.args.round.rules.now.wait) c.requires.are

pub returns-in_ok-tell_refused-in-Refused-clause-held : goal.returns-in_ok-tell_refused-in-Refused-clause-held
returns-in_ok-tell_refused-in-Refused-clause-held g c = with_but g.L.Client.NonBlocking.did c.args.visitors.now
    c.wait_anew.new.self c.leave.new.self c.leave.new.self c.args.at c.wait_anew.ensures.clients
    c.wait_anew.ensures.queue.0 c.args.admission c.leave.ensures.held refl refl

pub returns-in-Lost-clause-held : goal.returns-in-Lost-clause-held
returns-in-Lost-clause-held g c = λ nobody decided are. c.leave-in-Lost.ensures.held nobody are

pub returns-in-Accepted-clause-held : goal.returns-in-Accepted-clause-held
returns-in-Accepted-clause-held g c = subst (λ (a : Admission). OnOk c.take_in.result
    (StayHeldWith g.L.Client.NonBlocking.did c.args.at a c.args.visitors.now c.take_in.new.visitors))
    (sym c.in-Accepted.is) c.take_in.ensures.held
