-- Who asks for a case waits; another one is told at once, and may ask for the end of the run.
use Rattle.std.proofs.Common.{◌∙◌, sym}
use Rattle.ws_handshake.specs.declared.admission.Admission.TheVariants as admission
use Rattle.ws_tester.specs.Following.{WasTold}
use Rattle.wst_commands.specs.TimeLimits.{milliseconds_of}
use Rattle.wst_clients.specs.Visits.{known_by}
use Rattle.wst_clients.proofs.HeldLemmas.{with_after, with_but}
use Rattle.wst_clients.proofs.TurnLemmas.{asks_now}
use Rattle.wst_clients.proofs.VisitingLemmas.{asked_end, plays_before, plays_since, taken_answered}
use Rattle.wst_clients.proofs.visiting.take_in.Goals as goal

pub returns-in_err-wait_turn-in-Some-clause-plays : goal.returns-in_err-wait_turn-in-Some-clause-plays
returns-in_err-wait_turn-in-Some-clause-plays g c = plays_since (λ start now told. WasTold start now told)
    g.L.Client.NonBlocking.did c.args.visitors.now.clients c.wait_anew.new.self.clients c.wait_turn.new.self.clients
    c.wait_anew.ensures.clients c.wait_turn.ensures.plays

pub returns-in_ok-wait_turn-in-Some-clause-are : goal.returns-in_ok-wait_turn-in-Some-clause-are
returns-in_ok-wait_turn-in-Some-clause-are g c =
    let rules = c.args.round.rules.now in
    c.in_ok-wait_turn-in-Some.ensures.stay (known_by rules) (milliseconds_of rules.wait) c.requires.accepted
    (c.wait_anew.ensures.stay.stay (known_by rules) (milliseconds_of rules.wait) c.requires.are)

pub returns-in_ok-wait_turn-in-Some-clause-plays : goal.returns-in_ok-wait_turn-in-Some-clause-plays
returns-in_ok-wait_turn-in-Some-clause-plays g c = plays_since (λ start now told. WasTold start now told)
    g.L.Client.NonBlocking.did c.args.visitors.now.clients c.wait_anew.new.self.clients c.wait_turn.new.self.clients
    c.wait_anew.ensures.clients c.wait_turn.ensures.plays

pub returns-in_ok-answer-in-None-clause-taken : goal.returns-in_ok-answer-in-None-clause-taken
returns-in_ok-answer-in-None-clause-taken g c =
    let rules = c.args.round.rules.now in
    let standing = c.args.round.standing.now in
    let asks = asks_now rules standing c.requires.can.counted c.args.request c.as_slice.result.now
    c.purpose-purpose.result c.as_slice.ensures.value c.purpose-purpose.ensures.purpose in
    taken_answered g.L.Client.NonBlocking.did rules standing c.purpose-purpose.result c.args.at c.args.request asks
    c.args.visitors.now c.wait_anew.new.self c.answer.new.visitors c.end_by.new.visitors
    (sym c.number_to_run.ensures ∙ c.in-None.is) c.wait_anew.ensures.clients c.wait_anew.ensures.queue
    c.answer.ensures.queue c.end_by.ensures.clients c.end_by.ensures.waiting c.end_by.ensures.asked
    c.in_ok-answer-in-None.ensures.begun

pub returns-in_ok-answer-in-None-clause-are : goal.returns-in_ok-answer-in-None-clause-are
returns-in_ok-answer-in-None-clause-are g c =
    let rules = c.args.round.rules.now in
    let standing = c.args.round.standing.now in
    let asks = asks_now rules standing c.requires.can.counted c.args.request c.as_slice.result.now
    c.purpose-purpose.result c.as_slice.ensures.value c.purpose-purpose.ensures.purpose in
    c.end_by.ensures.stay (known_by rules) (milliseconds_of rules.wait)
    (asked_end rules standing c.args.request c.purpose-purpose.result c.requires.accepted asks
    c.in_ok-answer-in-None.ensures.tells)
    (c.answer.ensures.stay.stay (known_by rules) (milliseconds_of rules.wait)
    (c.wait_anew.ensures.stay.stay (known_by rules) (milliseconds_of rules.wait) c.requires.are))

pub returns-in_ok-answer-in-None-clause-plays : goal.returns-in_ok-answer-in-None-clause-plays
returns-in_ok-answer-in-None-clause-plays g c =
    let did = g.L.Client.NonBlocking.did in
    let mid = c.wait_anew.new.self.clients in
    plays_before (λ start now told. WasTold start now told) did c.args.visitors.now.clients
    c.answer.new.visitors.clients c.end_by.new.visitors.clients c.end_by.ensures.clients
    (plays_since (λ start now told. WasTold start now told) did c.args.visitors.now.clients mid
    c.answer.new.visitors.clients c.wait_anew.ensures.clients c.answer.ensures.plays)

pub returns-in_ok-wait_turn-in-Some-clause-held : goal.returns-in_ok-wait_turn-in-Some-clause-held
returns-in_ok-wait_turn-in-Some-clause-held g c = with_after g.L.Client.NonBlocking.did c.args.visitors.now
    c.wait_anew.new.self c.wait_anew.new.self c.wait_turn.new.self c.args.at c.wait_anew.ensures.clients
    c.wait_anew.ensures.queue.0 (admission.Accepted c.args.request) c.in_ok-wait_turn-in-Some.ensures.held

pub returns-in_ok-answer-in-None-clause-held : goal.returns-in_ok-answer-in-None-clause-held
returns-in_ok-answer-in-None-clause-held g c = with_but g.L.Client.NonBlocking.did c.args.visitors.now
    c.wait_anew.new.self c.answer.new.visitors c.end_by.new.visitors c.args.at c.wait_anew.ensures.clients
    c.wait_anew.ensures.queue.0 (admission.Accepted c.args.request) c.in_ok-answer-in-None.ensures.held
    c.end_by.ensures.clients c.end_by.ensures.waiting
