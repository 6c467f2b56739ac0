-- What has happened is seen to.
use Rattle.std.proofs.Common.{List, Option, Some, subst, sym, ℕ}
use Rattle.ws_echo.specs.declared.echo_machine.EchoEnd.{EchoEnd}
use Rattle.ws_clients.specs.Numbers.{IsNumberedAt, reason_told}
use Rattle.ws_clients.specs.declared.clients.Event.{Event}
use Rattle.ws_serving.specs.InnerGuests.{HasToSeeTo, IsToSeeTo, TellsReasons}
use Rattle.ws_serving.specs.declared.client_end.ClientEnd.TheVariants.{Echoed}
use Rattle.ws_serving.proofs.GuestLemmas.{deaf_sees, full_sees, gone_quiet, gone_sees, idle_sees, left_quiet}
use Rattle.ws_serving.proofs.GuestLemmas.{left_sees, quiet_reasons, sees_as}
use Rattle.ws_serving.proofs.guests.Guests.see_to.Goals as goal

pub answer-requires-clause-numbered : goal.answer-requires-clause-numbered
answer-requires-clause-numbered g c =
    let (before, (numbered, same, holds)) = subst (λ (e : Event EchoEnd g.row.L-Miss.Denot). HasToSeeTo g.L.Client.NonBlocking.did
    c.args.self.now.service.now c.args.self.now.clients e) c.in-Decided.is c.requires.is in
    subst (λ (l : List (Option ℕ)). IsNumberedAt l c.in-Decided.at) (sym same) numbered

pub answer-requires-clause-holds : goal.answer-requires-clause-holds
answer-requires-clause-holds g c =
    let (before, (numbered, same, holds)) = subst (λ (e : Event EchoEnd g.row.L-Miss.Denot). HasToSeeTo g.L.Client.NonBlocking.did
    c.args.self.now.service.now c.args.self.now.clients e) c.in-Decided.is c.requires.is in holds

pub returns-in-Decided-clause-sees : goal.returns-in-Decided-clause-sees
returns-in-Decided-clause-sees g c = λ before seen.
    let (numbered, same, holds) = subst (λ (e : Event EchoEnd g.row.L-Miss.Denot). IsToSeeTo g.L.Client.NonBlocking.did
    c.args.self.now.service.now before c.args.self.now.clients e) c.in-Decided.is seen in
    sees_as g.L.Client.NonBlocking.did c.args.self.now.service.now before c.args.self.now.clients.numbers c.args.self.now.clients c.answer.new.self.clients c.answer.result same
    c.answer.ensures.sees

pub leave-requires-clause-numbered : goal.leave-requires-clause-numbered
leave-requires-clause-numbered g c =
    let (before, (numbered, same, holds, ends)) = subst (λ (e : Event EchoEnd g.row.L-Miss.Denot). HasToSeeTo g.L.Client.NonBlocking.did
    c.args.self.now.service.now c.args.self.now.clients e) c.in-Played.is c.requires.is in
    subst (λ (l : List (Option ℕ)). IsNumberedAt l c.in-Played.at) (sym same) numbered

pub leave-requires-clause-holds : goal.leave-requires-clause-holds
leave-requires-clause-holds g c =
    let (before, (numbered, same, holds, ends)) = subst (λ (e : Event EchoEnd g.row.L-Miss.Denot). HasToSeeTo g.L.Client.NonBlocking.did
    c.args.self.now.service.now c.args.self.now.clients e) c.in-Played.is c.requires.is in holds

pub returns-in-Played-clause-sees : goal.returns-in-Played-clause-sees
returns-in-Played-clause-sees g c = λ before seen.
    let (numbered, same, holds, ends) = subst (λ (e : Event EchoEnd g.row.L-Miss.Denot). IsToSeeTo g.L.Client.NonBlocking.did
    c.args.self.now.service.now before c.args.self.now.clients e) c.in-Played.is seen in
    sees_as g.L.Client.NonBlocking.did c.args.self.now.service.now before c.args.self.now.clients.numbers c.args.self.now.clients c.leave.new.clients c.leave.result same
    (left_sees g.L.Client.NonBlocking.did c.args.self.now.service.now c.args.self.now.clients c.leave.new.clients
    c.in-Played.at (Echoed c.in-Played.end) c.leave.result c.leave.ensures.left ends c.leave.ensures.taken
    c.leave.ensures.known c.requires.plays c.leave.ensures.only c.leave.ensures.others)

pub returns-in-Gone-clause-sees : goal.returns-in-Gone-clause-sees
returns-in-Gone-clause-sees g c = λ before seen.
    let (there, gone) = subst (λ (e : Event EchoEnd g.row.L-Miss.Denot). IsToSeeTo g.L.Client.NonBlocking.did
    c.args.self.now.service.now before c.args.self.now.clients e) c.in-Gone.is seen in
    gone_sees g.L.Client.NonBlocking.did c.args.self.now.service.now before c.args.self.now.clients _ c.in-Gone.number c.gone_step.result c.gone_step.ensures there gone
    c.requires.plays

pub returns-in-Gone-clause-reasons : goal.returns-in-Gone-clause-reasons
returns-in-Gone-clause-reasons g c = subst (λ (e : Event EchoEnd g.row.L-Miss.Denot).
    TellsReasons c.gone_step.result (reason_told (Some e))) (sym c.in-Gone.is) (quiet_reasons _ c.gone_step.result
    (gone_quiet c.in-Gone.number c.gone_step.result c.gone_step.ensures))

pub returns-in-Decided-clause-reasons : goal.returns-in-Decided-clause-reasons
returns-in-Decided-clause-reasons g c = subst (λ (e : Event EchoEnd g.row.L-Miss.Denot).
    TellsReasons c.answer.result (reason_told (Some e))) (sym c.in-Decided.is) (quiet_reasons _ c.answer.result
    c.answer.ensures.quiet)

pub returns-in-Played-clause-reasons : goal.returns-in-Played-clause-reasons
returns-in-Played-clause-reasons g c = subst (λ (e : Event EchoEnd g.row.L-Miss.Denot).
    TellsReasons c.leave.result (reason_told (Some e))) (sym c.in-Played.is) (quiet_reasons _ c.leave.result
    (left_quiet c.args.self.now.clients c.leave.new.clients c.in-Played.at (Echoed c.in-Played.end) c.leave.result
    c.leave.ensures.left))

pub returns-in-TooLate-clause-sees : goal.returns-in-TooLate-clause-sees
returns-in-TooLate-clause-sees g c = λ before seen. idle_sees g.L.Client.NonBlocking.did c.args.self.now.service.now before c.args.self.now.clients
    (subst (λ (e : Event EchoEnd g.row.L-Miss.Denot). IsToSeeTo g.L.Client.NonBlocking.did
    c.args.self.now.service.now before c.args.self.now.clients e) c.in-TooLate.is seen) c.requires.plays

pub returns-in-Full-clause-sees : goal.returns-in-Full-clause-sees
returns-in-Full-clause-sees g c = λ before seen. full_sees g.L.Client.NonBlocking.did c.args.self.now.service.now before c.args.self.now.clients
    (subst (λ (e : Event EchoEnd g.row.L-Miss.Denot). IsToSeeTo g.L.Client.NonBlocking.did
    c.args.self.now.service.now before c.args.self.now.clients e) c.in-Full.is seen) c.requires.plays

pub returns-in-Deaf-clause-sees : goal.returns-in-Deaf-clause-sees
returns-in-Deaf-clause-sees g c = λ before seen.
    let (none, same) = subst (λ (e : Event EchoEnd g.row.L-Miss.Denot). IsToSeeTo g.L.Client.NonBlocking.did
    c.args.self.now.service.now before c.args.self.now.clients e) c.in-Deaf.is seen in
    deaf_sees g.L.Client.NonBlocking.did c.args.self.now.service.now before c.args.self.now.clients none same c.requires.plays
