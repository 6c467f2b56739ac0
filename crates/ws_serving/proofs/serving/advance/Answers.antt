-- What comes of a step is told, and the serving goes on or has ended.
use Rattle.std.proofs.Common.{subst}
use Rattle.ws_serving.specs.InnerGuests.{StepsOn}
use Rattle.ws_serving.specs.declared.guests.Step.{Step}
use Rattle.ws_serving.proofs.StepLemmas.{deaf_step, ended_goes, full_goes, on_step, stopped_step}
use Rattle.ws_serving.proofs.serving.advance.Goals as goal

pub returns-in-Ok-Ended-clause-goes : goal.returns-in-Ok-Ended-clause-goes
returns-in-Ok-Ended-clause-goes g c = ended_goes g.L.Client.NonBlocking.did g.L.Listener.did g.E.NewsSink.heard
    c.args.guests.now.service.now g.E.NewsSink.refused c.args.guests.now.listener c.step.new.self.listener
    c.args.sink.now c.tell_end.new.sink c.args.guests.now.clients c.step.new.self.clients c.args.said.now
    c.tell_end.new.said c.in-Ok-Ended.number c.in-Ok-Ended.end c.tell_end.result (subst (λ (s : Step). StepsOn g.L.Client.NonBlocking.did g.L.Listener.did c.args.guests.now.service.now
    c.args.guests.now.listener c.step.new.self.listener c.args.guests.now.clients c.step.new.self.clients s)
    c.in-Ok-Ended.field-0-is c.in-Ok-Ended.ensures.steps)
    c.tell_end.ensures.tells

pub returns-in-Ok-Full-clause-goes : goal.returns-in-Ok-Full-clause-goes
returns-in-Ok-Full-clause-goes g c = full_goes g.L.Client.NonBlocking.did g.L.Listener.did g.E.NewsSink.heard
    c.args.guests.now.service.now g.E.NewsSink.refused c.args.guests.now.listener c.step.new.self.listener
    c.args.sink.now c.tell_full.new.sink c.args.guests.now.clients c.step.new.self.clients c.args.said.now
    c.tell_full.new.said c.tell_full.result (subst (λ (s : Step). StepsOn g.L.Client.NonBlocking.did g.L.Listener.did c.args.guests.now.service.now
    c.args.guests.now.listener c.step.new.self.listener c.args.guests.now.clients c.step.new.self.clients s)
    c.in-Ok-Full.field-0-is c.in-Ok-Full.ensures.steps) c.tell_full.ensures.tells

pub returns-in-Ok-On-clause-goes : goal.returns-in-Ok-On-clause-goes
returns-in-Ok-On-clause-goes g c = λ first from h. on_step g.L.Client.NonBlocking.did g.L.Listener.did
    g.E.NewsSink.heard c.args.guests.now.service.now first from c.args.guests.now.listener c.step.new.self.listener
    c.args.sink.now c.args.guests.now.clients c.step.new.self.clients c.args.said.now h (subst (λ (s : Step). StepsOn g.L.Client.NonBlocking.did g.L.Listener.did c.args.guests.now.service.now
    c.args.guests.now.listener c.step.new.self.listener c.args.guests.now.clients c.step.new.self.clients s)
    c.in-Ok-On.field-0-is c.in-Ok-On.ensures.steps)

pub returns-in-Ok-Deaf-clause-goes : goal.returns-in-Ok-Deaf-clause-goes
returns-in-Ok-Deaf-clause-goes g c = λ first from h more. deaf_step g.L.Client.NonBlocking.did g.L.Listener.did
    g.E.NewsSink.heard c.args.guests.now.service.now g.E.NewsSink.refused first from c.args.guests.now.listener
    c.step.new.self.listener c.args.sink.now c.args.guests.now.clients c.step.new.self.clients c.args.said.now h
    (subst (λ (s : Step). StepsOn g.L.Client.NonBlocking.did g.L.Listener.did c.args.guests.now.service.now
    c.args.guests.now.listener c.step.new.self.listener c.args.guests.now.clients c.step.new.self.clients s)
    c.in-Ok-Deaf.field-0-is c.in-Ok-Deaf.ensures.steps) more

pub returns-in-Err-clause-goes : goal.returns-in-Err-clause-goes
returns-in-Err-clause-goes g c = λ first from h more. stopped_step g.L.Client.NonBlocking.did g.L.Listener.did
    g.E.NewsSink.heard c.args.guests.now.service.now g.E.NewsSink.refused first from c.args.guests.now.listener
    c.args.sink.now c.args.guests.now.clients c.args.said.now c.in-Err.why h more
