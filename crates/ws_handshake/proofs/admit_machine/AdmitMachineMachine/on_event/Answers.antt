-- A machine that answers a request is told one thing more: while the head is read, or the answer written.
use Rattle.std.proofs.Common.{◌∙◌, ap, sym}
use Rattle.ws_handshake.specs.Admissions.{AdmitValue}
use Rattle.ws_handshake.proofs.AdmitLemmas.{answers_lower, answers_told, awaits_told}
use Rattle.ws_handshake.proofs.admit_machine.AdmitMachineMachine.on_event.Goals as goal

pub returns-in-Some-clause-told : goal.returns-in-Some-clause-told
returns-in-Some-clause-told c = answers_told c.args.self.now c.on_answering.new.self c.in-Some.field-0 c.args.event
    (sym (ap (λ (x : AdmitValue). x.outcome) c.self.view_is) ∙ c.in-Some.is) c.requires c.on_answering.ensures

pub returns-in-Some-clause-nears : goal.returns-in-Some-clause-nears
returns-in-Some-clause-nears c = λ running.
    answers_lower c.args.self.now c.on_answering.new.self c.in-Some.field-0 c.args.event
    (sym (ap (λ (x : AdmitValue). x.outcome) c.self.view_is) ∙ c.in-Some.is) c.requires c.on_answering.ensures

pub returns-in_ok-on_reading-in-None-clause-told : goal.returns-in_ok-on_reading-in-None-clause-told
returns-in_ok-on_reading-in-None-clause-told c = awaits_told c.args.self.now c.on_reading.new.self c.args.event
    (sym (ap (λ (x : AdmitValue). x.outcome) c.self.view_is) ∙ c.in-None.is) c.requires
    c.in_ok-on_reading-in-None.ensures.reads
