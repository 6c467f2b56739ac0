-- The tester begins behind the head that is accepted, with what came behind it; or the head is refused.
use Rattle.std.proofs.Common.{◌∙◌, ℕ, List, MatchOption, ap, drop, subst, sym}
use Rattle.ws_upgrade.specs.Reading.{HasStatusCode, LacksStatusCode}
use Rattle.ws_upgrade.specs.declared.faults.HeadFault.{HeadFault}
use Rattle.ws_tester.specs.Following.{BeginsRun}
use Rattle.ws_handshake.specs.Probes.{script_behind}
use Rattle.ws_handshake.specs.Responses.{DecidesResponse}
use Rattle.ws_handshake.specs.declared.response_head.ResponseDecision.{ResponseDecision}
use Rattle.ws_handshake.specs.declared.response_head.ResponseDecision.TheVariants.{Refused}
use Rattle.ws_handshake.proofs.probe_machine.ProbeMachine.stage_behind.Goals as goal

pub returns-in_ok-tester-in-Accepted : goal.returns-in_ok-tester-in-Accepted
returns-in_ok-tester-in-Accepted c = (
  c.in-Accepted.used,
  c.in-Accepted.protocol,
  subst (λ (d : ResponseDecision). DecidesResponse c.args.self.now.asked.nonce c.args.self.now.asked.offers
      c.args.head.now.bytes.items d) c.in-Accepted.is c.requires,
  subst (λ (l : List ℕ). BeginsRun (script_behind c.args.self.now l) c.in_ok-tester-in-Accepted.tester.run)
      (c.in_ok-first-in-Accepted.ensures ∙ ap (λ (l : List ℕ). drop c.in-Accepted.used l) c.as_slice-bytes.ensures.value)
      c.in_ok-tester-in-Accepted.ensures.begins,
  c.in_ok-tester-in-Accepted.ensures.told,
  c.in_ok-tester-in-Accepted.ensures.goes_on,
)

pub returns-in-Refused : goal.returns-in-Refused
returns-in-Refused c = (
  subst (λ (f : HeadFault). DecidesResponse c.args.self.now.asked.nonce c.args.self.now.asked.offers
      c.args.head.now.bytes.items (Refused f)) (sym c.refusal_of.ensures.fault)
      (subst (λ (d : ResponseDecision). DecidesResponse c.args.self.now.asked.nonce c.args.self.now.asked.offers
      c.args.head.now.bytes.items d) c.in-Refused.is c.requires),
  subst (λ (l : List ℕ). MatchOption c.refusal_of.result.status (LacksStatusCode l) (HasStatusCode l))
      c.as_slice-bytes.ensures.value c.refusal_of.ensures.status,
)
