-- A head that is accepted asks for an upgrade.
use Rattle.std.proofs.Common.{List, ℕ, map, subst, sym}
use Rattle.ws_handshake.specs.Admissions.{AdmitValue, HoldsUpgrade}
use Rattle.ws_handshake.specs.Requests.{DecidesRequest}
use Rattle.ws_handshake.specs.declared.request_head.RequestDecision.{RequestDecision}
use Rattle.ws_handshake.proofs.AdmitLemmas.{holds_upgrade}
use Rattle.ws_handshake.proofs.admit_machine.AdmitMachine.answer_to.Goals as goal

pub request_in-requires-clause-accepted : goal.request_in-requires-clause-accepted
request_in-requires-clause-accepted c =
    subst (λ (l : List ℕ). HoldsUpgrade (map (λ name. name.now) c.self.inside.known.now) l)
    (sym c.as_slice-bytes.ensures.value)
    (subst (λ (x : AdmitValue). HoldsUpgrade x.known c.args.head.now.bytes.items) (sym c.self.view_is)
    (holds_upgrade c.args.self.now.known c.args.head.now.bytes.items c.in-Accepted.accept c.in-Accepted.protocol
    c.in-Accepted.used (subst (λ (d : RequestDecision). DecidesRequest c.args.self.now.known
    c.args.head.now.bytes.items d) c.in-Accepted.is c.requires)))
