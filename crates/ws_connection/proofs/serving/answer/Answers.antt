-- An accepted head is answered by the response that names what was chosen, a refused one by its refusal.
use Rattle.std.proofs.Common.{◌≡◌, ◌∙◌, ap, drop, List, map, sym, subst, ℕ}
use Rattle.std.proofs.lemmas.List.{take_rest}
use Rattle.std.specs.Borrow.{Bor}
use Rattle.std.specs.Prelude.{Option}
use Rattle.ws_frame.specs.Devices.{watched}
use Rattle.ws_upgrade.specs.Protocols.{name_chosen}
use Rattle.ws_upgrade.specs.Texts.{response_text}
use Rattle.ws_connection.specs.Serving.{AnswersAccepted, ServesDecision}
use Rattle.ws_handshake.specs.Admissions.{response_of}
use Rattle.ws_handshake.specs.declared.request_head.RequestDecision.{RequestDecision}
use Rattle.ws_connection.proofs.serving.answer.Goals as goal

pub returns-in-Ok : goal.returns-in-Ok
returns-in-Ok g c =
    let limits = c.args.bounds.limits in
    let budget = c.args.bounds.budget in
    let known : List (List ℕ) = map (λ (name : Bor (List ℕ)). name.now) c.args.known.now in
    let head = c.args.head.now in
    let accept = c.in-Accepted.accept in
    let used = c.in-Accepted.used in
    let served = c.answer_accepted.result in
    let input = watched g.R.Read.remaining c.args.reader.now c.answer_accepted.new.reader in
    let output = watched g.W.Write.contents c.args.writer.now c.answer_accepted.new.writer in
    let text : c.as_slice-response.result.now ≡ response_of known accept c.in-Accepted.protocol = c.as_slice-response.ensures.value ∙ c.in-Ok.ensures ∙ ap (λ (name : Option (List ℕ)). response_text accept name) (c.chosen.ensures ∙ ap (λ (names : List (List ℕ)). name_chosen names c.in-Accepted.protocol) c.proved.ensures) in
    let behind = subst (λ (first : List ℕ). AnswersAccepted limits budget c.as_slice-response.result.now first served input output) (take_rest head used) c.answer_accepted.ensures in
    let answers = subst (λ (response : List ℕ). AnswersAccepted limits budget response (drop used head) served input output) text behind in
    subst (λ (decision : RequestDecision). ServesDecision limits budget known decision head served input output) (sym c.in-Accepted.is) answers
