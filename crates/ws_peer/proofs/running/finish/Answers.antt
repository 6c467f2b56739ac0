-- What a peer puts when it is finished counts to the last turn: the bytes got in it end with these.
use Rattle.std.proofs.Common.{◌≡◌, ℕ, List, ◌∷◌, [], ◌++◌, ◌∙◌, ap, rules, sym}
use Rattle.ws_scripts.specs.declared.transcript.Turn.{Turn}
use Rattle.ws_peer.specs.Runs.{with_finish}
use Rattle.ws_peer.proofs.RunLemmas.{finish_last}
use Rattle.ws_peer.proofs.running.finish.Goals as goal

pub returns-in_ok-push-in-Some : goal.returns-in_ok-push-in-Some
returns-in_ok-push-in-Some g c =
    let said = c.in_ok-finish-in-Some.ensures.said in
    let left = said.appended in
    let last = c.in-Some.last in
    let popped : c.args.turns.now.items ≡ c.pop.new.self.items ++ last ∷ [] = search rules in
    let pushed : c.push.new.self.items ≡ c.pop.new.self.items ++ c.turn_of.result ∷ [] = search rules in
    let sent : c.turn_of.result.sent ≡ last.sent = search rules in
    let got : c.turn_of.result.got ≡ last.got ++ left = search rules in
    let turn : c.turn_of.result ≡ record { sent = last.sent; got = last.got ++ left } =
    ap (λ (l : List ℕ). record { sent = l; got = c.turn_of.result.got }) sent ∙ ap (λ (l : List ℕ). record { sent = last.sent; got = l }) got in
    let is : c.push.new.self.items ≡ with_finish c.args.turns.now.items left =
    pushed ∙ ap (λ (t : Turn). c.pop.new.self.items ++ t ∷ []) turn ∙ sym (finish_last c.pop.new.self.items last left) ∙ ap (λ (l : List Turn). with_finish l left) (sym popped) in
    (left, is, said.leads)
