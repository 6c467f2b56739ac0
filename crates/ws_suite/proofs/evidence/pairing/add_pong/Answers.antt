-- One pong more was got: it waits behind others, it has a match, or it is the first that has none.
use Rattle.std.proofs.Common.{◌≡◌, ◌∙◌, ◌++◌, ◌∷◌, [], true, false, List, None, find, is_some, ap, subst, sym, refl}
use Rattle.ws_suite.specs.declared.evidence.InTurn.{InTurn}
use Rattle.ws_suite.specs.declared.evidence.Reply.{Reply}
use Rattle.ws_suite.specs.Kept.{reply_in}
use Rattle.ws_suite.specs.Matching.{has_payload_of}
use Rattle.ws_suite.specs.Pairings.{ArePaired}
use Rattle.ws_suite.proofs.PairingLemmas.{after_none, first_waits, none_there, others_wait, pong_matched}
use Rattle.ws_suite.proofs.evidence.pairing.add_pong.Goals as goal

-- others wait
pub returns-then-not-is_empty : goal.returns-then-not-is_empty
returns-then-not-is_empty c = λ dues gots h.
    let r = reply_in c.args.pong in
    let pings = c.args.pings.now in
    let old = c.args.unmatched.now in
    let some : old ≡ [] → ⊥ = λ none. (let wrong : false ≡ true = sym c.if-not-is_empty.true
    ∙ c.is_empty.ensures.1 none in cc) in
    subst (λ (l : List (InTurn Reply)). ArePaired dues (gots ++ r ∷ []) pings l) (sym c.in_ok-push.ensures.ok)
    (others_wait dues gots pings old r some h)

-- it has a match
pub returns-else-not-answer : goal.returns-else-not-answer
returns-else-not-answer c = λ dues gots h.
    let r = reply_in c.args.pong in
    let pings = c.args.pings.now in
    let none : c.args.unmatched.now ≡ [] = c.if-not-is_empty.ensures.0 refl in
    let there : is_some (find (has_payload_of r) pings) ≡ true = sym c.if-not-answer.ensures.answered in
    let met = pong_matched dues gots pings r (subst (λ (l : List
    (InTurn Reply)). ArePaired dues gots pings l) none h) there in
    subst (λ (l : List (InTurn Reply)). ArePaired dues (gots ++ r ∷ []) c.answer.new.pings l) (sym none)
    (subst (λ (l : List (InTurn Reply)). ArePaired dues (gots ++ r ∷ []) l []) (sym c.answer.ensures.left) met)

-- it has none
pub returns-in_ok-push-2 : goal.returns-in_ok-push-2
returns-in_ok-push-2 c = λ dues gots h.
    let r = reply_in c.args.pong in
    let pings = c.args.pings.now in
    let old = c.args.unmatched.now in
    let none : old ≡ [] = c.is_empty.ensures.0 c.if-not-is_empty.false in
    let nowhere : find (has_payload_of r) pings ≡ None =
    none_there (find (has_payload_of r) pings) (sym c.answer.ensures.answered ∙ c.if-not-answer.true) in
    let same : c.answer.new.pings ≡ pings = c.answer.ensures.left ∙ after_none r pings nowhere in
    let met = first_waits dues gots pings r nowhere
    (subst (λ (l : List (InTurn Reply)). ArePaired dues gots pings l) none h) in
    let kept : c.push-then-not-answer.new.self ≡ r ∷ [] =
    c.in_ok-push-2.ensures.ok ∙ ap (λ (l : List (InTurn Reply)). l ++ r ∷ []) none in
    subst (λ (l : List (InTurn Reply)). ArePaired dues (gots ++ r ∷ []) c.answer.new.pings l) (sym kept)
    (subst (λ (l : List (InTurn Reply)). ArePaired dues (gots ++ r ∷ []) l (r ∷ [])) (sym same) met)
