-- One turn more is one pair more.
use Rattle.std.proofs.Common.{◌≡◌, ◌∙◌, ◌++◌, ◌∷◌, [], List, ℕ, ap, rules, sym, subst}
use Rattle.ws_scripts.specs.declared.transcript.Turn.{Turn}
use Rattle.ws_scripts.specs.Pieces.{AreInPairs, turn_with, turns_of_pairs}
use Rattle.ws_scripts.proofs.PieceLemmas.{pairs_more, turns_more}
use Rattle.ws_scripts.proofs.kept_turns.KeptTurns.with.Goals as goal

pub invariant_of-result : goal.invariant_of-result
invariant_of-result c =
    let old = c.self.inside.pairs in
    let sent = c.args.sent.now in
    let got = c.args.got.now in
    let pairs : c.push-2.new.self ≡ (old ++ sent ∷ []) ++ got ∷ [] = search rules in
    subst (λ (l : List (List ℕ)). AreInPairs l) (sym pairs) (pairs_more old sent got c.self.invariant)

pub returns : goal.returns
returns c =
    let old = c.self.inside.pairs in
    let sent = c.args.sent.now in
    let got = c.args.got.now in
    let pairs : c.push-2.new.self ≡ (old ++ sent ∷ []) ++ got ∷ [] = search rules in
    ap (λ (l : List (List ℕ)). turns_of_pairs l) pairs
    ∙ (turns_more old sent got c.self.invariant
    ∙ ap (λ (l : List Turn). l ++ turn_with sent got ∷ []) c.self.view_is)
