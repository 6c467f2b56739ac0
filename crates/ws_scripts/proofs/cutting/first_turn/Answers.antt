-- A script's turns are the steps up to its first wait and the turns behind it; where it has none it is one turn.
use Rattle.std.proofs.Common.{◌∙◌, ◌+◌, ◌∷◌, List, ap, sym, subst, take, drop, arith}
use Rattle.std.proofs.lemmas.List.{take_all, take_rest}
use Rattle.std.specs.List.{AllByRecursion}
use Rattle.ws_scripts.specs.declared.script.Step.{Step}
use Rattle.ws_scripts.specs.Scripts.{IsAct, turns_of}
use Rattle.ws_scripts.proofs.TurnLemmas.{cut_turns, last_turn}
use Rattle.ws_scripts.proofs.cutting.first_turn.Goals as goal

pub returns-then-at-steps-clause-turns : goal.returns-then-at-steps-clause-turns
returns-then-at-steps-clause-turns c =
    let steps = c.args.steps.now in
    let at = c.first_wait-at.result in
    cut_turns steps at (drop (at + 1) steps) c.first_wait-at.ensures.acts (c.first_wait-at.ensures.wait c.if-at-steps.true)
    ∙ ap (λ (l : List Step). take at steps ∷ turns_of l) (sym (take_rest steps (at + 1)))

pub returns-else-at-steps-clause-turns : goal.returns-else-at-steps-clause-turns
returns-else-at-steps-clause-turns c =
    let steps = c.args.steps.now in
    let all = take_all c.first_wait-at.result steps (omega (arith, c.if-at-steps.false)) in
    last_turn steps (subst (λ (l : List Step). AllByRecursion IsAct l) all c.first_wait-at.ensures.acts) c.requires
