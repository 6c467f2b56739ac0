-- Once all steps were passed, the pieces are those of a script that is cut frame by frame.
use Rattle.std.proofs.Common.{◌≡◌, ◌∙◌, ◌+◌, ◌++◌, ◌∷◌, [], ℕ, List, ap, map, arith, length, rules, sym, subst, take}
use Rattle.std.proofs.lemmas.List.{length-append, take_all, take_more}
use Rattle.ws_scripts.specs.InnerCutting.{AreEndsOf, ends_of}
use Rattle.ws_scripts.specs.Scripts.{step_bytes, turn_bytes, without_empty}
use Rattle.ws_scripts.specs.declared.script.Step.{Step}
use Rattle.ws_scripts.proofs.TurnLemmas.{bytes_of_step, ends_of_step, ends_of_steps, step_pieces}
use Rattle.ws_scripts.proofs.cutting.one_piece_a_step.Goals as goal

pub at-pieces-requires : goal.at-pieces-requires
at-pieces-requires c =
    let steps = c.args.steps.now in
    let key = c.args.key in
    let all = take_all c.loop-step.step-index steps (omega (arith, c.loop-step-test.false)) in (
      without_empty (map (step_bytes key) steps),
      subst (λ (l : List Step). AreEndsOf (without_empty (map (step_bytes key) l)) c.loop-step.bytes.items c.loop-step.ends.items) all
          (ends_of_steps key (take c.loop-step.step-index steps) c.loop-step.bytes.items c.loop-step.ends.items c.loop-step.invariant.bytes c.loop-step.invariant.ends),
    )

pub returns : goal.returns
returns c =
    let steps = c.args.steps.now in
    let key = c.args.key in
    let all = take_all c.loop-step.step-index steps (omega (arith, c.loop-step-test.false)) in
    step_pieces key steps c.at-pieces.result (c.at-pieces.ensures (without_empty (map (step_bytes key) steps))
    (subst (λ (l : List Step). AreEndsOf (without_empty (map (step_bytes key) l)) c.loop-step.bytes.items c.loop-step.ends.items) all
    (ends_of_steps key (take c.loop-step.step-index steps) c.loop-step.bytes.items c.loop-step.ends.items c.loop-step.invariant.bytes c.loop-step.invariant.ends)))

pub loop-step-preserved : goal.loop-step-preserved
loop-step-preserved c =
    let i = c.loop-step.step-index in
    let steps = c.args.steps.now in
    let key = c.args.key in
    let step = c.step-item.result in
    let put : c.append_step.new.out.items ≡ c.loop-step.bytes.items ++ step_bytes key step = search rules in
    let start : c.len-before.result ≡ length c.loop-step.bytes.items = search rules in
    let now : c.len.result ≡ length c.append_step.new.out.items = search rules in
    let end : c.len-before.result + length (step_bytes key step) ≡ c.len.result =
    omega (arith, start, now, ap (λ (l : List ℕ). length l) put, length-append c.loop-step.bytes.items (step_bytes key step)) in
    let next : take (i + 1) steps ≡ take i steps ++ step ∷ [] =
    take_more steps i step c.loop-step-test.true ∙ ap (λ (x : Step). take i steps ++ x ∷ []) (sym c.step-item.is) in
    let ends = c.in_ok-push_end.ensures (step_bytes key step) end in
    record {
      bytes = bytes_of_step key (take i steps) step c.loop-step.bytes.items c.append_step.new.out.items c.loop-step.invariant.bytes put
          ∙ ap (λ (l : List Step). turn_bytes key l) (sym next);
      ends = ends_of_step key (take i steps) step c.loop-step.bytes.items c.loop-step.ends.items c.push_end.new.ends.items c.loop-step.invariant.bytes c.loop-step.invariant.ends
          (ends ∙ ap (λ (n : ℕ). c.loop-step.ends.items ++ ends_of n (without_empty (step_bytes key step ∷ []))) start)
          ∙ ap (λ (l : List Step). ends_of 0 (without_empty (map (step_bytes key) l))) (sym next);
    }
