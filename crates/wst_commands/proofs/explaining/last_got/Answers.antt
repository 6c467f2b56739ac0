-- One turn more.
use Rattle.std.proofs.Common.{◌∙◌, List, Option, ap, arith, length, refl, rules, subst, sym, take_all}
use Rattle.ws_scripts.specs.declared.transcript.Turn.{Turn}
use Rattle.ws_scripts.specs.Pieces.{lent_turn}
use Rattle.ws_scripts.proofs.WalkLemmas.{is_there, others_left, within}
use Rattle.wst_commands.specs.Explaining.{IsLastGot}
use Rattle.wst_commands.proofs.LastGot.{next_last}
use Rattle.wst_commands.proofs.explaining.last_got.Goals as goal

pub loop-number-init : goal.loop-number-init
loop-number-init c = record {
  last = search rules;
  left = c.turns-walk.ensures;
  count = c.len-number-end.ensures ∙ ap (λ (l : List Turn). length l) c.turns-walk.ensures;
}

pub loop-number-preserved : goal.loop-number-preserved
loop-number-preserved c =
    let turns = c.args.transcript.now.turns in
    let i = c.loop-number.number in
    let turn = lent_turn c.take_first.result in
    let others = c.take_first.new.self in
    let at = sym c.take_first.ensures ∙ c.loop-number.invariant.left in
    record {
      last = next_last turns i turn c.loop-number.last c.last_after-last.result turn.got (within turns i turn others at)
          (is_there turns i turn others at) c.loop-number.invariant.last refl c.last_after-last.ensures;
      left = others_left turns i turn others at;
      count = c.loop-number.invariant.count;
    }

pub returns : goal.returns
returns c =
    let turns = c.args.transcript.now.turns in
    subst (λ (l : List Turn). IsLastGot l c.loop-number.last)
    (take_all c.loop-number.number turns (omega (arith, c.loop-number.invariant.count, c.loop-number-test.false)))
    c.loop-number.invariant.last
