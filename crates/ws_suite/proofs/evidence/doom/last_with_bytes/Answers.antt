-- The last turn with bytes.
use Rattle.std.proofs.Common.{◌≡◌, ◌∙◌, ◌+◌, List, Option, ℕ, ap, arith, length, sym, subst}
use Rattle.std.proofs.lemmas.List.{length-map}
use Rattle.ws_scripts.specs.declared.transcript.Turn.{Turn}
use Rattle.ws_scripts.specs.Pieces.{lent_turn}
use Rattle.ws_scripts.proofs.WalkLemmas.{is_there, others_left, within}
use Rattle.ws_suite.specs.Evidence.{sent_turns}
use Rattle.ws_suite.specs.InnerDoom.{IsLastUntil}
use Rattle.ws_suite.proofs.DoomLemmas.{last_of_all, last_step, sent_at}
use Rattle.ws_suite.proofs.evidence.doom.last_with_bytes.Goals as goal

pub loop-number-init : goal.loop-number-init
loop-number-init c = record {
  left = c.turns-walk.ensures;
  count = c.len-number-end.ensures ∙ ap (λ (l : List Turn). length l) c.turns-walk.ensures;
  last = λ turn less. absurd (omega (arith, less));
}

pub loop-number-preserved : goal.loop-number-preserved
loop-number-preserved c =
    let turns = c.args.transcript.now.turns in
    let i = c.loop-number.number in
    let turn = lent_turn c.take_first.result in
    let others = c.take_first.new.self in
    let at = sym c.take_first.ensures ∙ c.loop-number.invariant.left in
    let here = sent_at turns i turn (within turns i turn others at) (is_there turns i turn others at) in
    record {
      left = others_left turns i turn others at;
      count = c.loop-number.invariant.count;
      last = subst (λ (o : Option ℕ). IsLastUntil (i + 1) (sent_turns turns) o) (sym c.last_sent-last.ensures)
          (last_step (sent_turns turns) i c.loop-number.last turn.sent here c.loop-number.invariant.last);
    }

pub returns : goal.returns
returns c =
    let turns = c.args.transcript.now.turns in
    last_of_all (sent_turns turns) c.loop-number.number c.loop-number.last
    (omega (
      arith,
      c.loop-number.invariant.count,
      c.loop-number-test.false,
      length-map turns (λ (turn : Turn). turn.sent),
    )) c.loop-number.invariant.last
