-- The turn of a place is the first with more bytes than are left.
use Rattle.std.proofs.Common.{◌≡◌, ◌∙◌, ◌+◌, ◌-◌, ℕ, List, ap, arith, length, sym, take}
use Rattle.std.specs.List.{concat}
use Rattle.ws_scripts.specs.declared.transcript.Turn.{Turn}
use Rattle.ws_scripts.specs.Pieces.{lent_turn}
use Rattle.ws_scripts.proofs.WalkLemmas.{is_there, others_left, within}
use Rattle.ws_suite.specs.Evidence.{got_turns}
use Rattle.ws_suite.proofs.TurnBytes.{length_more}
use Rattle.ws_suite.proofs.evidence.marks.got_turn.Goals as goal

pub loop-number-init : goal.loop-number-init
loop-number-init c = record {
  place = omega arith;
  walk = c.turns-walk.ensures;
  count = c.len-number-end.ensures ∙ ap (λ (l : List Turn). length l) c.turns-walk.ensures;
}

pub returns-then-left-len : goal.returns-then-left-len
returns-then-left-len c =
    let turns = c.args.transcript.now.turns in
    let n = c.loop-number.number in
    let turn = lent_turn c.take_first.result in
    let others = c.take_first.new.self in
    let left = sym c.take_first.ensures ∙ c.loop-number.invariant.walk in
    let at = c.loop-number.invariant.place in
    let more : length (concat (take (n + 1) (got_turns turns)))
    ≡ length (concat (take n (got_turns turns))) + length turn.got =
    length_more (λ (t : Turn). t.got) turns n turn (within turns n turn others left)
    (is_there turns n turn others left) in
    (omega (arith, at), omega (arith, at, more, c.if-left-len.true))

pub loop-number-preserved : goal.loop-number-preserved
loop-number-preserved c =
    let turns = c.args.transcript.now.turns in
    let n = c.loop-number.number in
    let turn = lent_turn c.take_first.result in
    let others = c.take_first.new.self in
    let left = sym c.take_first.ensures ∙ c.loop-number.invariant.walk in
    let at = c.loop-number.invariant.place in
    let more : length (concat (take (n + 1) (got_turns turns)))
    ≡ length (concat (take n (got_turns turns))) + length turn.got =
    length_more (λ (t : Turn). t.got) turns n turn (within turns n turn others left)
    (is_there turns n turn others left) in
    record {
      place = omega (arith, at, more, c.if-left-len.false);
      walk = others_left turns n turn others left;
      count = c.loop-number.invariant.count;
    }
