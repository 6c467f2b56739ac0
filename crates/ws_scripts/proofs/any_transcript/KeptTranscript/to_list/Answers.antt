-- The next turn is copied behind those so far.
use Rattle.std.proofs.Common.{◌≡◌, ◌∙◌, ◌++◌, ◌∷◌, [], List, ap, drop, sym, take}
use Rattle.ws_scripts.specs.declared.transcript.Turn.{Turn}
use Rattle.ws_scripts.specs.Pieces.{lent_turn}
use Rattle.ws_scripts.proofs.WalkLemmas.{one_more_done, others_left}
use Rattle.ws_scripts.proofs.any_transcript.KeptTranscript.to_list.Goals as goal

pub loop-number-preserved : goal.loop-number-preserved
loop-number-preserved c =
    let i = c.loop-number.number in
    let all = c.args.self.now.turns in
    let turn = lent_turn c.take_first.result in
    let left : turn ∷ c.take_first.new.self ≡ drop i all = sym c.take_first.ensures ∙ c.loop-number.invariant.left in
    record {
      copied = c.in_ok-push.ensures.items
          ∙ (ap (λ (l : List Turn). l ++ c.in_ok-turn.turn ∷ []) c.loop-number.invariant.copied
          ∙ (ap (λ (t : Turn). take i all ++ t ∷ []) c.in_ok-turn.ensures
          ∙ sym (one_more_done all i turn c.take_first.new.self left)));
      left = others_left all i turn c.take_first.new.self left;
      count = c.loop-number.invariant.count;
    }
