-- One more is taken away.
use Rattle.std.proofs.Common.{◌∙◌, List, ap, drop, arith}
use Rattle.std.proofs.lemmas.List.{drop-drop}
use Rattle.ws_suite.specs.declared.evidence.InTurn.{InTurn}
use Rattle.ws_suite.specs.declared.evidence.Reply.{Reply}
use Rattle.ws_suite.proofs.evidence.kept.waiting.Waiting.drop_front.Goals as goal

pub loop-gone-preserved : goal.loop-gone-preserved
loop-gone-preserved c = record {
  within = omega (arith, c.loop-gone-test.true);
  left = c.drop_first.ensures ∙ (ap (λ (l : List (InTurn Reply)). drop 1 l) c.loop-gone.invariant.left
      ∙ drop-drop 1 c.loop-gone.gone c.args.self.now);
}
