-- The wanted ones are no more than all.
use Rattle.std.proofs.Common.{List, ap, length, arith}
use Rattle.ws_suite.specs.declared.evidence.InTurn.{InTurn}
use Rattle.ws_suite.specs.declared.evidence.Reply.{Reply}
use Rattle.ws_suite.proofs.ChosenLemmas.{no_more_wanted}
use Rattle.ws_suite.proofs.judging.chosen.Chosen.most.Goals as goal

pub returns : goal.returns
returns c =
    omega (
      arith,
      no_more_wanted c.self.inside.wanted c.self.inside.walk,
      ap (λ (l : List (InTurn Reply)). length l) c.self.view_is,
      c.most.ensures,
    )
