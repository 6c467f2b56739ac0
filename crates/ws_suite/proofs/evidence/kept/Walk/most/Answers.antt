-- There are as many replies as heads.
use Rattle.std.proofs.Common.{List, ap, length, arith}
use Rattle.ws_suite.specs.declared.evidence.InTurn.{InTurn}
use Rattle.ws_suite.specs.declared.evidence.Reply.{Reply}
use Rattle.ws_suite.proofs.KeptLemmas.{kept_count}
use Rattle.ws_suite.proofs.evidence.kept.Walk.most.Goals as goal

pub returns : goal.returns
returns c = omega (
  arith,
  kept_count c.self.inside.heads.now c.self.inside.payloads.now,
  ap (λ (l : List (InTurn Reply)). length l) c.self.view_is,
)
