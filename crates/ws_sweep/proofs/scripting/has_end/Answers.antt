-- The steps are those of the case.
use Rattle.std.proofs.Common.{◌↔◌, List, subst, sym}
use Rattle.std.specs.Prelude.{IsTrue}
use Rattle.ws_scripts.specs.declared.script.Step.{Step}
use Rattle.ws_scripts.specs.Scripts.{FitHeaders}
use Rattle.ws_sweep.specs.ShortCases.{HasEnd, bytes_sent}
use Rattle.ws_sweep.proofs.scripting.has_end.Goals as goal

pub steps_have_end-requires : goal.steps_have_end-requires
steps_have_end-requires c = subst (λ (l : List Step). FitHeaders l) (sym c.as_slice.ensures) c.requires.frames

pub returns : goal.returns
returns c =
    subst (λ (l : List Step). IsTrue c.in_ok-ends.ends ↔ HasEnd c.args.tested (bytes_sent l c.args.key))
    c.as_slice.ensures c.in_ok-ends.ensures
