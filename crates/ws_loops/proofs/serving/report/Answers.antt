-- The lines that were taken are those that were wanted.
use Rattle.std.proofs.Common.{◌∷◌, [], List, ℕ, inr, refl, subst}
use Rattle.ws_loops.specs.Sinks.{HasTakenLines}
use Rattle.ws_loops.proofs.StepLemmas.{showed_so}
use Rattle.ws_loops.proofs.serving.report.Goals as goal

pub returns-in-Ok-tell-clause-step : goal.returns-in-Ok-tell-clause-step
returns-in-Ok-tell-clause-step g c =
    let lines = (g.M.Machine.wants c.args.slot.now.machine).report in (
      lines ∷ [],
      subst (λ (l : List ℕ). HasTakenLines g.K.LineSink.heard c.args.sink.now c.put.new.self ((c.args.at, l) ∷ []))
          c.to_report.ensures c.in-Ok.ensures,
      showed_so g.M.Machine.agrees g.M.Machine.wants g.S.NonBlocking.did g.M.Machine.left c.args.now c.args.slot.now
          c.tell.new.slot lines c.in-Ok-tell.ensures.told c.in-Ok-tell.ensures.kept (c.requires.undone, refl),
    )

pub returns-in-Err-tell-clause-put : goal.returns-in-Err-tell-clause-put
returns-in-Err-tell-clause-put g c =
    let lines = (g.M.Machine.wants c.args.slot.now.machine).report in (
      lines ∷ [],
      subst (λ (l : List ℕ). HasTakenLines g.K.LineSink.heard c.args.sink.now c.put.new.self ((c.args.at, l) ∷ []))
          c.to_report.ensures c.in-Ok.ensures,
      inr (c.requires.wanted, refl),
    )
