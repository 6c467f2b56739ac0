-- Each line is looked at once.
use Rattle.std.proofs.Common.{rules, None, refl}
use Rattle.ws_reports.specs.Known.{known_with}
use Rattle.ws_reports.proofs.Knowing.{known_step, known_whole}
use Rattle.ws_reports.proofs.known.KnownVerdicts.verdict_of.Goals as goal

pub loop-line-init : goal.loop-line-init
loop-line-init c = (None, refl, refl)

pub loop-line-preserved : goal.loop-line-preserved
loop-line-preserved c =
    let (known, e, is) = c.loop-line.invariant in (
      known_with c.args.id.now c.line-item.result known,
      known_step c.args.id.now c.as_slice-line-items.result.now c.loop-line.line-index c.line-item.result known _ (search rules)
          c.line-item.is e,
      c.found_with-found.ensures known is,
    )

pub returns : goal.returns
returns c =
    let (known, e, is) = c.loop-line.invariant in
    known_whole c.args.id.now c.as_slice-line-items.result.now c.args.self.now c.loop-line.line-index known c.loop-line.found
    (search rules) (search rules) e is
