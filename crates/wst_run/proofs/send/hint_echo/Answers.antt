-- Whether it is told, and that it is.
use Rattle.std.proofs.Common.{Bool, false, subst}
use Rattle.std.proofs.KnownBytes.{Keeps-refl}
use Rattle.std.proofs.lemmas.Bool.{false≢true}
use Rattle.ws_frame.specs.Watching.{inner_of}
use Rattle.wst_testing.specs.Hints.{MissesEcho}
use Rattle.wst_run.proofs.send.hint_echo.Goals as goal

pub returns-in-Ok-clause-hints : goal.returns-in-Ok-clause-hints
returns-in-Ok-clause-hints g c = (
  c.in-Ok.missed,
  λ is. subst (λ (b : Bool). MissesEcho c.args.expected c.args.tested c.args.transcript.now b) is c.in-Ok.ensures,
  c.tell_missed_echo.ensures.told,
)

pub returns-in-Err-clause-hints : goal.returns-in-Err-clause-hints
returns-in-Err-clause-hints g c =
    (false, λ is. absurd (false≢true is), Keeps-refl (g.F.Write.contents (inner_of c.args.faults.now)))
