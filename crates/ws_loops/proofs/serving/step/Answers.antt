-- Where its lines are not told, none are taken.
use Rattle.std.proofs.Common.{[], inl, refl}
use Rattle.ws_loops.proofs.SinkLemmas.{put_nothing}
use Rattle.ws_loops.proofs.serving.step.Goals as goal

pub returns-in-Ok-clause-step : goal.returns-in-Ok-clause-step
returns-in-Ok-clause-step g c = ([], put_nothing g.K.LineSink.heard c.args.sink.now, c.in-Ok.ensures.step)

pub returns-in-Err-clause-put : goal.returns-in-Err-clause-put
returns-in-Err-clause-put g c = ([], put_nothing g.K.LineSink.heard c.args.sink.now, inl refl)
