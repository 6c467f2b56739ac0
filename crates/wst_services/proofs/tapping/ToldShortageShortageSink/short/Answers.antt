-- It is told to the fault output, which is the same then.
use Rattle.std.proofs.Common.{refl}
use Rattle.wst_services.proofs.tapping.ToldShortageShortageSink.short.Goals as goal

pub returns : goal.returns
returns g c = (c.tell.ensures.told, refl)
