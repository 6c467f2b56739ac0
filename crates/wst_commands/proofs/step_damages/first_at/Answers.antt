-- The search by blocks finds the first such place, as a walk byte by byte does.
use Rattle.std.proofs.Common.{◌==◌, ℕ}
use Rattle.wst_commands.proofs.FirstPlaces.{first_place}
use Rattle.wst_commands.proofs.step_damages.first_at.Goals as goal

pub returns : goal.returns
returns c = first_place (λ (byte : ℕ). byte == c.args.mark) c.args.bytes.now c.memchr.result c.memchr.ensures
