-- A text that was passed is a capture, and that is written.
use Rattle.std.proofs.Common.{inl}
use Rattle.wst_commands.proofs.convert.convert.Goals as goal

pub returns-in-Ok : goal.returns-in-Ok
returns-in-Ok g c = let (capture, is) = c.in-Ok.ensures in inl (capture, is, c.write_kept.ensures capture is)
