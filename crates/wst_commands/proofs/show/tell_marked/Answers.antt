-- The lines are told with the frames marked that were found; where memory ran out for that, nothing was written.
use Rattle.std.proofs.Common.{inl, inr, refl}
use Rattle.std.proofs.KnownBytes.{Keeps-refl}
use Rattle.ws_frame.specs.Watching.{inner_of}
use Rattle.wst_commands.proofs.show.tell_marked.Goals as goal

pub returns-in-Err : goal.returns-in-Err
returns-in-Err g c = inr (refl, Keeps-refl (g.W.Write.contents (inner_of c.args.writer.now)))

pub returns-in-Ok : goal.returns-in-Ok
returns-in-Ok g c = inl (c.in-Ok.marked, c.in-Ok.ensures, c.tell_lines.ensures)
