-- What is written of a text is what format 2 has for its capture, or a beginning of it.
use Rattle.std.proofs.Common.{inl, inr, refl}
use Rattle.wst_commands.proofs.convert.write_kept.Goals as goal

pub returns-in-Ok : goal.returns-in-Ok
returns-in-Ok g c = λ capture is. let all = c.in-Ok.ensures capture is in inl (refl, all.1, all.0)

pub returns-in-Err : goal.returns-in-Err
returns-in-Err g c = λ capture is. let begun = c.in-Err.ensures capture is in inr (refl, begun.1, begun.0)
