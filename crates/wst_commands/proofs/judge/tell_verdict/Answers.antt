-- The verdict was written, and by its exit the run ends; or memory ran out for it.
use Rattle.std.proofs.Common.{ap, inl, inr, Err}
use Rattle.wst_commands.proofs.judge.tell_verdict.Goals as goal

pub returns-in-Ok : goal.returns-in-Ok
returns-in-Ok g c = inl (c.in-Ok.exit, c.in-Ok.ensures, c.ended_verdict.ensures)

pub returns-in-Err : goal.returns-in-Err
returns-in-Err g c =
    let (is, untouched) = c.in-Err.ensures in
    inr (ap Err is, untouched)
