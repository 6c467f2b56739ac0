-- What `test` is asked for is run, or the first reason against it is told.
use Rattle.std.proofs.Common.{inl, inr, rules}
use Rattle.ws_frame.specs.Devices.{IsUntouched, watched}
use Rattle.wst_run.proofs.running.run_test.Goals as goal

pub returns-in-Ok : goal.returns-in-Ok
returns-in-Ok g c = inl (c.in-Ok.plan, c.in-Ok.ensures.plan, c.run_planned.ensures)

pub returns-in-Err : goal.returns-in-Err
returns-in-Err g c =
    let unread : IsUntouched (watched g.R.Read.remaining c.args.reader.now c.args.reader.now) = search rules in
    let unwritten : IsUntouched (watched g.W.Write.contents c.args.writer.now c.args.writer.now) = search rules in
    inr (c.in-Err.refusal, c.in-Err.ensures.plan, unread, unwritten, c.tell_refusal.ensures)
