-- A tester that was driven to its end has recorded what went over the connection.
use Rattle.std.proofs.Common.{[], refl}
use Rattle.ws_connection.proofs.ProbingLemmas.{drives_record}
use Rattle.ws_connection.proofs.driving.run_tester.Goals as goal

pub returns : goal.returns
returns g c =
    let over = c.in_ok-drive_over.ensures.drives in
    drives_record c.args.tester c.drive_over.new.tester c.args.connection.now c.drive_over.new.connection
    c.in_ok-transcript.transcript over (c.in_ok-transcript.ensures c.args.tester over.told over.was_told)
    (c.in_ok-transcript.ensures c.drive_over.new.tester [] (refl, over.was_told.1))
