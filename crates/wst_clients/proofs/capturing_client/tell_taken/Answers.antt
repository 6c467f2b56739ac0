-- What is written of the turn, or of none, is what the run comes to.
use Rattle.std.proofs.Common.{Err, Ok, rules, ◌≡◌}
use Rattle.ws_frame.specs.Devices.{watched}
use Rattle.wst_clients.specs.declared.visiting.NoVisit.TheVariants.{TooLate}
use Rattle.wst_clients.proofs.CaptureLemmas.{taken_written}
use Rattle.wst_clients.proofs.capturing_client.tell_taken.Goals as goal

pub returns-in-Ok : goal.returns-in-Ok
returns-in-Ok g c =
    taken_written c.args.expected c.args.case.now c.args.taken (Ok c.in-Ok.visit) c.tell_last.result
    (watched g.W.Write.contents c.args.writer.now c.tell_last.new.writer) (c.tell_last.new.writer ≡ c.args.writer.now)
    c.in-Ok.is c.tell_last.ensures

pub returns-in-Err-TooLate : goal.returns-in-Err-TooLate
returns-in-Err-TooLate g c =
    let late : c.args.taken ≡ Err TooLate = search rules in
    taken_written c.args.expected c.args.case.now c.args.taken (Err TooLate) c.tell_case.result
    (watched g.W.Write.contents c.args.writer.now c.tell_case.new.writer) (c.tell_case.new.writer ≡ c.args.writer.now)
    late c.tell_case.ensures
