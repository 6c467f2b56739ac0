-- An accepted connection: the response is written, and then an echo answers what came with the head and what follows.
use Rattle.std.proofs.Common.{refl}
use Rattle.ws_frame.specs.Devices.{watched}
use Rattle.ws_connection.proofs.ServingLemmas.{after_response, answered_by, at_connection}
use Rattle.ws_connection.proofs.serving.answer_accepted.Goals as goal

pub returns-in-Ok : goal.returns-in-Ok
returns-in-Ok g c =
    let limits = c.args.bounds.limits in
    let budget = c.args.bounds.budget in
    let response = c.args.response.now in
    let first = c.args.first.now in
    let input = watched g.R.Read.remaining c.args.reader.now c.drive-end.new.reader in
    let last = watched g.W.Write.contents c.write_whole.new.writer c.drive-end.new.writer in
    let output = watched g.W.Write.contents c.args.writer.now c.drive-end.new.writer in
    let drives = at_connection limits budget first _ _ c.drive-end.result c.drive-end.new.echo input last c.new-echo.ensures.role c.new-echo.ensures.limits c.drive-end.ensures.driven in
    answered_by limits budget response first input output c.drive-end.result c.served_by.result c.served_by.ensures
    (after_response limits budget response first c.drive-end.new.echo input last output c.drive-end.result c.in-Ok.ensures.written refl refl drives c.drive-end.ensures.fair)
