-- The capture is that of the run of the last connection.
use Rattle.std.proofs.Common.{[], ◌∷◌}
use Rattle.ws_frame.specs.Devices.{watched}
use Rattle.wst_clients.proofs.CaptureLemmas.{last_captured}
use Rattle.wst_clients.proofs.capturing_client.tell_last.Goals as goal

pub returns-in_ok-told-in-Ran : goal.returns-in_ok-told-in-Ran
returns-in_ok-told-in-Ran g c =
    last_captured c.args.expected c.args.case.now c.args.visit c.in-Ran.field-0 c.in-Ran.transcript
    (0 ∷ 0 ∷ 0 ∷ 0 ∷ []) c.in_ok-told-in-Ran.told
    (watched g.W.Write.contents c.args.writer.now c.tell_capture.new.writer) c.in-Ran.is c.in_ok-told-in-Ran.ensures
