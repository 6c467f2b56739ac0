-- The script is sent behind the remarks on it.
use Rattle.std.proofs.Common.{inl, refl}
use Rattle.ws_frame.specs.Devices.{watched}
use Rattle.wst_run.proofs.send.send_text.Goals as goal

pub returns-in_ok-note_codes-in-Ok-clause-sends : goal.returns-in_ok-note_codes-in-Ok-clause-sends
returns-in_ok-note_codes-in-Ok-clause-sends g c = inl (
  c.in-Ok.case,
  c.in-Ok.ensures.read,
  inl (
    watched g.F.Write.contents c.args.faults.now c.note_codes.new.faults,
    (refl, c.send_case.ensures.still),
    c.in_ok-note_codes-in-Ok.ensures.told,
    c.send_case.ensures.sends,
  ),
)
