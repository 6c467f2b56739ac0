-- The tap stands over its devices, and a direction that was passed on was ended at its writer.
use Rattle.std.proofs.Common.{◌≡◌, false}
use Rattle.ws_frame.specs.Devices.{watched}
use Rattle.ws_frame.specs.Watching.{has_failed}
use Rattle.ws_tap.specs.Running.{device_bytes, run_devices}
use Rattle.ws_tap.proofs.RunLemmas.{RunsOn}
use Rattle.ws_tap.proofs.tapping.tap_ends.Given as goal

-- over the devices as they are now
abbrev pub invariant-loop : goal.invariant-loop
invariant-loop g l = (has_failed l.output ≡ false) × RunsOn l.fn.tapped l.tap (run_devices
    (device_bytes (g.CR.Read.remaining l.initial.client.reader) (g.CR.Read.remaining l.client.reader))
    (device_bytes (g.CW.Write.contents l.initial.client.writer) (g.CW.Write.contents l.client.writer))
    (device_bytes (g.SR.Read.remaining l.initial.server.reader) (g.SR.Read.remaining l.server.reader))
    (device_bytes (g.SW.Write.contents l.initial.server.writer) (g.SW.Write.contents l.server.writer))
    (watched g.W.Write.contents l.initial.output l.output))
    (g.SW.TapWriter.is_ended l.server.writer) (g.CW.TapWriter.is_ended l.client.writer)
