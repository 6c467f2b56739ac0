-- What is read is fed; the rest behind a damaged line is dropped.
use Rattle.std.proofs.Common.{◌++◌, subst}
use Rattle.ws_frame.specs.Devices.{watched}
use Rattle.ws_frame.specs.Watching.{has_failed, inner_of}
use Rattle.wst_commands.specs.ReadingCapture.{StopsFeed}
use Rattle.wst_commands.specs.declared.reading_capture.CaptureStop.{CaptureStop}
use Rattle.wst_commands.proofs.ReadLines.{further_read, further_stopped, whole_ended}
use Rattle.wst_commands.proofs.reading_capture.read_capture.Goals as goal

pub returns-in-Ok-drop_rest : goal.returns-in-Ok-drop_rest
returns-in-Ok-drop_rest g c =
    let remaining = g.R.Read.remaining in
    let d = subst (λ (stop : CaptureStop). StopsFeed stop (watched remaining c.args.reader.now c.feed_capture.new.reader))
    c.in-Err-Fault.field-0-is c.in-Err-Fault.ensures in
    let r = c.in-Ok-drop_rest.ensures in (
      d.0.read ++ r.0,
      further_read (remaining (inner_of c.args.reader.now)) (remaining (inner_of c.feed_capture.new.reader))
          (remaining (inner_of c.drop_rest.new.reader)) d.0.read d.0.bytes r.0 (has_failed c.drop_rest.new.reader) r.1,
      d.0.damages r.0,
      d.1,
    )

pub returns-in-Err-drop_rest : goal.returns-in-Err-drop_rest
returns-in-Err-drop_rest g c =
    let remaining = g.R.Read.remaining in
    let d = subst (λ (stop : CaptureStop). StopsFeed stop (watched remaining c.args.reader.now c.feed_capture.new.reader))
    c.in-Err-Fault.field-0-is c.in-Err-Fault.ensures in
    further_stopped (remaining (inner_of c.args.reader.now)) (remaining (inner_of c.feed_capture.new.reader))
    (remaining (inner_of c.drop_rest.new.reader)) d.0.read d.0.bytes c.in-Err-drop_rest.stop (has_failed c.drop_rest.new.reader)
    c.in-Err-drop_rest.ensures

pub returns-in-Err : goal.returns-in-Err
returns-in-Err g c =
    let f = c.in-Ok.ensures in
    whole_ended c.in-Err.fault c.capture_stop.result f.0
    (watched g.R.Read.remaining c.args.reader.now c.feed_capture.new.reader) c.capture_stop.ensures f.1
    (c.in-Err.ensures f.0 f.2)
