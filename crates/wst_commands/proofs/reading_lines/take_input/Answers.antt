-- What is read is fed; the rest behind a damaged line is dropped.
use Rattle.std.proofs.Common.{[], ◌++◌, subst}
use Rattle.ws_formats.specs.Lines.{Damages, HasLineForEach}
use Rattle.ws_frame.specs.Devices.{watched}
use Rattle.ws_frame.specs.Watching.{has_failed, inner_of}
use Rattle.wst_commands.specs.ReadingLines.{FailsFeeding}
use Rattle.wst_commands.specs.declared.reading_lines.InputFault.{InputFault}
use Rattle.wst_commands.proofs.ReadLines.{further_read, further_stopped, input_ended}
use Rattle.wst_commands.proofs.reading_lines.take_input.Goals as goal

pub returns-in-Err-Stop : goal.returns-in-Err-Stop
returns-in-Err-Stop g c =
    subst (λ (fault : InputFault). FailsFeeding g.T.TakeValues.is_line_of fault (watched g.R.Read.remaining c.args.reader.now c.feed_input.new.reader))
    c.in-Err-Stop.field-0-is (c.in-Err-Stop.ensures c.args.taker c.new-feed.ensures)

pub drop_rest-requires : goal.drop_rest-requires
drop_rest-requires g c =
    let d = subst (λ (fault : InputFault). FailsFeeding g.T.TakeValues.is_line_of fault (watched g.R.Read.remaining c.args.reader.now c.feed_input.new.reader))
    c.in-Err-Text.field-0-is (c.in-Err-Text.ensures c.args.taker c.new-feed.ensures) in
    d.0.works

pub returns-in-Ok-drop_rest : goal.returns-in-Ok-drop_rest
returns-in-Ok-drop_rest g c =
    let remaining = g.R.Read.remaining in
    let d = subst (λ (fault : InputFault). FailsFeeding g.T.TakeValues.is_line_of fault (watched remaining c.args.reader.now c.feed_input.new.reader))
    c.in-Err-Text.field-0-is (c.in-Err-Text.ensures c.args.taker c.new-feed.ensures) in
    let r = c.in-Ok-drop_rest.ensures in (
      d.0.read ++ r.0,
      further_read (remaining (inner_of c.args.reader.now)) (remaining (inner_of c.feed_input.new.reader))
          (remaining (inner_of c.drop_rest.new.reader)) d.0.read d.0.bytes r.0 (has_failed c.drop_rest.new.reader) r.1,
      d.0.damages r.0,
      d.1,
    )

pub returns-in-Err : goal.returns-in-Err
returns-in-Err g c =
    let remaining = g.R.Read.remaining in
    let d = subst (λ (fault : InputFault). FailsFeeding g.T.TakeValues.is_line_of fault (watched remaining c.args.reader.now c.feed_input.new.reader))
    c.in-Err-Text.field-0-is (c.in-Err-Text.ensures c.args.taker c.new-feed.ensures) in
    further_stopped (remaining (inner_of c.args.reader.now)) (remaining (inner_of c.feed_input.new.reader))
    (remaining (inner_of c.drop_rest.new.reader)) d.0.read d.0.bytes c.in-Err.stop (has_failed c.drop_rest.new.reader) c.in-Err.ensures

pub returns-in-Ok-end : goal.returns-in-Ok-end
returns-in-Ok-end g c =
    let f = c.in-Ok.ensures c.args.taker c.new-feed.ensures in
    let t = c.in-Ok-end.ensures c.args.taker f.0 f.2 in
    (f.0, f.1, t)

pub returns-in-Err-end : goal.returns-in-Err-end
returns-in-Err-end g c =
    let f = c.in-Ok.ensures c.args.taker c.new-feed.ensures in
    input_ended (Damages (HasLineForEach g.T.TakeValues.is_line_of)) c.in-Err-end.fault c.input_fault.result f.0
    (watched g.R.Read.remaining c.args.reader.now c.feed_input.new.reader) c.input_fault.ensures f.1
    (c.in-Err-end.ensures c.args.taker f.0 f.2)

pub feed_input-requires-clause-fed : goal.feed_input-requires-clause-fed
feed_input-requires-clause-fed g c = (c.args.taker, [], c.new-feed.ensures)
