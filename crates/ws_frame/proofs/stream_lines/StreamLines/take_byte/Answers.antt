-- One byte more of a stream: the line answered is what it makes certain, and none follows a bad length.
use Rattle.std.proofs.Common.{◌++◌, ◌∷◌, [], ap, ◌∙◌, arith}
use Rattle.ws_frame.specs.declared.showing.Run.{Run}
use Rattle.ws_frame.specs.declared.stream_lines.StreamLines.{StreamLines}
use Rattle.ws_frame.proofs.Partials.{AreBytes-append}
use Rattle.ws_frame.proofs.Streams.{going}
use Rattle.ws_frame.proofs.OneByte.{one_byte, byte_inside, byte_at_bad_length, byte_behind}
use Rattle.ws_frame.proofs.stream_lines.StreamLines.take_byte.Goals as goal
use Rattle.ws_frame.proofs.stream_lines.StreamLines.take_byte.Goals.{in-Inside, in-BadLength}

pub returns-then-self-clause-shown : goal.returns-then-self-clause-shown
returns-then-self-clause-shown c = λ taken written t.
    let self = c.args.self.now in
    byte_behind self.run self.stopped taken written c.none.result c.args.byte c.if-self.true (one_byte c.args.byte (omega (arith, c.ranges.byte.fits))) c.none.ensures t

pub push_last_line-requires : goal.push_last_line-requires
push_last_line-requires c =
    let self = c.args.self.now in
    let (taken, written, t, small) = c.requires.room in
    let (none, told) = going self.run self.stopped taken written c.if-self.false t.stands in
    (c.in-BadLength.ensures.shown taken written told).0

pub returns-clause-shown : goal.returns-clause-shown
returns-clause-shown c = λ taken written t.
    let self = c.args.self.now in
    let (none, told) = going self.run self.stopped taken written c.if-self.false t.stands in
    let run = c.take_byte.new.self in
    let now = taken ++ c.args.byte ∷ [] in
    elim c.match-take_byte.branch [
      | in-Inside w ↦ byte_inside run c.take_line.new.self c.match-take_byte.self2 now written c.take_line.result w.self2-is
          (c.take_line.ensures.rest ∙ ap (λ (s : StreamLines). record s.run { lines = [] }) w.self-is)
          (c.take_line.ensures.line ∙ ap (λ (s : StreamLines). s.run.lines) w.self-is) (w.in-Inside.ensures.shown taken written told)
      | in-BadLength w ↦ byte_at_bad_length run c.take_line.new.self c.match-take_byte.self2 now written c.take_line.result w.self2-is
          (ap (λ (r : Run). r.source) c.take_line.ensures.rest ∙ ap (λ (s : StreamLines). s.run.source) w.self-is)
          (AreBytes-append taken (c.args.byte ∷ []) t.are_bytes (one_byte c.args.byte (omega (arith, c.ranges.byte.fits))))
          (c.take_line.ensures.line ∙ ap (λ (s : StreamLines). s.run.lines) w.self-is ∙ w.push_last_line.ensures.pushed) (w.in-BadLength.ensures.shown taken written told).1
    ]
