-- More bytes: the lines that they make certain are put, and none behind a bad length.
use Rattle.std.proofs.Common.{arith, [], refl, sym, append-nil}
use Rattle.ws_frame.specs.declared.payload_lines.PayloadLines.{PayloadLines}
use Rattle.ws_frame.proofs.PutFrames.{more_put, stays_put}
use Rattle.ws_frame.proofs.payload_lines.PayloadLines.take.Goals as goal

pub returns-then-self-clause-put : goal.returns-then-self-clause-put
returns-then-self-clause-put c = λ taken put t. (
  [],
  sym (append-nil c.args.lines.now.items),
  stays_put c.args.self.now taken put c.args.piece.now t c.if-self.true (λ i. omega (arith, c.type_inv.piece i)),
)

pub returns-clause-put : goal.returns-clause-put
returns-clause-put c = λ taken put t.
    let self = c.args.self.now in
    let new = c.put_frames.new.self in
    let mid : PayloadLines = record {
      source = self.source;
      offset = self.offset;
      rest = c.extend_from_slice.new.self;
      room = self.room;
      stopped = self.stopped;
    } in
    let last : PayloadLines = record {
      source = new.source;
      offset = new.offset;
      rest = c.drop_front.new.bytes;
      room = new.room;
      stopped = new.stopped;
    } in
    more_put self mid new last taken put c.args.piece.now c.args.lines.now.items c.put_frames.new.lines.items
    c.in_ok-done.done t c.if-self.false (λ i. omega (arith, c.type_inv.piece i)) refl refl
    c.in_ok-extend_from_slice.ensures.items c.in_ok-done.ensures.put c.in_ok-done.ensures.source c.drop_front.ensures
    refl refl refl
