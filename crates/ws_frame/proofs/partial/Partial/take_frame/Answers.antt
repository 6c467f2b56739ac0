-- A frame from its first byte on: its header is cut, bad or whole, and all of its payload stands in the piece or some.
use Rattle.std.proofs.Common.{arith, ◌+◌, ◌≤◌, length}
use Rattle.ws_frame.proofs.Partials.{front_of_header, bad_length_of_piece, whole_of_piece, nothing_kept}
use Rattle.ws_frame.proofs.partial.Partial.take_frame.Goals as goal

pub returns-in-Need-clause-taken : goal.returns-in-Need-clause-taken
returns-in-Need-clause-taken c = λ rest are kept.
    let self = c.args.self.now in
    front_of_header rest c.args.piece.now self.first c.of_front-self.result self.header self.to_come kept c.requires.header c.requires.first c.of_front-self.ensures (λ i. omega (arith, c.type_inv.piece i)) c.in-Need.ensures

pub returns-in-BadLength-clause-taken : goal.returns-in-BadLength-clause-taken
returns-in-BadLength-clause-taken c = λ rest are kept.
    let self = c.args.self.now in
    bad_length_of_piece rest c.args.piece.now self.first self.header self.to_come kept c.requires.header c.requires.first (c.in-BadLength.header, c.in-BadLength.used, c.in-BadLength.ensures.0, c.in-BadLength.ensures.1)

pub returns-else-payload_len-payload-clause-taken : goal.returns-else-payload_len-payload-clause-taken
returns-else-payload_len-payload-clause-taken c = λ rest are kept.
    let self = c.args.self.now in
    let piece = c.args.piece.now in
    let header = c.in-Got.header in
    let used = c.in-Got.used in
    let len = c.payload_len-len.result in
    let (begins, small) = c.in-Got.ensures in
    let within : used + len ≤ length piece = omega (arith, begins.within, c.if-payload_len-payload.false, c.payload_len.ensures.value, c.payload_len-len.ensures.value) in (
      whole_of_piece rest piece self.first c.of_front.result self.header self.to_come header used len kept c.requires.header c.requires.first begins small (λ i. omega (arith, c.type_inv.piece i))
          c.payload_len-len.ensures.value within c.of_front.ensures,
      nothing_kept rest self.first self.header self.to_come kept c.requires.header c.requires.first,
    )
