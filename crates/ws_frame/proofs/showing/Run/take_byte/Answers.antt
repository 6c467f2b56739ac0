-- One byte of a stream: the line of the frame that it completes waits, and a bad length leaves no line.
use Rattle.std.proofs.Common.{ℕ, List, arith, [], ◌∷◌, ◌++◌, sym, ap, ◌∙◌}
use Rattle.ws_wire.specs.Header.{AreBytes}
use Rattle.ws_wire.specs.Masking.{masked_payload}
use Rattle.ws_frame.specs.Lines.{data_word, line_with}
use Rattle.ws_frame.proofs.Runs.{rest_are_bytes}
use Rattle.ws_frame.proofs.OneByte.{one_byte, part_of_byte, frame_of_byte, bad_at_byte}
use Rattle.ws_frame.proofs.showing.Run.take_byte.Goals as goal

pub take-requires-clause-under_way : goal.take-requires-clause-under_way
take-requires-clause-under_way c =
    let self = c.args.self.now in
    let (taken, written, t) = c.requires.going in (t.so_far.rest, rest_are_bytes self.source taken self.offset self.partial _ t.so_far, t.so_far.is_kept)

pub returns-in-Part-clause-shown : goal.returns-in-Part-clause-shown
returns-in-Part-clause-shown c = λ taken written t.
    let self = c.args.self.now in
    let are : AreBytes (c.args.byte ∷ []) = one_byte c.args.byte (omega (arith, c.ranges.byte.fits)) in
    let is_taken = c.in-Part.ensures.taken t.so_far.rest (rest_are_bytes self.source taken self.offset self.partial _ t.so_far) t.so_far.is_kept in
    let next = part_of_byte self.source taken written self.lines c.args.byte self.taken self.offset c.in-Part.used self.partial c.take.new.self t.count t.so_far are c.in-Part.ensures.used.0 c.in-Part.ensures.used.1 is_taken in
    record { count = next.0; so_far = next.1 }

pub returns-in-Whole-clause-shown : goal.returns-in-Whole-clause-shown
returns-in-Whole-clause-shown c = λ taken written t.
    let self = c.args.self.now in
    let are : AreBytes (c.args.byte ∷ []) = one_byte c.args.byte (omega (arith, c.ranges.byte.fits)) in
    let (whole, kept) = c.in-Whole.ensures.taken t.so_far.rest (rest_are_bytes self.source taken self.offset self.partial _ t.so_far) t.so_far.is_kept in
    let shown = c.unmasked-shown.ensures ∙ ap (λ k. masked_payload k c.in-Whole.first) c.key.ensures.value in
    let due = sym (c.push_line.ensures.pushed ∙ ap (λ (t : List ℕ). self.lines ++ line_with self.source self.offset c.in-Whole.header
    (data_word c.in-Whole.header.len t)) shown) in
    let next = frame_of_byte self.source taken written self.lines c.push_line.new.room c.args.byte self.taken self.offset c.in-Whole.used self.partial c.take.new.self c.in-Whole.header c.in-Whole.first t.count t.so_far are
    c.in-Whole.ensures.used.0 c.in-Whole.ensures.used.1 whole kept due in
    record { count = next.0; so_far = next.1 }

pub returns-in-BadLength-clause-shown : goal.returns-in-BadLength-clause-shown
returns-in-BadLength-clause-shown c = λ taken written t.
    let self = c.args.self.now in
    let bad = c.in-BadLength.ensures.taken t.so_far.rest (rest_are_bytes self.source taken self.offset self.partial _ t.so_far) t.so_far.is_kept in
    (c.requires.empty, bad_at_byte self.source taken written self.lines c.args.byte self.offset self.partial c.requires.empty t.so_far bad)
