-- One frame at most is taken of a piece: its line waits or is written once it is whole, and a bad length stops the run.
use Rattle.std.proofs.Common.{arith, []}
use Rattle.std.proofs.lemmas.Result.{err_from_is_err_and}
use Rattle.std.proofs.KnownBytes.{Appends-nil}
use Rattle.ws_wire.specs.Header.{AreBytes}
use Rattle.ws_frame.proofs.Runs.{rest_are_bytes, part_told, frame_told, frame_begun, bad_told}
use Rattle.ws_frame.proofs.showing.Run.show_next.Goals as goal

pub take-requires-clause-under_way : goal.take-requires-clause-under_way
take-requires-clause-under_way g c =
    let self = c.args.self.now in
    let (taken, written, t) = c.requires.going in (t.so_far.rest, rest_are_bytes self.source taken self.offset self.partial _ t.so_far, t.so_far.is_kept)

pub returns-in-Part-clause-shown : goal.returns-in-Part-clause-shown
returns-in-Part-clause-shown g c = λ taken written t.
    let self = c.args.self.now in
    let piece = c.args.piece.now in
    let are : AreBytes piece = λ i. omega (arith, c.type_inv.piece i) in
    let is_taken = c.in-Part.ensures.taken t.so_far.rest (rest_are_bytes self.source taken self.offset self.partial _ t.so_far) t.so_far.is_kept in
    let next = part_told self.source taken written piece self.lines self.taken self.offset c.in-Part.used self.partial c.take.new.self t.count t.so_far are c.in-Part.ensures.used.1 is_taken in
    ([], Appends-nil _, (c.requires.writer_works, record { count = next.0; so_far = next.1 }))

pub returns-in_ok-put_line-in-Whole-clause-shown : goal.returns-in_ok-put_line-in-Whole-clause-shown
returns-in_ok-put_line-in-Whole-clause-shown g c = λ taken written t.
    let self = c.args.self.now in
    let piece = c.args.piece.now in
    let are : AreBytes piece = λ i. omega (arith, c.type_inv.piece i) in
    let (whole, kept) = c.in-Whole.ensures.taken t.so_far.rest (rest_are_bytes self.source taken self.offset self.partial _ t.so_far) t.so_far.is_kept in
    let (w, wrote, works, due) = c.in_ok-put_line-in-Whole.ensures in
    let next = frame_told self.source taken written piece self.lines w c.put_line.new.lines self.taken self.offset c.in-Whole.used self.partial c.take.new.self c.in-Whole.header c.in-Whole.first t.count t.so_far are
    c.in-Whole.ensures.used.1 whole kept due in
    (w, wrote, (works, record { count = next.0; so_far = next.1 }))

pub returns-in_err-put_line-in-Whole-clause-shown : goal.returns-in_err-put_line-in-Whole-clause-shown
returns-in_err-put_line-in-Whole-clause-shown g c = λ taken written t.
    let self = c.args.self.now in
    let piece = c.args.piece.now in
    let are : AreBytes piece = λ i. omega (arith, c.type_inv.piece i) in
    let (whole, kept) = c.in-Whole.ensures.taken t.so_far.rest (rest_are_bytes self.source taken self.offset self.partial _ t.so_far) t.so_far.is_kept in
    let (front, behind, wrote, failed, due) = c.in_err-put_line-in-Whole.ensures in
    let begun = frame_begun self.source taken written piece self.lines front behind self.taken self.offset c.in-Whole.used self.partial c.take.new.self c.in-Whole.header c.in-Whole.first t.count t.so_far are
    c.in-Whole.ensures.used.1 whole kept due in
    let p = err_from_is_err_and c.from_residual.result c.from_residual.ensures.1 in
    rw p.1 (front, wrote, (failed, begun))

pub returns-in-BadLength-clause-shown : goal.returns-in-BadLength-clause-shown
returns-in-BadLength-clause-shown g c = λ taken written t.
    let self = c.args.self.now in
    let bad = c.in-BadLength.ensures.taken t.so_far.rest (rest_are_bytes self.source taken self.offset self.partial _ t.so_far) t.so_far.is_kept in
    ([], Appends-nil _, (c.requires.writer_works, bad_told self.source taken written c.args.piece.now self.lines self.offset self.partial t.so_far bad))
