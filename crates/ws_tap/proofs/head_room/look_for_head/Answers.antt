-- A head that is whole now was not before, so it ends behind the bytes that were there.
use Rattle.std.proofs.Common.{arith, ◌∙◌, sym, ap, List, ℕ, length, take}
use Rattle.std.proofs.lemmas.List.{length-take-le}
use Rattle.ws_tap.specs.Texts.{source_at, head_line}
use Rattle.ws_tap.proofs.HeadLemmas.{not_found, ends_behind, found}
use Rattle.ws_tap.proofs.head_room.look_for_head.Goals as goal

pub returns-in_err-head : goal.returns-in_err-head
returns-in_err-head c = λ bytes l.
    not_found c.args.end.role c.args.end.tapped c.args.room.now c.fill.new.self c.as_slice.result.now bytes
    c.args.piece.now
    c.from_residual.result l c.fill.ensures c.as_slice.ensures.bytes c.in_err-head.ensures c.from_residual.ensures

pub slice_bounds-of-end : goal.slice_bounds-of-end
slice_bounds-of-end c =
    let (bytes, l) = c.requires in
    let (late, same, within, all) = ends_behind c.args.end.role c.args.room.now c.fill.new.self c.as_slice.result.now
    bytes c.args.piece.now c.in_ok-head.head l c.fill.ensures c.as_slice.ensures.bytes c.in_ok-head.ensures in
    sym (length-take-le c.in_ok-head.head.len c.as_slice-2.result.now
    (omega (
      arith,
      within,
      ap (λ (t : List ℕ). length t) (c.as_slice.ensures.bytes
          ∙ sym c.as_slice-2.ensures.bytes),
    )))

pub overflow_sub-result : goal.overflow_sub-result
overflow_sub-result c =
    let (bytes, l) = c.requires in
    let (late, same, within, all) = ends_behind c.args.end.role c.args.room.now c.fill.new.self c.as_slice.result.now
    bytes c.args.piece.now c.in_ok-head.head l c.fill.ensures c.as_slice.ensures.bytes c.in_ok-head.ensures in
    omega (arith, late, same, c.len-before.ensures.count)

pub returns : goal.returns
returns c = λ bytes l.
    found c.args.end.role c.args.end.tapped c.len-before.result c.args.room.now c.fill.new.self c.as_slice.result.now
    bytes
    c.args.piece.now c.of-line.result c.in_ok-head.head l c.fill.ensures c.as_slice.ensures.bytes
    c.in_ok-head.ensures c.len-before.ensures.count
    (c.of-line.ensures ∙ ap (λ (t : List ℕ). head_line (source_at c.args.end.role c.args.end.tapped)
    (take c.in_ok-head.head.len t)) (c.as_slice-2.ensures.bytes ∙ sym c.as_slice.ensures.bytes))
