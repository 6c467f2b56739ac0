-- What is put is the bytes that came before, and the others under the key.
use Rattle.std.proofs.Common.{◌≡◌, ◌∙◌, ◌+◌, ◌++◌, length, take, List, ℕ, ap, sym}
use Rattle.std.proofs.Math.Seq.{take-append_seam, take-append-add}
use Rattle.ws_session.specs.InnerMasked.{masked_from}
use Rattle.ws_session.proofs.MaskedParts.{masked_from_phase, length-masked_from}
use Rattle.ws_session.proofs.event_room.fill.Goals as goal

pub returns-clause-front : goal.returns-clause-front
returns-clause-front c =
    let before = c.args.before.now in
    let more = c.args.more.now in
    let part = c.unmask.new.part in
    let tail = c.split_at_mut-part.result.1.now in
    let put : part ≡ masked_from c.args.key (length before) more = c.unmask.ensures
    ∙ masked_from_phase c.args.key (length before) c.copy_from_slice.new.self
    ∙ ap (λ (l : List ℕ). masked_from c.args.key (length before) l) c.copy_from_slice.ensures.after in
    let size : length part ≡ length more = ap (λ (l : List ℕ). length l) put ∙ length-masked_from c.args.key (length before) more in
    ap (λ (l : List ℕ). take (length before + length more) (l ++ (part ++ tail))) c.copy_if_any.ensures
    ∙ take-append-add before (part ++ tail) (length more)
    ∙ ap (λ n. before ++ take n (part ++ tail)) (sym size)
    ∙ ap (λ (l : List ℕ). before ++ l) (take-append_seam part tail)
    ∙ ap (λ (l : List ℕ). before ++ l) put
