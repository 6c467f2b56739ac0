-- What is pushed is the part under the key from the place at which it comes.
use Rattle.std.proofs.Common.{◌∙◌, List, ℕ, ◌++◌, length, ap}
use Rattle.ws_session.specs.InnerMasked.{masked_from}
use Rattle.ws_session.proofs.MaskedParts.{masked_from_phase}
use Rattle.ws_session.proofs.control_payload.Small.push_masked.Goals as goal

pub returns : goal.returns
returns c =
    let more = c.args.more.now in
    c.push-2.ensures
    ∙ ap (λ (l : List ℕ). c.self.inside.bytes ++ l) (c.unmask.ensures
    ∙ masked_from_phase c.args.key c.len-len.result c.copy_from_slice.new.self
    ∙ ap (λ (l : List ℕ). masked_from c.args.key c.len-len.result l) c.copy_from_slice.ensures.after
    ∙ ap (λ n. masked_from c.args.key n more) c.len-len.ensures.count)
    ∙ ap (λ (l : List ℕ). l ++ masked_from c.args.key (length l) more) c.self.view_is
