-- Once the loop has passed all bytes, each is masked by the rule.
use Rattle.std.proofs.Common.{◌≡◌, List, ℕ, sym, subst, arith}
use Rattle.ws_wire.specs.Masking.{masked, IsMasked}
use Rattle.ws_wire.proofs.Masks.{masked_is_rule, masked_done}
use Rattle.ws_wire.proofs.masking.mask_plainly.Goals as goal

pub returns-clause-rule : goal.returns-clause-rule
returns-clause-rule c =
    let all : c.loop-i.bytes ≡ masked c.args.key c.args.phase c.args.bytes.now = masked_done _ _ _ _ _ (omega arith) c.loop-i.invariant in
    subst (λ (t : List ℕ). IsMasked c.args.key c.args.phase c.args.bytes.now t) (sym all) (masked_is_rule c.args.key c.args.phase c.args.bytes.now)
