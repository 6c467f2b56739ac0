-- Vector after vector and then the rest, all bytes are masked, by the list and by the rule on each byte.
use Rattle.std.proofs.Common.{◌∙◌, List, ℕ, sym, subst, arith}
use Rattle.ws_wire.specs.Masking.{IsMasked}
use Rattle.ws_wire.proofs.Masks.{masked_is_rule, lanes_more, lanes_done}
use Rattle.ws_wire.proofs.masking.mask.Goals as goal

pub loop-bytes-preserved : goal.loop-bytes-preserved
loop-bytes-preserved c = (
  omega arith,
  lanes_more 8 c.args.key c.args.phase c.loop-bytes.at _ c.loop-bytes.bytes c.mask_lanes.new.bytes (omega arith) (omega arith) (c.mask_lanes.ensures c.args.key c.args.phase (c.key_lanes-lanes.ensures.lanes c.args.key c.args.phase c.turned_key-turned.ensures.lanes))
      ∙ c.loop-bytes.invariant.1,
)

pub returns-clause-bytes : goal.returns-clause-bytes
returns-clause-bytes c =
    lanes_done c.args.key c.args.phase c.loop-bytes.at _ c.loop-bytes.bytes c.mask_rest.new.bytes _ c.loop-bytes.invariant.0 (omega arith) c.mask_rest.ensures c.loop-bytes.invariant.1

pub returns-clause-rule : goal.returns-clause-rule
returns-clause-rule c =
    let all = returns-clause-bytes c in
    subst (λ (t : List ℕ). IsMasked c.args.key c.args.phase c.args.bytes.now t) (sym all) (masked_is_rule c.args.key c.args.phase c.args.bytes.now)

pub returns-then-bytes-lt-HALF-clause-rule : goal.returns-then-bytes-lt-HALF-clause-rule
returns-then-bytes-lt-HALF-clause-rule c =
    subst (λ (t : List ℕ). IsMasked c.args.key c.args.phase c.args.bytes.now t) (sym c.mask_few.ensures) (masked_is_rule c.args.key c.args.phase c.args.bytes.now)
