-- The digits of each part stand where its bytes do, and so do those of all.
use Rattle.std.proofs.Common.{arith}
use Rattle.ws_formats.proofs.DigitLanes.{digits_done, digits_step}
use Rattle.ws_formats.proofs.HexLanes.{pairs_none}
use Rattle.ws_formats.proofs.digits.put_digits.Goals as goal

pub loop-at-init : goal.loop-at-init
loop-at-init c = record { within = omega arith; long = c.requires; pairs = pairs_none }

pub loop-at-preserved : goal.loop-at-preserved
loop-at-preserved c = record {
  within = omega arith;
  long = omega arith;
  pairs = digits_step c.loop-at.at _ _ c.loop-at.digits c.put_sixteen_digits.new.digits c.args.bytes.now (omega arith) c.loop-at.invariant.long (omega arith) (omega arith)
      c.loop-at.invariant.pairs c.put_sixteen_digits.ensures;
}

pub returns : goal.returns
returns c = digits_done c.loop-at.at _ _ c.loop-at.digits c.put_last_digits.new.digits c.args.bytes.now c.loop-at.invariant.within c.loop-at.invariant.long (omega arith) (omega arith)
    c.loop-at.invariant.pairs c.put_last_digits.ensures
