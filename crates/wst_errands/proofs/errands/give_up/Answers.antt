-- One more is given up; at the end all are.
use Rattle.std.proofs.Common.{◌≡◌, arith, length}
use Rattle.wst_errands.proofs.GivingLemmas.{all_given, none_given, one_given, same_given}
use Rattle.wst_errands.proofs.errands.give_up.Goals as goal

pub loop-place-init : goal.loop-place-init
loop-place-init g c = record { free = c.leave_all.ensures; given_up = none_given c.args.line.now.items }

pub loop-place-preserved : goal.loop-place-preserved
loop-place-preserved g c = record {
  free = c.loop-place.invariant.free;
  given_up = one_given c.args.line.now.items c.loop-place.line.items c.give_up_one.new.line.items c.loop-place.place
      c.loop-place.invariant.given_up (omega (arith, c.loop-place-test.true, c.len.ensures)) c.give_up_one.ensures;
}

pub returns-clause-given_up : goal.returns-clause-given_up
returns-clause-given_up g c = all_given c.args.line.now.items c.loop-place.line.items c.loop-place.place
    c.loop-place.invariant.given_up (omega (arith, c.loop-place-test.false, c.len.ensures))

pub loop-place-smaller : goal.loop-place-smaller
loop-place-smaller g c =
    let same : length c.give_up_one.new.line.items ≡ length c.loop-place.line.items =
    same_given c.loop-place.line.items c.give_up_one.new.line.items c.loop-place.place
    (omega (arith, c.loop-place-test.true, c.len.ensures)) c.give_up_one.ensures in
    omega (arith, same, c.loop-place-test.true, c.len.ensures)
