-- One turn more is under way; and at the end the place is in the one that is.
use Rattle.std.proofs.Common.{◌+◌, arith, refl}
use Rattle.ws_scripts.specs.Pieces.{lent_turn}
use Rattle.ws_suite.proofs.PassedPlaces.{passed_all, passing_all, passing_more, turns_left}
use Rattle.ws_suite.proofs.evidence.behind.GotPlace.pass.Goals as goal

pub loop-self-init : goal.loop-self-init
loop-self-init c = λ turns n is. passing_all turns n c.args.passed c.args.self.now is

pub take_first-requires : goal.take_first-requires
take_first-requires c =
    let (turns, n, is, there) = c.requires in
    turns_left turns (n + c.args.passed) c.loop-self.to_pass c.loop-self.self (c.loop-self.invariant turns n is) there
    c.loop-self-test.true

pub loop-self-preserved : goal.loop-self-preserved
loop-self-preserved c = λ turns n is.
    passing_more turns (n + c.args.passed) c.loop-self.to_pass c.loop-self.self _ (lent_turn c.take_first.result)
    (c.loop-self.invariant turns n is) c.loop-self-test.true c.take_first.ensures refl refl

pub returns : goal.returns
returns c = λ turns n is.
    passed_all turns (n + c.args.passed) c.loop-self.to_pass c.loop-self.self _ (c.loop-self.invariant turns n is)
    (omega (arith, c.loop-self-test.false)) refl refl refl
