-- Ping after ping: what is left decides, since each that was passed is answered.
use Rattle.std.proofs.Common.{◌≡◌, true, length}
use Rattle.ws_suite.specs.declared.evidence.InTurn.{InTurn}
use Rattle.ws_suite.specs.declared.evidence.Reply.{Reply}
use Rattle.ws_suite.specs.InnerMarks.{AreMet, is_answered_by}
use Rattle.ws_suite.proofs.judging.owed.are_met_in_step.Given as goal

-- what a pong that is left answers is answered; where those that are left are answered, all are
abbrev pub invariant-loop-ping : goal.invariant-loop-ping
invariant-loop-ping l = record {
  by_any : (ping : InTurn Reply) → is_answered_by l.got_left ping ≡ true → is_answered_by l.fn.got ping ≡ true;
  by_all : AreMet l.left l.fn.got → AreMet l.fn.due l.fn.got;
}

abbrev pub decreases-loop-ping : goal.decreases-loop-ping
decreases-loop-ping l = length l.left
