-- One pong more that was got: its match is the first of those that are due.
use Rattle.std.proofs.Common.{◌∙◌, Option, false, ap, sym, refl}
use Rattle.ws_suite.specs.declared.evidence.InTurn.{InTurn}
use Rattle.ws_suite.specs.declared.evidence.Reply.{Reply}
use Rattle.ws_suite.specs.Verdicts.{is_before_match, is_unmatched}
use Rattle.ws_suite.proofs.JudgeLemmas.{found_first, left_of_match, match_step}
use Rattle.ws_suite.proofs.judging.in_step.match_in_step.Goals as goal

pub loop-step-preserved : goal.loop-step-preserved
loop-step-preserved c =
    let i = c.loop-step.invariant in
    let step = c.in-Some.step in
    let due = c.loop-step.due_left in
    let e = c.in-Some.ensures in
    let found = found_first e.pong e.first due step.due e.of_due e.same in
    let left = left_of_match e.pong e.first due step.due found.0 found.1 in
    record {
      early = match_step is_before_match c.loop-step.is_early step.is_early c.either-is_early.result _
          e.pong c.loop-step.got_left step.got due step.due e.of_got
          (e.early ∙ sym (ap (λ (o : Option (InTurn Reply)). is_before_match (e.pong, o)) found.0))
          left c.either-is_early.ensures i.early;
      unmatched = match_step is_unmatched false false false _
          e.pong c.loop-step.got_left step.got due step.due e.of_got
          (sym (ap (λ (o : Option (InTurn Reply)). is_unmatched (e.pong, o)) found.0))
          left refl i.unmatched;
    }
