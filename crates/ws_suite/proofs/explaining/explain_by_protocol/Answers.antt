-- The verdict is told without the pings, and what came with them.
use Rattle.std.proofs.Common.{◌∙◌, ap, refl, subst, sym}
use Rattle.std.specs.List.{concat}
use Rattle.ws_suite.specs.declared.evidence.Direction.{Direction}
use Rattle.ws_suite.specs.Evidence.{got_turns, other_role}
use Rattle.ws_suite.specs.Explanation.{IsBeyondClose}
use Rattle.ws_suite.specs.InnerJudging.{without_pings}
use Rattle.ws_suite.specs.InnerMarks.{counted_of}
use Rattle.ws_suite.specs.Marks.{CountsUndefinedCode}
use Rattle.ws_suite.proofs.CountedLemmas.{closed_without}
use Rattle.ws_suite.proofs.OwedLemmas.{owed_before}
use Rattle.ws_suite.proofs.TellingLemmas.{counted_without, told_is_evidence}
use Rattle.ws_suite.proofs.explaining.explain_by_protocol.Goals as goal

pub marked_with_doom-requires-clause-ending : goal.marked_with_doom-requires-clause-ending
marked_with_doom-requires-clause-ending c =
    let got = c.in_ok-told.ensures.evidence.got in
    record { events = got.events; are_events = got.are_events; is_last = got.ending }

pub returns : goal.returns
returns c =
    let tested = c.args.tested in
    let transcript = c.args.transcript.now in
    let told = c.in_ok-told in
    let marked = c.in_ok-marked in
    let closed = marked.ensures.0 in
    let is_closed = marked.ensures.1 in
    let is_doomed = marked.ensures.2 in
    record {
      counted = counted_of marked.marked;
      marks = marked.marked.marks;
      is_evidence = record {
        shown = without_pings told.told.evidence;
        is_shown = told_is_evidence tested transcript told.told.evidence told.ensures.evidence;
        closed = without_pings closed;
        is_closed = closed_without tested transcript told.told.evidence closed is_closed;
        doomed = without_pings marked.marked.evidence;
        is_doomed = counted_without tested transcript closed marked.marked.evidence is_doomed;
        is_counted = record { pongs = marked.marked.behind; are_pongs = marked.ensures.3; is_counted = refl };
        are_marks = marked.ensures.4;
      };
      is_verdict = c.in_ok-verdict.ensures;
      owed = c.in_ok-owed.ensures ∙ owed_before marked.marked.evidence c.end_of_owed-end.result c.end_of_owed-end.ensures
          marked.marked.evidence.due.replies;
      due_ending = refl;
      due_rest = refl;
      told = told.told.evidence.got;
      is_told = told.ensures.evidence.got;
      replies = ap (λ (d : Direction). d.replies) is_doomed.got ∙ is_closed.replies;
      ending = subst (λ (d : Direction).
          CountsUndefinedCode (other_role tested) (concat (got_turns transcript.turns)) told.told.evidence.got.ending
          d.ending) (sym is_doomed.got) is_closed.ending;
      has_rest = ap (λ (d : Direction). d.has_rest) is_doomed.got ∙ is_closed.has_rest;
      beyond = subst (λ (d : Direction).
          IsBeyondClose (other_role tested) (got_turns transcript.turns) d.ending marked.marked.beyond)
          (sym is_doomed.got) marked.ensures.5;
      found = c.in_ok-found.ensures (other_role tested) told.ensures.streams.got;
      turns = refl;
      ended = refl;
    }
