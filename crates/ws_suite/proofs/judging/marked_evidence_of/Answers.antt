-- The evidence has no pings, and counts a close whose code is undefined and the pongs behind a close.
use Rattle.std.proofs.Common.{refl, subst, sym}
use Rattle.ws_suite.specs.declared.evidence.Evidence.{Evidence}
use Rattle.ws_suite.specs.Marks.{with_pongs}
use Rattle.ws_suite.specs.Protocol.{IsMarkedEvidenceOf}
use Rattle.ws_suite.proofs.CountedLemmas.{none_counted}
use Rattle.ws_suite.proofs.judging.marked_evidence_of.Goals as goal

pub marked_with_doom-requires-clause-ending : goal.marked_with_doom-requires-clause-ending
marked_with_doom-requires-clause-ending c =
    let got = c.in_ok-shown.ensures.evidence.got in
    record { events = got.events; are_events = got.are_events; is_last = got.ending }

pub returns : goal.returns
returns c =
    let shown = c.in_ok-shown in
    let marked = c.in_ok-marked in
    let closed = marked.ensures.0 in
    let is_closed = marked.ensures.1 in
    let is_doomed = marked.ensures.2 in
    let is_evidence : IsMarkedEvidenceOf c.args.tested c.args.transcript.now
    (with_pongs marked.marked.evidence marked.marked.behind) marked.marked.marks = record {
      shown = shown.shown.evidence;
      is_shown = shown.ensures.evidence;
      closed = closed;
      is_closed = is_closed;
      doomed = marked.marked.evidence;
      is_doomed = is_doomed;
      is_counted = record { pongs = marked.marked.behind; are_pongs = marked.ensures.3; is_counted = refl };
      are_marks = marked.ensures.4;
    } in
    subst (λ (x : Evidence).
    IsMarkedEvidenceOf c.args.tested c.args.transcript.now (with_pongs x marked.marked.behind) marked.marked.marks)
    (sym (none_counted c.args.tested c.args.transcript.now shown.shown.evidence closed marked.marked.evidence
    shown.ensures.evidence is_closed is_doomed)) is_evidence
