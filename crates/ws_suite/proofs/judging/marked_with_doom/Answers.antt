-- The close that counts stands in the turn of the fault, so what is known of doom stays known.
use Rattle.std.proofs.Common.{◌≡◌, [], MatchBool, subst, sym}
use Rattle.std.specs.List.{concat}
use Rattle.ws_suite.specs.declared.evidence.Direction.{Direction}
use Rattle.ws_suite.specs.Evidence.{got_turns, other_role, sent_turns}
use Rattle.ws_suite.specs.Marks.{ArePongsBehind}
use Rattle.ws_suite.specs.Matching.{ends_with_close}
use Rattle.ws_suite.proofs.CountedLemmas.{dooms_of_counted}
use Rattle.ws_suite.proofs.judging.marked_with_doom.Goals as goal

pub with_doom-counted-requires : goal.with_doom-counted-requires
with_doom-counted-requires c =
    let turns = c.args.transcript.now.turns in
    let closed = c.in_ok-closed in
    dooms_of_counted (other_role c.args.tested) (concat (got_turns turns)) c.args.shown.evidence.got.ending
    closed.closed.evidence.got.ending c.args.tested (sent_turns turns) c.args.shown.dooms closed.ensures.closed.ending
    c.requires.dooms

pub returns : goal.returns
returns c =
    let closed = c.in_ok-closed in (
      closed.closed.evidence,
      closed.ensures.closed,
      c.with_doom-counted.ensures,
      subst (λ (d : Direction). MatchBool (ends_with_close d.ending)
          (ArePongsBehind (other_role c.args.tested) (got_turns c.args.transcript.now.turns) closed.closed.behind)
          (closed.closed.behind ≡ [])) (sym c.with_doom-counted.ensures.got) closed.ensures.behind,
      closed.ensures.marks,
      closed.ensures.beyond,
    )
