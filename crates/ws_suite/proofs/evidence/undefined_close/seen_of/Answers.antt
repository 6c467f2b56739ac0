-- One turn more was taken, and at the end these bytes.
use Rattle.std.proofs.Common.{◌≡◌, ◌++◌, [], ◌∷◌, ℕ, List, ap, rules, subst}
use Rattle.std.specs.List.{concat}
use Rattle.ws_suite.specs.Evidence.{got_turns}
use Rattle.ws_suite.specs.InnerMarks.{HasSeenBytes}
use Rattle.ws_suite.proofs.GotLemmas.{got_all, got_more}
use Rattle.ws_suite.proofs.SeenStreams.{is_seen}
use Rattle.ws_suite.proofs.evidence.undefined_close.seen_of.Goals as goal

pub loop-turn-preserved : goal.loop-turn-preserved
loop-turn-preserved c =
    let turn = c.in-Some.turn.now in
    let later = c.in-Some.later.now in
    let old = c.loop-turn.invariant.taken in
    let parts : c.loop-turn.rest.now ≡ turn ∷ later = search rules in
    record {
      taken = (
        old.0 ++ turn.got,
        got_more old.0 c.loop-turn.rest.now later c.args.past.now turn parts old.1,
        subst (λ (l : List ℕ). HasSeenBytes c.args.role c.take_piece.new.taken.session (old.0 ++ l)
            c.take_piece.new.taken.seen) c.as_slice.ensures
            (c.in_ok-take_piece.ensures.seen c.args.role old.0 old.2),
      );
    }

pub returns : goal.returns
returns c =
    let old = c.loop-turn.invariant.taken in
    let all : old.0 ≡ concat (got_turns c.args.past.now) =
    got_all old.0 c.loop-turn.rest.now c.args.past.now c.in_default.ensures.cases old.1 in
    let new = c.take_piece-2.new.taken in
    is_seen c.args.role new.session (concat (got_turns c.args.past.now) ++ c.args.last.now) new.seen
    (subst (λ (l : List ℕ). HasSeenBytes c.args.role new.session (l ++ c.args.last.now) new.seen) all
    (c.in_ok-take_piece-2.ensures.seen c.args.role old.0 old.2))
