-- Behind the last segment the turns are those of all of them.
use Rattle.std.proofs.Common.{◌≡◌, ◌∙◌, ◌++◌, [], List, ap, append-nil, arith, take, take_all}
use Rattle.ws_followed.specs.declared.segment.Segment.{Segment}
use Rattle.ws_followed.specs.Turns.{turns_behind}
use Rattle.ws_followed.proofs.TurnSteps.{all_ok}
use Rattle.ws_followed.proofs.turns.turns_behind.Goals as goal

pub returns : goal.returns
returns c =
    let segments = c.args.segments.now in
    let i = c.loop-segment.segment-index in
    let all : take i segments ++ [] ≡ segments =
    append-nil (take i segments) ∙ take_all i segments (omega (arith, c.loop-segment-test.false)) in
    all_ok c.args.judged c.loop-segment.turns (turns_behind c.args.judged c.args.to_end c.args.from_end segments)
    (c.loop-segment.invariant []
    ∙ ap (λ (l : List Segment). turns_behind c.args.judged c.args.to_end c.args.from_end l) all) c.all.result
    c.all.ensures
