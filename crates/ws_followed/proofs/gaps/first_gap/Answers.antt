-- None of the segments so far stands for missing bytes, nor the next.
use Rattle.std.proofs.Common.{◌≡◌, List, All, arith, rules, subst, take, take_all}
use Rattle.ws_followed.specs.declared.segment.Segment.{Segment}
use Rattle.ws_followed.specs.Gaps.{IsNoGap}
use Rattle.ws_followed.proofs.GapPlaces.{none_more}
use Rattle.ws_followed.proofs.gaps.first_gap.Goals as goal

pub loop-at-preserved : goal.loop-at-preserved
loop-at-preserved c =
    let next = c.index-segments-at.result in
    let none : IsNoGap next = λ gap. search (rules, gap) in (
      omega (arith, c.loop-at-test.true),
      none_more c.args.segments.now c.loop-at.at next c.loop-at-test.true
          c.index-segments-at.is none c.loop-at.invariant.1,
    )

pub returns : goal.returns
returns c =
    let segments = c.args.segments.now in
    subst (λ (l : List Segment). All IsNoGap l)
    (take_all c.loop-at.at segments (omega (arith, c.loop-at-test.false))) c.loop-at.invariant.1
