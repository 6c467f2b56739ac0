-- The group goes on until a dot.
use Rattle.std.proofs.Common.{rules}
use Rattle.ws_pages.proofs.Groups.{group_here, group_later}
use Rattle.ws_pages.proofs.row_html.group_of.Goals as goal

pub returns-then-id-place-eq46 : goal.returns-then-id-place-eq46
returns-then-id-place-eq46 c =
    group_here c.args.id.now c.loop-place.place _ (search rules) c.if-id-place-eq46.true c.loop-place.invariant

pub loop-place-preserved : goal.loop-place-preserved
loop-place-preserved c =
    group_later c.args.id.now c.loop-place.place _ (search rules) c.if-id-place-eq46.false c.loop-place.invariant
