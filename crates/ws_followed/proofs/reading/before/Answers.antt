-- The line that follows is taken, an empty one before all others too, and no other.
use Rattle.std.proofs.Common.{subst, sym}
use Rattle.ws_followed.specs.declared.reading.PartialFollowed.{PartialFollowed}
use Rattle.ws_followed.specs.declared.reading.PartialFollowed.TheVariants.{Before}
use Rattle.ws_followed.proofs.ReadingSteps.{Takes, front_taken}
use Rattle.ws_followed.proofs.reading.before.Goals as goal

pub returns-then-may_follow : goal.returns-then-may_follow
returns-then-may_follow c =
    subst (λ (longer : PartialFollowed). Takes (Before c.args.front) longer c.args.line.now) (sym c.behind.ensures)
    (front_taken c.args.front c.args.line.now (c.may_follow.ensures.0 c.if-may_follow.true))
