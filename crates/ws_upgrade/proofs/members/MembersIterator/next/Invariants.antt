-- The values that were passed by have no members.
use Rattle.std.proofs.Common.{length, ◌≡◌, ◌++◌}
use Rattle.std.specs.List.{flat_map}
use Rattle.ws_upgrade.specs.Members.{members_in}
use Rattle.ws_upgrade.proofs.members.MembersIterator.next.Given as goal

abbrev pub invariant-loop-member : goal.invariant-loop-member
invariant-loop-member l =
    l.fn.self ≡ members_in l.self-inside.rest.now ++ flat_map members_in l.self-inside.values

abbrev pub decreases-loop-member : goal.decreases-loop-member
decreases-loop-member l = length l.self-inside.values
