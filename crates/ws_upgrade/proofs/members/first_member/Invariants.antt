-- Member after member: those passed so far were empty, so the members of the value are those of the rest.
use Rattle.std.proofs.Common.{◌≡◌, length}
use Rattle.ws_upgrade.specs.Members.{members_in}
use Rattle.ws_upgrade.proofs.members.first_member.Given as goal

abbrev pub invariant-loop-rest : goal.invariant-loop-rest
invariant-loop-rest l = members_in l.fn.value ≡ members_in l.rest

abbrev pub decreases-loop-rest : goal.decreases-loop-rest
decreases-loop-rest l = length l.rest
