-- The members of a value are what stands before its first comma, if there is anything, and the members of what follows.
use Rattle.std.proofs.Common.{rules, ◌+◌}
use Rattle.std.proofs.lemmas.List.{take_rest}
use Rattle.ws_upgrade.proofs.MemberLemmas.{members_in-at, members_in-no_comma}
use Rattle.ws_upgrade.proofs.members.cut.Goals as goal

pub returns-in-Some-clause-members : goal.returns-in-Some-clause-members
returns-in-Some-clause-members c =
    rw (take_rest c.args.value.now (c.in-Some.at + 1)) (members_in-at c.args.value.now c.in-Some.at (search rules))

pub returns-in-None-clause-members : goal.returns-in-None-clause-members
returns-in-None-clause-members c = members_in-no_comma c.args.value.now (search rules)
