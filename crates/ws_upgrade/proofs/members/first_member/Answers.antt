-- A value of which nothing is left has no members.
use Rattle.std.proofs.Common.{rules, ap, ◌∙◌, ◌≡◌, []}
use Rattle.std.proofs.lemmas.List.{nil_from_length}
use Rattle.ws_upgrade.specs.Members.{members_in}
use Rattle.ws_upgrade.proofs.MemberLemmas.{members_in-nil}
use Rattle.ws_upgrade.proofs.members.first_member.Goals as goal

pub returns : goal.returns
returns c =
    let empty : c.loop-rest.rest.now ≡ [] = nil_from_length c.loop-rest.rest.now (search rules) in
    c.loop-rest.invariant ∙ ap members_in empty ∙ members_in-nil
