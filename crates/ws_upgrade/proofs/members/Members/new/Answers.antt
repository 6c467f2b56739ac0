-- Nothing has no members.
use Rattle.std.proofs.Common.{refl}
use Rattle.ws_upgrade.proofs.MemberLemmas.{members_in-nil}
use Rattle.ws_upgrade.proofs.members.Members.new.Goals as goal

pub returns : goal.returns
returns c = rw members_in-nil refl
