-- Spaces and tabs trimmed at the start and then at the end are trimmed at both ends.
use Rattle.std.proofs.Common.{rules}
use Rattle.httparse.specs.Grammar.{trim_ows}
use Rattle.ws_upgrade.proofs.members.trim.Goals as goal

pub returns : goal.returns
unfolding trim_ows
returns c = search rules
