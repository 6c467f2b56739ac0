-- The first colon stands behind the name.
use Rattle.std.proofs.Common.{rules}
use Rattle.ws_connection.proofs.HeaderLemmas.{colon_at, no_colon}
use Rattle.ws_connection.proofs.request_headers.name_length.Goals as goal

pub returns-in-Some-clause-length : goal.returns-in-Some-clause-length
returns-in-Some-clause-length c = (colon_at c.args.word.now c.in-Some.at (search rules)).0

pub returns-in-None-clause-length : goal.returns-in-None-clause-length
returns-in-None-clause-length c = no_colon c.args.word.now (search rules)
