-- The frames within the first bytes are a front of all frames that fits them and the limits, and no longer front does.
use Rattle.ws_session.proofs.Longest.{is_within, is_longest}
use Rattle.ws_session.proofs.laws.longest_front_within.Goals as goal

pub returns-clause-is : goal.returns-clause-is
returns-clause-is c = is_within

pub returns-clause-longest : goal.returns-clause-longest
returns-clause-longest c = is_longest
