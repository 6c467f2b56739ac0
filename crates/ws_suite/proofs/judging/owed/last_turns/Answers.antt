-- The turns of both are noted, behind nothing; what was asked for stays so.
use Rattle.std.proofs.Common.{[]}
use Rattle.ws_suite.proofs.LastTurns.{no_turns}
use Rattle.ws_suite.proofs.judging.owed.last_turns.Goals as goal

pub returns-clause-last : goal.returns-clause-last
returns-clause-last c =
    c.in_ok-note_turns-2.ensures.last c.args.got
    (c.in_ok-note_turns.ensures.last [] (no_turns c.in_ok-turns.turns c.in_ok-turns.ensures.nothing))

pub returns-clause-asked : goal.returns-clause-asked
returns-clause-asked c =
    c.in_ok-note_turns-2.ensures.asked c.args.pings
    (c.in_ok-note_turns.ensures.asked c.args.pings c.in_ok-turns.ensures.asked)
