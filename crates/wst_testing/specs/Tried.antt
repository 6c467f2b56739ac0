-- Why there is no connection to a tested end, and the address at which that was refused.
use Rattle.std.specs.Prelude.{List, ℕ, [], ◌∷◌, codes}
use Rattle.wst_sockets.specs.Meetings.{miss_line}
use Rattle.wst_sockets.specs.declared.meeting.ConnectFault.{ConnectFault}
use Rattle.wst_sockets.specs.declared.meeting.ConnectFault.TheVariants as why
use Rattle.wst_testing.specs.declared.run_plans.TestedEnd.{TestedEnd}
use Rattle.wst_testing.specs.declared.run_plans.TestedEnd.TheVariants.{Clients, Memory, Server}

-- the second line, which tells an address
abbrev pub tried_texts : List ℕ → List (List ℕ)
tried_texts address = codes "  tried " ∷ address ∷ codes "\n" ∷ []

-- a server has the address at which a connection to it is made
abbrev pub address_notes : TestedEnd → List (List ℕ)
address_notes (Server target) = tried_texts target.address
address_notes (Memory end) = []
address_notes (Clients address) = []

-- where a connection was refused, its address is told
abbrev pub tried_notes : TestedEnd → ConnectFault → List (List ℕ)
tried_notes end why.Refused = address_notes end
tried_notes end why.NoSuchHost = []
tried_notes end why.Unreachable = []
tried_notes end why.TimedOut = []
tried_notes end why.NoAnswer = []
tried_notes end why.ClosedBeforeAnswer = []
tried_notes end why.Failed = []

-- why there is none, and below it that address
abbrev pub missed_notes : TestedEnd → ConnectFault → List (List ℕ)
missed_notes end why = miss_line why ∷ tried_notes end why
