-- The last lines are written behind the others.
use Rattle.std.proofs.Common.{subst, sym}
use Rattle.ws_networks.specs.declared.meeting.Met.{Met}
use Rattle.ws_shown.specs.declared.shown_probe.ShownEnd.{ShownEnd}
use Rattle.wst_network.specs.declared.connector.ConnectMiss.{ConnectMiss}
use Rattle.wst_testing.specs.Servers.{IsShownMeeting}
use Rattle.wst_testing.proofs.address_server.end_shown.Goals as goal

pub returns-in_ok-write_last-in-Ended-clause-meeting : goal.returns-in_ok-write_last-in-Ended-clause-meeting
returns-in_ok-write_last-in-Ended-clause-meeting g c =
    subst (λ (m : Met ShownEnd g.row.S.Denot ConnectMiss). IsShownMeeting m c.meeting_of.result) (sym c.in-Ended.is)
    (c.stream_end.result, c.meeting_of.ensures)
