-- The end of the run is asked for where the client asks for that.
use Rattle.wst_clients.proofs.visiting.end_by.Goals as goal

pub returns-in-UpdateReports-clause-stay : goal.returns-in-UpdateReports-clause-stay
returns-in-UpdateReports-clause-stay g c = λ known wait asked are.
    c.ask_end.ensures.stay known wait (asked c.in-UpdateReports.is) are
