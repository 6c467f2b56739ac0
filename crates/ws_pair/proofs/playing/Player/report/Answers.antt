-- The report is of the moves that were played.
use Rattle.std.proofs.Common.{refl}
use Rattle.ws_pair.proofs.Stepping.{reported}
use Rattle.ws_pair.proofs.playing.Player.report.Goals as goal

pub returns : goal.returns
returns c = λ client server first moves new played.
    let of_client = c.into_report.ensures in
    let of_server = c.into_report-2.ensures in
    reported c.session_laws.ensures client server first c.args.self moves
    (record { answers = c.args.self.answers; client = c.into_report.result; server = c.into_report-2.result }) new played
    refl
    (record {
      put = of_client.put;
      reached = of_client.reached;
      delivered = of_client.delivered;
      status = of_client.status;
      session = of_client.session;
    })
    (record {
      put = of_server.put;
      reached = of_server.reached;
      delivered = of_server.delivered;
      status = of_server.status;
      session = of_server.session;
    })
