-- The transcript of an application's run is an application's transcript, which fails nowhere, and passes where it closes
-- nothing by itself.
use Rattle.ws_peer.proofs.AppTranscripts.{app_transcript}
use Rattle.ws_peer.proofs.laws.an_apps_run_is_fair.Goals as goal

pub returns : goal.returns
returns c = λ tested turns talk said transcript run is is_key bytes.
    record {
      no_fail = λ all why. c.an_apps_transcript_fails_nowhere.ensures tested.role transcript why (app_transcript c.app_laws.ensures tested is_key turns talk said transcript run is bytes all).0;
      passes = λ all none.
          let fair = app_transcript c.app_laws.ensures tested is_key turns talk said transcript run is bytes all in
          c.an_apps_transcript_passes.ensures tested.role transcript fair.0 (fair.1 none);
    }
