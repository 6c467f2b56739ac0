-- The laws on which the proofs about an application's talk rest hold: they are laws of the layer below.
use Rattle.std.proofs.Common.{[]}
use Rattle.ws_session.specs.Sends.{most_limits}
use Rattle.ws_peer.proofs.AppReplies.{end_is_last}
use Rattle.ws_echo.proofs.Echoing.{nothing_is_valid}
use Rattle.ws_peer.proofs.lemmas.app_laws.Goals as goal

pub returns : goal.returns
returns c = record {
  nothing = λ role. c.valid_frames_are_told.ensures role most_limits most_limits 0 [] tt tt nothing_is_valid;
  some = λ role bytes. c.every_stream_has_events.ensures.events role most_limits bytes;
  one_list = λ role. c.one_list_of_events.ensures role most_limits;
  go_on = λ role. c.events_go_on.ensures role most_limits;
  end_last = λ role bytes events later e. end_is_last role bytes events later (λ close. c.the_end_comes_last.ensures.close role most_limits bytes events later close)
      (λ reason. c.the_end_comes_last.ensures.fault role most_limits bytes events later reason) e;
  valid = λ role. c.replies_stay_valid.ensures role most_limits most_limits;
  can = λ role bytes key. c.replies_can_be_sent.ensures role role most_limits bytes key;
}
