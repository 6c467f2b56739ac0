-- The laws on which the proofs about an echo's run rest hold: they are laws of the layer below.
use Rattle.std.proofs.Common.{[]}
use Rattle.ws_session.specs.Replies.{echo_reply_to}
use Rattle.ws_session.specs.Sends.{most_limits}
use Rattle.ws_echo.proofs.Echoing.{nothing_is_valid}
use Rattle.ws_echo.proofs.lemmas.echo_laws.Goals as goal

pub returns : goal.returns
returns c = record {
  nothing = λ role limits. c.valid_frames_are_told.ensures role limits most_limits 0 [] tt tt nothing_is_valid;
  one_list = c.one_list_of_events.ensures;
  go_on = c.events_go_on.ensures;
  replies = λ events later. c.replies_go_on.ensures echo_reply_to [] events later;
}
