-- The laws on which the proofs about an echo's transcript rest hold: they are laws of the layers below.
use Rattle.std.proofs.Common.{◌≢◌, [], refl, arith, lit≤}
use Rattle.ws_wire.specs.declared.role.Role.{Role}
use Rattle.ws_wire.specs.declared.role.Role.TheVariants.{Client, Server}
use Rattle.ws_session.specs.Replies.{echo_reply_to}
use Rattle.ws_session.specs.Sends.{most_limits}
use Rattle.ws_session.specs.Validity.{AreValidFrames}
use Rattle.ws_suite.specs.Evidence.{other_role}
use Rattle.ws_suite.proofs.lemmas.echo_reply_laws.Goals as goal

nothing_valid : AreValidFrames most_limits []
nothing_valid = record { each = tt; sizes = tt; close = tt; finished = tt; unfinished = record { frames = tt; size = lit≤ tt; text = tt } }

differ : (role : Role) → role ≢ other_role role
differ Client e = absurd cc
differ Server e = absurd cc

pub returns : goal.returns
returns c = record {
  frames = c.frame_laws.ensures;
  session = c.session_laws.ensures;
  some = c.every_stream_has_events.ensures.events;
  close_last = λ role bytes events later close h. c.the_end_comes_last.ensures.close role most_limits bytes events later close h;
  fault_last = λ role bytes events later reason h. c.the_end_comes_last.ensures.fault role most_limits bytes events later reason h;
  go_on = c.replies_go_on.ensures echo_reply_to;
  valid = λ role bytes events h. c.echo_replies_stay_valid.ensures.valid most_limits most_limits (omega arith) (omega arith) role bytes [] events [] h nothing_valid refl;
  layout = λ role key bytes events h is_key. c.echo_replies_can_be_sent.ensures role role most_limits bytes key [] events [] h (lit≤ tt) is_key;
  keys = λ role key frames. c.keys_fit_the_other_role.ensures role (other_role role) key frames (differ role);
}
