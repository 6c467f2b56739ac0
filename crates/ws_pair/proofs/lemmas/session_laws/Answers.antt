-- The laws on which the proofs about a link rest hold of each session: they are laws of the layer below.
use Rattle.ws_session.specs.Replies.{reply_to}
use Rattle.ws_pair.proofs.lemmas.session_laws.Goals as goal

pub returns : goal.returns
returns c = record {
  one_list = c.one_list_of_events.ensures;
  go_on = c.events_go_on.ensures;
  replies = c.replies_go_on.ensures reply_to;
  frames_stay = c.appended_frames_are_not_within.ensures.frames;
  after_close = c.more_bytes_after_the_last.ensures.close;
  told = c.valid_frames_are_told.ensures;
  messages = c.messages_are_told.ensures;
  sends_stay = c.sends_stay_valid.ensures;
  replies_stay = c.replies_stay_valid.ensures;
  replies_can = c.replies_can_be_sent.ensures;
}
