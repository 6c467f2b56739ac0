-- The frame under way is doomed exactly where all that the session took ends doomed.
use Rattle.ws_session.proofs.DoomedStreams.{doomed_stream}
use Rattle.ws_session.proofs.session.Session.is_doomed.Goals as goal

pub returns-clause-stream : goal.returns-clause-stream
returns-clause-stream c = doomed_stream c.self.inside.state c.args.self.now c.is_doomed.result c.self.view_is
    c.is_doomed.ensures.doomed
