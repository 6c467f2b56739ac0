-- The transcript of a tester and an application that sends no close of its own has the verdict Pass.
use Rattle.ws_suite.proofs.AppPasses.{app_passes}
use Rattle.ws_suite.proofs.laws.an_apps_transcript_passes.Goals as goal

pub returns : goal.returns
returns c = app_passes c.echo_reply_laws.ensures
