-- The transcript of a tester and an application that keeps the protocol has no Fail.
use Rattle.ws_suite.proofs.AppFairness.{app_fails_nowhere}
use Rattle.ws_suite.proofs.laws.an_apps_transcript_fails_nowhere.Goals as goal

pub returns : goal.returns
returns c = app_fails_nowhere c.echo_reply_laws.ensures
