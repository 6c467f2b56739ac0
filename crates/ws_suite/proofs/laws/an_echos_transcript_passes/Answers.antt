-- The transcript of a tester and an echo has the verdict Pass, whatever was sent.
use Rattle.ws_suite.proofs.FairEvidence.{echo_passes}
use Rattle.ws_suite.proofs.laws.an_echos_transcript_passes.Goals as goal

pub returns : goal.returns
returns c = echo_passes c.echo_reply_laws.ensures
