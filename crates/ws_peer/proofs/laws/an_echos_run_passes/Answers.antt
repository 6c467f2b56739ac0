-- The transcript of an echo's run is an echo's transcript, whose verdict is Pass.
use Rattle.ws_peer.proofs.EchoTranscripts.{echo_transcript}
use Rattle.ws_peer.proofs.laws.an_echos_run_passes.Goals as goal

pub returns : goal.returns
returns c = λ tested turns talk transcript run echo is_key bytes. c.an_echos_transcript_passes.ensures tested.role transcript (echo_transcript c.echo_laws.ensures tested is_key turns talk transcript run echo bytes)
