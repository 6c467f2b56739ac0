-- The run of a script over an echo: RFC 6455 sections 5.4 to 5.6 and 7.1.
use Rattle.std.specs.Prelude.{ℕ, List, []}
use Rattle.ws_wire.specs.declared.role.Role.{Role}
use Rattle.ws_session.specs.Replies.{key_for}
use Rattle.ws_scripts.specs.Scripts.{AreTurns}
use Rattle.ws_scripts.specs.declared.script.Case.{Case}
use Rattle.ws_scripts.specs.declared.transcript.Transcript.{Transcript}
use Rattle.ws_suite.specs.Evidence.{other_role}
use Rattle.ws_peer.specs.Talks.{Entry, PeerEnd}
use Rattle.ws_peer.specs.EchoTalks.{IsEchoTalk}
use Rattle.ws_peer.specs.Runs.{IsRunOf}

-- the end that an echo of this role is, with this key
abbrev pub echo_end : Role → List ℕ → PeerEnd
echo_end role key = record { role = role; key = key; plan = [] }

-- The transcript of a script over a new echo of this role, where the client, be it the tester or the echo, masks with
-- this key: it is that of a run of the script's pieces, in a talk of an echo.
pub record IsEchoRun (tested : Role) (case : Case) (key : List ℕ) (transcript : Transcript) : Type 0 where
  pub turns : List (List (List ℕ))
  pub are_turns : AreTurns case (key_for (other_role tested) key) turns
  pub talk : List Entry
  pub is_run : IsRunOf turns talk transcript
  pub is_echo : IsEchoTalk (echo_end tested key) talk
