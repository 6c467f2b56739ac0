-- A script run over an echo is a run of that echo, and the verdict on it is Pass.
use Rattle.std.proofs.Common.{[], ℕ, List, Option, subst}
use Rattle.ws_scripts.specs.Scripts.{AreTurns}
use Rattle.ws_peer.specs.EchoRuns.{echo_end}
use Rattle.ws_peer.proofs.EchoTalkLemmas.{sending_key}
use Rattle.ws_peer.proofs.echo_run.run_over_echo_as.Goals as goal

pub returns-clause-run : goal.returns-clause-run
returns-clause-run c =
    let (turns, are, talk, run, talked) = c.in_ok-transcript.ensures in
    let had = talked (echo_end c.args.tested c.args.key) [] c.with_role-peer.ensures.new in
    record {
      turns = turns;
      are_turns = subst (λ (key : Option (List ℕ)). AreTurns c.args.case.now key turns) c.tester_key.ensures are;
      talk = talk;
      is_run = run;
      is_echo = had.is_echo;
    }

pub returns-clause-passes : goal.returns-clause-passes
returns-clause-passes c =
    let (turns, are, talk, run, talked) = c.in_ok-transcript.ensures in
    let had = talked (echo_end c.args.tested c.args.key) [] c.with_role-peer.ensures.new in
    c.an_echos_run_passes.ensures (echo_end c.args.tested c.args.key) turns talk _ run had.is_echo (sending_key c.args.tested c.args.key c.has_key_bytes.ensures) had.after.exchanged.bytes
