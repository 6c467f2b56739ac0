-- What is known of a run over any peer.
use Rattle.std.proofs.Common.{ℕ, List, Option, subst}
use Rattle.ws_scripts.specs.Scripts.{AreTurns}
use Rattle.wst_testing.proofs.case_server.run_over_tung.Goals as goal

pub returns : goal.returns
returns c =
    let (turns, are, talk, run, talked) = c.in_ok-transcript.ensures in
    record {
      turns = turns;
      are_turns = subst (λ (key : Option (List ℕ)). AreTurns c.args.case.now key turns) c.tester_key.ensures are;
      talk = talk;
      is_run = run;
    }
