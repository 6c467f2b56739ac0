-- A script run over an application is a run of that application, and the verdict on it is fair.
use Rattle.std.proofs.Common.{[], ℕ, List, Option, ◌∙◌, subst}
use Rattle.ws_wire.specs.Header.{AreBytes}
use Rattle.ws_scripts.specs.Scripts.{AreTurns}
use Rattle.ws_peer.specs.Talks.{fed_in}
use Rattle.ws_peer.specs.Apps.{app_end, planned_in}
use Rattle.ws_peer.proofs.EchoTalkLemmas.{sending_key}
use Rattle.ws_peer.proofs.AppTalkLemmas.{all_fed}
use Rattle.ws_peer.proofs.app_run.run_over_app.Goals as goal

pub returns : goal.returns
returns c =
    let (turns, are, talk, run, talked) = c.in_ok-transcript.ensures in
    let end = app_end c.args.tested c.args.key (planned_in c.args.plan.items) in
    let had = talked end [] c.new-peer.ensures.new in
    let bytes : AreBytes (fed_in talk) = subst (λ (l : List ℕ). AreBytes l) (had.fed ∙ all_fed end talk had.said had.is_app) had.bytes in (
      turns,
      record {
        are_turns = subst (λ (key : Option (List ℕ)). AreTurns c.args.case.now key turns) c.tester_key.ensures are;
        talk = talk;
        is_run = run;
        said = had.said;
        is_app = had.is_app;
      },
      c.an_apps_run_is_fair.ensures end turns talk had.said _ run had.is_app (sending_key c.args.tested c.args.key c.has_key_bytes.ensures) bytes,
    )
