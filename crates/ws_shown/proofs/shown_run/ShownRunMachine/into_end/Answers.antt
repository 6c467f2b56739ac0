-- What comes of a run whose lines were wanted.
use Rattle.std.proofs.Common.{subst}
use Rattle.ws_shown.specs.ShownTesters.{EndsShown}
use Rattle.ws_shown.specs.declared.shown_tester.ShownTester.{ShownTester}
use Rattle.ws_shown.proofs.RunShownLemmas.{ends_run}
use Rattle.ws_shown.proofs.shown_run.ShownRunMachine.into_end.Goals as goal

pub returns : goal.returns
returns c = λ start told h. ends_run start c.args.self told
    (record { transcript = c.in_ok-transcript.transcript; last = c.in_ok-transcript.last })
    (subst (λ (x : ShownTester). EndsShown x c.in_ok-transcript.transcript c.in_ok-transcript.last.items) c.self.view_is
    c.in_ok-transcript.ensures) h
