-- The evidence has grown with what came.
use Rattle.std.proofs.Common.{◌≡◌, ◌++◌, ◌∷◌, [], true, subst}
use Rattle.ws_session.specs.Exchange.{is_over}
use Rattle.ws_suite.specs.Growing.{HasGrown, turn_with_got}
use Rattle.ws_suite.specs.Progress.{NotesGot}
use Rattle.ws_tester.specs.Following.{TesterValue}
use Rattle.ws_tester.proofs.tester.Tester.keep_came.Goals as goal

pub returns-clause-grown : goal.returns-clause-grown
returns-clause-grown c = λ tested past turn.
    subst (λ (v : TesterValue). HasGrown tested (past ++ turn ∷ []) v.seen
    → HasGrown tested (past ++ turn_with_got turn c.args.piece.now ∷ []) c.on_got.new.self)
    c.self.view_is (λ h. c.in_ok-progress.ensures.grown tested past turn h)

pub returns-clause-noted : goal.returns-clause-noted
returns-clause-noted c = λ tested past turn.
    subst (λ (v : TesterValue). HasGrown tested (past ++ turn ∷ []) v.seen
    → NotesGot tested (past ++ turn ∷ []) c.args.piece.now v.run.pings c.on_got.new.self.pings
    c.in_ok-progress.progress)
    c.self.view_is (λ h. c.in_ok-progress.ensures.noted tested past turn h)

pub returns-clause-over : goal.returns-clause-over
returns-clause-over c = subst (λ (v : TesterValue). is_over v.seen.tester.status ≡ true
    → c.on_got.new.self.tester ≡ v.seen.tester) c.self.view_is c.in_ok-progress.ensures.over
