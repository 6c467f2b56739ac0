-- The evidence has grown with what was taken.
use Rattle.std.proofs.Common.{◌++◌, ◌∷◌, [], List, ℕ, subst, take}
use Rattle.ws_suite.specs.Growing.{HasGrown, turn_with_sent}
use Rattle.ws_suite.specs.Progress.{NotesSent}
use Rattle.ws_tester.specs.Following.{TesterValue}
use Rattle.ws_tester.specs.Outgoings.{first_piece}
use Rattle.ws_tester.proofs.tester.Tester.on_taken.Goals as goal

pub returns-clause-grown : goal.returns-clause-grown
returns-clause-grown c = λ tested past turn.
    subst (λ (v : TesterValue). HasGrown tested (past ++ turn ∷ []) v.seen → HasGrown tested
    (past ++ turn_with_sent turn (take c.args.count (first_piece v.run.outgoing.rest)) ∷ []) c.on_sent.new.self)
    c.self.view_is
    (λ h. subst (λ (l : List ℕ). HasGrown tested (past ++ turn_with_sent turn (take c.args.count l) ∷ [])
    c.on_sent.new.self) c.piece.ensures (c.in_ok-on_sent.ensures.grown tested past turn h))

pub returns-clause-noted : goal.returns-clause-noted
returns-clause-noted c = λ tested past turn.
    subst (λ (v : TesterValue). HasGrown tested (past ++ turn ∷ []) v.seen
    → NotesSent tested (past ++ turn ∷ []) (take c.args.count (first_piece v.run.outgoing.rest)) v.run.pings
    c.on_sent.new.self.pings)
    c.self.view_is
    (λ h. subst (λ (l : List ℕ). NotesSent tested (past ++ turn ∷ []) (take c.args.count l)
    c.self.inside.evidence.pings c.on_sent.new.self.pings) c.piece.ensures
    (c.in_ok-on_sent.ensures.noted tested past turn h))
