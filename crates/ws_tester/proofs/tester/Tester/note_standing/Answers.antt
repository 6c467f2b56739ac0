-- It stands as what was got in the turns so far does.
use Rattle.std.proofs.Common.{◌≡◌, ◌++◌, ◌∷◌, [], List, subst, sym}
use Rattle.ws_scripts.specs.declared.transcript.Turn.{Turn}
use Rattle.ws_suite.specs.Growing.{HasGrown}
use Rattle.ws_tester.specs.Following.{StandsNow, TesterValue}
use Rattle.ws_tester.specs.Outcomes.{got_in_all}
use Rattle.ws_tester.specs.Standings.{StandsAs}
use Rattle.ws_tester.proofs.tester.Tester.note_standing.Goals as goal

pub returns-clause-stands : goal.returns-clause-stands
returns-clause-stands c =
    let inside = c.self.inside in
    let turn : Turn = record { sent = inside.sent.items; got = inside.got.items } in
    subst (λ (v : TesterValue). StandsNow v c.in_ok-self-inside.field-0) c.self.view_is
    (λ grown closed. subst (λ (l : List Turn). HasGrown inside.plan.tested (l ++ turn ∷ []) inside.evidence
    → StandsAs inside.plan.tested inside.plan.expected c.in_ok-self-inside.field-0 (got_in_all (l ++ turn ∷ [])))
    c.as_slice.ensures.value (c.in_ok-self-inside.ensures turn (sym c.as_slice-2.ensures.value)) grown)
