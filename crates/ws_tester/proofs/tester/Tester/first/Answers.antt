-- What came with the head stands so in a first turn.
use Rattle.std.proofs.Common.{◌∷◌, [], List, ℕ, subst, sym}
use Rattle.ws_scripts.specs.declared.transcript.Turn.{Turn}
use Rattle.ws_suite.specs.Growing.{HasGrown}
use Rattle.ws_tester.proofs.tester.Tester.first.Goals as goal

pub returns-clause-stands : goal.returns-clause-stands
returns-clause-stands c =
    let turn : Turn = record { sent = []; got = c.args.first.items } in
    c.in_ok-standing.ensures turn (sym c.as_slice-2.ensures.value)
    (subst (λ (l : List ℕ). HasGrown c.args.plan.tested (record { sent = []; got = l } ∷ [])
    c.in_ok-evidence.evidence)
    c.as_slice.ensures.value c.in_ok-evidence.ensures.grown)
