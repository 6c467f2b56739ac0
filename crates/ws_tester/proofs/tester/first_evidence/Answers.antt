-- What was got has grown in a first turn.
use Rattle.std.proofs.Common.{◌∙◌, ◌<◌, ◌+◌, ◌^◌, [], List, ℕ, ap, arith}
use Rattle.ws_suite.specs.Growing.{new_turn}
use Rattle.ws_suite.specs.Progress.{after_pongs}
use Rattle.ws_tester.proofs.BeginLemmas.{no_pings}
use Rattle.ws_tester.proofs.tester.first_evidence.Goals as goal

pub returns-clause-grown : goal.returns-clause-grown
returns-clause-grown c =
    let room : 0 + 1 < 2 ^ 64 = omega arith in
    c.in_ok-on_got.ensures.grown c.args.tested [] new_turn
    (c.begin_turn.ensures.grown c.args.tested [] room c.new-evidence.ensures.grown)

pub returns-clause-pings : goal.returns-clause-pings
returns-clause-pings c =
    let room : 0 + 1 < 2 ^ 64 = omega arith in
    let noted = c.in_ok-on_got.ensures.noted c.args.tested [] new_turn
    (c.begin_turn.ensures.grown c.args.tested [] room c.new-evidence.ensures.grown) in
    noted.pings ∙ ap (λ (l : List (List ℕ)). after_pongs l noted.later)
    (c.begin_turn.ensures.pings ∙ c.new-evidence.ensures.pings) ∙ no_pings noted.later
