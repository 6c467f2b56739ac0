-- The evidence has grown with one turn more.
use Rattle.std.proofs.Common.{◌<◌, ◌+◌, ◌^◌, ◌++◌, ◌∷◌, [], List, arith, length, length-append, subst}
use Rattle.ws_scripts.specs.declared.transcript.Turn.{Turn}
use Rattle.ws_suite.specs.Growing.{HasGrown, new_turn}
use Rattle.ws_tester.specs.Following.{TesterValue}
use Rattle.ws_tester.specs.RunStates.{turns_of_run}
use Rattle.ws_tester.proofs.tester.Tester.begin_next_turn.Goals as goal

pub returns-clause-grown : goal.returns-clause-grown
returns-clause-grown c = λ tested.
    let turn : Turn = record { sent = c.self.inside.sent.items; got = c.self.inside.got.items } in
    let turns : List Turn = c.self.inside.past.items ++ turn ∷ [] in
    let room : length turns + 1 < 2 ^ 64 = omega (
      arith,
      c.self.inside.past.ok,
      c.self.inside.past.small,
      length-append c.self.inside.past.items (turn ∷ []),
    ) in
    subst (λ (v : TesterValue). HasGrown tested (turns_of_run v.run) v.seen
    → HasGrown tested (turns_of_run v.run ++ new_turn ∷ []) c.begin_turn.new.self) c.self.view_is
    (λ h. c.begin_turn.ensures.grown tested turns room h)
