-- The piece after the one that is next, or no piece where there is none.
use Rattle.std.proofs.Common.{◌∙◌, ◌<◌, ◌≤◌, ◌^◌, ap, length, rules, sym}
use Rattle.ws_tester.specs.Outgoings.{OutgoingValue}
use Rattle.ws_tester.proofs.OutgoingLemmas.{no_piece_on, one_piece_on}
use Rattle.ws_tester.proofs.outgoing.Outgoing.next_piece.Goals as goal

pub returns-then-next-len-clause-rest : goal.returns-then-next-len-clause-rest
returns-then-next-len-clause-rest c =
    let turn = c.self.inside.turn in
    let next = c.saturating_add-next.result in
    let rest = ap (λ (v : OutgoingValue). v.rest) (sym c.self.view_is) in
    let more : next < length turn = search rules in
    let fits : length turn < 2 ^ 64 = search rules in
    one_piece_on turn c.args.self.now.rest c.self.inside.number next c.self.inside.sent rest
    c.saturating_add-next.ensures more fits

pub returns-else-next-len-clause-rest : goal.returns-else-next-len-clause-rest
returns-else-next-len-clause-rest c =
    let turn = c.self.inside.turn in
    let next = c.saturating_add-next.result in
    let rest = ap (λ (v : OutgoingValue). v.rest) (sym c.self.view_is) in
    let none : length turn ≤ next = search rules in
    c.stop.ensures.rest
    ∙ no_piece_on turn c.args.self.now.rest c.self.inside.number next c.self.inside.sent rest
    c.saturating_add-next.ensures none
