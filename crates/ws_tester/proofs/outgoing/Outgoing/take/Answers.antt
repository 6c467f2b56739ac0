-- A part of the first piece is sent, or all of it.
use Rattle.std.proofs.Common.{◌≡◌, ◌<◌, ◌-◌, ◌≤◌, ◌∙◌, List, ℕ, ap, arith, drop, length, rules, sym}
use Rattle.std.proofs.lemmas.List.{length-drop}
use Rattle.ws_tester.specs.Outgoings.{OutgoingValue, first_piece, without_front}
use Rattle.ws_tester.proofs.OutgoingLemmas.{first_from, part_sent, rest_of_first, whole_sent}
use Rattle.ws_tester.proofs.outgoing.Outgoing.take.Goals as goal

pub returns-then-count-left-clause-rest : goal.returns-then-count-left-clause-rest
returns-then-count-left-clause-rest c =
    let pieces = drop c.self.inside.number c.self.inside.turn in
    let sent = c.self.inside.sent in
    let is : c.piece.result.now ≡ first_piece pieces =
    c.piece.ensures ∙ sym (first_from c.self.inside.turn c.self.inside.number) in
    let left : c.saturating_sub-left.result ≡ length c.piece.result.now - sent = search rules in
    let less : c.args.count < length (first_piece pieces) - sent =
    omega (arith, c.if-count-left.true, left, ap (λ (l : List ℕ). length l) is) in
    part_sent pieces sent c.args.count less ∙ ap (λ (v : OutgoingValue). without_front c.args.count v.rest)
    c.self.view_is

pub returns-else-count-left-clause-rest : goal.returns-else-count-left-clause-rest
returns-else-count-left-clause-rest c =
    let pieces = drop c.self.inside.number c.self.inside.turn in
    let sent = c.self.inside.sent in
    let rest = c.args.self.now.rest in
    let is : c.piece.result.now ≡ first_piece pieces =
    c.piece.ensures ∙ sym (first_from c.self.inside.turn c.self.inside.number) in
    let left : c.saturating_sub-left.result ≡ length c.piece.result.now - sent = search rules in
    let first : first_piece rest ≡ drop sent (first_piece pieces) =
    ap (λ (v : OutgoingValue). first_piece v.rest) (sym c.self.view_is) ∙ rest_of_first pieces sent in
    let long : length (first_piece rest) ≡ length (first_piece pieces) - sent =
    ap (λ (l : List ℕ). length l) first ∙ length-drop sent (first_piece pieces) in
    let all : length (first_piece rest) ≤ c.args.count =
    omega (arith, c.if-count-left.false, left, long, ap (λ (l : List ℕ). length l) is) in
    c.next_piece.ensures.rest ∙ whole_sent rest c.args.count all
