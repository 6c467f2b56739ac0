-- What the judged end was sent behind what it sent begins a turn.
use Rattle.std.proofs.Common.{◌≡◌, ◌∙◌, ◌<◌, List, ℕ, IfOk, ap, arith, length, subst, sym}
use Rattle.ws_followed.proofs.TurnSteps.{begun_ok, begun_with}
use Rattle.ws_followed.proofs.turns.OpenTurns.with.Goals as goal

pub returns-then-bytes-self : goal.returns-then-bytes-self
returns-then-bytes-self c =
    let turns = c.args.self in
    let same = c.as_slice-bytes.ensures in
    begun_ok c.args.judged turns c.args.segment.now (sym c.is_node.ensures ∙ c.if-is_node.false)
    (omega (arith, c.len.ensures, c.if-len-gt0.true))
    (omega (arith, c.if-bytes-self.true, ap (λ (l : List ℕ). length l) same)) c.begun.result
    (subst (λ (l : List ℕ). IfOk c.begun.result (λ longer. longer ≡ begun_with turns l)) same c.begun.ensures)
