-- One whose fingerprint none has isn't there.
use Rattle.std.proofs.Common.{◌≡◌, ◌∙◌, ◌≤◌, ℕ, List, ap, arith, rules, sym, false}
use Rattle.ws_suite.specs.InnerUnanswered.{print_count, fingerprint, with_print}
use Rattle.ws_suite.specs.Progress.{is_pong_owed}
use Rattle.ws_suite.proofs.PrintLemmas.{no_print}
use Rattle.ws_suite.proofs.evidence.unanswered.ControlPayloads.contains.Goals as goal

pub returns-then-not-is_counted : goal.returns-then-not-is_counted
returns-then-not-is_counted c =
    let print : c.fingerprint-print.result ≡ fingerprint c.args.payload.now = c.fingerprint-print.ensures in
    let none : print_count c.self.inside.prints c.fingerprint-print.result ≤ 0 = search rules in
    sym (ap (λ (l : List (List ℕ)). is_pong_owed c.args.payload.now l) (sym c.self.view_is)
    ∙ no_print c.args.payload.now c.self.inside.payloads
    (omega (
      arith,
      c.self.invariant c.fingerprint-print.result,
      none,
      ap (λ (n : ℕ). with_print n c.self.inside.payloads) print,
    )))
