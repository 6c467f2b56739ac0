-- A pong whose fingerprint no ping has answers none; the fingerprint of the ping that one answers is counted once less.
use Rattle.std.proofs.Common.{◌≡◌, ◌∙◌, ◌≤◌, ◌+◌, ◌==◌, ℕ, List, ap, arith, rules, sym, false, true}
use Rattle.ws_suite.specs.InnerUnanswered.{print_count, fingerprint, with_print}
use Rattle.ws_suite.specs.Progress.{is_pong_owed}
use Rattle.ws_suite.proofs.PrintLemmas.{counts_less, no_print, one_if, print_less}
use Rattle.ws_suite.proofs.UnansweredLemmas.{none_found}
use Rattle.ws_suite.proofs.evidence.unanswered.ControlPayloads.answer.Goals as goal

none_owed : (c : goal.Then-not-is_counted) → is_pong_owed c.args.payload.now c.args.self.now ≡ false
none_owed c =
    let print : c.fingerprint-print.result ≡ fingerprint c.args.payload.now = c.fingerprint-print.ensures in
    let none : print_count c.self.inside.prints c.fingerprint-print.result ≤ 0 = search rules in
    ap (λ (l : List (List ℕ)). is_pong_owed c.args.payload.now l) (sym c.self.view_is)
    ∙ no_print c.args.payload.now c.self.inside.payloads
    (omega (
      arith,
      c.self.invariant c.fingerprint-print.result,
      none,
      ap (λ (n : ℕ). with_print n c.self.inside.payloads) print,
    ))

pub returns-then-not-is_counted-clause-owed : goal.returns-then-not-is_counted-clause-owed
returns-then-not-is_counted-clause-owed c = sym (none_owed c)

pub returns-then-not-is_counted-clause-left : goal.returns-then-not-is_counted-clause-left
returns-then-not-is_counted-clause-left c = none_found c.args.payload.now c.args.self.now (none_owed c)

pub invariant_of-self : goal.invariant_of-self
invariant_of-self c =
    let none : is_pong_owed c.args.payload.now c.self.inside.payloads ≡ false = search rules in
    let same : c.take_out.new.self ≡ c.self.inside.payloads =
    c.take_out.ensures.left ∙ sym (none_found c.args.payload.now c.self.inside.payloads none) in
    λ print. omega (arith, c.self.invariant print, ap (λ (l : List (List ℕ)). with_print print l) same)

pub invariant_of-self-2 : goal.invariant_of-self-2
invariant_of-self-2 c =
    let x = c.self.inside in
    let payload = c.args.payload.now in
    let counts = c.discount_one.new.prints in
    let owed : is_pong_owed payload x.payloads ≡ true = search rules in
    let changes = c.discount_one.ensures in
    λ print.
    let counted : print_count x.prints print ≤ print_count counts print + one_if (c.fingerprint-print.result == print) =
    counts_less (λ n. print_count x.prints n) (λ n. print_count counts n) c.fingerprint-print.result
    changes.other_prints changes.this_print print in
    omega (
      arith,
      counted,
      ap (λ (n : ℕ). one_if (n == print)) c.fingerprint-print.ensures,
      ap (λ (l : List (List ℕ)). with_print print l) c.take_out.ensures.left,
      print_less print payload x.payloads owed,
      c.self.invariant print,
    )
