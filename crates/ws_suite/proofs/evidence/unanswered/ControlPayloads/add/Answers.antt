-- The fingerprint of the ping that was sent is counted once more.
use Rattle.std.proofs.Common.{◌≡◌, ◌∙◌, ◌+◌, ◌==◌, ℕ, ap, arith}
use Rattle.ws_suite.specs.InnerUnanswered.{print_count, fingerprint}
use Rattle.ws_suite.proofs.PrintLemmas.{counts_more, one_if, print_more}
use Rattle.ws_suite.proofs.evidence.unanswered.ControlPayloads.add.Goals as goal

pub invariant_of-self-2 : goal.invariant_of-self-2
invariant_of-self-2 c =
    let x = c.self.inside in
    let counts = c.count_one.new.prints in
    let payload = c.args.payload.now in
    let own : c.fingerprint.result ≡ fingerprint payload = c.fingerprint.ensures in
    let changes = c.in_ok-count_one.ensures.ok in
    λ print.
    let listed =
    counts_more (λ n. print_count x.prints n) (λ n. print_count counts n) c.fingerprint.result changes.other_prints
    changes.this_print print in
    let counted : print_count counts print ≡ print_count x.prints print + one_if (fingerprint payload == print) =
    listed ∙ ap (λ (n : ℕ). print_count x.prints print + one_if (n == print)) own in
    let push = c.push.ensures in
    let pings = print_more c.push.result x.payloads c.push.new.self payload print push.ok push.err in
    omega (arith, counted, pings, c.self.invariant print)
