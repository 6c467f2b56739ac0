-- None waits where no head is there.
use Rattle.std.proofs.Common.{◌∙◌, ◌≤◌, length, sym, arith}
use Rattle.std.proofs.lemmas.Bool.Decides.{nat_tests}
use Rattle.ws_suite.proofs.WaitLemmas.{none_waits, some_waits}
use Rattle.ws_suite.proofs.evidence.kept.waiting.Waiting.is_empty.Goals as goal

pub returns : goal.returns
returns c =
    let x = c.self.inside in (
      λ e.
          let less : length x.heads.items ≤ x.heads_gone = grind (arith, nat_tests, e) in
          sym c.self.view_is ∙ none_waits x.heads.items x.payloads.items x.heads_gone x.bytes_gone less,
      λ none.
          let less = some_waits x.heads.items x.payloads.items x.heads_gone x.bytes_gone (c.self.view_is ∙ none) in
          grind (arith, nat_tests, less),
    )
