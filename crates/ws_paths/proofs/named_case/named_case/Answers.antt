-- A number that is no case's names none.
use Rattle.std.proofs.Common.{rules, arith, inl, inr}
use Rattle.std.proofs.lemmas.Bool.Decides.{nat_tests}
use Rattle.std.specs.List.{slice_split}
use Rattle.ws_paths.specs.Paths.{is_ampersand}
use Rattle.ws_paths.proofs.Naming.{none_beyond}
use Rattle.ws_paths.proofs.named_case.named_case.Goals as goal
use Rattle.ws_paths.proofs.named_case.named_case.Goals.{then-number-eq0-via-then-number-eq0, then-number-eq0-via-else-number-eq0+then-number-count}

pub returns-then-number-eq0 : goal.returns-then-number-eq0
returns-then-number-eq0 c =
    none_beyond c.args.count c.in_ok-number.number (slice_split is_ampersand c.args.query.now) c.in-Once.word.now
    (search rules) (search rules) (search rules) (elim c.then-number-eq0.branch [
      | then-number-eq0-via-then-number-eq0 w ↦ inl (let h = w.if-number-eq0 in grind (arith, nat_tests))
      | then-number-eq0-via-else-number-eq0+then-number-count w ↦ inr (let h = w.if-number-count in grind (arith, nat_tests))
    ])
