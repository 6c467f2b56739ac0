-- The cut is at the first byte, and there is none where no byte passes.
use Rattle.std.proofs.Common.{rules, ◌∙◌, ◌+◌, ap, sym, ℕ, take, drop, arith}
use Rattle.std.proofs.lemmas.List.{take_rest}
use Rattle.ws_paths.proofs.Naming.{marks_at}
use Rattle.ws_paths.proofs.named_case.cut_at.Goals as goal

pub returns : goal.returns
returns c =
    let (at, within) = marks_at c.args.mark c.args.bytes.now c.in_ok-at.at (search rules) in (
      omega (arith, at, within),
      ap (λ (n : ℕ). take n c.args.bytes.now) (sym at),
      take_rest c.args.bytes.now (c.in_ok-at.at + 1) ∙ ap (λ (n : ℕ). drop (n + 1) c.args.bytes.now) (sym at),
    )
