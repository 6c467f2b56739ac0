-- A word spells one number alone.
use Rattle.std.proofs.Common.{◌≡◌, ◌∙◌, arith, sym}
use Rattle.std.proofs.lemmas.Fmt.{decimal_injective}
use Rattle.wst_commands.proofs.time_limit.count_given.Goals as goal
use Rattle.wst_commands.proofs.time_limit.count_given.Goals.{else-count-ge1-via-else-count-ge1}
use Rattle.wst_commands.proofs.time_limit.count_given.Goals.{else-count-ge1-via-then-count-ge1+else-count-most}

pub returns-else-count-ge1 : goal.returns-else-count-ge1
returns-else-count-ge1 c = λ value is.
    let read = c.in_ok-count.ensures in
    let bound = c.requires in
    let same : value ≡ c.in_ok-count.count = decimal_injective value c.in_ok-count.count
    (omega (arith, is.1.0, bound)) (omega (arith, read.0)) (sym is.1.1 ∙ sym c.as_bytes.ensures.value ∙ read.1) in
    elim c.else-count-ge1.branch [
      | else-count-ge1-via-then-count-ge1+else-count-most w ↦ omega (arith, is.1.0, same)
      | else-count-ge1-via-else-count-ge1 w ↦ omega (arith, is.0, same)
    ]
