-- Each turn of the loop is a step of the search.
use Rattle.std.proofs.Common.{◌≡◌, ◌∙◌, ◌-◌, ◌==◌, ap, drop, false, length, rules, slice_index, sym, take, ℕ, List}
use Rattle.std.proofs.lemmas.List.{take_rest}
use Rattle.wst_commands.specs.StepTexts.{bytes_to_low, half_stands_alone, is_half_alone}
use Rattle.wst_commands.proofs.StepLoops.{escape_step, plain_step}
use Rattle.wst_commands.proofs.step_texts.has_half.Goals as goal

pub loop-rest-preserved-then-byte-eq92 : goal.loop-rest-preserved-then-byte-eq92
loop-rest-preserved-then-byte-eq92 c =
    let loop = c.loop-rest in
    let rest = loop.rest.now in
    let letter = slice_index rest 1 in
    let tail = take (length rest - 2) (drop 2 rest) in
    let same : tail ≡ drop 2 rest = take_rest rest 2 in
    let pair : is_half_alone (loop.left == 1) letter (drop 2 rest) ≡ false =
    ap (λ (t : List ℕ). is_half_alone (loop.left == 1) letter t) (sym same) ∙ sym c.is_half_alone.ensures
    ∙ c.if-is_half_alone.false in
    loop.invariant ∙ escape_step loop.left rest c.in-len2-up.len_at_least c.if-byte-eq92.true pair
    ∙ ap (λ (t : List ℕ). half_stands_alone (bytes_to_low letter t) t) (sym same)
    ∙ ap (λ (left : ℕ). half_stands_alone left tail) (sym c.bytes_to_low-left.ensures)

pub loop-rest-preserved : goal.loop-rest-preserved
loop-rest-preserved c =
    let loop = c.loop-rest in
    let rest = loop.rest.now in
    let tail = take (length rest - 1) (drop 1 rest) in
    let same : tail ≡ drop 1 rest = take_rest rest 1 in
    let other : (slice_index rest 0 == 92) ≡ false = search rules in
    loop.invariant ∙ plain_step loop.left rest c.in-len2-up.len_at_least other
    ∙ ap (λ (t : List ℕ). half_stands_alone (loop.left - 1) t) (sym same)
    ∙ ap (λ (left : ℕ). half_stands_alone left tail) (sym c.saturating_sub-left.ensures)
