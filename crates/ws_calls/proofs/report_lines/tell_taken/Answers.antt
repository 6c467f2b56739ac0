-- The line of one byte that puts nothing is the one that its number and its dash make.
use Rattle.std.proofs.Common.{rules, ◌≡◌, ◌∙◌, ◌≤◌, ◌++◌, [], ℕ, List, ap, ap₂, codes, length, string_bytes, sym}
use Rattle.ws_calls.specs.declared.report.CallAnswer.TheVariants.{Taken}
use Rattle.ws_calls.specs.CallLines.{answer_lines}
use Rattle.ws_calls.specs.Examples.{one_byte}
use Rattle.ws_calls.proofs.Parts.{no_bytes}
use Rattle.ws_calls.proofs.report_lines.tell_taken.Goals as goal

pub returns-then-is_empty : goal.returns-then-is_empty
returns-then-is_empty c =
    let before = string_bytes c.args.lines.now in
    let put = c.args.put.now in
    let one : c.args.len ≡ 1 = search rules in
    let short : length put ≤ 0 = search rules in
    let pushed : string_bytes c.push_str.new.self ≡ before ++ codes "taken 1 put -\n" = search rules in
    pushed ∙ ap (λ (l : List ℕ). before ++ l)
    (sym (ap₂ (λ (n : ℕ) (l : List ℕ). answer_lines (Taken [] n l)) one (no_bytes put short) ∙ one_byte))
