-- The rules of the verdicts so far.
use Rattle.std.proofs.Common.{◌≡◌, map, take}
use Rattle.wst_commands.specs.PageTexts.{rule_text}
use Rattle.wst_commands.proofs.page_texts.rule_texts.Given as goal

abbrev pub invariant-loop-verdict : goal.invariant-loop-verdict
invariant-loop-verdict l = l.rules.items ≡ map rule_text (take l.verdict-index l.verdict-items)
