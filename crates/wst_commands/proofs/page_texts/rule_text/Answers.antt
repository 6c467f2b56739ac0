-- The name is that of the reason, and the text has the rules of both expectations.
use Rattle.std.proofs.Common.{rules, ◌≡◌, string_bytes}
use Rattle.ws_scripts.specs.declared.expectation.Expectation.TheVariants.{Echo, Protocol}
use Rattle.wst_commands.specs.PageTexts.{rules_by, why_name, with_protocol}
use Rattle.wst_commands.proofs.RuleTexts.{same_text}
use Rattle.wst_commands.proofs.page_texts.rule_text.Goals as goal

pub returns : goal.returns
returns c =
    let name : c.from_vec.result ≡ why_name c.args.verdict = search rules in
    let echo : c.as_str.result.now ≡ rules_by Echo c.args.verdict = search rules in
    let protocol : c.as_str-2.result.now ≡ rules_by Protocol c.args.verdict = search rules in
    let text : c.from_vec-2.result ≡ with_protocol c.as_str.result.now c.as_str-2.result.now = search rules in
    same_text c.args.verdict c.from_vec.result c.from_vec-2.result c.as_str.result.now c.as_str-2.result.now name echo
    protocol text
