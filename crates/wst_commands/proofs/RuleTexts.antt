-- The rule of a verdict has its name, and the rules of both expectations.
use Rattle.std.proofs.Common.{◌≡◌, ◌∙◌, ℕ, List, ap₂}
use Rattle.ws_scripts.specs.declared.expectation.Expectation.TheVariants.{Echo, Protocol}
use Rattle.ws_suite.specs.declared.verdict.Verdict.{Verdict}
use Rattle.wst_commands.specs.PageTexts.{rule_text, rules_by, why_name, with_protocol}
use Rattle.wst_commands.proofs.NamedScripts.{named}

pub same_text : (verdict : Verdict) (name text echo protocol : List ℕ) → name ≡ why_name verdict
    → echo ≡ rules_by Echo verdict → protocol ≡ rules_by Protocol verdict → text ≡ with_protocol echo protocol
    → named name text ≡ rule_text verdict
same_text verdict name text echo protocol e f g h = ap₂ named e (h ∙ ap₂ with_protocol f g)
