-- The verdict of an explanation, and what stands below one that isn't Pass.
use Rattle.std.proofs.Common.{◌≡◌, ℕ, List, subst, sym}
use Rattle.ws_frame.specs.declared.source.DataStyle.{DataStyle}
use Rattle.ws_wire.specs.declared.role.Role.{Role}
use Rattle.ws_scripts.specs.declared.transcript.Transcript.{Transcript}
use Rattle.ws_suite.specs.Explanation.{IsExplanationBy}
use Rattle.ws_suite.specs.Protocol.{IsVerdictBy}
use Rattle.ws_scripts.specs.declared.expectation.Expectation.{Expectation}
use Rattle.ws_scripts.specs.declared.expectation.Expectation.TheVariants.{Echo, Protocol}
use Rattle.ws_suite.specs.declared.explaining.Explanation.{Explanation}
use Rattle.ws_suite.specs.declared.verdict.FailWhy.{FailWhy}
use Rattle.ws_suite.specs.declared.verdict.LooseWhy.{LooseWhy}
use Rattle.ws_suite.specs.declared.verdict.Verdict.{Verdict}
use Rattle.ws_suite.specs.declared.verdict.Verdict.TheVariants.{Fail, Loose}
use Rattle.wst_commands.specs.Explaining.{IsExplained, IsExplanationText}

-- an explanation by what is expected has the verdict by that
pub verdict_explained : (tested : Role) (expected : Expectation) (transcript : Transcript) (x : Explanation)
    → IsExplanationBy expected tested transcript x → IsVerdictBy expected tested transcript x.verdict
verdict_explained tested Echo transcript x is = record {
  evidence = is.evidence;
  is_evidence = is.is_evidence;
  counted = is.counted;
  is_counted = is.is_counted;
  is_verdict = is.is_verdict;
}
verdict_explained tested Protocol transcript x is = record {
  counted = is.counted;
  marks = is.marks;
  is_evidence = is.is_evidence;
  is_verdict = is.is_verdict;
}

pub loose_explained : (style : DataStyle) (tested : Role) (expected : Expectation) (transcript : Transcript) (x : Explanation)
    (why : LooseWhy) (below : List ℕ)
    → x.verdict ≡ Loose why → IsExplanationBy expected tested transcript x
    → IsExplanationText style tested expected transcript x below → IsExplained style tested expected transcript x.verdict below
loose_explained style tested expected transcript x why below is of text =
    subst (λ (v : Verdict). IsExplained style tested expected transcript v below) (sym is) (x, of, is, text)

pub fail_explained : (style : DataStyle) (tested : Role) (expected : Expectation) (transcript : Transcript) (x : Explanation)
    (why : FailWhy) (below : List ℕ)
    → x.verdict ≡ Fail why → IsExplanationBy expected tested transcript x
    → IsExplanationText style tested expected transcript x below → IsExplained style tested expected transcript x.verdict below
fail_explained style tested expected transcript x why below is of text =
    subst (λ (v : Verdict). IsExplained style tested expected transcript v below) (sym is) (x, of, is, text)
