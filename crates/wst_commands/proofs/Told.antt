-- A verdict that was written in its line, and what stands below it.
use Rattle.std.proofs.Common.{◌≡◌, ◌∙◌, ℕ, List, [], ◌++◌, Option, Some, None, Result, Ok, Err, ap, refl, subst, sym, append_assoc}
use Rattle.std.specs.List.{flat_map}
use Rattle.ws_frame.specs.Devices.{Device}
use Rattle.ws_frame.specs.declared.source.DataStyle.{DataStyle}
use Rattle.ws_frame.specs.declared.source.DataStyle.TheVariants.{Hex}
use Rattle.ws_wire.specs.declared.role.Role.{Role}
use Rattle.ws_scripts.specs.declared.expectation.Expectation.{Expectation}
use Rattle.ws_scripts.specs.declared.transcript.Transcript.{Transcript}
use Rattle.ws_suite.specs.Explanation.{IsExplanationBy}
use Rattle.ws_suite.specs.Protocol.{IsVerdictBy}
use Rattle.ws_suite.specs.declared.explaining.Explanation.{Explanation}
use Rattle.ws_suite.specs.declared.verdict.FailWhy.{FailWhy}
use Rattle.ws_suite.specs.declared.verdict.LooseWhy.{LooseWhy}
use Rattle.ws_suite.specs.declared.verdict.Verdict.{Verdict}
use Rattle.ws_suite.specs.declared.verdict.Verdict.TheVariants.{Fail, Loose, Pass}
use Rattle.wst_commands.specs.Explaining.{IsExplained, IsExplanationText, StandsBelow, ending_line, explanation_lines, reply_line}
use Rattle.wst_commands.specs.InnerExplaining.{AreLastLines, explained_text, lines_after_replies}
use Rattle.wst_commands.specs.Judge.{TellsJudged, TellsVerdictWith, verdict_line}
use Rattle.wst_commands.specs.declared.exit.Exit.{Exit}
use Rattle.wst_commands.specs.declared.explanation_lines.LastLines.{LastLines}
use Rattle.wst_commands.specs.declared.explanation_lines.Side.TheVariants.{Due, Got}
use Rattle.wst_commands.specs.declared.fault.Fault.{Fault}
use Rattle.wst_commands.proofs.Explained.{fail_explained, loose_explained, verdict_explained}

-- what was written in its line is the verdict, with what stands below it
pub line_told : (explains : Option DataStyle) (tested : Role) (expected : Expectation) (transcript : Transcript)
    (verdict : Verdict) (below : List ℕ) (ended : Result Exit Fault) (output : Device)
    → IsVerdictBy expected tested transcript verdict → StandsBelow explains tested expected transcript verdict below
    → TellsJudged verdict below ended output → TellsVerdictWith explains tested expected transcript ended output
line_told explains tested expected transcript verdict below (Ok exit) output is stands told = (verdict, below, is, stands, told)
line_told explains tested expected transcript verdict below (Err fault) output is stands told = told

-- nothing stands below a Pass
pub pass_told : (tested : Role) (expected : Expectation) (transcript : Transcript) (x : Explanation)
    (ended : Result Exit Fault) (output : Device) → IsExplanationBy expected tested transcript x → x.verdict ≡ Pass
    → TellsJudged x.verdict [] ended output → TellsVerdictWith (Some Hex) tested expected transcript ended output
pass_told tested expected transcript x ended output of is told =
    line_told (Some Hex) tested expected transcript x.verdict [] ended output (verdict_explained tested expected transcript x of)
    (subst (λ (v : Verdict). IsExplained Hex tested expected transcript v []) (sym is) refl) told

-- the last lines are those of the explanation
below_is : (tested : Role) (expected : Expectation) (transcript : Transcript) (x : Explanation) (lines : LastLines)
    → AreLastLines tested expected transcript x lines
    → explanation_lines Hex lines.tested lines.expected lines.cut lines.explanation.now
    ≡ explanation_lines Hex tested expected lines.cut x
below_is tested expected transcript x lines a =
    ap (λ (t : Role). explanation_lines Hex t lines.expected lines.cut lines.explanation.now) a.tested_is
    ∙ (ap (λ (e : Expectation). explanation_lines Hex tested e lines.cut lines.explanation.now) a.expected_is
    ∙ ap (λ (y : Explanation). explanation_lines Hex tested expected lines.cut y) a.explanation_is)

-- the lines that explain another verdict stand below it
lines_told : (tested : Role) (expected : Expectation) (transcript : Transcript) (x : Explanation) (lines : LastLines)
    (ended : Result Exit Fault) (output : Device) → IsExplanationBy expected tested transcript x
    → AreLastLines tested expected transcript x lines
    → ((below : List ℕ) → IsExplanationText Hex tested expected transcript x below
    → IsExplained Hex tested expected transcript x.verdict below)
    → TellsJudged lines.explanation.now.verdict
    (explanation_lines Hex lines.tested lines.expected lines.cut lines.explanation.now) ended output
    → TellsVerdictWith (Some Hex) tested expected transcript ended output
lines_told tested expected transcript x lines ended output of a explained told =
    let below = explanation_lines Hex lines.tested lines.expected lines.cut lines.explanation.now in
    line_told (Some Hex) tested expected transcript x.verdict below ended output
    (verdict_explained tested expected transcript x of)
    (explained below (lines.cut, a.cut_is, below_is tested expected transcript x lines a))
    (subst (λ (y : Explanation). TellsJudged y.verdict below ended output) a.explanation_is told)

pub loose_told : (tested : Role) (expected : Expectation) (transcript : Transcript) (x : Explanation)
    (lines : LastLines) (why : LooseWhy) (ended : Result Exit Fault) (output : Device)
    → IsExplanationBy expected tested transcript x → x.verdict ≡ Loose why
    → AreLastLines tested expected transcript x lines
    → TellsJudged lines.explanation.now.verdict
    (explanation_lines Hex lines.tested lines.expected lines.cut lines.explanation.now) ended output
    → TellsVerdictWith (Some Hex) tested expected transcript ended output
loose_told tested expected transcript x lines why ended output of is a told =
    lines_told tested expected transcript x lines ended output of a
    (λ below text. loose_explained Hex tested expected transcript x why below is of text) told

pub fail_told : (tested : Role) (expected : Expectation) (transcript : Transcript) (x : Explanation)
    (lines : LastLines) (why : FailWhy) (ended : Result Exit Fault) (output : Device)
    → IsExplanationBy expected tested transcript x → x.verdict ≡ Fail why
    → AreLastLines tested expected transcript x lines
    → TellsJudged lines.explanation.now.verdict
    (explanation_lines Hex lines.tested lines.expected lines.cut lines.explanation.now) ended output
    → TellsVerdictWith (Some Hex) tested expected transcript ended output
fail_told tested expected transcript x lines why ended output of is a told =
    lines_told tested expected transcript x lines ended output of a
    (λ below text. fail_explained Hex tested expected transcript x why below is of text) told

-- what is written through a room is the verdict's line with the lines of the explanation
pub explained_is : (x : Explanation) (tested : Role) (expected : Expectation) (cut : _)
    (line due_end got_end : List ℕ) → line ≡ verdict_line x.verdict → due_end ≡ ending_line Due None x.due.ending
    → got_end ≡ ending_line Got x.found.fault x.got.ending ++ lines_after_replies tested expected cut x
    → explained_text line x due_end got_end ≡ verdict_line x.verdict ++ explanation_lines Hex tested expected cut x
explained_is x tested expected cut line due_end got_end e f g =
    let due = flat_map (reply_line Hex Due) x.due.replies in
    let got = flat_map (reply_line Hex Got) x.got.replies in
    let got_ending = ending_line Got x.found.fault x.got.ending in
    let last = lines_after_replies tested expected cut x in
    ap (λ (l : List ℕ). l ++ ((due ++ due_end) ++ (got ++ got_end))) e
    ∙ (ap (λ (l : List ℕ). verdict_line x.verdict ++ ((due ++ l) ++ (got ++ got_end))) f
    ∙ (ap (λ (l : List ℕ). verdict_line x.verdict ++ ((due ++ ending_line Due None x.due.ending) ++ (got ++ l))) g
    ∙ ap (λ (l : List ℕ). verdict_line x.verdict ++ ((due ++ ending_line Due None x.due.ending) ++ l))
    (sym (append_assoc got got_ending last))))
