-- What the printed types of `explanation_lines.rt` print. A reader may skip this file: no public contract speaks of it.
use Rattle.std.specs.Prelude.{◌≡◌, ℕ, ◌+◌, List, [], ◌∷◌, ◌++◌, Option, codes, option_map}
use Rattle.std.specs.Borrow.{Bor}
use Rattle.std.specs.List.{concat, flat_map}
use Rattle.std.specs.Fmt.{decimal}
use Rattle.ws_scripts.specs.declared.expectation.Expectation.{Expectation}
use Rattle.ws_scripts.specs.declared.transcript.Transcript.{Transcript}
use Rattle.ws_suite.specs.Kept.{reply_in}
use Rattle.ws_suite.specs.Words.{rule_words}
use Rattle.ws_suite.specs.declared.evidence.kept.ReplyKind.{ReplyKind}
use Rattle.ws_suite.specs.declared.evidence.kept.ReplyKind.TheVariants.{Text, Binary, Pong, Ping}
use Rattle.ws_suite.specs.declared.evidence.found.FoundFault.{FoundFault}
use Rattle.ws_suite.specs.declared.explaining.Explanation.{Explanation}
use Rattle.ws_frame.specs.declared.source.DataStyle.TheVariants.{Hex}
use Rattle.ws_wire.specs.declared.role.Role.{Role}
use Rattle.wst_commands.specs.Explaining.{beyond_line, cut_line, direction_lines, ending_line, explanation_lines}
use Rattle.wst_commands.specs.Explaining.{IsCutIn, ended_line, is_cut, found_words, reply_line, rule_line}
use Rattle.wst_commands.specs.Explaining.{shown_data, side_word, styled_data}
use Rattle.wst_commands.specs.FaultRules.{got_rule, sent_rule}
use Rattle.wst_commands.specs.declared.explanation_lines.BeyondLine.{BeyondLine}
use Rattle.wst_commands.specs.declared.explanation_lines.CutLine.{CutLine}
use Rattle.wst_commands.specs.declared.explanation_lines.EndingLine.{EndingLine}
use Rattle.wst_commands.specs.declared.explanation_lines.ExplanationLines.{ExplanationLines}
use Rattle.wst_commands.specs.declared.explanation_lines.LastLines.{LastLines}
use Rattle.wst_commands.specs.declared.explanation_lines.LineStart.{LineStart}
use Rattle.wst_commands.specs.declared.explanation_lines.PlaceWords.{PlaceWords}
use Rattle.wst_commands.specs.declared.explanation_lines.ReplyLine.{ReplyLine}
use Rattle.wst_commands.specs.declared.explanation_lines.RuleLine.{RuleLine}
use Rattle.wst_commands.specs.declared.explanation_lines.Shown.{Shown}
use Rattle.wst_commands.specs.declared.explanation_lines.Side.{Side}
use Rattle.wst_commands.specs.declared.explanation_lines.Side.TheVariants.{Due, Got}
use Rattle.wst_commands.specs.declared.explanation_lines.SideLines.{SideLines}
use Rattle.wst_commands.specs.declared.styled_data.StyledData.{StyledData}

abbrev pub printed_explanation : ExplanationLines → List ℕ
printed_explanation lines = explanation_lines lines.style lines.last.tested lines.last.expected lines.last.cut
    lines.last.explanation.now

-- the lines of an explanation behind those of what was owed and of what came
abbrev pub lines_after_replies : Role → Expectation → Option ℕ → Explanation → List ℕ
lines_after_replies tested expected cut x = concat (
    beyond_line x.found.behind.items x.beyond ∷ cut_line cut ∷ ended_line x.ended x.turns
    ∷ rule_line (rule_words tested expected x.verdict) ∷ rule_line (got_rule x.verdict x.got.ending)
    ∷ rule_line (sent_rule x.due.ending) ∷ [])

abbrev pub printed_last : LastLines → List ℕ
printed_last lines = lines_after_replies lines.tested lines.expected lines.cut lines.explanation.now

-- those of an explanation of the verdict on this transcript
pub record AreLastLines (tested : Role) (expected : Expectation) (transcript : Transcript) (x : Explanation)
    (lines : LastLines) : Type 0 where
  pub tested_is : lines.tested ≡ tested
  pub expected_is : lines.expected ≡ expected
  pub explanation_is : lines.explanation.now ≡ x
  pub cut_is : IsCutIn (is_cut x.got) transcript.turns lines.cut

-- the fault that is lent, if there is one
abbrev pub lent_fault : Option (Bor FoundFault) → Option FoundFault
lent_fault fault = option_map (λ x. x.now) fault

abbrev pub printed_place : PlaceWords → List ℕ
printed_place place = found_words (lent_fault place.0)

abbrev pub printed_side : SideLines → List ℕ
printed_side lines = direction_lines lines.style lines.side (lent_fault lines.fault) lines.direction.now

abbrev pub printed_reply : ReplyLine → List ℕ
printed_reply line = reply_line line.style line.side (reply_in line.reply)

abbrev pub printed_ending : EndingLine → List ℕ
printed_ending line = ending_line line.side (lent_fault line.fault) line.ending.now

abbrev pub printed_beyond : BeyondLine → List ℕ
printed_beyond line = beyond_line line.bytes.now line.turn

abbrev pub printed_cut : CutLine → List ℕ
printed_cut line = cut_line line.0

abbrev pub printed_rule : RuleLine → List ℕ
printed_rule line = rule_line (option_map (λ words. words.now) line.0)

abbrev pub line_start : Side → ℕ → List ℕ
line_start side turn = concat (codes "  " ∷ side_word side ∷ codes " " ∷ decimal (turn + 1) ∷ codes " " ∷ [])

abbrev pub printed_line : LineStart → List ℕ
printed_line start = line_start start.side start.turn

-- the word of a kind of reply, and a space
abbrev pub kind_start : ReplyKind → List ℕ
kind_start Text = codes "text "
kind_start Binary = codes "binary "
kind_start Pong = codes "pong "
kind_start Ping = codes "ping "

-- the line of a verdict, and the lines below it with the first bytes of payloads, of which those behind the replies of
-- each side are given
abbrev pub explained_text : List ℕ → Explanation → List ℕ → List ℕ → List ℕ
explained_text line x due_end got_end = line
    ++ ((flat_map (reply_line Hex Due) x.due.replies ++ due_end)
    ++ (flat_map (reply_line Hex Got) x.got.replies ++ got_end))

abbrev pub printed_data : Shown → List ℕ
printed_data payload = shown_data payload.0.now

abbrev pub printed_styled : StyledData → List ℕ
printed_styled styled = styled_data styled.style styled.payload.now
