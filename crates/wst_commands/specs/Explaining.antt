-- Why a verdict is told: the lines below it. Each is indented by two spaces and ends with LF, and turns are counted
-- from 1.
use Rattle.std.specs.Prelude.{◌≡◌, ◌≢◌, ℕ, ◌+◌, ◌&&◌, Bool, true, false, List, [], ◌∷◌, ◌++◌, length, take}
use Rattle.std.specs.Prelude.{Option, Some, None, codes, is_none, string_bytes}
use Rattle.std.specs.List.{All, concat, flat_map}
use Rattle.std.specs.Fmt.{decimal}
use Rattle.ws_wire.specs.declared.role.Role.{Role}
use Rattle.ws_frame.specs.Lines.{data_word, text_word}
use Rattle.ws_frame.specs.declared.source.DataStyle.{DataStyle}
use Rattle.ws_frame.specs.declared.source.DataStyle.TheVariants.{Hex, Text, All as Whole}
use Rattle.ws_formats.specs.Words.{hex_word}
use Rattle.ws_session.specs.Words.{kind_word, reason_name}
use Rattle.ws_scripts.specs.declared.transcript.Turn.{Turn}
use Rattle.ws_scripts.specs.declared.transcript.Ended.{Ended}
use Rattle.ws_scripts.specs.declared.transcript.Ended.TheVariants.{Tester, Peer, Broken}
use Rattle.ws_scripts.specs.declared.transcript.Transcript.{Transcript}
use Rattle.ws_suite.specs.Explanation.{IsExplanationBy}
use Rattle.ws_suite.specs.Protocol.{IsVerdictBy}
use Rattle.ws_scripts.specs.declared.expectation.Expectation.{Expectation}
use Rattle.ws_suite.specs.Words.{rule_words}
use Rattle.ws_suite.specs.declared.evidence.Direction.{Direction}
use Rattle.ws_suite.specs.declared.evidence.Ending.{Ending}
use Rattle.ws_suite.specs.declared.evidence.Ending.TheVariants.{Closed, Failed, Doomed}
use Rattle.ws_suite.specs.declared.evidence.InTurn.{InTurn}
use Rattle.ws_suite.specs.declared.evidence.Reply.{Reply}
use Rattle.ws_suite.specs.declared.evidence.Reply.TheVariants as reply
use Rattle.ws_suite.specs.declared.evidence.found.FoundFault.{FoundFault}
use Rattle.ws_suite.specs.declared.explaining.Explanation.{Explanation}
use Rattle.ws_suite.specs.declared.verdict.Verdict.{Verdict}
use Rattle.ws_suite.specs.declared.verdict.Verdict.TheVariants.{Pass, Loose, Fail}
use Rattle.wst_commands.specs.FaultRules.{got_rule, sent_rule}
use Rattle.wst_commands.specs.declared.explaining.Judgement.{Judgement}
use Rattle.wst_commands.specs.declared.explanation_lines.Side.{Side}
use Rattle.wst_commands.specs.declared.explanation_lines.Side.TheVariants.{Due, Got}

-- ---- words

-- of what was owed, or of what came
abbrev pub side_word : Side → List ℕ
side_word Due = codes "due"
side_word Got = codes "got"

-- a fault that was sent ends what is owed
abbrev pub fault_word : Side → List ℕ
fault_word Due = codes "end"
fault_word Got = codes "failed"

-- a payload as `show` writes it: a dash, or its first bytes, at most sixteen, and two dots where there are more
abbrev pub shown_data : List ℕ → List ℕ
shown_data payload = data_word (length payload) (take 16 payload)

-- in this style, as `show` writes it: so, as text where it is UTF-8, or all of it as digits
abbrev pub styled_data : DataStyle → List ℕ → List ℕ
styled_data Hex payload = shown_data payload
styled_data Text payload = text_word payload
styled_data Whole payload = hex_word payload

abbrev pub reply_words : DataStyle → Reply → List ℕ
reply_words style (reply.Message message) =
    kind_word message.kind ++ (codes " " ++ styled_data style message.payload)
reply_words style (reply.Pong payload) = codes "pong " ++ styled_data style payload
reply_words style (reply.Ping payload) = codes "ping " ++ styled_data style payload

-- where a fault is, a count of the bytes that came, and the bytes that show it, which are at most sixteen
abbrev pub found_words : Option FoundFault → List ℕ
found_words None = []
found_words (Some fault) =
    concat (codes " at " ∷ decimal fault.place ∷ codes " " ∷ shown_data fault.bytes.items ∷ [])

-- a fault that came with its place, where it is found
abbrev pub ending_words : Side → Option FoundFault → Ending → List ℕ
ending_words side fault (Closed None) = codes "close none"
ending_words side fault (Closed (Some code)) = codes "close " ++ decimal code
ending_words side fault (Failed reason) = fault_word side ++ (codes " " ++ (reason_name reason ++ found_words fault))
ending_words side fault Doomed = fault_word side ++ codes " Doomed"

-- ---- lines

-- these words of something in its turn
abbrev pub line_in : Side → ℕ → List ℕ → List ℕ
line_in side turn words =
    concat (codes "  " ∷ side_word side ∷ codes " " ∷ decimal (turn + 1) ∷ codes " " ∷ words ∷ codes "\n" ∷ [])

abbrev pub reply_line : DataStyle → Side → InTurn Reply → List ℕ
reply_line style side reply = line_in side reply.turn (reply_words style reply.what)

abbrev pub ending_line : Side → Option FoundFault → Option (InTurn Ending) → List ℕ
ending_line side fault None = []
ending_line side fault (Some ending) = line_in side ending.turn (ending_words side fault ending.what)

-- what was owed, or what came: a line each, in its order, and then one for the close or the fault
abbrev pub direction_lines : DataStyle → Side → Option FoundFault → Direction → List ℕ
direction_lines style side fault direction =
    flat_map (reply_line style side) direction.replies ++ ending_line side fault direction.ending

-- where bytes follow the close that came, with the first of them
abbrev pub beyond_line : List ℕ → Option ℕ → List ℕ
beyond_line bytes None = []
beyond_line bytes (Some turn) = line_in Got turn (codes "beyond " ++ shown_data bytes)

-- where the bytes that came end inside a frame
abbrev pub cut_line : Option ℕ → List ℕ
cut_line None = []
cut_line (Some turn) = line_in Got turn (codes "cut")

abbrev pub ended_word : Ended → List ℕ
ended_word Tester = codes "tester"
ended_word Peer = codes "peer"
ended_word Broken = codes "broken"

-- who ended the connection, and after how many turns
abbrev pub ended_line : Ended → ℕ → List ℕ
ended_line ended turns = concat (codes "  end " ∷ ended_word ended ∷ codes " " ∷ decimal turns ∷ codes "\n" ∷ [])

-- a rule, if there is one
abbrev pub rule_line : Option (List ℕ) → List ℕ
rule_line None = []
rule_line (Some sentence) = concat (codes "  rule " ∷ sentence ∷ codes "\n" ∷ [])

-- The lines of an explanation: what was owed, what came, where bytes follow the close that came, where the bytes that
-- came end inside a frame, who ended it, the rule behind the verdict, the rule that what came breaks, where the verdict
-- is about that, and the rule that what was sent breaks. What was owed and what came show their payloads in this style.
abbrev pub explanation_lines : DataStyle → Role → Expectation → Option ℕ → Explanation → List ℕ
explanation_lines style tested expected cut x = concat (
    direction_lines style Due None x.due ∷ direction_lines style Got x.found.fault x.got
    ∷ beyond_line x.found.behind.items x.beyond ∷ cut_line cut ∷ ended_line x.ended x.turns
    ∷ rule_line (rule_words tested expected x.verdict) ∷ rule_line (got_rule x.verdict x.got.ending)
    ∷ rule_line (sent_rule x.due.ending) ∷ [])

-- ---- where what came is cut

-- the bytes that came end inside a frame, behind neither a close nor a fault
abbrev pub is_cut : Direction → Bool
is_cut direction = is_none direction.ending && direction.has_rest

-- bytes were got in the turn of this number, from 0, and in no later one
pub record GotLastIn (turns : List Turn) (number : ℕ) : Type 0 where
  pub front : List Turn
  pub turn : Turn
  pub back : List Turn
  pub all : turns ≡ front ++ turn ∷ back
  pub place : length front ≡ number
  pub got : turn.got ≢ []
  pub no_more : All (λ (later : Turn). later.got ≡ []) back

-- the last turn in which bytes were got, where there is one
abbrev pub IsLastGot : List Turn → Option ℕ → Type 0
IsLastGot turns None = All (λ (turn : Turn). turn.got ≡ []) turns
IsLastGot turns (Some number) = GotLastIn turns number

-- the last turn in which bytes were got, by that before this turn and what was got in it
abbrev pub last_after : Option ℕ → ℕ → List ℕ → Option ℕ
last_after last number [] = last
last_after last number (byte ∷ bytes) = Some number

-- the turn in which the bytes that came end inside a frame: the last one in which bytes were got
abbrev pub IsCutIn : Bool → List Turn → Option ℕ → Type 0
IsCutIn true turns cut = IsLastGot turns cut
IsCutIn false turns cut = cut ≡ None

-- the text is the lines of the explanation of a verdict on this transcript
abbrev pub IsExplanationText : DataStyle → Role → Expectation → Transcript → Explanation → List ℕ → Type 0
IsExplanationText style tested expected transcript x text = (cut : Option ℕ)
    × IsCutIn (is_cut x.got) transcript.turns cut × (text ≡ explanation_lines style tested expected cut x)

-- ---- what stands below a verdict

-- why it is told
abbrev pub Explains : DataStyle → Role → Expectation → Transcript → Verdict → List ℕ → Type 0
Explains style tested expected transcript verdict below = (x : Explanation)
    × IsExplanationBy expected tested transcript x × (x.verdict ≡ verdict)
    × IsExplanationText style tested expected transcript x below

-- nothing below a Pass
abbrev pub IsExplained : DataStyle → Role → Expectation → Transcript → Verdict → List ℕ → Type 0
IsExplained style tested expected transcript Pass below = below ≡ []
IsExplained style tested expected transcript (Loose why) below =
    Explains style tested expected transcript (Loose why) below
IsExplained style tested expected transcript (Fail why) below =
    Explains style tested expected transcript (Fail why) below

-- nor where that isn't asked for: else payloads are shown in the style that is named
abbrev pub StandsBelow : Option DataStyle → Role → Expectation → Transcript → Verdict → List ℕ → Type 0
StandsBelow None tested expected transcript verdict below = below ≡ []
StandsBelow (Some style) tested expected transcript verdict below =
    IsExplained style tested expected transcript verdict below

-- the verdict on the transcript, and what stands below it
pub record IsJudgementOf (explains : Option DataStyle) (tested : Role) (expected : Expectation)
    (transcript : Transcript) (told : Judgement) : Type 0 where
  pub verdict : IsVerdictBy expected tested transcript told.verdict
  pub below : StandsBelow explains tested expected transcript told.verdict (string_bytes told.below)
