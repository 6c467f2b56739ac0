-- Where the lines of a tap stand, behind all that it was told.
use Rattle.std.specs.Prelude.{◌≡◌, ◌⊎◌, ℕ, ◌+◌, ◌^◌, ◌<◌, ◌≤◌, Bool, true, false, List, [], ◌∷◌, ◌++◌, length}
use Rattle.std.specs.Prelude.{take, drop, Result, Ok, Err}
use Rattle.ws_wire.specs.declared.role.Role.{Role}
use Rattle.ws_wire.specs.declared.role.Role.TheVariants.{Client, Server}
use Rattle.ws_frame.specs.declared.source.Source.{Source}
use Rattle.ws_frame.specs.declared.showing.StreamEnd.{StreamEnd}
use Rattle.ws_frame.specs.declared.frame_lines.FrameLines.{FrameLines}
use Rattle.ws_frame.specs.declared.show_fault.ShowFault.{ShowFault}
use Rattle.ws_frame.specs.declared.writing_whole.WriteFault.{WriteFault}
use Rattle.ws_frame.specs.Devices.{Device, HasWritten}
use Rattle.ws_frame.specs.Lines.{AreLinesOf, takes_memory}
use Rattle.ws_frame.specs.FrameStreaming.{HasTakenFrames, MayEndBy, frames_source, is_of_a_write, keeps_frames}
use Rattle.ws_tap.specs.declared.heads.Head.{Head}
use Rattle.ws_tap.specs.declared.release.Release.{Release}
use Rattle.ws_tap.specs.declared.release.Release.TheVariants as release
use Rattle.ws_tap.specs.declared.telling.SideStage.{SideStage}
use Rattle.ws_tap.specs.declared.telling.SideStage.TheVariants as side
use Rattle.ws_tap.specs.declared.tap_lines.TapLines.{TapLines}
use Rattle.ws_tap.specs.declared.tapped.Tapped.{Tapped}
use Rattle.ws_tap.specs.KeptValues.{KeptValue}
use Rattle.ws_tap.specs.Told.{TapTold, CameFrom, EndedBy, passage}
use Rattle.ws_tap.specs.Heads.{HasHead, HasNoHead}
use Rattle.ws_tap.specs.Texts.{source_at, head_line, Sent, BothSent, both_sent, sent_of, Answered, NotYet, After}
use Rattle.ws_tap.specs.Texts.{AnswersSo, IsAnsweredIn, AreInOrder, Part, all_text, text_of, BeginsDue, IsKeptOf}
use Rattle.ws_tap.specs.Texts.{AreLinesTo}
use Rattle.ws_tap.specs.Telling.{LooksIn, IsKeeping, TellsSome, nothing_kept}

-- ---- one end

-- a stream that has ended, or not, has shown these lines for these bytes
abbrev pub HasShownTo : Bool → FrameLines → List ℕ → List ℕ → Type 0
HasShownTo false lines bytes shown = HasTakenFrames lines bytes shown
HasShownTo true lines bytes shown = (end : StreamEnd) × AreLinesOf (frames_source lines) bytes end shown

-- the lines that wait are those of the client: in its request none does yet
abbrev pub KeepsNothing : Role → KeptValue → Type 0
KeepsNothing Client kept = kept ≡ nothing_kept
KeepsNothing Server kept = Unit {0}

-- and those of a server never wait
abbrev pub KeepsFor : Role → Source → List ℕ → List ℕ → KeptValue → Type 0
KeepsFor Client source bytes waited kept = IsKeeping source bytes waited kept
KeepsFor Server source bytes waited kept = ⊥

-- in a head: which lines wait is known, and none does yet
abbrev pub AwaitsHead : Role → Release → Answered → Sent → Type 0
AwaitsHead role (release.Awaited kept) NotYet sent = KeepsNothing role kept
AwaitsHead role release.Told (After early true) sent = (length (sent_of role early).bytes ≤ length sent.bytes)
    × ((sent_of role early).ended ≡ true → sent.ended ≡ true)
AwaitsHead role release.Never (After early false) sent = Unit {0}
AwaitsHead role release answered sent = ⊥

-- behind it: the lines wait; or they are told; or none is told
abbrev pub StandsReleased : Role → Release → Answered → Source → ℕ → FrameLines → Sent → List ℕ → Type 0
StandsReleased role (release.Awaited kept) NotYet source len lines sent shown = (shown ≡ []) × ((waited : List ℕ)
    × HasShownTo sent.ended lines (drop len sent.bytes) waited
    × KeepsFor role source (drop len sent.bytes) waited kept)
StandsReleased role release.Told (After early true) source len lines sent shown = (waited : List ℕ) × (kept : List ℕ)
    × (later : List ℕ) × AreLinesTo (sent_of role early).ended source (drop len (sent_of role early).bytes) waited
    × IsKeptOf source (drop len (sent_of role early).bytes) waited kept
    × HasShownTo sent.ended lines (drop len sent.bytes) (waited ++ later) × (shown ≡ kept ++ later)
StandsReleased role release.Never (After early false) source len lines sent shown = shown ≡ []
StandsReleased role release answered source len lines sent shown = ⊥

-- behind its head an end has sent this, and this text was told of it
pub record StandsBehindHead (role : Role) (tapped : Tapped) (answered : Answered) (lines : FrameLines)
    (release : Release) (sent : Sent) (text : List ℕ) : Type 0 where
  pub head : Head
  pub shown : List ℕ
  pub has : HasHead role sent.bytes head
  pub is : text ≡ head_line (source_at role tapped) (take head.len sent.bytes) ++ shown
  pub source : frames_source lines ≡ source_at role tapped
  pub keeps : sent.ended ≡ false → keeps_frames lines ≡ takes_memory tapped.style
  pub stands : StandsReleased role release answered (source_at role tapped) head.len lines sent shown

-- how far an end has come that has sent this, and of which this text was told
abbrev pub SideStands : Role → Tapped → Answered → SideStage → Release → Sent → List ℕ → Type 0
SideStands role tapped answered (side.Head room) release sent text =
    LooksIn role room sent.bytes × (text ≡ []) × AwaitsHead role release answered sent
SideStands role tapped answered (side.Frames lines) release sent text =
    StandsBehindHead role tapped answered lines release sent text

-- ---- both ends

-- the stage of an end, and the lines with another
abbrev pub stage_at : Role → TapLines → SideStage
stage_at Client lines = lines.client
stage_at Server lines = lines.server

abbrev pub with_stage : Role → TapLines → SideStage → Release → TapLines
with_stage Client lines stage release = record lines { client = stage; release = release }
with_stage Server lines stage release = record lines { server = stage; release = release }

-- more bytes were sent by an end; or it has ended its direction
abbrev pub with_bytes : Sent → List ℕ → Sent
with_bytes sent more = record sent { bytes = sent.bytes ++ more }

abbrev pub with_its_end : Sent → Sent
with_its_end sent = record sent { ended = true }

abbrev pub with_sides_sent : Role → BothSent → Sent → BothSent
with_sides_sent Client both sent = record both { client = sent }
with_sides_sent Server both sent = record both { server = sent }

-- a server that has sent this has answered, or not
abbrev pub Knows : Answered → List ℕ → Type 0
Knows NotYet bytes = HasNoHead Server bytes
Knows (After early switches) bytes = (head : Head) × HasHead Server bytes head

-- where the lines of both ends stand, which have sent this, and of which these parts were told
pub record LinesStand (tapped : Tapped) (answered : Answered) (lines : TapLines) (both : BothSent) (parts : List Part)
    : Type 0 where
  pub tapped_is : lines.tapped ≡ tapped
  pub knows : Knows answered both.server.bytes
  pub of_client : SideStands Client tapped answered lines.client lines.release both.client (text_of Client parts)
  pub of_server : SideStands Server tapped answered lines.server lines.release both.server (text_of Server parts)
  pub in_order : AreInOrder tapped answered parts

-- all that is certain of what was told was written, in these parts, and nothing else
pub record HasToldLines (tapped : Tapped) (told : List TapTold) (lines : TapLines) (parts : List Part) : Type 0 where
  pub answered : Answered
  pub has_answered : IsAnsweredIn told answered
  pub stands : LinesStand tapped answered lines (both_sent told) parts

-- the response of the server is whole with these bytes of an end
pub record AnswersNow (role : Role) (old new : Answered) (both : BothSent) (bytes : List ℕ) : Type 0 where
  pub head : Head
  pub switches : Bool
  pub is_server : role ≡ Server
  pub before : old ≡ NotYet
  pub now : new ≡ After (with_sides_sent Server both (with_bytes both.server bytes)) switches
  pub still_open : both.server.ended ≡ false
  pub has : HasHead Server (both.server.bytes ++ bytes) head
  pub whole : head.len ≡ length (both.server.bytes ++ bytes)
  pub answers : AnswersSo switches head

-- what the server has answered behind more bytes of an end: the same; or now
abbrev pub AnswersNext : Role → Answered → Answered → BothSent → List ℕ → Type 0
AnswersNext role old new both bytes = (new ≡ old) ⊎ AnswersNow role old new both bytes

-- an end may go on with so many bytes: a place is told by 64 bits
pub record CanTellMore (role : Role) (count : ℕ) (lines : TapLines) : Type 0 where
  pub tapped : Tapped
  pub told : List TapTold
  pub parts : List Part
  pub stands : HasToldLines tapped told lines parts
  pub going : (passage role told).ended ≡ false
  pub fits : length (passage role told).came + count < 2 ^ 64

-- an end and what waits have changed, as a piece of it is told
abbrev pub SendsTo : Role → TapLines → TapLines → List ℕ → Device → Result ℕ ShowFault → Type 0
SendsTo role old new piece output result = (stage : SideStage) × (release : Release)
    × (new ≡ with_stage role old stage release)
    × TellsSome role old.tapped (stage_at role old) stage (record { old = old.release; new = release }) piece output
    result

-- all lines stand with one event more; or the output has failed or memory ran out, and a beginning of what is due was
-- written
abbrev pub IsToldOn : Tapped → List TapTold → TapLines → List Part → Bool → Result (Unit {0}) ShowFault → Type 0
IsToldOn tapped told new parts failed (Ok _) = (failed ≡ false) × HasToldLines tapped told new parts
IsToldOn tapped told new parts failed (Err fault) =
    (failed ≡ is_of_a_write fault) × MayEndBy tapped.style fault × BeginsDue tapped told (all_text parts)

abbrev pub TellsPieceOf : Role → TapLines → TapLines → List ℕ → Device → Result (Unit {0}) ShowFault → Type 0
TellsPieceOf role old new piece output result = (tapped : Tapped) (told : List TapTold) (parts : List Part)
    → HasToldLines tapped told old parts → (passage role told).ended ≡ false
    → (more : List Part) × HasWritten (all_text more) output
    × IsToldOn tapped (told ++ CameFrom role piece ∷ []) new (parts ++ more) output.failed result

-- the same of a call that only writes
abbrev pub IsToldSo : Tapped → List TapTold → TapLines → List Part → Bool → Result (Unit {0}) WriteFault → Type 0
IsToldSo tapped told new parts failed (Ok _) = (failed ≡ false) × HasToldLines tapped told new parts
IsToldSo tapped told new parts failed (Err _) = (failed ≡ true) × BeginsDue tapped told (all_text parts)

abbrev pub TellsEnded : Role → TapLines → TapLines → Device → Result (Unit {0}) WriteFault → Type 0
TellsEnded role old new output result = (tapped : Tapped) (told : List TapTold) (parts : List Part)
    → HasToldLines tapped told old parts → (passage role told).ended ≡ false
    → (more : List Part) × HasWritten (all_text more) output
    × IsToldSo tapped (told ++ EndedBy role ∷ []) new (parts ++ more) output.failed result
