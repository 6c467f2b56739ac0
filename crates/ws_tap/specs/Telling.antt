-- What each call tells of one end, by where its lines stood.
use Rattle.std.specs.Prelude.{◌≡◌, ◌⊎◌, ℕ, ◌+◌, ◌<◌, ◌≤◌, ◌||◌, ⊤, nat_lt, true, false, List, [], ◌∷◌, ◌++◌}
use Rattle.std.specs.Prelude.{length, take, Option, Some, None, Result, Ok, Err, if◌then◌else◌}
use Rattle.ws_wire.specs.declared.role.Role.{Role}
use Rattle.ws_frame.specs.declared.source.Source.{Source}
use Rattle.ws_frame.specs.declared.showing.StreamEnd.{StreamEnd}
use Rattle.ws_frame.specs.declared.frame_lines.FrameLines.{FrameLines}
use Rattle.ws_frame.specs.declared.show_fault.ShowFault.{ShowFault}
use Rattle.ws_frame.specs.declared.show_fault.ShowFault.TheVariants.{Write, NoMemory}
use Rattle.ws_frame.specs.declared.writing_whole.WriteFault.{WriteFault}
use Rattle.ws_frame.specs.Devices.{Device, HasBegun, HasWritten}
use Rattle.ws_frame.specs.Lines.{AreLinesOf, takes_memory}
use Rattle.ws_frame.specs.FrameStreaming.{EndsFrames, HasRoomForFrames, HasTakenFrames, TakesMore}
use Rattle.ws_frame.specs.FrameStreaming.{frames_source, keeps_frames}
use Rattle.ws_tap.specs.declared.head_room.HeadFound.{HeadFound}
use Rattle.ws_tap.specs.declared.release.Answer.{Answer}
use Rattle.ws_tap.specs.declared.release.Answer.TheVariants as answer
use Rattle.ws_tap.specs.declared.release.Release.{Release}
use Rattle.ws_tap.specs.declared.release.Release.TheVariants.{Awaited, Told, Never}
use Rattle.ws_tap.specs.declared.telling.SideStage.{SideStage}
use Rattle.ws_tap.specs.declared.telling.SideStage.TheVariants as side
use Rattle.ws_tap.specs.declared.tapped.Tapped.{Tapped}
use Rattle.ws_tap.specs.KeptValues.{KeptValue}
use Rattle.ws_tap.specs.Heads.{HasHead, HasNoHead, head_front}
use Rattle.ws_tap.specs.Texts.{source_at, head_line, IsMost, max_kept}

-- ---- the head

-- the first of these bytes are kept, and no head stands at their front
abbrev pub LooksIn : Role → List ℕ → List ℕ → Type 0
LooksIn role room bytes = (room ≡ head_front bytes) × HasNoHead role bytes

-- the head is whole with so many bytes of a piece, the first of which stands behind these
pub record IsFoundWith (role : Role) (tapped : Tapped) (bytes piece : List ℕ) (found : HeadFound) : Type 0 where
  pub used : found.used ≤ length piece
  pub has : HasHead role (bytes ++ take found.used piece) found.head
  pub whole : found.head.len ≡ length (bytes ++ take found.used piece)
  pub line : found.line ≡ head_line (source_at role tapped) (bytes ++ take found.used piece)

-- what came of a piece: still no head, or one
abbrev pub IsLookedFor : Role → Tapped → List ℕ → List ℕ → List ℕ → Option HeadFound → Type 0
IsLookedFor role tapped room bytes piece None = LooksIn role room (bytes ++ piece)
IsLookedFor role tapped room bytes piece (Some found) = IsFoundWith role tapped bytes piece found

abbrev pub LooksFor : Role → Tapped → List ℕ → List ℕ → List ℕ → Option HeadFound → Type 0
LooksFor role tapped old new piece result =
    (bytes : List ℕ) → LooksIn role old bytes → IsLookedFor role tapped new bytes piece result

-- ---- lines that wait

-- none waits
abbrev pub nothing_kept : KeptValue
nothing_kept = record { text = []; is_full = false }

-- a line is kept where it fits and none was left out before it
abbrev pub kept_after : KeptValue → List ℕ → KeptValue
kept_after kept line = if kept.is_full || nat_lt max_kept (length kept.text + length line)
    then record { text = kept.text; is_full = true }
    else record { text = kept.text ++ line; is_full = false }

-- of these lines, the certain ones of these bytes or all of them, all are kept, or the most that fit
abbrev pub IsKeeping : Source → List ℕ → List ℕ → KeptValue → Type 0
IsKeeping source bytes lines kept =
    ((kept.is_full ≡ false) × (kept.text ≡ lines) × (length lines ≤ max_kept))
    ⊎ ((kept.is_full ≡ true) × (max_kept < length lines) × IsMost source bytes kept.text)

-- a stream before and after a call
pub record LinesStep : Type 0 where
  pub old : FrameLines
  pub new : FrameLines

-- what one more byte makes certain, one line or none, is kept where it fits
abbrev pub KeepsByte : KeptValue → KeptValue → LinesStep → ℕ → Type 0
KeepsByte old new lines byte = (bytes : List ℕ) (shown : List ℕ) → HasTakenFrames lines.old bytes shown
    → (line : List ℕ) × HasTakenFrames lines.new (bytes ++ byte ∷ []) (shown ++ line) × (new ≡ kept_after old line)

-- with this line all lines of the stream are told, if it ends here
abbrev pub EndsKept : FrameLines → List ℕ → Type 0
EndsKept stream line = (bytes : List ℕ) (shown : List ℕ) → HasTakenFrames stream bytes shown
    → (end : StreamEnd) × AreLinesOf (frames_source stream) bytes end (shown ++ line)

-- what a piece makes certain is kept, as far as it fits
abbrev pub KeepsLines : KeptValue → KeptValue → LinesStep → List ℕ → Type 0
KeepsLines old new lines piece = (bytes : List ℕ) (shown : List ℕ) → HasTakenFrames lines.old bytes shown
    → IsKeeping (frames_source lines.old) bytes shown old
    → (more : List ℕ) × HasTakenFrames lines.new (bytes ++ piece) (shown ++ more)
    × IsKeeping (frames_source lines.old) (bytes ++ piece) (shown ++ more) new

-- ---- the answer

-- what the head with this status answers; a request has none
abbrev pub IsAnswerOfStatus : Option ℕ → Answer → Type 0
IsAnswerOfStatus status answer.NotYet = status ≡ None
IsAnswerOfStatus status answer.Switches = status ≡ Some 101
IsAnswerOfStatus status answer.Refuses = (status ≡ Some 101 → ⊥) × (status ≡ None → ⊥)

-- what becomes of the lines that wait where it is heard, and what is told then
abbrev pub released : Release → Answer → Release
released (Awaited kept) answer.NotYet = Awaited kept
released (Awaited kept) answer.Switches = Told
released (Awaited kept) answer.Refuses = Never
released Told answer = Told
released Never answer = Never

abbrev pub released_text : Release → Answer → List ℕ
released_text (Awaited kept) answer.NotYet = []
released_text (Awaited kept) answer.Switches = kept.text
released_text (Awaited kept) answer.Refuses = []
released_text Told answer = []
released_text Never answer = []

-- an answer was heard; or the writer has failed in what is told then
abbrev pub HearsAnswer : Release → Release → Answer → Device → Result (Unit {0}) WriteFault → Type 0
HearsAnswer old new answer output (Ok _) =
    (output.failed ≡ false) × (new ≡ released old answer) × HasWritten (released_text old answer) output
HearsAnswer old new answer output (Err _) = (output.failed ≡ true) × HasBegun (released_text old answer) output

-- ---- frames

-- whether lines wait, before and after a call
pub record ReleaseStep : Type 0 where
  pub old : Release
  pub new : Release

-- a stream after a call is shown as before it
pub record ShowsAsBefore (old new : FrameLines) : Type 0 where
  pub source : frames_source new ≡ frames_source old
  pub keeps : keeps_frames new ≡ keeps_frames old

-- so many bytes of frames can be told
abbrev pub CanTellFrames : ℕ → FrameLines → Release → Type 0
CanTellFrames count lines (Awaited kept) = HasRoomForFrames count lines
CanTellFrames count lines Told = HasRoomForFrames count lines
CanTellFrames count lines Never = ⊤

-- memory can run out only where frames are kept
abbrev pub LacksFairly : FrameLines → Result (Unit {0}) ShowFault → Type 0
LacksFairly lines (Ok _) = ⊤
LacksFairly lines (Err Write) = ⊤
LacksFairly lines (Err NoMemory) = keeps_frames lines ≡ true

-- their lines were kept, or told, or not
abbrev pub TellsFramesBy : FrameLines → FrameLines → Release → Release → List ℕ → Device
    → Result (Unit {0}) ShowFault → Type 0
TellsFramesBy old new (Awaited kept) release piece output (Ok _) = (output.failed ≡ false) × HasWritten [] output
    × ((after : KeptValue) × (release ≡ Awaited after) × KeepsLines kept after (record { old = old; new = new }) piece)
TellsFramesBy old new (Awaited kept) release piece output (Err fault) =
    (output.failed ≡ false) × HasWritten [] output × (fault ≡ NoMemory) × (keeps_frames old ≡ true)
TellsFramesBy old new Told release piece output result =
    (release ≡ Told) × TakesMore old new piece output result × LacksFairly old result
TellsFramesBy old new Never release piece output (Ok _) =
    (output.failed ≡ false) × HasWritten [] output × (release ≡ Never)
TellsFramesBy old new Never release piece output (Err fault) = ⊥

abbrev pub TellsFrames : FrameLines → FrameLines → ReleaseStep → List ℕ → Device → Result (Unit {0}) ShowFault → Type 0
TellsFrames old new step piece output result =
    ShowsAsBefore old new × TellsFramesBy old new step.old step.new piece output result

-- ---- a piece

-- so many bytes can be told
abbrev pub CanTell : Role → ℕ → SideStage → Release → Type 0
CanTell role count (side.Head room) release = (bytes : List ℕ) × LooksIn role room bytes
CanTell role count (side.Frames lines) release = CanTellFrames count lines release

-- still no head is whole, and nothing is told
abbrev pub StillLooks : Role → List ℕ → SideStage → ReleaseStep → List ℕ → Device → Result ℕ ShowFault → Type 0
StillLooks role bytes new step piece output (Ok used) = (output.failed ≡ false) × (used ≡ length piece)
    × HasWritten [] output × (step.new ≡ step.old)
    × ((room : List ℕ) × (new ≡ side.Head room) × LooksIn role room (bytes ++ piece))
StillLooks role bytes new step piece output (Err fault) = ⊥

-- nothing has come of the frames of an end
pub record IsNewStream (role : Role) (tapped : Tapped) (lines : FrameLines) : Type 0 where
  pub source : frames_source lines ≡ source_at role tapped
  pub keeps : keeps_frames lines ≡ takes_memory tapped.style
  pub shown : HasTakenFrames lines [] []

-- the line of a head was told, and what its answer releases; or a beginning of that was
abbrev pub IsHeadTold : HeadFound → Answer → ReleaseStep → Device → Result ℕ ShowFault → Type 0
IsHeadTold found answer step output (Ok used) = (output.failed ≡ false) × (used ≡ found.used)
    × (step.new ≡ released step.old answer) × HasWritten (found.line ++ released_text step.old answer) output
IsHeadTold found answer step output (Err fault) = (output.failed ≡ true) × (fault ≡ Write)
    × HasBegun (found.line ++ released_text step.old answer) output

-- a head is whole
pub record FindsHead (role : Role) (tapped : Tapped) (bytes : List ℕ) (new : SideStage) (step : ReleaseStep)
    (piece : List ℕ) (output : Device) (result : Result ℕ ShowFault) : Type 0 where
  pub found : HeadFound
  pub lines : FrameLines
  pub answer : Answer
  pub is_found : IsFoundWith role tapped bytes piece found
  pub stage : new ≡ side.Frames lines
  pub begun : IsNewStream role tapped lines
  pub answers : IsAnswerOfStatus found.head.status answer
  pub told : IsHeadTold found answer step output result

-- a piece of frames is used whole
abbrev pub TellsWholePiece : FrameLines → FrameLines → ReleaseStep → List ℕ → Device → Result ℕ ShowFault → Type 0
TellsWholePiece old new step piece output (Ok used) =
    (used ≡ length piece) × TellsFrames old new step piece output (Ok tt)
TellsWholePiece old new step piece output (Err fault) = TellsFrames old new step piece output (Err fault)

-- what is told of a piece
abbrev pub TellsSome : Role → Tapped → SideStage → SideStage → ReleaseStep → List ℕ → Device → Result ℕ ShowFault
    → Type 0
TellsSome role tapped (side.Head room) new step piece output result = (bytes : List ℕ) → LooksIn role room bytes
    → StillLooks role bytes new step piece output result ⊎ FindsHead role tapped bytes new step piece output result
TellsSome role tapped (side.Frames lines) new step piece output result =
    (after : FrameLines) × (new ≡ side.Frames after) × TellsWholePiece lines after step piece output result

-- ---- the end of a direction

-- it may end there
abbrev pub CanEndSide : SideStage → Release → Type 0
CanEndSide (side.Head room) release = ⊤
CanEndSide (side.Frames lines) release = CanTellFrames 0 lines release

-- a cut was kept, or told, or not
abbrev pub EndsBy : FrameLines → Release → Release → Device → Result (Unit {0}) WriteFault → Type 0
EndsBy lines (Awaited kept) release output (Ok _) = (output.failed ≡ false) × HasWritten [] output
    × ((line : List ℕ) × EndsKept lines line × (release ≡ Awaited (kept_after kept line)))
EndsBy lines (Awaited kept) release output (Err _) = ⊥
EndsBy lines Told release output result = (release ≡ Told) × EndsFrames lines output result
EndsBy lines Never release output (Ok _) = (output.failed ≡ false) × HasWritten [] output × (release ≡ Never)
EndsBy lines Never release output (Err _) = ⊥

-- what is told of the end of a direction
abbrev pub EndsSide : SideStage → SideStage → ReleaseStep → Device → Result (Unit {0}) WriteFault → Type 0
EndsSide (side.Head room) new step output (Ok _) =
    (output.failed ≡ false) × HasWritten [] output × (new ≡ side.Head room) × (step.new ≡ step.old)
EndsSide (side.Head room) new step output (Err _) = ⊥
EndsSide (side.Frames lines) new step output result = (after : FrameLines) × (new ≡ side.Frames after)
    × (frames_source after ≡ frames_source lines) × EndsBy lines step.old step.new output result
