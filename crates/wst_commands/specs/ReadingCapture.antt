-- Reading an input as a capture. A reader may skip this file: no public contract speaks of it.
use Rattle.std.specs.Prelude.{◌≡◌, ℕ, ⊤, false, List, ◌++◌, Result, Err, MatchResult}
use Rattle.ws_frame.specs.Devices.{Device, HasRead}
use Rattle.ws_scripts.specs.CaptureFeeds.{IsFedCapture}
use Rattle.ws_scripts.specs.Captures.{DamagesCapture}
use Rattle.ws_scripts.specs.Captures2.{IsAnyCaptureOf}
use Rattle.ws_scripts.specs.declared.capture.Capture.{Capture}
use Rattle.ws_scripts.specs.declared.capture.CaptureFault.{CaptureFault}
use Rattle.ws_scripts.specs.declared.capture.CaptureFault.TheVariants.{Damaged, NoMemory}
use Rattle.ws_scripts.specs.declared.capture.feeding.CaptureFeed.{CaptureFeed}
use Rattle.wst_commands.specs.Judge.{capture_fault}
use Rattle.wst_commands.specs.ReadingWhole.{ReadsAll, StopsReading, stopped}
use Rattle.wst_commands.specs.declared.exit.Exit.{Exit}
use Rattle.wst_commands.specs.declared.fault.Fault.{Fault as CommandFault}
use Rattle.wst_commands.specs.declared.reading_capture.CaptureStop.{CaptureStop}
use Rattle.wst_commands.specs.declared.reading_capture.CaptureStop.TheVariants.{Fault, Stop}
use Rattle.wst_commands.specs.declared.reading_whole.ReadStop.TheVariants as stop

-- it names a line: where memory lacks none is damaged
abbrev pub NamesLineOf : CaptureFault → Type 0
NamesLineOf (Damaged number) = ⊤
NamesLineOf NoMemory = ⊥

-- why there is no capture: the reading stopped, as it does once memory lacks; or all was read, and a line is damaged
abbrev pub FailsCapture : CaptureStop → Device → Type 0
FailsCapture (Stop stop) input = StopsReading stop input
FailsCapture (Fault fault) input =
    (text : List ℕ) × ReadsAll text input × DamagesCapture IsAnyCaptureOf fault text × NamesLineOf fault

-- what ends the reading at a fault: that of a line as it is, and want of memory as that
abbrev pub capture_stop : CaptureFault → CaptureStop
capture_stop (Damaged number) = Fault (Damaged number)
capture_stop NoMemory = Stop stop.NoMemory

-- the whole input was read, and is this capture; or there is none
abbrev pub ReadsCapture : Result Capture CaptureStop → Device → Type 0
ReadsCapture ended input = MatchResult ended
    (λ capture. (text : List ℕ) × ReadsAll text input × IsAnyCaptureOf capture text)
    (λ stop. FailsCapture stop input)

-- how a run ends whose input gave no capture
abbrev pub ended_by : CaptureStop → Result Exit CommandFault
ended_by (Stop stop) = stopped stop
ended_by (Fault fault) = Err (capture_fault fault)

-- ---- inside: the loop

-- these bytes were read, and a text that begins with them is damaged so
pub record SpoilsCapture (fault : CaptureFault) (input : Device) : Type 0 where
  pub read : List ℕ
  pub bytes : HasRead read input
  pub works : input.failed ≡ false
  pub damages : (more : List ℕ) → DamagesCapture IsAnyCaptureOf fault (read ++ more)

-- why not all of an input was fed
abbrev pub StopsFeed : CaptureStop → Device → Type 0
StopsFeed (Stop stop) input = StopsReading stop input
StopsFeed (Fault fault) input = SpoilsCapture fault input × NamesLineOf fault

-- the whole input was fed; or that failed
abbrev pub FeedsCapture : Result CaptureFeed CaptureStop → Device → Type 0
FeedsCapture ended input = MatchResult ended
    (λ feed. (text : List ℕ) × ReadsAll text input × IsFedCapture text feed) (λ stop. StopsFeed stop input)
