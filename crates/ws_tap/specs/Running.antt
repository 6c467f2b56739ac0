-- A run of a tap over the readers and writers of its ends, until both directions have ended.
use Rattle.std.specs.Prelude.{◌≡◌, ◌⊎◌, ℕ, ◌≤◌, ⊤, Bool, true, false, List, [], ◌++◌, length, Option, Some}
use Rattle.std.specs.Prelude.{Result, Ok, Err}
use Rattle.std.specs.Io.KnownBytes.{Appends, Consumes, IsAtEnd, Keeps}
use Rattle.ws_wire.specs.declared.role.Role.{Role}
use Rattle.ws_wire.specs.declared.role.Role.TheVariants.{Client, Server}
use Rattle.ws_frame.specs.declared.show_fault.ShowFault.{ShowFault}
use Rattle.ws_frame.specs.declared.show_fault.ShowFault.TheVariants.{Write}
use Rattle.ws_frame.specs.declared.writing_whole.WriteFault.{WriteFault}
use Rattle.ws_frame.specs.Devices.{Device, HasWritten}
use Rattle.ws_frame.specs.FrameStreaming.{MayEndBy, is_of_a_write}
use Rattle.ws_tap.specs.declared.tapped.Tapped.{Tapped}
use Rattle.ws_tap.specs.declared.tap.Tap.{Tap}
use Rattle.ws_tap.specs.declared.tapping.Passed.{Passed}
use Rattle.ws_tap.specs.declared.tapping.Passed.TheVariants as passed
use Rattle.ws_tap.specs.declared.tapping.TapEnd.{TapEnd}
use Rattle.ws_tap.specs.declared.tapping.TapEnd.TheVariants.{Ended, Broken}
use Rattle.ws_tap.specs.Told.{Passage, TapTold, CameFrom, EndedTo, TakenBy, ArePassedOn, first_ended, other_end}
use Rattle.ws_tap.specs.Told.{passage}
use Rattle.ws_tap.specs.Texts.{TellsOfBoth, BeginsDue}
use Rattle.ws_tap.specs.Tapping.{EndsNext, ExtendsTap, HasTapped, StandsOn, TellsNext}

-- ---- the devices of a run

-- what a reader had left, or a writer held, when the connection began, and has or holds now, where that is known
pub record DeviceBytes : Type 0 where
  pub old : Option (List ℕ)
  pub new : Option (List ℕ)

-- the reader of the end that sends, and the writer to the other end
pub record TapDirection : Type 0 where
  pub input : DeviceBytes
  pub output : DeviceBytes

-- the direction of the client, that of the server, and the writer of the lines
pub record TapDevices : Type 0 where
  pub client : TapDirection
  pub server : TapDirection
  pub lines : DeviceBytes

-- as a call leaves a device
abbrev pub device_bytes : Option (List ℕ) → Option (List ℕ) → DeviceBytes
device_bytes old new = record { old = old; new = new }

-- the reader and the writer of the client, those of the server, and the writer of the lines
abbrev pub run_devices : DeviceBytes → DeviceBytes → DeviceBytes → DeviceBytes → Device → TapDevices
run_devices from_client to_client from_server to_server lines = record {
  client = record { input = from_client; output = to_server };
  server = record { input = from_server; output = to_client };
  lines = device_bytes lines.old lines.new;
}

-- just this has happened to a direction over its devices: its bytes were read, to the end of the reader where it has
-- ended, and those that were taken were written
pub record DidDirection (p : Passage) (direction : TapDirection) : Type 0 where
  pub read : Consumes direction.input.old direction.input.new p.came
  pub at_end : p.ended ≡ true → IsAtEnd direction.input.new
  pub written : Appends direction.output.old direction.output.new p.taken

-- just this was told over all devices, and this text was written
pub record DidAll (told : List TapTold) (text : List ℕ) (devices : TapDevices) : Type 0 where
  pub client : DidDirection (passage Client told) devices.client
  pub server : DidDirection (passage Server told) devices.server
  pub lines : Appends devices.lines.old devices.lines.new text

-- ---- a step

-- the devices of a direction after a step
abbrev pub direction_at : TapDirection → Option (List ℕ) → Option (List ℕ) → TapDirection
direction_at direction left held = record {
  input = device_bytes direction.input.old left;
  output = device_bytes direction.output.old held;
}

-- What a step did: the tap was told it, its devices did it, and the other direction is as it was. Where the tap was
-- told that the direction was ended at the writer, it was.
pub record IsTapStep {T : Type 0} (role : Role) (tapped : Tapped) (told : List TapTold) (text : List ℕ) (new : Tap)
    (direction : TapDirection) (output : Device) (ended_before ended_now : Type 0) (result : Result T ShowFault)
    : Type 0 where
  pub more : List TapTold
  pub lines : List ℕ
  pub other : passage (other_end role) (told ++ more) ≡ passage (other_end role) told
  pub did : DidDirection (passage role (told ++ more)) direction
  pub wrote : HasWritten lines output
  pub stands : StandsOn tapped (told ++ more) new (text ++ lines) output.failed result
  pub half_closed : ((passage role told).passed ≡ true → ended_before)
      → (passage role (told ++ more)).passed ≡ true → ended_now

-- one step of the direction of an end
abbrev pub PassesOne : {T : Type 0} → Role → Tap → Tap → DeviceBytes → DeviceBytes → Type 0 → Type 0 → Device
    → Result T ShowFault → Type 0
PassesOne role old new reader writer ended_before ended_now output result = (tapped : Tapped)
    (told : List TapTold) (text : List ℕ) (direction : TapDirection) → HasTapped tapped told old text
    → DidDirection (passage role told) direction → direction.input.new ≡ reader.old
    → direction.output.new ≡ writer.old
    → IsTapStep role tapped told text new (direction_at direction reader.new writer.new) output ended_before ended_now
    result

-- what came of a write to an end: some bytes were taken, which the tap was told; or none
abbrev pub WritesToEnd : Role → Tap → Tap → DeviceBytes → Passed → Type 0
WritesToEnd role old new writer passed.On =
    (bytes : List ℕ) × Appends writer.old writer.new bytes × ExtendsTap old new (TakenBy role bytes)
WritesToEnd role old new writer passed.Waits = Appends writer.old writer.new [] × (new ≡ old)
WritesToEnd role old new writer passed.Broken = Appends writer.old writer.new [] × (new ≡ old)

-- what came of the end of the direction to an end: it was ended, which the tap was told; or not
abbrev pub EndsDirection : Role → Tap → Tap → DeviceBytes → Type 0 → Passed → Type 0
EndsDirection role old new writer ended passed.On =
    Keeps writer.old writer.new × ExtendsTap old new (EndedTo role) × ended
EndsDirection role old new writer ended passed.Waits = ⊥
EndsDirection role old new writer ended passed.Broken = Keeps writer.old writer.new × (new ≡ old)

-- what came of one read: bytes, at most so many, and none only at the end of the reader; or nothing
abbrev pub HasReadPortion : {E : Type 0} → DeviceBytes → Result (List ℕ) E → Type 0
HasReadPortion reader (Ok piece) = Consumes reader.old reader.new piece × (length piece ≤ 65536)
    × (length piece ≡ 0 → IsAtEnd reader.new)
HasReadPortion reader (Err error) = Consumes reader.old reader.new []

-- what came of a read from an end: bytes, or the end of the stream, of which the tap was told; or nothing
abbrev pub ReadsSome : Role → Tap → Tap → DeviceBytes → Device → Result Passed ShowFault → Type 0
ReadsSome role old new reader output (Ok passed.On) =
    ((piece : List ℕ) × Consumes reader.old reader.new piece × TellsNext (CameFrom role piece) old new output (Ok tt))
    ⊎ (Consumes reader.old reader.new [] × IsAtEnd reader.new × EndsNext role old new output (Ok tt))
ReadsSome role old new reader output (Ok passed.Waits) =
    Consumes reader.old reader.new [] × (new ≡ old) × (output.failed ≡ false) × HasWritten [] output
ReadsSome role old new reader output (Ok passed.Broken) =
    Consumes reader.old reader.new [] × (new ≡ old) × (output.failed ≡ false) × HasWritten [] output
ReadsSome role old new reader output (Err fault) = ((piece : List ℕ) × Consumes reader.old reader.new piece
    × TellsNext (CameFrom role piece) old new output (Err fault))
    ⊎ (Consumes reader.old reader.new [] × IsAtEnd reader.new × (fault ≡ Write)
    × ((write : WriteFault) × EndsNext role old new output (Err write)))

-- ---- the end

-- how a run ended: both directions were ended behind all that came, that of this end first; or a read, a write, a
-- half-close or a wait failed, of which the devices say nothing
abbrev pub EndsAt : TapEnd → List TapTold → Type 0
EndsAt (Ended first) told = ((passage Client told).passed ≡ true) × ((passage Server told).passed ≡ true)
    × (first_ended told ≡ Some first)
EndsAt Broken told = ⊤

-- Both directions were passed on, and the lines of what was read are told, and so the run ended; or the output has
-- failed, or memory ran out, which with first bytes alone it never does: then both directions were passed on still, and
-- a beginning of what is due was written.
abbrev pub TapsEnds : Tapped → TapDevices → Bool → Result TapEnd ShowFault → Type 0
TapsEnds tapped devices failed (Ok end) = (failed ≡ false) × ((told : List TapTold) × (text : List ℕ)
    × DidAll told text devices × ArePassedOn told × TellsOfBoth tapped told text × EndsAt end told)
TapsEnds tapped devices failed (Err fault) = (failed ≡ is_of_a_write fault) × MayEndBy tapped.style fault
    × ((told : List TapTold) × (text : List ℕ) × DidAll told text devices × ArePassedOn told
    × BeginsDue tapped told text)

-- this text tells of both ends of a tapped connection that has ended so
abbrev pub IsTapText : Tapped → TapEnd → List ℕ → Type 0
IsTapText tapped end text = (told : List TapTold) × ArePassedOn told × TellsOfBoth tapped told text × EndsAt end told

-- and this is a beginning of such a text
abbrev pub BeginsTapText : Tapped → List ℕ → Type 0
BeginsTapText tapped text = (told : List TapTold) × ArePassedOn told × BeginsDue tapped told text

-- such a text was written; or the output has failed, or memory ran out, and a beginning of one was written
abbrev pub TellsTap : Tapped → Result TapEnd ShowFault → Device → Type 0
TellsTap tapped (Ok end) output =
    (output.failed ≡ false) × ((text : List ℕ) × HasWritten text output × IsTapText tapped end text)
TellsTap tapped (Err fault) output = (output.failed ≡ is_of_a_write fault) × MayEndBy tapped.style fault
    × ((text : List ℕ) × HasWritten text output × BeginsTapText tapped text)

-- the directions of both writers were ended, where those of both readers were
abbrev pub HalfClosesBoth : Type 0 → Type 0 → Result TapEnd ShowFault → Type 0
HalfClosesBoth client server (Ok (Ended first)) = client × server
HalfClosesBoth client server (Ok Broken) = Unit {0}
HalfClosesBoth client server (Err _) = Unit {0}
