-- The frames of a piece, as they are found and put. A reader may skip this file: no public contract speaks of it.
use Rattle.std.specs.Prelude.{◌≡◌, ◌≤◌, ◌+◌, ◌-◌, ℕ, Bool, true, false, List, ◌++◌, length, take, drop}
use Rattle.std.specs.List.{flat_map, AllByRecursion}
use Rattle.ws_wire.specs.Header.{HeaderFields}
use Rattle.ws_wire.specs.Masking.{masked_payload}
use Rattle.ws_wire.specs.Frame.{WireFrame, IsWireFrame, wire_bytes}
use Rattle.ws_wire.specs.Reading.{BeginsBadLength}
use Rattle.ws_wire.specs.Stream.{BeginsNone}
use Rattle.ws_frame.specs.declared.showing.StreamEnd.TheVariants.{BadLengthAt}
use Rattle.ws_frame.specs.declared.payload_lines.FrameAt.{FrameAt}
use Rattle.ws_frame.specs.declared.payload_lines.FrameAt.TheVariants as at
use Rattle.ws_frame.specs.declared.payload_lines.PayloadLines.{PayloadLines}
use Rattle.ws_frame.specs.Lines.{frame_lines, last_line}

-- a frame stands at the front, with this header; its payload begins and ends at these places
pub record IsFrameAt (bytes : List ℕ) (header : HeaderFields) (start end : ℕ) : Type 0 where
  pub frame : WireFrame
  pub is_wire : IsWireFrame frame
  pub header_is : frame.header ≡ header
  pub payload_is : frame.payload ≡ masked_payload header.key (take (end - start) (drop start bytes))
  pub whole : take end bytes ≡ wire_bytes frame
  pub before : start ≤ end
  pub within : end ≤ length bytes

-- what stands at the front
abbrev pub StandsAtFront : List ℕ → FrameAt → Type 0
StandsAtFront bytes (at.Whole header start end) = IsFrameAt bytes header start end
StandsAtFront bytes at.Part = BeginsNone IsWireFrame wire_bytes bytes × (BeginsBadLength bytes → ⊥)
StandsAtFront bytes at.BadLength = BeginsBadLength bytes

-- frames from this place on: they have so many bytes of these, and their lines are put behind those before
pub record AreFramesTo (stream : PayloadLines) (at offset : ℕ) (before after : List ℕ) : Type 0 where
  pub frames : List WireFrame
  pub each : AllByRecursion IsWireFrame frames
  pub front : take at stream.rest.items ≡ flat_map wire_bytes frames
  pub within : at ≤ length stream.rest.items
  pub place : offset ≡ stream.offset + at
  pub lines : after ≡ before ++ frame_lines stream.source stream.offset frames

-- what is left of the bytes: less than a frame, or a bad length, whose line is put
abbrev pub IsLeftOver : PayloadLines → Bool → List ℕ → List ℕ → List ℕ → Type 0
IsLeftOver new false rest before after =
    (BeginsNone IsWireFrame wire_bytes rest × (BeginsBadLength rest → ⊥)) × (after ≡ before)
IsLeftOver new true rest before after =
    BeginsBadLength rest × (after ≡ before ++ last_line new.source (BadLengthAt new.offset))

-- the frames at the front of what is kept were put, and the bytes behind them are left
abbrev pub PutsFrames : PayloadLines → PayloadLines → ℕ → List ℕ → List ℕ → Type 0
PutsFrames old new at before after =
    (drop at new.rest.items ≡ drop at old.rest.items)
    × ((lines : List ℕ) × AreFramesTo old at new.offset before lines
    × IsLeftOver new new.stopped (drop at old.rest.items) lines after)
