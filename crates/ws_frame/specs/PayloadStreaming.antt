-- The lines of a stream that comes piece by piece, with payloads in any style (RFC 6455 section 5.2), and what each
-- call puts of them.
use Rattle.std.specs.Prelude.{◌≡◌, ◌<◌, ◌+◌, ◌^◌, ℕ, Bool, true, false, List, [], ◌∷◌, ◌++◌, length}
use Rattle.std.specs.List.{flat_map}
use Rattle.ws_wire.specs.Header.{AreBytes}
use Rattle.ws_wire.specs.Frame.{WireFrame, wire_bytes}
use Rattle.ws_wire.specs.Stream.{SplitsIntoAnyForm}
use Rattle.ws_wire.specs.Reading.{BeginsBadLength}
use Rattle.ws_frame.specs.declared.source.Source.{Source}
use Rattle.ws_frame.specs.declared.showing.StreamEnd.{StreamEnd}
use Rattle.ws_frame.specs.declared.showing.StreamEnd.TheVariants.{Whole, CutAt, BadLengthAt}
use Rattle.ws_frame.specs.declared.payload_lines.PayloadLines.{PayloadLines}
use Rattle.ws_frame.specs.Lines.{AreCertainLines, AreLinesOf, frame_lines}

-- whose stream it is
abbrev pub stream_source : PayloadLines → Source
stream_source stream = stream.source

-- the lines of the whole frames were put, and the bytes behind these, which begin at this place, are kept
pub record AreFramesPut (source : Source) (taken : List ℕ) (offset : ℕ) (rest put : List ℕ) : Type 0 where
  pub frames : List WireFrame
  pub split : SplitsIntoAnyForm taken frames rest
  pub goes_on : BeginsBadLength rest → ⊥
  pub place : offset ≡ length (flat_map wire_bytes frames)
  pub all : put ≡ frame_lines source 0 frames

-- either more can be put; or a bad length stands where the next frame begins
abbrev pub StandsPut : PayloadLines → Bool → List ℕ → List ℕ → Type 0
StandsPut stream false taken put = AreFramesPut stream.source taken stream.offset stream.rest.items put
StandsPut stream true taken put = AreLinesOf stream.source taken (BadLengthAt stream.offset) put

-- these bytes of the stream have come, and these lines were put: all that are certain
pub record HasPutLines (stream : PayloadLines) (taken put : List ℕ) : Type 0 where
  pub certain : AreCertainLines stream.source taken put
  pub are_bytes : AreBytes taken
  pub stands : StandsPut stream stream.stopped taken put

-- no bad length stands there
abbrev pub IsGoing : PayloadLines → Type 0
IsGoing stream = stream.stopped ≡ false

-- so many bytes can still come: a place is told by 64 bits
abbrev pub HasRoomToPut : ℕ → PayloadLines → Type 0
HasRoomToPut count stream =
    (taken : List ℕ) × (put : List ℕ) × HasPutLines stream taken put × (length taken + count < 2 ^ 64)

-- of more bytes all lines were put that are certain then, behind these
abbrev pub PutsMore : PayloadLines → PayloadLines → List ℕ → List ℕ → List ℕ → Type 0
PutsMore old new piece before after = (taken : List ℕ) (put : List ℕ) → HasPutLines old taken put
    → (more : List ℕ) × (after ≡ before ++ more) × HasPutLines new (taken ++ piece) (put ++ more)

-- how the stream ends where nothing more comes, by the bytes that are kept
abbrev pub kept_end : Bool → ℕ → List ℕ → StreamEnd
kept_end true offset rest = BadLengthAt offset
kept_end false offset [] = Whole
kept_end false offset (byte ∷ rest) = CutAt offset

abbrev pub stream_end : PayloadLines → StreamEnd
stream_end stream = kept_end stream.stopped stream.offset stream.rest.items

-- with this line all lines of a stream that ends so were put
abbrev pub EndsPut : PayloadLines → List ℕ → Type 0
EndsPut stream line = (taken : List ℕ) (put : List ℕ) → HasPutLines stream taken put
    → AreLinesOf (stream_source stream) taken (stream_end stream) (put ++ line)
