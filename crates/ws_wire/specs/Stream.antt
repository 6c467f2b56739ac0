-- A stream of bytes as frames and a rest: RFC 6455 section 5.2.
use Rattle.std.specs.Prelude.{◌≡◌, List, ◌++◌, ℕ}
use Rattle.std.specs.List.{flat_map, AllByRecursion}
use Rattle.ws_wire.specs.Frame.{KeyedFrame, FitsTheLayout, frame_bytes, WireFrame, IsWireFrame, wire_bytes}

-- no such frame stands at the front
abbrev pub BeginsNone : {X : Type 0} → (X → Type 0) → (X → List ℕ) → List ℕ → Type 0
BeginsNone {X} IsOne bytes_of bytes = (x : X) (more : List ℕ) → IsOne x → bytes ≡ bytes_of x ++ more → ⊥

-- the bytes are those of these frames, and then a rest that begins with no such frame
pub record Splits {X : Type 0} (IsOne : X → Type 0) (bytes_of : X → List ℕ)
    (bytes : List ℕ) (frames : List X) (rest : List ℕ) : Type 0 where
  pub each : AllByRecursion IsOne frames
  pub whole : bytes ≡ flat_map bytes_of frames ++ rest
  pub left : BeginsNone IsOne bytes_of rest

-- into frames in the shortest form
abbrev pub SplitsInto : List ℕ → List KeyedFrame → List ℕ → Type 0
SplitsInto bytes frames rest = Splits FitsTheLayout frame_bytes bytes frames rest

-- into frames in any form
abbrev pub SplitsIntoAnyForm : List ℕ → List WireFrame → List ℕ → Type 0
SplitsIntoAnyForm bytes frames rest = Splits IsWireFrame wire_bytes bytes frames rest
