-- Close frames in a stream: RFC 6455 section 5.5.1.
use Rattle.std.specs.Prelude.{◌≡◌, ℕ, List, ◌++◌}
use Rattle.std.specs.List.{AllByRecursion, flat_map}
use Rattle.ws_wire.specs.Frame.{IsWireFrame, WireFrame, wire_bytes}
use Rattle.ws_wire.specs.Header.{HeaderFields}

-- the bytes begin with whole frames, in any form, of which the last is a close
pub record HoldsClose (bytes : List ℕ) : Type 0 where
  pub before : List WireFrame
  pub are_frames : AllByRecursion IsWireFrame before
  pub close : WireFrame
  pub is_frame : IsWireFrame close
  pub is_close : close.header.opcode ≡ 8
  pub more : List ℕ
  pub parts : bytes ≡ flat_map wire_bytes before ++ (wire_bytes close ++ more)

-- inside the crate: the bytes begin with a frame that has this header, and these are behind it
pub record BeginsWithFrame (bytes : List ℕ) (header : HeaderFields) (after : List ℕ) : Type 0 where
  pub frame : WireFrame
  pub is_frame : IsWireFrame frame
  pub same : frame.header ≡ header
  pub parts : bytes ≡ wire_bytes frame ++ after
