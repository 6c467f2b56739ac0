-- Frames on the wire: RFC 6455 section 5.2. A `WireFrame` has its header in any form that can hold the length; a
-- `KeyedFrame` is a frame as an endpoint sends it, in the shortest form.
use Rattle.std.specs.Prelude.{◌≡◌, ℕ, ◌^◌, ◌<◌, Bool, List, ◌++◌, length, Option}
use Rattle.std.specs.List.{flat_map}
use Rattle.ws_wire.specs.Header.{HeaderFields, IsHeader, IsMaskingKey, AreBytes, header_bytes, shortest_form}
use Rattle.ws_wire.specs.Masking.{masked_payload}

-- ---- a frame with its header in any form

-- a header and the payload, unmasked
pub record WireFrame : Type 0 where
  pub header : HeaderFields
  pub payload : List ℕ

-- its header is one, its payload are as many bytes as the header says, and their number is below 2 ^ 63
pub record IsWireFrame (x : WireFrame) : Type 0 where
  pub header : IsHeader x.header
  pub payload : AreBytes x.payload
  pub len : length x.payload ≡ x.header.len
  pub small : x.header.len < 2 ^ 63

-- its bytes: the header, then the payload, masked where there is a key
abbrev pub wire_bytes : WireFrame → List ℕ
wire_bytes x = header_bytes x.header ++ masked_payload x.header.key x.payload

-- ---- a frame as it is sent

pub record Frame : Type 0 where
  pub fin : Bool
  pub rsv : ℕ
  pub opcode : ℕ
  pub payload : List ℕ

-- a frame, and the key that it is masked with, if any
pub record KeyedFrame : Type 0 where
  pub frame : Frame
  pub key : Option (List ℕ)

-- what the bits can hold: also reserved bits and opcodes, which section 5.2 forbids to send
pub record FitsTheLayout (x : KeyedFrame) : Type 0 where
  pub rsv : x.frame.rsv < 8
  pub opcode : x.frame.opcode < 16
  pub key : IsMaskingKey x.key
  pub payload : AreBytes x.frame.payload
  pub len : length x.frame.payload < 2 ^ 63

-- the frame on the wire: its length in the shortest form
abbrev pub sent_as : KeyedFrame → WireFrame
sent_as x = record {
  header = record {
    fin = x.frame.fin;
    rsv = x.frame.rsv;
    opcode = x.frame.opcode;
    key = x.key;
    len = length x.frame.payload;
    form = shortest_form (length x.frame.payload);
  };
  payload = x.frame.payload;
}

abbrev pub frame_bytes : KeyedFrame → List ℕ
frame_bytes x = wire_bytes (sent_as x)

-- the bytes are this frame's, as it is sent under this key
pub record IsFrameOf (frame : Frame) (key : Option (List ℕ)) (bytes : List ℕ) : Type 0 where
  pub sent : FitsTheLayout (record { frame = frame; key = key })
  pub layout : bytes ≡ frame_bytes (record { frame = frame; key = key })

-- the bytes of the frames, one after the other
abbrev pub stream_bytes : List KeyedFrame → List ℕ
stream_bytes frames = flat_map frame_bytes frames
