-- Inside the crate: of the headers that begin with the bytes that came, the one that breaks a rule only where each
-- does, for contracts of private functions. A reader may skip this file.
use Rattle.std.specs.Prelude.{◌≡◌, ℕ, ◌+◌, ◌≤◌, ◌%◌, List, ◌++◌, length, take, drop, slice_index, Option}
use Rattle.std.specs.Int.{Width, w16, w64, from_be_bytes}
use Rattle.ws_wire.specs.declared.role.Role.{Role}
use Rattle.ws_wire.specs.Header.{HeaderFields, IsHeader, AreBytes, header_bytes, top_bit}
use Rattle.ws_session.specs.declared.message.Message.{Message}
use Rattle.ws_session.specs.Limits.{LimitsValue}
use Rattle.ws_session.specs.Faults.{expects_key}
use Rattle.ws_session.specs.InnerChecking.{NoneAtHeader}

-- ---- the header

-- the bytes of the header begin with these
pub record BeginsWith (start : List ℕ) (header : HeaderFields) : Type 0 where
  pub is_header : IsHeader header
  pub more : List ℕ
  pub layout : header_bytes header ≡ start ++ more

-- no reason applies at its end, and at least so many payload bytes follow it
pub record IsFineHeader (role : Role) (limits : LimitsValue) (opened : Option Message) (least : ℕ)
    (header : HeaderFields) : Type 0 where
  pub long : least ≤ header.len
  pub none : NoneAtHeader role limits opened header

-- its bytes begin with these; and where some header that begins so breaks no rule and has so many payload bytes, it is
-- such a header too
pub record IsLeastHeader (role : Role) (limits : LimitsValue) (opened : Option Message) (start : List ℕ) (least : ℕ)
    (header : HeaderFields) : Type 0 where
  pub begins : BeginsWith start header
  pub fine : (other : HeaderFields) → BeginsWith start other → IsFineHeader role limits opened least other
      → IsFineHeader role limits opened least header

-- ---- its bytes

-- the payload length in a longer form: the number of the bytes after the first two
abbrev pub length_in : Width → List ℕ → ℕ
length_in width bytes = from_be_bytes width (drop 2 bytes)

-- where some bytes that begin so have a length that isn't below this one, these have such a length too, and none that
-- is greater
abbrev pub HasLeastLength : Width → ℕ → List ℕ → List ℕ → Type 0
HasLeastLength width least start bytes = (more : List ℕ) → AreBytes (start ++ more)
    → least ≤ length_in width (start ++ more)
    → (least ≤ length_in width bytes) × (length_in width bytes ≤ length_in width (start ++ more))

-- fourteen bytes, enough for each header, that begin with these and with the least length
pub record AreLeastBytes (role : Role) (start : List ℕ) (least : ℕ) (bytes : List ℕ) : Type 0 where
  pub size : length bytes ≡ 14
  pub front : take (length start) bytes ≡ start
  pub second : length start ≡ 1 → slice_index bytes 1 ≡ top_bit (expects_key role) + least
  pub two : 2 ≤ length start → slice_index bytes 1 % 128 ≡ 126 → HasLeastLength w16 126 start bytes
  pub eight : 2 ≤ length start → slice_index bytes 1 % 128 ≡ 127 → HasLeastLength w64 65536 start bytes
