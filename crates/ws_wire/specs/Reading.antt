-- What reading the front of some bytes as a header answers: RFC 6455 section 5.2.
use Rattle.std.specs.Prelude.{◌≡◌, ℕ, ◌≤◌, ◌<◌, ◌^◌, List, ◌++◌, length, take}
use Rattle.ws_wire.specs.Header.{HeaderFields, IsHeaderOf}
use Rattle.ws_wire.specs.declared.reading.HeaderRead.{HeaderRead}
use Rattle.ws_wire.specs.declared.reading.HeaderRead.TheVariants.{Need, Got, BadLength}

-- the header's bytes are the first `used` of these
pub record Begins (header : HeaderFields) (used : ℕ) (bytes : List ℕ) : Type 0 where
  pub within : used ≤ length bytes
  pub front : IsHeaderOf header (take used bytes)

-- no header stands at the front
abbrev pub BeginsNoHeader : List ℕ → Type 0
BeginsNoHeader bytes =
    (header : HeaderFields) (bytes_of rest : List ℕ) → IsHeaderOf header bytes_of → bytes ≡ bytes_of ++ rest → ⊥

-- a header stands at the front whose length has the top bit set
abbrev pub BeginsBadLength : List ℕ → Type 0
BeginsBadLength bytes = (header : HeaderFields) × (used : ℕ) × Begins header used bytes × (2 ^ 63 ≤ header.len)

-- what is answered: the header at the front, if there is one, apart where the top bit of its length is set
abbrev pub IsHeaderRead : List ℕ → HeaderRead → Type 0
IsHeaderRead bytes Need = BeginsNoHeader bytes
IsHeaderRead bytes (Got header used) = Begins header used bytes × (header.len < 2 ^ 63)
IsHeaderRead bytes (BadLength header used) = Begins header used bytes × (2 ^ 63 ≤ header.len)
