-- The host and the port that the authority of a URL names (RFC 3986 section 3.2, RFC 6455 section 3).
use Rattle.std.specs.Prelude.{◌≡◌, ◌≢◌, ℕ, ◌≤◌, ◌⊎◌, ◌==◌, Bool, IsTrue, List, ◌∷◌, ◌++◌, length, codes, All, Option}
use Rattle.std.specs.Prelude.{MatchOption}
use Rattle.std.specs.List.{list_any}
use Rattle.std.specs.Borrow.{Bor}
use Rattle.ws_formats.specs.Words.{IsNumberWord}
use Rattle.ws_upgrade.specs.Texts.{IsHost}

-- the characters that part an authority
abbrev pub colon : ℕ
colon = 58

abbrev pub at_sign : ℕ
at_sign = 64

abbrev pub closing_bracket : ℕ
closing_bracket = 93

-- the byte is one of these
abbrev pub has_byte : ℕ → List ℕ → Bool
has_byte byte bytes = list_any (λ other. other == byte) bytes

-- the bytes are front, their last colon, and back
abbrev pub IsCutAtLastColon : List ℕ → List ℕ → List ℕ → Type 0
IsCutAtLastColon bytes front back = (bytes ≡ front ++ colon ∷ back) × All (λ byte. byte ≢ colon) back

-- the bytes cut so, or none of them is a colon
abbrev pub CutsAtLastColon : List ℕ → Option (Bor (List ℕ) × Bor (List ℕ)) → Type 0
CutsAtLastColon bytes result =
    MatchOption result (All (λ byte. byte ≢ colon) bytes) (λ parts. IsCutAtLastColon bytes parts.0.now parts.1.now)

-- a name, a colon and a port
abbrev pub EndsInPort : List ℕ → List ℕ → ℕ → Type 0
EndsInPort bytes name port =
    (1 ≤ length name) × ((word : List ℕ) × (bytes ≡ name ++ colon ∷ word) × IsNumberWord 65535 port word)

-- no colon stands behind the last ], as in the address of an IPv6 host alone
abbrev pub NamesNoPort : List ℕ → Type 0
NamesNoPort bytes = (front back : List ℕ) → IsCutAtLastColon bytes front back → IsTrue (has_byte closing_bracket back)

-- what a request calls the server of an authority, and where a connection to it is made. The port is 80 where none is
-- named, and 80 isn't told to the server
abbrev pub IsPlace : List ℕ → List ℕ → List ℕ → Type 0
IsPlace authority host address =
    (NamesNoPort authority × (host ≡ authority) × (address ≡ authority ++ codes ":80"))
    ⊎ (EndsInPort authority host 80 × (address ≡ authority))
    ⊎ ((name : List ℕ) × (port : ℕ) × EndsInPort authority name port × (port ≢ 80) × (host ≡ authority)
    × (address ≡ authority))

-- an address that a connection is made to, and whose host can be asked for
abbrev pub IsAddress : List ℕ → Type 0
IsAddress bytes = IsHost bytes × ((name : List ℕ) × (port : ℕ) × EndsInPort bytes name port)
