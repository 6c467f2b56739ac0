-- The headers that a request can have beside its own. Which they are is our choice: a name is a token (RFC 9110
-- sections 5.1 and 5.6.2), and a value is what can be read back (section 5.5).
use Rattle.std.specs.Prelude.{◌≡◌, ℕ, ◌≤◌, List, [], ◌∷◌, length, take, codes, Bool, ◌||◌, All, IsTrue}
use Rattle.std.specs.Str.{str_eq_ignore_ascii_case}
use Rattle.httparse.specs.Grammar.{trim_ows}
use Rattle.ws_upgrade.specs.Members.{HeaderPairs, has_word}
use Rattle.ws_upgrade.specs.Protocols.{is_token_byte}
use Rattle.ws_upgrade.specs.declared.added_headers.AddedHeader.{AddedHeader}

-- the names of the headers that a request has itself, and of those that speak of a body
abbrev pub names_kept : List (List ℕ)
names_kept =
    codes "Host" ∷ codes "Upgrade" ∷ codes "Connection" ∷ codes "Content-Length" ∷ codes "Transfer-Encoding" ∷ []

-- no added header has this name: it is one of those, or begins with Sec-WebSocket-, without regard to ASCII case
abbrev pub is_kept_name : List ℕ → Bool
is_kept_name name = has_word name names_kept || str_eq_ignore_ascii_case (take 14 name) (codes "Sec-WebSocket-")

-- the name of an added header: a token of at most 64 bytes, and none of the names above
pub record IsAddedName (name : List ℕ) : Type 0 where
  pub some : 1 ≤ length name
  pub short : length name ≤ 64
  pub token : All (λ byte. IsTrue (is_token_byte byte)) name
  pub free : ¬ (IsTrue (is_kept_name name))

-- the value of an added header: at most 4096 bytes from the space to ~, and no space at its ends
pub record IsAddedValue (value : List ℕ) : Type 0 where
  pub short : length value ≤ 4096
  pub visible : All (λ byte. (0x20 ≤ byte) × (byte ≤ 0x7e)) value
  pub trimmed : trim_ows value ≡ value

abbrev pub IsAddedHeader : List ℕ × List ℕ → Type 0
IsAddedHeader header = IsAddedName header.0 × IsAddedValue header.1

-- the headers that one request can have so: at most 32
abbrev pub AreAddedHeaders : HeaderPairs → Type 0
AreAddedHeaders headers = (length headers ≤ 32) × All IsAddedHeader headers

-- a header as its name and its value
abbrev pub header_pair : AddedHeader → List ℕ × List ℕ
header_pair header = (header.name.now, header.value.now)
