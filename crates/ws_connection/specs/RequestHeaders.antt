-- The headers that words add to a request, each a name, a colon, a space and a value (RFC 9112 section 5).
use Rattle.std.specs.Prelude.{◌≡◌, ℕ, ◌+◌, ◌==◌, Bool, List, All, Some, drop, map, slice_get, take}
use Rattle.std.specs.List.{position_or_len}
use Rattle.ws_upgrade.specs.AddedHeaders.{AreAddedHeaders}
use Rattle.ws_upgrade.specs.Members.{HeaderPairs}

abbrev pub is_colon : ℕ → Bool
is_colon byte = byte == 58

-- how many bytes of a word stand before its first colon
abbrev pub name_length : List ℕ → ℕ
name_length word = position_or_len is_colon word

-- a space stands behind its first colon
abbrev pub HasColonSpace : List ℕ → Type 0
HasColonSpace word = slice_get word (name_length word + 1) ≡ Some 32

-- what stands before the colon, and what stands behind the space
abbrev pub header_in : List ℕ → List ℕ × List ℕ
header_in word = (take (name_length word) word, drop (name_length word + 2) word)

abbrev pub headers_in : List (List ℕ) → HeaderPairs
headers_in words = map header_in words

-- the words are parted so, and a request can have their headers beside its own
abbrev pub AreHeaderWords : List (List ℕ) → Type 0
AreHeaderWords words = All HasColonSpace words × AreAddedHeaders (headers_in words)
