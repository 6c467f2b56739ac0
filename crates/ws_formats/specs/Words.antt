-- The words of our text formats: bytes and masking keys in hexadecimal, numbers in decimal.
use Rattle.std.specs.Prelude.{◌≡◌, ℕ, ◌/◌, ◌%◌, ◌≤◌, ◌⊎◌, ◌==◌, Bool, true, false, List, [], ◌∷◌, ◌++◌, length}
use Rattle.std.specs.Prelude.{if◌then◌else◌, Option, Some, None, codes, String, string_bytes}
use Rattle.std.specs.List.{flat_map, slice_split}
use Rattle.std.specs.Fmt.{decimal, digits}
use Rattle.std.specs.declared.alloc.Global.{Global}
use Rattle.ws_base.specs.Bytes.{AreBytes}

-- two lower-case hexadecimal digits a byte
abbrev pub hex : List ℕ → List ℕ
hex bytes = flat_map (λ b. digits 16 false (b / 16) ++ digits 16 false (b % 16)) bytes

-- the same, or a dash where there is no byte
abbrev pub hex_word : List ℕ → List ℕ
hex_word [] = codes "-"
hex_word (byte ∷ bytes) = hex (byte ∷ bytes)

-- the word spells the bytes
abbrev pub IsHexWord : List ℕ → List ℕ → Type 0
IsHexWord bytes word = AreBytes bytes × (word ≡ hex_word bytes)

abbrev pub AreFourBytes : List ℕ → Type 0
AreFourBytes key = (length key ≡ 4) × AreBytes key

-- the word spells the masking key: eight digits
abbrev pub IsKeyWord : List ℕ → List ℕ → Type 0
IsKeyWord key word = AreFourBytes key × (word ≡ hex key)

-- the word spells the masking key: eight digits, or a dash for four zeros
abbrev pub IsKeyOrDash : List ℕ → List ℕ → Type 0
IsKeyOrDash key word = AreFourBytes key × ((word ≡ hex key) ⊎ ((word ≡ codes "-") × (key ≡ 0 ∷ 0 ∷ 0 ∷ 0 ∷ [])))

-- the word is the number in decimal digits without leading zeros, and it is no larger than the most
abbrev pub IsNumberWord : ℕ → ℕ → List ℕ → Type 0
IsNumberWord most number word = (number ≤ most) × (word ≡ decimal number)

-- the name of an opcode (RFC 6455 section 5.2); a reserved one is `op` and its number
abbrev pub opcode_word : ℕ → List ℕ
opcode_word opcode =
    if opcode == 0 then codes "cont"
    else (if opcode == 1 then codes "text"
    else (if opcode == 2 then codes "binary"
    else (if opcode == 8 then codes "close"
    else (if opcode == 9 then codes "ping"
    else (if opcode == 10 then codes "pong"
    else codes "op" ++ decimal opcode)))))

-- one bit
abbrev pub bit_word : Bool → List ℕ
bit_word true = codes "1"
bit_word false = codes "0"

-- the last frame of a message, or one that others follow
abbrev pub fin_word : Bool → List ℕ
fin_word true = codes "fin"
fin_word false = codes "part"

-- two words tell the code and the reason of a close frame, or that it has neither
abbrev pub AreCloseWords : Option (ℕ × String Global) → List ℕ → List ℕ → Type 0
AreCloseWords None code reason = (code ≡ codes "none") × (reason ≡ codes "-")
AreCloseWords (Some given) code reason = IsNumberWord 65535 given.0 code × IsHexWord (string_bytes given.1) reason

abbrev pub space : ℕ
space = 32

-- the words of a line, which are parted by one space
abbrev pub words_of : List ℕ → List (List ℕ)
words_of line = slice_split (λ byte. byte == space) line
