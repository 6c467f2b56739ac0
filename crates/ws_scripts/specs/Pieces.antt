-- Byte strings as they are kept: a list of short lengths, one of the long ones, and the joined bytes.
use Rattle.std.specs.Prelude.{◌≡◌, ◌+◌, ℕ, ⊤, if◌then◌else◌, nat_eq, List, [], ◌∷◌, drop, length, take}
use Rattle.ws_scripts.specs.declared.transcript.Turn.{Turn}
use Rattle.ws_scripts.specs.declared.turn_walk.TurnRef.{TurnRef}

-- ---- turns as pairs

-- a turn that is lent
abbrev pub lent_turn : TurnRef → Turn
lent_turn turn = record { sent = turn.sent.now; got = turn.got.now }

-- a turn in which these bytes were sent, and those got
abbrev pub turn_with : List ℕ → List ℕ → Turn
turn_with sent got = record { sent = sent; got = got }

-- of each turn first what was sent, then what was got
abbrev pub turns_of_pairs : List (List ℕ) → List Turn
turns_of_pairs [] = []
turns_of_pairs (sent ∷ []) = []
turns_of_pairs (sent ∷ got ∷ others) = record { sent = sent; got = got } ∷ turns_of_pairs others

-- each has the other of its turn
abbrev pub AreInPairs : List (List ℕ) → Type 0
AreInPairs [] = ⊤
AreInPairs (sent ∷ []) = ⊥
AreInPairs (sent ∷ got ∷ others) = AreInPairs others

-- ---- inside the crate: a reader may skip what follows

-- the first of the numbers, if there is one
abbrev pub first_number : List ℕ → ℕ
first_number [] = 0
first_number (number ∷ others) = number

-- the length that a byte tells: below 255 itself, and else the first of the long ones
abbrev pub len_told : ℕ → List ℕ → ℕ
len_told byte long = if nat_eq byte 255 then first_number long else byte

-- the long ones that are left after it
abbrev pub long_after : ℕ → List ℕ → List ℕ
long_after byte long = if nat_eq byte 255 then drop 1 long else long

-- the byte strings, each with its part of the bytes
abbrev pub kept_pieces : List ℕ → List ℕ → List ℕ → List (List ℕ)
kept_pieces [] long bytes = []
kept_pieces (byte ∷ lens) long bytes =
    take (len_told byte long) bytes ∷ kept_pieces lens (long_after byte long) (drop (len_told byte long) bytes)

-- how many long lengths there are
abbrev pub long_count : List ℕ → ℕ
long_count [] = 0
long_count (byte ∷ lens) = (if nat_eq byte 255 then 1 else 0) + long_count lens

-- how many bytes the lengths tell of
abbrev pub told_bytes : List ℕ → List ℕ → ℕ
told_bytes [] long = 0
told_bytes (byte ∷ lens) long = len_told byte long + told_bytes lens (long_after byte long)

-- no length and no byte is missing, or left over
pub record HasPieces (lens long bytes : List ℕ) : Type 0 where
  pub longs : long_count lens ≡ length long
  pub len : told_bytes lens long ≡ length bytes
