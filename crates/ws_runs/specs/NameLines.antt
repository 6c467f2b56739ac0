-- Which line of a text is that of a name.
use Rattle.std.specs.Prelude.{ℕ, zero, suc, ◌==◌, ◌-◌, nat_eq, Bool, ◌||◌, List, [], ◌∷◌, codes, if◌then◌else◌}
use Rattle.std.specs.List.{starts_with}

-- what stands behind the first line feed
abbrev pub behind_feed : List ℕ → List ℕ
behind_feed [] = []
behind_feed (byte ∷ bytes) = if byte == 10 then bytes else behind_feed bytes

-- a text behind so many lines
abbrev pub from_line : ℕ → List ℕ → List ℕ
from_line zero text = text
from_line (suc lines) text = from_line lines (behind_feed text)

-- the line of this number, counted from 1, names a peer or says more of one
abbrev pub is_name_line : ℕ → List ℕ → Bool
is_name_line number text =
    let rest = from_line (number - 1) text in
    starts_with nat_eq rest (codes "# ") || starts_with nat_eq rest (codes "#: ")
