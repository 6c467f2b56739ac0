-- The names of the cases: a front, a dot, and a number from 1.
use Rattle.std.specs.Prelude.{ℕ, List, [], ◌∷◌, ◌++◌, codes, flat_map, map}
use Rattle.std.specs.List.{range_with_len}
use Rattle.std.specs.Fmt.{decimal}

abbrev pub numbered_name : List ℕ → ℕ → List ℕ
numbered_name front number = front ++ (codes "." ++ decimal number)

-- the names with this front and the numbers from 1 to the count
abbrev pub numbered : List ℕ → ℕ → List (List ℕ)
numbered front count = map (numbered_name front) (range_with_len 1 count)

-- those with each of these fronts, each to its count
abbrev pub named : List (List ℕ × ℕ) → List (List ℕ)
named fronts = flat_map (λ (x : List ℕ × ℕ). numbered x.0 x.1) fronts

-- ---- each group

abbrev pub framing_names : List (List ℕ)
framing_names = named ((codes "1.1", 8) ∷ (codes "1.2", 8) ∷ [])

abbrev pub ping_names : List (List ℕ)
ping_names = named ((codes "2", 11) ∷ [])

abbrev pub reserved_bit_names : List (List ℕ)
reserved_bit_names = named ((codes "3", 7) ∷ [])

abbrev pub opcode_names : List (List ℕ)
opcode_names = named ((codes "4.1", 5) ∷ (codes "4.2", 5) ∷ [])

abbrev pub fragment_names : List (List ℕ)
fragment_names = named ((codes "5", 20) ∷ [])

-- text, sent in several ways and at the edges of each length of a character
abbrev pub text_names : List (List ℕ)
text_names = named (
    (codes "6.1", 3) ∷ (codes "6.2", 4) ∷ (codes "6.3", 2) ∷ (codes "6.4", 4) ∷ (codes "6.5", 1) ∷ (codes "6.6", 11)
    ∷ (codes "6.7", 4) ∷ (codes "6.8", 2) ∷ (codes "6.9", 4) ∷ (codes "6.10", 3) ∷ (codes "6.11", 5) ∷ [])

-- sequences of bytes that are no text, and characters that are seldom seen
abbrev pub sequence_names : List (List ℕ)
sequence_names = named (
    (codes "6.12", 8) ∷ (codes "6.13", 5) ∷ (codes "6.14", 10) ∷ (codes "6.15", 1) ∷ (codes "6.16", 3)
    ∷ (codes "6.17", 5) ∷ (codes "6.18", 5) ∷ (codes "6.19", 5) ∷ (codes "6.20", 7) ∷ (codes "6.21", 8)
    ∷ (codes "6.22", 34) ∷ (codes "6.23", 7) ∷ [])

abbrev pub close_names : List (List ℕ)
close_names = named ((codes "7.1", 6) ∷ (codes "7.3", 6) ∷ (codes "7.5", 1) ∷ (codes "7.7", 13) ∷ (codes "7.9", 9) ∷ [])

abbrev pub hostile_names : List (List ℕ)
hostile_names = named ((codes "x", 6) ∷ [])

-- ---- all of them

-- the names that are listed, group by group
abbrev pub listed_by_group : List (List (List ℕ))
listed_by_group = framing_names ∷ ping_names ∷ reserved_bit_names ∷ opcode_names ∷ fragment_names ∷ text_names
    ∷ sequence_names ∷ close_names ∷ []

abbrev pub all_in : List (List (List ℕ)) → List (List ℕ)
all_in groups = flat_map (λ (names : List (List ℕ)). names) groups

abbrev pub listed_names : List (List ℕ)
listed_names = all_in listed_by_group

-- those, and behind them the names of the cases that are run only where they are named
abbrev pub case_names : List (List ℕ)
case_names = all_in (listed_by_group ++ hostile_names ∷ [])
