-- The groups of cases.
use Rattle.std.specs.Prelude.{ℕ, List, [], ◌∷◌, codes}

-- each group: the first part of the names of its cases, and what they try
abbrev pub group_titles : List (List ℕ × List ℕ)
group_titles =
    (codes "1", codes "Lengths of messages")
    ∷ (codes "2", codes "Pings and pongs")
    ∷ (codes "3", codes "Reserved bits")
    ∷ (codes "4", codes "Reserved opcodes")
    ∷ (codes "5", codes "Fragments")
    ∷ (codes "6", codes "Valid and invalid text")
    ∷ (codes "7", codes "The closing handshake")
    ∷ (codes "x", codes "Cases that are run only if they are named")
    ∷ []
