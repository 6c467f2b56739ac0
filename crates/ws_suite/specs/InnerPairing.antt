-- Inside the crate: what comes of one message or pong that is compared. A reader may skip this file.
use Rattle.std.specs.Prelude.{◌≡◌, ◌⊎◌, Bool, true, false, List, [], ◌∷◌, ◌++◌}
use Rattle.ws_suite.specs.declared.evidence.InTurn.{InTurn}
use Rattle.ws_suite.specs.declared.evidence.Reply.{Reply}
use Rattle.ws_suite.specs.declared.evidence.kept.Kept.{Kept}
use Rattle.ws_suite.specs.declared.evidence.pairing.Meeting.{Meeting}
use Rattle.ws_suite.specs.declared.evidence.pairing.Meeting.TheVariants.{Nobody, Same, Other}
use Rattle.ws_suite.specs.declared.evidence.pairing.Pairing.{Pairing}
use Rattle.ws_suite.specs.Kept.{what_of}
use Rattle.ws_suite.specs.Matching.{bare, has_payload_of}
use Rattle.ws_suite.specs.Pairings.{AreLeftOf, Differ}

-- ---- a message that comes

-- it is the first of the other side, or another, or there is none
abbrev pub MeetsFirst : List (InTurn Reply) → Kept → Meeting → Type 0
MeetsFirst others reply Nobody = others ≡ []
MeetsFirst others reply Same = (first : InTurn Reply) × (later : List (InTurn Reply)) × (others ≡ first ∷ later)
    × (first.what ≡ what_of reply)
MeetsFirst others reply Other = (first : InTurn Reply) × (later : List (InTurn Reply)) × (others ≡ first ∷ later)
    × (¬ (first.what ≡ what_of reply))

-- Where the messages of both sides that are left are these, so they are with it, or both sides differ.
abbrev pub LeavesOr : Bool → List Reply → List Reply → List Reply → List Reply → Type 0
LeavesOr true alls all_others mine others = AreLeftOf alls all_others mine others
LeavesOr false alls all_others mine others = Differ alls all_others

abbrev pub Meets : List (InTurn Reply) → List (InTurn Reply) → Kept → List (InTurn Reply) → List (InTurn Reply) → Bool
    → Type 0
Meets mine others reply new_mine new_others same = (alls all_others : List Reply)
    → AreLeftOf alls all_others (bare mine) (bare others)
    → LeavesOr same (alls ++ what_of reply ∷ []) all_others (bare new_mine) (bare new_others)

-- ---- what can't come

abbrev pub IsSeenAstray : Pairing → Type 0
IsSeenAstray x = (x.differs ≡ true) ⊎ ((¬ (x.early ≡ [])) ⊎ ((x.due ≡ []) × (¬ (x.unmatched ≡ []))))

-- ---- a pong that waits

-- the first of these pongs, if there is one, has the payload of this due one
abbrev pub WaitsFor : List (InTurn Reply) → InTurn Reply → Bool → Type 0
WaitsFor [] due answer = answer ≡ false
WaitsFor (pong ∷ pongs) due answer = answer ≡ has_payload_of pong due
