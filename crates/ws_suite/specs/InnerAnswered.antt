-- Inside the crate: replies that are answered one for one. A reader may skip this file.
use Rattle.std.specs.Prelude.{◌≡◌, ◌≤◌, List, [], ◌∷◌, ⊤}
use Rattle.ws_suite.specs.declared.evidence.InTurn.{InTurn}
use Rattle.ws_suite.specs.declared.evidence.Reply.{Reply}
use Rattle.ws_suite.specs.declared.evidence.kept.Head.{Head}
use Rattle.ws_suite.specs.Kept.{turn_in}

-- what was got is what is due, one for one, and none of it stands in an earlier turn than its cause
abbrev pub AreAnsweredEach : List (InTurn Reply) → List (InTurn Reply) → Type 0
AreAnsweredEach [] [] = ⊤
AreAnsweredEach [] (got ∷ gots) = ⊥
AreAnsweredEach (due ∷ dues) [] = ⊥
AreAnsweredEach (due ∷ dues) (got ∷ gots) =
    (got.what ≡ due.what) × (due.turn ≤ got.turn) × AreAnsweredEach dues gots

-- so it is by the heads, if the payloads are the same
abbrev pub AreHeadsAnswered : List Head → List Head → Type 0
AreHeadsAnswered [] [] = ⊤
AreHeadsAnswered [] (got ∷ gots) = ⊥
AreHeadsAnswered (due ∷ dues) [] = ⊥
AreHeadsAnswered (due ∷ dues) (got ∷ gots) =
    (got.kind ≡ due.kind) × (got.len ≡ due.len) × (turn_in due ≤ turn_in got) × AreHeadsAnswered dues gots
