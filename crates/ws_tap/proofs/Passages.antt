-- What happens to a direction, one event after the other.
use Rattle.std.proofs.Common.{◌≡◌, ℕ, List, [], ◌∷◌, ◌++◌, Some, None, refl, ap}
use Rattle.ws_wire.specs.declared.role.Role.{Role}
use Rattle.ws_wire.specs.declared.role.Role.TheVariants.{Client, Server}
use Rattle.ws_tap.specs.Told.{TapTold, CameFrom, EndedBy, TakenBy, EndedTo, Passage, passage, passage_after}
use Rattle.ws_tap.specs.Told.{passage_from}
use Rattle.ws_tap.specs.Told.{where_same, no_passage, first_ended}

passage_on : (role : Role) (p : Passage) (told : List TapTold) (event : TapTold)
    → passage_from role p (told ++ event ∷ []) ≡ passage_after role (passage_from role p told) event
passage_on role p [] event = refl
passage_on role p (first ∷ told) event = passage_on role (passage_after role p first) told event

-- one event more
pub passage_with : (role : Role) (told : List TapTold) (event : TapTold)
    → passage role (told ++ event ∷ []) ≡ passage_after role (passage role told) event
passage_with role told event = passage_on role no_passage told event

-- an end that is the same, and the other
pub here : (role : Role) (same other : Passage) → where_same role role same other ≡ same
here Client same other = refl
here Server same other = refl

-- a piece that came
pub came_of : (role : Role) (told : List TapTold) (piece : List ℕ)
    → (passage role (told ++ CameFrom role piece ∷ [])).came ≡ (passage role told).came ++ piece
came_of Client told piece = ap (λ (p : Passage). p.came) (passage_with Client told (CameFrom Client piece))
came_of Server told piece = ap (λ (p : Passage). p.came) (passage_with Server told (CameFrom Server piece))

pub ended_of : (role : Role) (told : List TapTold) (piece : List ℕ)
    → (passage role (told ++ CameFrom role piece ∷ [])).ended ≡ (passage role told).ended
ended_of Client told piece = ap (λ (p : Passage). p.ended) (passage_with Client told (CameFrom Client piece))
ended_of Server told piece = ap (λ (p : Passage). p.ended) (passage_with Server told (CameFrom Server piece))

-- ---- the first end

-- the first end behind an event that isn't the end of a direction
pub first_stays : (told : List TapTold) (event : TapTold) → first_ended (event ∷ []) ≡ None
    → first_ended (told ++ event ∷ []) ≡ first_ended told
first_stays [] event none = none
first_stays (CameFrom from bytes ∷ told) event none = first_stays told event none
first_stays (EndedBy from ∷ told) event none = refl
first_stays (TakenBy to bytes ∷ told) event none = first_stays told event none
first_stays (EndedTo to ∷ told) event none = first_stays told event none

-- and behind one that is: that end, where none was before
pub first_now : (told : List TapTold) (role : Role) → first_ended told ≡ None
    → first_ended (told ++ EndedBy role ∷ []) ≡ Some role
first_now [] role none = refl
first_now (CameFrom from bytes ∷ told) role none = first_now told role none
first_now (EndedBy from ∷ told) role none = absurd cc
first_now (TakenBy to bytes ∷ told) role none = first_now told role none
first_now (EndedTo to ∷ told) role none = first_now told role none

pub first_known : (told : List TapTold) (event : TapTold) (first : Role) → first_ended told ≡ Some first
    → first_ended (told ++ event ∷ []) ≡ Some first
first_known [] event first some = absurd cc
first_known (CameFrom from bytes ∷ told) event first some = first_known told event first some
first_known (EndedBy from ∷ told) event first some = some
first_known (TakenBy to bytes ∷ told) event first some = first_known told event first some
first_known (EndedTo to ∷ told) event first some = first_known told event first some
