-- Inside the crate: where names stand in a list. A reader may skip it.
use Rattle.std.specs.Prelude.{◌≡◌, ℕ, List, Option}
use Rattle.std.specs.BTreeMap.{BTreeMap, get_by}
use Rattle.std.specs.Borrow.{Bor}
use Rattle.std.specs.Cmp.Lexicographic.{slice_cmp}
use Rattle.std.specs.Ordering.{nat_cmp}
use Rattle.ws_runs.specs.Names.{place_among}

-- the place that is written down for a name
abbrev pub noted_place : BTreeMap (Bor (List ℕ)) ℕ → List ℕ → Option ℕ
noted_place places name = get_by (λ (k : Bor (List ℕ)). slice_cmp nat_cmp name k.now) places

-- the places of these names, and of no others, are written down
abbrev pub AreNotedPlaces : List (List ℕ) → BTreeMap (Bor (List ℕ)) ℕ → Type 0
AreNotedPlaces names places = (name : List ℕ) → noted_place places name ≡ place_among name names
