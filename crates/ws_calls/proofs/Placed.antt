-- The events of a piece at their places in all bytes taken, and those of a part at their places in the piece.
use Rattle.std.proofs.Common.{◌≡◌, ◌∙◌, ℕ, ◌+◌, ◌<◌, ◌≤◌, ◌^◌, nat_le, cond, Bool, true, false, List, [], ◌∷◌, ◌++◌, ap, ap₂, refl, sym, map, arith}
use Rattle.std.proofs.lemmas.Bool.Decides.{nat_tests}
use Rattle.std.proofs.lemmas.Grind.{flat_map-append}
use Rattle.std.proofs.lemmas.List.{map-append}
use Rattle.std.specs.List.{AllByRecursion, flat_map}
use Rattle.ws_session.specs.declared.event.Event.{Event}
use Rattle.ws_session.specs.declared.event.PlacedEvent.{PlacedEvent}
use Rattle.ws_session.specs.Taking.{ending_by, events_in}
use Rattle.ws_calls.specs.declared.report.PlacedInStream.{PlacedInStream}
use Rattle.ws_calls.specs.CallLines.{event_line}
use Rattle.ws_calls.specs.Calls.{events_without_places, placed_by}
use Rattle.ws_calls.specs.InnerSteps.{placed_behind, told_behind}

-- an event of a part behind so many bytes of its piece
abbrev pub behind : ℕ → PlacedEvent → PlacedEvent
behind n x = record { event = x.event; end = n + x.end }

pub events_behind : (n : ℕ) (told : List PlacedEvent) → events_in (map (behind n) told) ≡ events_in told
events_behind n [] = refl
events_behind n (x ∷ told) = ap (λ (l : List Event). x.event ∷ l) (events_behind n told)

-- places move the events
pub same_events : (start : ℕ) (told : List PlacedEvent) → events_without_places (map (placed_behind start) told) ≡ events_in told
same_events start [] = refl
same_events start (x ∷ told) = ap (λ (l : List Event). x.event ∷ l) (same_events start told)

same_test : (start a b : ℕ) → nat_le (start + a) (start + b) ≡ nat_le a b
same_test start a b = grind (arith, nat_tests)

pub same_front_behind : (k n : ℕ) (told : List PlacedEvent) → ending_by (k + n) (map (behind k) told) ≡ map (behind k) (ending_by n told)
same_front_behind k n [] = refl
same_front_behind k n (x ∷ told) =
    ap₂ (λ (b : Bool) (l : List PlacedEvent). cond b (behind k x ∷ l) []) (same_test k x.end n) (same_front_behind k n told)
    ∙ either (nat_le x.end n)
  where
    either : (b : Bool) → cond b (behind k x ∷ map (behind k) (ending_by n told)) [] ≡ map (behind k) (cond b (x ∷ ending_by n told) [])
    either b = elim b as (λ v. cond v (behind k x ∷ map (behind k) (ending_by n told)) [] ≡ map (behind k) (cond v (x ∷ ending_by n told) [])) [ true ↦ refl | false ↦ refl ]

-- the lines of the events of a part, and then those of the next
placed_twice : (start n : ℕ) (told : List PlacedEvent) → map (placed_behind (start + n)) told ≡ map (placed_behind start) (map (behind n) told)
placed_twice start n [] = refl
placed_twice start n (x ∷ told) =
    let place : start + n + x.end ≡ start + (n + x.end) = omega arith in
    ap₂ (λ (m : ℕ) (l : List PlacedInStream). record { place = m; event = x.event } ∷ l) place (placed_twice start n told)

pub told_joined : (start n : ℕ) (first second : List PlacedEvent) → told_behind start (first ++ map (behind n) second) ≡ told_behind start first ++ told_behind (start + n) second
told_joined start n first second =
    ap (λ (l : List PlacedInStream). flat_map event_line l) (map-append (placed_behind start) first (map (behind n) second))
    ∙ (flat_map-append event_line (map (placed_behind start) first) (map (placed_behind start) (map (behind n) second))
    ∙ ap (λ (l : List PlacedInStream). told_behind start first ++ flat_map event_line l) (sym (placed_twice start n second)))

pub same_front : (start n : ℕ) (told : List PlacedEvent) → placed_by (start + n) (map (placed_behind start) told) ≡ map (placed_behind start) (ending_by n told)
same_front start n [] = refl
same_front start n (x ∷ told) =
    ap₂ (λ (b : Bool) (l : List PlacedInStream). cond b (placed_behind start x ∷ l) []) (same_test start x.end n) (same_front start n told)
    ∙ either (nat_le x.end n)
  where
    either : (b : Bool) → cond b (placed_behind start x ∷ map (placed_behind start) (ending_by n told)) [] ≡ map (placed_behind start) (cond b (x ∷ ending_by n told) [])
    either b = elim b as (λ v. cond v (placed_behind start x ∷ map (placed_behind start) (ending_by n told)) [] ≡ map (placed_behind start) (cond v (x ∷ ending_by n told) [])) [ true ↦ refl | false ↦ refl ]

pub same_front_events : (start n : ℕ) (told : List PlacedEvent) → events_without_places (placed_by (start + n) (map (placed_behind start) told)) ≡ events_in (ending_by n told)
same_front_events start n told = ap (λ (l : List PlacedInStream). events_without_places l) (same_front start n told) ∙ same_events start (ending_by n told)

pub places_within : (start most : ℕ) (told : List PlacedEvent) → AllByRecursion (λ (x : PlacedEvent). x.end ≤ most) told
    → AllByRecursion (λ (x : PlacedInStream). x.place ≤ start + most) (map (placed_behind start) told)
places_within start most [] h = tt
places_within start most (x ∷ told) h = (omega (arith, h.0), places_within start most told h.1)

pub have_room : (start most : ℕ) (told : List PlacedEvent) → start + most < 2 ^ 64 → AllByRecursion (λ (x : PlacedEvent). x.end ≤ most) told
    → AllByRecursion (λ (x : PlacedEvent). start + x.end < 2 ^ 64) told
have_room start most [] less h = tt
have_room start most (x ∷ told) less h = (omega (arith, h.0), have_room start most told less h.1)
