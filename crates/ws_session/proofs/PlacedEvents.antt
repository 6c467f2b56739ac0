-- Events at the places where they end, and the frames that are put for them.
use Rattle.std.proofs.Common.{◌≡◌, ℕ, ◌-◌, ◌<◌, ◌≤◌, cond, List, [], ◌∷◌, ◌++◌, length, take, Option, Some, None, refl, sym, ap, ◌∙◌, arith, subst}
use Rattle.std.specs.Prelude.{map, nat_le, option_to_list}
use Rattle.std.specs.List.{AllByRecursion}
use Rattle.std.proofs.Math.Seq.{take-append-add}
use Rattle.std.proofs.lemmas.Bool.{le-leb, lt-leb}
use Rattle.std.proofs.lemmas.List.{append-nil, map-append}
use Rattle.std.proofs.lemmas.Grind.{flat_map-append}
use Rattle.ws_wire.specs.declared.role.Role.{Role}
use Rattle.ws_wire.specs.Frame.{Frame, KeyedFrame, frame_bytes, stream_bytes}
use Rattle.ws_session.specs.declared.event.Event.{Event}
use Rattle.ws_session.specs.declared.event.PlacedEvent.{PlacedEvent}
use Rattle.ws_session.specs.Limits.{LimitsValue}
use Rattle.ws_session.specs.Events.{HasEvents}
use Rattle.ws_session.specs.Replies.{under_key}
use Rattle.ws_session.specs.Exchange.{SessionValue}
use Rattle.ws_session.specs.Taking.{events_in, ending_by}
use Rattle.ws_session.specs.InnerInvariant.{placed_at}

abbrev pub EndWithin : ℕ → List PlacedEvent → Type 0
EndWithin n told = AllByRecursion (λ (placed : PlacedEvent). placed.end ≤ n) told

pub within_more : (n m : ℕ) (told : List PlacedEvent) → n ≤ m → EndWithin n told → EndWithin m told
within_more n m [] le h = tt
within_more n m (x ∷ told) le h = (omega (arith, h.0), within_more n m told le h.1)

pub within_append : (n : ℕ) (told more : List PlacedEvent) → EndWithin n told → EndWithin n more → EndWithin n (told ++ more)
within_append n [] more h k = k
within_append n (x ∷ told) more h k = (h.0, within_append n told more h.1 k)

pub placed_within : (end : ℕ) (o : Option Event) → EndWithin end (placed_at end o)
placed_within end None = tt
placed_within end (Some e) = (omega arith, tt)

-- where all end by there
pub all_ending : (n : ℕ) (told : List PlacedEvent) → EndWithin n told → ending_by n told ≡ told
all_ending n [] h = refl
all_ending n (x ∷ told) h = ap (λ b. cond b (x ∷ ending_by n told) []) (le-leb x.end n h.0) ∙ ap (λ (l : List PlacedEvent). x ∷ l) (all_ending n told h.1)

-- one that ends later adds nothing
pub none_later : (n : ℕ) (told : List PlacedEvent) (end : ℕ) (o : Option Event) → n < end → ending_by n (told ++ placed_at end o) ≡ ending_by n told
none_later n told end None lt = ap (λ (l : List PlacedEvent). ending_by n l) (append-nil told)
none_later n [] end (Some e) lt = ap (λ b. cond b (placed_at end (Some e)) []) (lt-leb end n lt)
none_later n (x ∷ told) end (Some e) lt = ap (λ (l : List PlacedEvent). cond (nat_le x.end n) (x ∷ l) []) (none_later n told end (Some e) lt)

event_at : (end : ℕ) (o : Option Event) → events_in (placed_at end o) ≡ option_to_list o
event_at end None = refl
event_at end (Some e) = refl

pub events_with : (told : List PlacedEvent) (end : ℕ) (o : Option Event) → events_in (told ++ placed_at end o) ≡ events_in told ++ option_to_list o
events_with told end o = map-append (λ (placed : PlacedEvent). placed.event) told (placed_at end o) ∙ ap (λ (l : List Event). events_in told ++ l) (event_at end o)

-- a front of two parts that reaches into the second
pub take_past : (front rest : List ℕ) (n : ℕ) → length front < n → take n (front ++ rest) ≡ front ++ take (n - length front) rest
take_past front rest n lt =
    ap (λ k. take k (front ++ rest)) (omega arith) ∙ take-append-add front rest (n - length front)

pub put_more : (role : Role) (key : List ℕ) (fs gs : List Frame) → stream_bytes (map (under_key role key) (fs ++ gs)) ≡ stream_bytes (map (under_key role key) fs) ++ stream_bytes (map (under_key role key) gs)
put_more role key fs gs = ap (λ (l : List KeyedFrame). stream_bytes l) (map-append (under_key role key) fs gs) ∙ flat_map-append frame_bytes (map (under_key role key) fs) (map (under_key role key) gs)

-- the same events at an equal role and equal limits
pub at_session : (v w : SessionValue) → (w.role ≡ v.role) × (w.limits ≡ v.limits) → (s : List ℕ) (es : List Event) → HasEvents v.role v.limits s es → HasEvents w.role w.limits s es
at_session v w same s es has =
    subst (λ (k : LimitsValue). HasEvents w.role k s es) (sym same.1) (subst (λ (k : Role). HasEvents k v.limits s es) (sym same.0) has)

pub back_to : (v w : SessionValue) → (w.role ≡ v.role) × (w.limits ≡ v.limits) → (s : List ℕ) (es : List Event) → HasEvents w.role w.limits s es → HasEvents v.role v.limits s es
back_to v w same s es has = at_session w v (sym same.0, sym same.1) s es has
