-- A piece that is taken in parts, one after the other, was taken whole.
use Rattle.std.proofs.Common.{◌≡◌, ◌∙◌, ℕ, ◌+◌, ◌-◌, ◌≤◌, nat_le, cond, Bool, true, false, List, [], ◌∷◌, ◌++◌, length, take, map, ap, ap₂, sym, refl, subst, arith, inl, inr, append_assoc, append-nil}
use Rattle.std.proofs.lemmas.Bool.{cases_lt}
use Rattle.std.proofs.lemmas.Bool.Decides.{nat_tests}
use Rattle.std.proofs.lemmas.Grind.{flat_map-append}
use Rattle.std.proofs.lemmas.List.{length-append, map-append, take-append-le, take_all}
use Rattle.std.proofs.Math.Seq.{take-append-add}
use Rattle.std.specs.List.{AllByRecursion}
use Rattle.ws_wire.specs.declared.role.Role.{Role}
use Rattle.ws_wire.specs.Frame.{Frame, KeyedFrame, frame_bytes, stream_bytes}
use Rattle.ws_session.specs.declared.event.Event.{Event}
use Rattle.ws_session.specs.declared.event.PlacedEvent.{PlacedEvent}
use Rattle.ws_session.specs.Limits.{LimitsValue}
use Rattle.ws_session.specs.Events.{HasEvents}
use Rattle.ws_session.specs.Replies.{has_close, replies_by, under_key}
use Rattle.ws_session.specs.Exchange.{Exchange, SessionValue, HasExchanged}
use Rattle.ws_session.specs.Taking.{ending_by, events_in}
use Rattle.ws_calls.specs.InnerSteps.{HasTakenPart}
use Rattle.ws_calls.proofs.Placed.{behind, events_behind, same_front_behind}

abbrev pub OneList : Type 0
OneList = (role : Role) (limits : LimitsValue) (bytes : List ℕ) (events others : List Event) → HasEvents role limits bytes events → HasEvents role limits bytes others → events ≡ others

abbrev pub RepliesGoOn : Type 0
RepliesGoOn = (reply : Event → List Frame) (sent : List Frame) (events later : List Event) → replies_by reply sent (events ++ later) ≡ replies_by reply sent events ++ replies_by reply (sent ++ replies_by reply sent events) later

no_frames : List Frame
no_frames = []

none_either : (b : Bool) → cond b no_frames no_frames ≡ no_frames
none_either true = refl
none_either false = refl

no_replies : (reply : Event → List Frame) (sent : List Frame) → replies_by reply sent [] ≡ []
unfolding no_frames
no_replies reply sent = none_either (has_close sent)

-- nothing was taken yet
pub nothing_taken : (reply : Event → List Frame) (v : SessionValue) (key put : List ℕ) → HasTakenPart reply v v [] key put put []
nothing_taken reply v key put = record {
  told = [];
  added = refl;
  within = tt;
  same = (refl, refl);
  takes = λ exchange going is.
      let sent : exchange.sent ++ replies_by reply exchange.sent [] ≡ exchange.sent = ap (λ (l : List Frame). exchange.sent ++ l) (no_replies reply exchange.sent) ∙ append-nil exchange.sent in
      let at_end : (events : List Event) → HasEvents v.role v.limits exchange.taken events → HasEvents v.role v.limits (exchange.taken ++ []) (events ++ []) = λ events has.
      subst (λ (l : List Event). HasEvents v.role v.limits (exchange.taken ++ []) l) (sym (append-nil events)) (subst (λ (l : List ℕ). HasEvents v.role v.limits l events) (sym (append-nil exchange.taken)) has) in
      record {
        agrees = subst (λ (l : List Frame). HasExchanged v l (exchange.taken ++ []) exchange.ended) (sym sent) (subst (λ (l : List ℕ). HasExchanged v exchange.sent l exchange.ended) (sym (append-nil exchange.taken)) is);
        events = at_end;
        places = λ n events has. subst (λ (l : List ℕ). HasEvents v.role v.limits (exchange.taken ++ l) (events ++ [])) (sym (take_all n [] (omega arith))) (at_end events has);
        put = sym (ap (λ (l : List Frame). put ++ stream_bytes (map (under_key v.role key) l)) (no_replies reply exchange.sent) ∙ append-nil put);
      };
}

all_within : (n m : ℕ) (told : List PlacedEvent) → n ≤ m → AllByRecursion (λ (x : PlacedEvent). x.end ≤ n) told → AllByRecursion (λ (x : PlacedEvent). x.end ≤ m) told
all_within n m [] le h = tt
all_within n m (x ∷ told) le h = (omega (arith, le, h.0), all_within n m told le h.1)

behind_within : (n m k : ℕ) (told : List PlacedEvent) → n + m ≤ k → AllByRecursion (λ (x : PlacedEvent). x.end ≤ m) told → AllByRecursion (λ (x : PlacedEvent). x.end ≤ k) (map (behind n) told)
behind_within n m k [] le h = tt
behind_within n m k (x ∷ told) le h = (omega (arith, le, h.0), behind_within n m k told le h.1)

both_within : (P : PlacedEvent → Type 0) (xs ys : List PlacedEvent) → AllByRecursion P xs → AllByRecursion P ys → AllByRecursion P (xs ++ ys)
both_within P [] ys h k = k
both_within P (x ∷ xs) ys h k = (h.0, both_within P xs ys h.1 k)

-- where the later ones end after the first n bytes
front_alone : (n : ℕ) (told later : List PlacedEvent) → ending_by n later ≡ [] → ending_by n (told ++ later) ≡ ending_by n told
front_alone n [] later none = none
front_alone n (x ∷ told) later none = ap (λ (l : List PlacedEvent). cond (nat_le x.end n) (x ∷ l) []) (front_alone n told later none)

-- where the first n bytes hold all of the first ones
front_passed : (n : ℕ) (told later : List PlacedEvent) → AllByRecursion (λ (x : PlacedEvent). x.end ≤ n) told → ending_by n (told ++ later) ≡ told ++ ending_by n later
front_passed n [] later h = refl
front_passed n (x ∷ told) later h =
    let within : nat_le x.end n ≡ true = grind (arith, nat_tests, h.0) in
    ap₂ (λ (b : Bool) (l : List PlacedEvent). cond b (x ∷ l) []) within (front_passed n told later h.1)

-- what doesn't end before a part does not end before its first byte in the whole
none_behind : (n m : ℕ) (told : List PlacedEvent) → ending_by 0 told ≡ [] → n ≤ m → ending_by n (map (behind m) told) ≡ []
none_behind n m [] none le = refl
none_behind n m (x ∷ told) none le = elim (cases_lt 0 x.end) [
  | inl more ↦
      let after : nat_le (m + x.end) n ≡ false = grind (arith, nat_tests, more, le) in
      ap (λ (b : Bool). cond b (behind m x ∷ ending_by n (map (behind m) told)) []) after
  | inr less ↦
      let first : nat_le x.end 0 ≡ true = grind (arith, nat_tests, less) in
      absurd (let wrong : x ∷ ending_by 0 told ≡ [] = sym (ap (λ (b : Bool). cond b (x ∷ ending_by 0 told) []) first) ∙ none in cc)
]

no_events : (told : List PlacedEvent) → events_in told ≡ [] → told ≡ []
no_events [] e = refl
no_events (x ∷ told) e = absurd cc

pub no_bytes : (bytes : List ℕ) → length bytes ≤ 0 → bytes ≡ []
no_bytes [] less = refl
no_bytes (x ∷ bytes) less = absurd (omega (arith, less))

nothing_added : {X : Type 0} (xs ys : List X) → xs ≡ xs ++ ys → ys ≡ []
nothing_added [] ys e = sym e
nothing_added (x ∷ xs) ys e = nothing_added xs ys (let tails : xs ≡ xs ++ ys = cc in tails)

module _ (one_list : OneList) (replies : RepliesGoOn) (reply : Event → List Frame) (old mid new : SessionValue) (p q key b0 b1 b2 : List ℕ) where
  pub joined : (first second : List PlacedEvent) → HasTakenPart reply old mid p key b0 b1 first → HasTakenPart reply mid new q key b1 b2 second → HasTakenPart reply old new (p ++ q) key b0 b2 (first ++ map (behind (length p)) second)
  joined first second h k =
      let n = length p in
      let all = h.told ++ map (behind n) k.told in
      record {
        told = all;
        added = ap₂ (λ (l m : List PlacedEvent). l ++ map (behind n) m) h.added k.added;
        within = both_within (λ (x : PlacedEvent). x.end ≤ length (p ++ q)) h.told (map (behind n) k.told) (all_within n (length (p ++ q)) h.told (omega (arith, length-append p q)) h.within)
            (behind_within n (length q) (length (p ++ q)) k.told (omega (arith, length-append p q)) k.within);
        same = (k.same.0 ∙ h.same.0, k.same.1 ∙ h.same.1);
        takes = λ exchange going is.
            let t = h.takes exchange going is in
            let r = replies_by reply exchange.sent (events_in h.told) in
            let between : Exchange = record { sent = exchange.sent ++ r; taken = exchange.taken ++ p; ended = exchange.ended } in
            let u = k.takes between going t.agrees in
            let r2 = replies_by reply (exchange.sent ++ r) (events_in k.told) in
            let moved : events_in all ≡ events_in h.told ++ events_in k.told = map-append (λ (x : PlacedEvent). x.event) h.told (map (behind n) k.told) ∙ ap (λ (l : List Event). events_in h.told ++ l) (events_behind n k.told) in
            let owed : replies_by reply exchange.sent (events_in all) ≡ r ++ r2 = ap (λ (l : List Event). replies_by reply exchange.sent l) moved ∙ replies reply exchange.sent (events_in h.told) (events_in k.told) in
            let under = under_key old.role key in
            let at_mid : (bytes : List ℕ) (events : List Event) → HasEvents old.role old.limits bytes events → HasEvents mid.role mid.limits bytes events = λ bytes events has.
            subst (λ (x : Role). HasEvents x mid.limits bytes events) (sym h.same.0) (subst (λ (m : LimitsValue). HasEvents old.role m bytes events) (sym h.same.1) has) in
            let at_old : (bytes : List ℕ) (events : List Event) → HasEvents mid.role mid.limits bytes events → HasEvents old.role old.limits bytes events = λ bytes events has.
            subst (λ (x : Role). HasEvents x old.limits bytes events) h.same.0 (subst (λ (m : LimitsValue). HasEvents mid.role m bytes events) h.same.1 has) in
            let at_part : (events : List Event) → HasEvents old.role old.limits exchange.taken events → (m : ℕ) → HasEvents old.role old.limits (exchange.taken ++ (p ++ take m q)) (events ++ (events_in h.told ++ events_in (ending_by m k.told))) = λ events has m.
            let e1 = events_in h.told in
            let e2 = events_in (ending_by m k.told) in
            subst (λ (l : List ℕ). HasEvents old.role old.limits l (events ++ (e1 ++ e2))) (append_assoc exchange.taken p (take m q))
            (subst (λ (l : List Event). HasEvents old.role old.limits (exchange.taken ++ p ++ take m q) l) (append_assoc events e1 e2)
            (at_old (exchange.taken ++ p ++ take m q) (events ++ e1 ++ e2) (u.places m (events ++ e1) (at_mid (exchange.taken ++ p) (events ++ e1) (t.events events has))))) in
            record {
              agrees = subst (λ (l : List Frame). HasExchanged new l (exchange.taken ++ (p ++ q)) exchange.ended) (append_assoc exchange.sent r r2 ∙ ap (λ (l : List Frame). exchange.sent ++ l) (sym owed))
                  (subst (λ (l : List ℕ). HasExchanged new (exchange.sent ++ r ++ r2) l exchange.ended) (append_assoc exchange.taken p q) u.agrees);
              events = λ events has.
                  let e1 = events_in h.told in
                  let e2 = events_in k.told in
                  subst (λ (l : List Event). HasEvents old.role old.limits (exchange.taken ++ (p ++ q)) (events ++ l)) (sym moved)
                  (subst (λ (l : List ℕ). HasEvents old.role old.limits l (events ++ (e1 ++ e2))) (append_assoc exchange.taken p q)
                  (subst (λ (l : List Event). HasEvents old.role old.limits (exchange.taken ++ p ++ q) l) (append_assoc events e1 e2)
                  (at_old (exchange.taken ++ p ++ q) (events ++ e1 ++ e2) (u.events (events ++ e1) (at_mid (exchange.taken ++ p) (events ++ e1) (t.events events has))))));
              places = λ m events has.
                  let e1 = events_in h.told in
                  let here = at_mid (exchange.taken ++ p) (events ++ e1) (t.events events has) in
                  elim (cases_lt m n) [
                    | inl less ↦
                        let at_first = u.places 0 (events ++ e1) here in
                        let same_bytes : exchange.taken ++ p ++ take 0 q ≡ exchange.taken ++ p = append-nil (exchange.taken ++ p) in
                        let none : ending_by 0 k.told ≡ [] = no_events (ending_by 0 k.told) (nothing_added (events ++ e1) (events_in (ending_by 0 k.told))
                        (one_list mid.role mid.limits (exchange.taken ++ p) (events ++ e1) (events ++ e1 ++ events_in (ending_by 0 k.told)) here
                        (subst (λ (l : List ℕ). HasEvents mid.role mid.limits l (events ++ e1 ++ events_in (ending_by 0 k.told))) same_bytes at_first))) in
                        let front : ending_by m all ≡ ending_by m h.told = front_alone m h.told (map (behind n) k.told) (none_behind m n k.told none (omega (arith, less))) in
                        subst (λ (l : List PlacedEvent). HasEvents old.role old.limits (exchange.taken ++ take m (p ++ q)) (events ++ events_in l)) (sym front)
                        (subst (λ (l : List ℕ). HasEvents old.role old.limits (exchange.taken ++ l) (events ++ events_in (ending_by m h.told))) (sym (take-append-le m p q (omega (arith, less)))) (t.places m events has))
                    | inr most ↦
                        let count : n + (m - n) ≡ m = omega (arith, most) in
                        let bytes : take m (p ++ q) ≡ p ++ take (m - n) q = ap (λ (x : ℕ). take x (p ++ q)) (sym count) ∙ take-append-add p q (m - n) in
                        let front : ending_by m all ≡ h.told ++ map (behind n) (ending_by (m - n) k.told) =
                        front_passed m h.told (map (behind n) k.told) (all_within n m h.told most h.within)
                        ∙ ap (λ (l : List PlacedEvent). h.told ++ l) (ap (λ (x : ℕ). ending_by x (map (behind n) k.told)) (sym count) ∙ same_front_behind n (m - n) k.told) in
                        let events_there : events_in (ending_by m all) ≡ e1 ++ events_in (ending_by (m - n) k.told) =
                        ap (λ (l : List PlacedEvent). events_in l) front ∙ (map-append (λ (x : PlacedEvent). x.event) h.told (map (behind n) (ending_by (m - n) k.told)) ∙ ap (λ (l : List Event). e1 ++ l) (events_behind n (ending_by (m - n) k.told))) in
                        subst (λ (l : List Event). HasEvents old.role old.limits (exchange.taken ++ take m (p ++ q)) (events ++ l)) (sym events_there)
                        (subst (λ (l : List ℕ). HasEvents old.role old.limits (exchange.taken ++ l) (events ++ (e1 ++ events_in (ending_by (m - n) k.told)))) (sym bytes) (at_part events has (m - n)))
                  ];
              put =
                  let second : b2 ≡ b1 ++ stream_bytes (map under r2) = u.put ∙ ap (λ (x : Role). b1 ++ stream_bytes (map (under_key x key) r2)) h.same.0 in
                  let whole : stream_bytes (map under (replies_by reply exchange.sent (events_in all))) ≡ stream_bytes (map under r) ++ stream_bytes (map under r2) =
                  ap (λ (l : List Frame). stream_bytes (map under l)) owed ∙ (ap (λ (l : List KeyedFrame). stream_bytes l) (map-append under r r2) ∙ flat_map-append frame_bytes (map under r) (map under r2)) in
                  second ∙ (ap (λ (l : List ℕ). l ++ stream_bytes (map under r2)) t.put ∙ (append_assoc b0 (stream_bytes (map under r)) (stream_bytes (map under r2)) ∙ ap (λ (l : List ℕ). b0 ++ l) (sym whole)));
            };
      }
