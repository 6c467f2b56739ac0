-- Nobody has come to tapped connections yet.
use Rattle.std.proofs.Common.{◌≡◌, ◌∙◌, ◌+◌, ◌^◌, ◌≤◌, ◌<◌, ◌⊎◌, ◌≢◌, ℕ, true, false, List, [], ◌∷◌, ◌++◌, length}
use Rattle.std.proofs.Common.{Option, None, Some, ap, sym, refl, subst, arith, inl, inr, nat_eq, replicate, slice_get}
use Rattle.std.proofs.Common.{slice_set, suc, zero}
use Rattle.std.proofs.lemmas.Bool.Decides.{eqb_tells}
use Rattle.std.proofs.lemmas.List.Elements.{All-nil}
use Rattle.std.proofs.lemmas.Option.{none-some, same_Some, slice_get_within}
use Rattle.ws_loops.specs.Deeds.{Deed}
use Rattle.ws_loops.proofs.PlaceLemmas.{get_set_other, get_set_same}
use Rattle.ws_clients.specs.Numbers.{clients_numbered}
use Rattle.ws_relays.specs.EndPlaces.{EndThere, FreePlace, KeptPlace}
use Rattle.ws_relays.specs.InnerRelays.{AreRelays, IsPairIn, no_parts, number_of_pair}
use Rattle.ws_relays.specs.Tappings.{HasRelayEnded, IsTapPartOf}
use Rattle.ws_relays.specs.declared.relays.Pair.{Pair}
use Rattle.ws_relays.specs.declared.relays.Pair.TheVariants as pair
use Rattle.ws_relays.specs.declared.relays.RelayEnd.{RelayEnd}
use Rattle.ws_relays.specs.declared.relays.Relays.{Relays}
use Rattle.ws_relays.specs.declared.tapping.Tapping.{Tapping}

-- so many places in which nobody is
abbrev nobody : ℕ → List (Option ℕ)
nobody n = replicate n None

none_at : (n i : ℕ) → i < n → slice_get (nobody n) i ≡ Some None
none_at zero i lt = absurd (omega (arith, lt))
none_at (suc n) zero lt = refl
none_at (suc n) (suc i) lt = none_at n i (omega (arith, lt))

nobody_at : (n i k : ℕ) → slice_get (nobody n) i ≡ Some (Some k) → ⊥
nobody_at zero i k is = none-some (Some k) is
nobody_at (suc n) zero k is = none-some k (same_Some None (Some k) is)
nobody_at (suc n) (suc i) k is = nobody_at n i k is

nobody_len : (n : ℕ) → length (nobody n) ≡ n
nobody_len zero = refl
nobody_len (suc n) = ap (λ (k : ℕ). suc k) (nobody_len n)

nobody_count : (n : ℕ) → clients_numbered (nobody n) ≡ 0
nobody_count zero = refl
nobody_count (suc n) = nobody_count n

-- The first of the servers' places are kept, the others are free, and so is each of the clients' places.
pub record AreKeptTo {S : Type 0} (len next : ℕ) (ends : List (EndThere S)) : Type 0 where
  pub places : length ends ≡ len + len
  pub clients : (i : ℕ) → i < len → slice_get ends i ≡ Some FreePlace
  pub kept : (i : ℕ) → i < next → slice_get ends (len + i) ≡ Some KeptPlace
  pub rest : (i : ℕ) → next ≤ i → i < len → slice_get ends (len + i) ≡ Some FreePlace

module _ {A S W : Type 0} (did : S → S → List Deed → Type 0) (tapping : Tapping) where
  all_free : (len next i : ℕ) (x : Pair A S W) (ends : List (EndThere S)) (now : ℕ) → tapping.at_once ≡ len
      → next ≡ len → AreKeptTo len next ends → i < len → x ≡ pair.Free
      → (slice_get (nobody len) i ≡ Some (number_of_pair x)) × IsPairIn did tapping ends i now [] [] x
  all_free len next i x ends now is all h lt free =
      subst (λ (y : Pair A S W). (slice_get (nobody len) i ≡ Some (number_of_pair y))
      × IsPairIn did tapping ends i now [] [] y) (sym free) (
        none_at len i lt,
        (
          h.clients i lt,
          ap (λ (k : ℕ). slice_get ends (k + i)) is ∙ h.kept i (omega (arith, lt, all)),
        ),
      )

  pub new_stands : (made : Relays A S W) (len next : ℕ) → tapping.at_once ≡ len → next ≡ len
      → made.style ≡ tapping.style → made.server.now ≡ tapping.server.now → made.taken ≡ 0 → made.there ≡ 0
      → length made.pairs.items ≡ len
      → ((i : ℕ) (x : Pair A S W) → slice_get made.pairs.items i ≡ Some x → x ≡ pair.Free)
      → len + len < 2 ^ 64 → AreKeptTo len next made.ends → AreRelays did tapping made no_parts
  new_stands made len next is all style server taken there many free room h = (
    nobody len,
    record {
      style = style;
      server = server;
      pairs = record {
        many = many ∙ sym is;
        places = h.places ∙ sym (ap (λ (k : ℕ). k + k) is);
        room = subst (λ (k : ℕ). k + k < 2 ^ 64) (sym is) room;
        each = λ i x far get. all_free len next i x made.ends made.time is all h
            (omega (arith, slice_get_within made.pairs.items i x get, many)) (free i x get);
      };
      numbered = record {
        len = nobody_len len ∙ sym is;
        given = λ i n there_is. absurd (nobody_at len i n there_is);
        apart = λ i j n there_is also. absurd (nobody_at len i n there_is);
        stays = λ n some few far. absurd (omega (arith, some, few, taken));
        count = there ∙ sym (nobody_count len);
        sum = omega (arith, taken, there);
        turns = tt;
        came = All-nil (IsTapPartOf made.taken);
      };
      ends_so = All-nil (λ (end : ℕ × RelayEnd). HasRelayEnded did tapping [] [] end.0 end.1);
    },
  )

-- where nothing goes on, nothing does in one more either
pub free_more : {X : Type 0} (xs : List X) (free : X) → ((i : ℕ) (x : X) → slice_get xs i ≡ Some x → x ≡ free)
    → (i : ℕ) (x : X) → slice_get (xs ++ free ∷ []) i ≡ Some x → x ≡ free
free_more [] free all zero x get = sym (same_Some free x get)
free_more [] free all (suc i) x get = absurd (none-some x get)
free_more (y ∷ xs) free all zero x get = all 0 x get
free_more (y ∷ xs) free all (suc i) x get = free_more xs free (λ j z e. all (suc j) z e) i x get

-- one place more is kept
module _ {S : Type 0} where
  pub keep_more : (len next : ℕ) (ends : List (EndThere S)) → next < len → AreKeptTo len next ends
      → AreKeptTo len (next + 1) (slice_set ends (len + next) KeptPlace)
  keep_more len next ends lt h = record {
    places = set_len (len + next) ends ∙ h.places;
    clients = λ i below. get_set_other ends (len + next) i KeptPlace (λ same. omega (arith, below, same))
        ∙ h.clients i below;
    kept = λ i below. kept i below (eqb_tells i next);
    rest = λ i from below. get_set_other ends (len + next) (len + i) KeptPlace (λ same. omega (arith, from, same))
        ∙ h.rest i (omega (arith, from)) below;
  }
    where
      set_len : (p : ℕ) (l : List (EndThere S)) → length (slice_set l p KeptPlace) ≡ length l
      set_len p [] = refl
      set_len zero (x ∷ l) = refl
      set_len (suc p) (x ∷ l) = ap (λ (k : ℕ). suc k) (set_len p l)

      kept : (i : ℕ) → i < next + 1 → ((nat_eq i next ≡ true) × (i ≡ next)) ⊎ ((nat_eq i next ≡ false) × (i ≢ next))
          → slice_get (slice_set ends (len + next) KeptPlace) (len + i) ≡ Some KeptPlace
      kept i below (inl same) =
          ap (λ (k : ℕ). slice_get (slice_set ends (len + next) KeptPlace) (len + k)) same.1
          ∙ get_set_same ends (len + next) KeptPlace (omega (arith, h.places, lt))
      kept i below (inr far) = get_set_other ends (len + next) (len + i) KeptPlace
          (λ same. far.1 (omega (arith, same))) ∙ h.kept i (omega (arith, below, far.1))

  pub none_kept : (len : ℕ) (ends : List (EndThere S)) → length ends ≡ len + len
      → ((i : ℕ) → i < len + len → slice_get ends i ≡ Some FreePlace) → AreKeptTo len 0 ends
  none_kept len ends places free = record {
    places = places;
    clients = λ i below. free i (omega (arith, below));
    kept = λ i below. absurd (omega (arith, below));
    rest = λ i from below. free (len + i) (omega (arith, below));
  }
