-- One address that is tried: how often it is asked how far the connection has come, and what comes of it.
use Rattle.std.proofs.Common.{◌≡◌, ◌∙◌, ℕ, zero, suc, ◌⊎◌, ◌≢◌, Bool, true, false, List, [], ◌∷◌, ◌++◌, replicate, refl}
use Rattle.std.proofs.Common.{ap, append_assoc, inl, inr, nat_eq, sym, subst, Some}
use Rattle.std.specs.Bool.{⊤}
use Rattle.std.proofs.lemmas.Bool.Decides.{eqb_tells}
use Rattle.ws_networks.specs.Networks.{AreDeedsOf, HasAdded, NetworkDeed, deeds_at, is_deed_of}
use Rattle.ws_networks.specs.Networks.NetworkDeed.{Asked, Begun, NotBegun}
use Rattle.ws_networks.specs.Bounds.{is_given_up}
use Rattle.ws_networks.specs.Connecting.{AreBegunBy, HasTriedOne, IfTried, tried_by}
use Rattle.ws_networks.specs.declared.bounds.Bounds.{Bounds}
use Rattle.ws_networks.specs.declared.network.Progress.{Progress}
use Rattle.ws_networks.specs.declared.network.Progress.TheVariants as progress
use Rattle.ws_networks.specs.declared.dialing.Missed.TheVariants as miss
use Rattle.ws_networks.specs.declared.dialing.Tried.TheVariants as tried
use Rattle.ws_networks.proofs.AddLemmas.{added_then}

-- ---- what was done for one place

pub same_number : (n : ℕ) → nat_eq n n ≡ true
same_number n = by (eqb_tells n n)
  where
    by : ((nat_eq n n ≡ true) × (n ≡ n)) ⊎ ((nat_eq n n ≡ false) × (n ≢ n)) → nat_eq n n ≡ true
    by (inl same) = same.0
    by (inr other) = absurd (other.1 refl)

pub own_then : {A W : Type 0} (at : ℕ) (one other : List (NetworkDeed A W)) → AreDeedsOf at one → AreDeedsOf at other
    → AreDeedsOf at (one ++ other)
own_then at [] other h k = k
own_then at (x ∷ one) other (is, h) k = (is, own_then at one other h k)

pub begun_then : {A W : Type 0} (now : ℕ) (one other : List (NetworkDeed A W)) → AreBegunBy now one
    → AreBegunBy now other → AreBegunBy now (one ++ other)
begun_then now [] other h k = k
begun_then now (x ∷ one) other (is, h) k = (is, begun_then now one other h k)

-- one more of many that are alike
pub one_more : {X : Type 0} (n : ℕ) (x : X) (rest : List X) → replicate n x ++ x ∷ rest ≡ x ∷ (replicate n x ++ rest)
one_more zero x rest = refl
one_more {X} (suc n) x rest = ap (λ (l : List X). x ∷ l) (one_more n x rest)

pub many_more : {X : Type 0} (n : ℕ) (x : X) → replicate n x ++ x ∷ [] ≡ replicate (suc n) x
many_more zero x = refl
many_more {X} (suc n) x = ap (λ (l : List X). x ∷ l) (many_more n x)

-- ---- one address

-- it could not be begun
pub not_begun : {A W N : Type 0} (S : Type 0) (did : N → N → List (NetworkDeed A W) → Type 0) (at : ℕ) (bounds : Bounds)
    (now : ℕ) (old new : N) (address : A) (why : W) → HasAdded did old new (NotBegun at address why ∷ [])
    → HasTriedOne {A = A} {S = S} {W = W} did at bounds now old new address (tried.Missed (miss.Failed why))
not_begun S did at bounds now old new address why added = (
  NotBegun at address why ∷ [],
  added,
  (same_number at, tt),
  (tt, tt),
  inl refl,
)

module _ {A S W N : Type 0} (did : N → N → List (NetworkDeed A W) → Type 0) (at : ℕ) (bounds : Bounds) (now : ℕ) where
  -- it was begun, and asked for once
  pub begun_so : (old mid new : N) (address : A) (stream : S) (p : Progress W) (late : Bool)
      → HasAdded did old mid (Begun at address now ∷ []) → HasAdded did mid new (Asked at p ∷ [])
      → late ≡ is_given_up bounds now now
      → HasTriedOne did at bounds now old new address (tried_by stream p late)
  begun_so old mid new address stream p late begun asked is = by p late asked is
    where
      begun_and : Progress W → List (NetworkDeed A W)
      begun_and q = Begun at address now ∷ Asked at q ∷ []

      both : (q : Progress W) → HasAdded did mid new (Asked at q ∷ []) → HasAdded did old new (begun_and q)
      both q k = added_then did old mid new (Begun at address now ∷ []) (Asked at q ∷ []) begun k

      own : (q : Progress W) → AreDeedsOf at (begun_and q)
      own q = (same_number at, (same_number at, tt))

      by : (q : Progress W) (b : Bool) → HasAdded did mid new (Asked at q ∷ []) → b ≡ is_given_up bounds now now
          → HasTriedOne did at bounds now old new address (tried_by stream q b)
      by progress.Made b k e = (
        begun_and progress.Made,
        both progress.Made k,
        own progress.Made,
        (refl, (tt, tt)),
        (Asked at progress.Made ∷ [], refl, (0, refl)),
      )
      by progress.Pending true k e = (
        begun_and progress.Pending,
        both progress.Pending k,
        own progress.Pending,
        (refl, (tt, tt)),
        ((Asked at progress.Pending ∷ [], refl, (0, refl)), sym e),
      )
      by progress.Pending false k e = (
        begun_and progress.Pending,
        both progress.Pending k,
        own progress.Pending,
        (refl, (tt, tt)),
        (Asked at progress.Pending ∷ [], refl, (0, refl)),
      )
      by (progress.Failed why) b k e = (
        begun_and (progress.Failed why),
        both (progress.Failed why) k,
        own (progress.Failed why),
        (refl, (tt, tt)),
        inr (Asked at (progress.Failed why) ∷ [], refl, (0, refl)),
      )

-- its stream has done nothing
pub fresh_so : {S W : Type 0} (P : S → Type 0) (stream : S) (p : Progress W) (late : Bool) → P stream
    → IfTried (tried_by stream p late) P
fresh_so P stream progress.Made late h = h
fresh_so P stream progress.Pending true h = tt
fresh_so P stream progress.Pending false h = h
fresh_so P stream (progress.Failed why) late h = tt
