-- Numbers of clients: which are given, and which stay.
use Rattle.std.proofs.Common.{◌≡◌, ◌∙◌, ℕ, ◌+◌, ◌<◌, ◌≤◌, ◌⊎◌, ◌≢◌, Bool, true, false, List, [], ◌∷◌, ◌++◌, length, refl, Option}
use Rattle.std.proofs.Common.{is_some, Some, None, suc, zero, slice_set, sym, ap, subst, arith, inl, inr, nat_eq, replicate, append_assoc, append-nil}
use Rattle.std.specs.Bool.{⊤}
use Rattle.std.specs.List.{slice_get}
use Rattle.std.proofs.lemmas.Bool.{false≢true}
use Rattle.std.proofs.lemmas.Bool.Decides.{eqb_tells}
use Rattle.std.proofs.lemmas.Option.{none-some, same_Some, slice_get_within}
use Rattle.ws_loops.specs.Listeners.{AcceptDeed, HasHeard, HasHeardFor, HasHeardLast}
use Rattle.ws_loops.specs.Listeners.AcceptDeed.{CouldNotGive, GaveClient, HadNoClient, LostClient}
use Rattle.std.proofs.Common.{IfSome}
use Rattle.ws_loops.specs.Deeds.{Deed}
use Rattle.ws_loops.specs.Looping.{LoopValue}
use Rattle.ws_loops.specs.declared.listening.Arrival.{Arrival}
use Rattle.ws_loops.specs.declared.listening.Arrival.TheVariants as arrival
use Rattle.ws_loops.proofs.PlaceLemmas.{get_set_other, get_set_same, length_set, set_cases}
use Rattle.ws_clients.specs.Clients.{IsOfPlace}
use Rattle.ws_clients.specs.Numbers.{AreNumbers, AreUnnumbered, HasNumbered, IsNoMore, IsOfNumber, TakesClients}
use Rattle.ws_clients.specs.Numbers.{client_number, clients_given, clients_numbered, numbers_behind, reason_told}
use Rattle.ws_clients.specs.Numbers.{reasons_given, there_at}
use Rattle.ws_clients.specs.declared.clients.Event.{Event}
use Rattle.ws_clients.specs.declared.clients.Event.TheVariants.{Deaf, Decided, Full, Gone, Played, TooLate}

-- ---- a list of numbers of which one is changed

pub number_same : (ns : List (Option ℕ)) (at : ℕ) (v : Option ℕ) → at < length ns
    → client_number (slice_set ns at v) at ≡ v
number_same ns at v within = ap (λ (o : Option (Option ℕ)). there_at o) (get_set_same ns at v within)

pub number_other : (ns : List (Option ℕ)) (at : ℕ) (v : Option ℕ) (j : ℕ) → (j ≡ at → ⊥)
    → client_number (slice_set ns at v) j ≡ client_number ns j
number_other ns at v j far = ap (λ (o : Option (Option ℕ)). there_at o) (get_set_other ns at j v far)

pub number_within : (ns : List (Option ℕ)) (i n : ℕ) → client_number ns i ≡ Some n → i < length ns
number_within [] i n e = absurd (none-some n e)
number_within (x ∷ ns) zero n e = omega (arith)
number_within (x ∷ ns) (suc i) n e = omega (arith, number_within ns i n e)

pub number_of_get : (ns : List (Option ℕ)) (i : ℕ) (x : Option ℕ) → slice_get ns i ≡ Some x → client_number ns i ≡ x
number_of_get ns i x e = ap (λ (o : Option (Option ℕ)). there_at o) e

-- where there is no number in a place of the list nothing stands there
pub none_there : (ns : List (Option ℕ)) (i : ℕ) → i < length ns → client_number ns i ≡ None
    → slice_get ns i ≡ Some None
none_there [] i within none = absurd (omega (arith, within))
none_there (x ∷ ns) zero within none = ap (λ (o : Option ℕ). Some o) none
none_there (x ∷ ns) (suc i) within none = none_there ns i (omega (arith, within)) none

-- behind the last place there is no number
pub none_beyond : (ns : List (Option ℕ)) (i : ℕ) → length ns ≤ i → client_number ns i ≡ None
none_beyond [] i beyond = refl
none_beyond (x ∷ ns) zero beyond = absurd (omega (arith, beyond))
none_beyond (x ∷ ns) (suc i) beyond = none_beyond ns i (omega (arith, beyond))

pub is_not_some : (o : Option ℕ) → is_some o ≡ false → o ≡ None
is_not_some None is = refl
is_not_some (Some n) is = absurd (false≢true (sym is))

-- one place further there is none either
pub none_further : (ns : List (Option ℕ)) (next : ℕ) → ((i : ℕ) → i < next → client_number ns i ≡ None)
    → client_number ns next ≡ None → (i : ℕ) → i < next + 1 → client_number ns i ≡ None
none_further ns next below none i within = by (eqb_tells i next)
  where
    by : ((nat_eq i next ≡ true) × (i ≡ next)) ⊎ ((nat_eq i next ≡ false) × (i ≢ next)) → client_number ns i ≡ None
    by (inl same) = ap (λ (j : ℕ). client_number ns j) same.1 ∙ none
    by (inr far) = below i (omega (arith, within, far.1))

-- where nothing is put behind none there is none
none_at_end : (ns : List (Option ℕ)) → AreUnnumbered ns → (i : ℕ) → client_number (ns ++ None ∷ []) i ≡ None
none_at_end [] none zero = refl
none_at_end [] none (suc i) = refl
none_at_end (x ∷ ns) none zero = none 0
none_at_end (x ∷ ns) none (suc i) = none_at_end ns (λ j. none (suc j)) i

pub none_behind : (ns after : List (Option ℕ)) → after ≡ ns ++ None ∷ [] → AreUnnumbered ns → AreUnnumbered after
none_behind ns after more none i =
    ap (λ (l : List (Option ℕ)). client_number l i) more ∙ none_at_end ns none i

-- ---- what a listener did

pub numbered_idle : {W : Type 0} (n : ℕ) (last : List (AcceptDeed W)) (t : ℕ) (a : List (Option ℕ)) (u : ℕ)
    (b : List (Option ℕ)) → HasNumbered last t a u b → HasNumbered (replicate n HadNoClient ++ last) t a u b
numbered_idle zero last t a u b h = h
numbered_idle (suc n) last t a u b h = numbered_idle n last t a u b h

pub reasons_idle : {W : Type 0} (n : ℕ) (last : List (AcceptDeed W))
    → reasons_given (replicate n HadNoClient ++ last) ≡ reasons_given last
reasons_idle zero last = refl
reasons_idle (suc n) last = reasons_idle n last

pub given_idle : {W : Type 0} (n : ℕ) (last : List (AcceptDeed W))
    → clients_given (replicate n HadNoClient ++ last) ≡ clients_given last
given_idle zero last = refl
given_idle (suc n) last = given_idle n last

numbered_from : {W : Type 0} (deeds : List (AcceptDeed W)) (t u : ℕ) (a b : List (Option ℕ)) (v : ℕ)
    (c : List (Option ℕ)) → u ≡ t → b ≡ a → HasNumbered deeds u b v c → HasNumbered deeds t a v c
numbered_from {W} deeds t u a b v c same also h =
    subst (λ (l : List (Option ℕ)). HasNumbered deeds t l v c) also
    (subst (λ (n : ℕ). HasNumbered deeds n b v c) same h)

pub numbered_then : {W : Type 0} (one other : List (AcceptDeed W)) (t : ℕ) (a : List (Option ℕ)) (u : ℕ)
    (b : List (Option ℕ)) (v : ℕ) (c : List (Option ℕ)) → HasNumbered one t a u b → HasNumbered other u b v c
    → HasNumbered (one ++ other) t a v c
numbered_then [] other t a u b v c h k = numbered_from other t u a b v c h.0 h.1 k
numbered_then (GaveClient at ∷ one) other t a u b v c h k =
    (h.0, numbered_then one other (t + 1) (slice_set a at (Some (t + 1))) u b v c h.1 k)
numbered_then (LostClient why ∷ one) other t a u b v c h k = numbered_then one other t a u b v c h k
numbered_then (CouldNotGive why ∷ one) other t a u b v c h k = numbered_then one other t a u b v c h k
numbered_then (HadNoClient ∷ one) other t a u b v c h k = numbered_then one other t a u b v c h k

reasons_then : {W : Type 0} (one other : List (AcceptDeed W))
    → reasons_given (one ++ other) ≡ reasons_given one ++ reasons_given other
reasons_then [] other = refl
reasons_then (GaveClient at ∷ one) other = reasons_then one other
reasons_then {W} (CouldNotGive why ∷ one) other = ap (λ (l : List W). why ∷ l) (reasons_then one other)
reasons_then (LostClient why ∷ one) other = reasons_then one other
reasons_then (HadNoClient ∷ one) other = reasons_then one other

pub given_then : {W : Type 0} (one other : List (AcceptDeed W))
    → clients_given (one ++ other) ≡ clients_given one + clients_given other
given_then [] other = omega (arith)
given_then (GaveClient at ∷ one) other = omega (arith, given_then one other)
given_then (CouldNotGive why ∷ one) other = given_then one other
given_then (LostClient why ∷ one) other = given_then one other
given_then (HadNoClient ∷ one) other = given_then one other

pub heard_then : {L W : Type 0} (did : L → L → List (AcceptDeed W) → Type 0) (a b c : L)
    (one other : List (AcceptDeed W)) → HasHeard did a b one → HasHeard did b c other
    → HasHeard did a c (one ++ other)
heard_then {L} {W} did a b c one other h k start deeds x =
    subst (λ (l : List (AcceptDeed W)). did start c l) (append_assoc deeds one other)
    (k start (deeds ++ one) (h start deeds x))

-- ---- what follows of the numbers that were given

-- as many come as are given
pub numbered_given : {W : Type 0} (deeds : List (AcceptDeed W)) (t : ℕ) (a : List (Option ℕ)) (u : ℕ)
    (b : List (Option ℕ)) → HasNumbered deeds t a u b → u ≡ t + clients_given deeds
numbered_given [] t a u b h = omega (arith, h.0)
numbered_given (GaveClient at ∷ deeds) t a u b h =
    omega (arith, numbered_given deeds (t + 1) (slice_set a at (Some (t + 1))) u b h.1)
numbered_given (LostClient why ∷ deeds) t a u b h = numbered_given deeds t a u b h
numbered_given (CouldNotGive why ∷ deeds) t a u b h = numbered_given deeds t a u b h
numbered_given (HadNoClient ∷ deeds) t a u b h = numbered_given deeds t a u b h

pub numbered_len : {W : Type 0} (deeds : List (AcceptDeed W)) (t : ℕ) (a : List (Option ℕ)) (u : ℕ)
    (b : List (Option ℕ)) → HasNumbered deeds t a u b → length b ≡ length a
numbered_len [] t a u b h = ap (λ (l : List (Option ℕ)). length l) h.1
numbered_len (GaveClient at ∷ deeds) t a u b h =
    numbered_len deeds (t + 1) (slice_set a at (Some (t + 1))) u b h.1 ∙ length_set a at (Some (t + 1))
numbered_len (LostClient why ∷ deeds) t a u b h = numbered_len deeds t a u b h
numbered_len (CouldNotGive why ∷ deeds) t a u b h = numbered_len deeds t a u b h
numbered_len (HadNoClient ∷ deeds) t a u b h = numbered_len deeds t a u b h

-- who was there keeps its number
pub numbered_stays : {W : Type 0} (deeds : List (AcceptDeed W)) (t : ℕ) (a : List (Option ℕ)) (u : ℕ)
    (b : List (Option ℕ)) (i n : ℕ) → HasNumbered deeds t a u b → client_number a i ≡ Some n
    → client_number b i ≡ Some n
numbered_stays [] t a u b i n h is = ap (λ (l : List (Option ℕ)). client_number l i) h.1 ∙ is
numbered_stays (GaveClient at ∷ deeds) t a u b i n h is =
    numbered_stays deeds (t + 1) (slice_set a at (Some (t + 1))) u b i n h.1
    (number_other a at (Some (t + 1)) i far ∙ is)
  where
    far : i ≡ at → ⊥
    far same = none-some n (sym (number_of_get a i None
        (subst (λ (j : ℕ). slice_get a j ≡ Some None) (sym same) h.0)) ∙ is)
numbered_stays (LostClient why ∷ deeds) t a u b i n h is = numbered_stays deeds t a u b i n h is
numbered_stays (CouldNotGive why ∷ deeds) t a u b i n h is = numbered_stays deeds t a u b i n h is
numbered_stays (HadNoClient ∷ deeds) t a u b i n h is = numbered_stays deeds t a u b i n h is

-- who is there was there, or has come
pub numbered_comes : {W : Type 0} (deeds : List (AcceptDeed W)) (t : ℕ) (a : List (Option ℕ)) (u : ℕ)
    (b : List (Option ℕ)) (i n : ℕ) → HasNumbered deeds t a u b → client_number b i ≡ Some n
    → (client_number a i ≡ Some n) ⊎ ((t < n) × (n ≤ u))
numbered_comes [] t a u b i n h is = inl (ap (λ (l : List (Option ℕ)). client_number l i) (sym h.1) ∙ is)
numbered_comes (GaveClient at ∷ deeds) t a u b i n h is =
    by (numbered_comes deeds (t + 1) (slice_set a at (Some (t + 1))) u b i n h.1 is) (eqb_tells i at)
  where
    most : t + 1 ≤ u
    most = omega (arith, numbered_given deeds (t + 1) (slice_set a at (Some (t + 1))) u b h.1)

    by : (client_number (slice_set a at (Some (t + 1))) i ≡ Some n) ⊎ ((t + 1 < n) × (n ≤ u))
        → ((nat_eq i at ≡ true) × (i ≡ at)) ⊎ ((nat_eq i at ≡ false) × (i ≢ at))
        → (client_number a i ≡ Some n) ⊎ ((t < n) × (n ≤ u))
    by (inr later) x = inr (omega (arith, later.0), later.1)
    by (inl there) (inr far) = inl (sym (number_other a at (Some (t + 1)) i far.1) ∙ there)
    by (inl there) (inl same) =
        let new : t + 1 ≡ n = same_Some (t + 1) n
        (sym (number_same a at (Some (t + 1)) (slice_get_within a at None h.0))
        ∙ (ap (λ (j : ℕ). client_number (slice_set a at (Some (t + 1))) j) (sym same.1) ∙ there)) in
        inr (omega (arith, new), omega (arith, new, most))
numbered_comes (LostClient why ∷ deeds) t a u b i n h is = numbered_comes deeds t a u b i n h is
numbered_comes (CouldNotGive why ∷ deeds) t a u b i n h is = numbered_comes deeds t a u b i n h is
numbered_comes (HadNoClient ∷ deeds) t a u b i n h is = numbered_comes deeds t a u b i n h is

-- what is told of a place tells no reason
pub no_reason : {S E W : Type 0} (did : S → S → List Deed → Type 0) (at : ℕ) (known : List (List ℕ))
    (came : Option (Event E W)) → IfSome came (λ event. IsOfPlace did at known event) → reason_told came ≡ []
no_reason did at known None h = refl
no_reason did at known (Some (Decided other admission)) h = refl
no_reason did at known (Some (Played other end)) h = refl
no_reason did at known (Some (Gone other number)) h = refl
no_reason did at known (Some TooLate) h = refl
no_reason did at known (Some (Full why)) h = absurd h
no_reason did at known (Some (Deaf why)) h = absurd h

-- ---- no two have the same

pub are_put : (t : ℕ) (ns : List (Option ℕ)) (at : ℕ) → slice_get ns at ≡ Some None → AreNumbers t ns
    → AreNumbers (t + 1) (slice_set ns at (Some (t + 1)))
are_put t ns at none are = record {
  given = λ i n is. given_by i n is (eqb_tells i at);
  apart = λ i j n is also. apart_by i j n is also (eqb_tells i at) (eqb_tells j at);
}
  where
    after : List (Option ℕ)
    after = slice_set ns at (Some (t + 1))

    here : (i n : ℕ) → i ≡ at → client_number after i ≡ Some n → t + 1 ≡ n
    here i n same is = same_Some (t + 1) n
        (sym (number_same ns at (Some (t + 1)) (slice_get_within ns at None none))
        ∙ (ap (λ (j : ℕ). client_number after j) (sym same) ∙ is))

    there : (i n : ℕ) → (i ≡ at → ⊥) → client_number after i ≡ Some n → client_number ns i ≡ Some n
    there i n far is = sym (number_other ns at (Some (t + 1)) i far) ∙ is

    given_by : (i n : ℕ) → client_number after i ≡ Some n
        → ((nat_eq i at ≡ true) × (i ≡ at)) ⊎ ((nat_eq i at ≡ false) × (i ≢ at)) → (1 ≤ n) × (n ≤ t + 1)
    given_by i n is (inl same) = let new = here i n same.1 is in (omega (arith, new), omega (arith, new))
    given_by i n is (inr far) =
        let (first, last) = are.given i n (there i n far.1 is) in (first, omega (arith, last))

    apart_by : (i j n : ℕ) → client_number after i ≡ Some n → client_number after j ≡ Some n
        → ((nat_eq i at ≡ true) × (i ≡ at)) ⊎ ((nat_eq i at ≡ false) × (i ≢ at))
        → ((nat_eq j at ≡ true) × (j ≡ at)) ⊎ ((nat_eq j at ≡ false) × (j ≢ at)) → i ≡ j
    apart_by i j n is also (inl same) (inl too) = same.1 ∙ sym too.1
    apart_by i j n is also (inl same) (inr far) = absurd (omega (
      arith,
      here i n same.1 is,
      (are.given j n (there j n far.1 also)).1,
    ))
    apart_by i j n is also (inr far) (inl same) = absurd (omega (
      arith,
      here j n same.1 also,
      (are.given i n (there i n far.1 is)).1,
    ))
    apart_by i j n is also (inr far) (inr away) = are.apart i j n (there i n far.1 is) (there j n away.1 also)

pub are_taken : (t : ℕ) (ns : List (Option ℕ)) (at : ℕ) → AreNumbers t ns → AreNumbers t (slice_set ns at None)
are_taken t ns at are = record {
  given = λ i n is. are.given i n (there i n is (eqb_tells i at));
  apart = λ i j n is also. are.apart i j n (there i n is (eqb_tells i at)) (there j n also (eqb_tells j at));
}
  where
    there : (i n : ℕ) → client_number (slice_set ns at None) i ≡ Some n
        → ((nat_eq i at ≡ true) × (i ≡ at)) ⊎ ((nat_eq i at ≡ false) × (i ≢ at)) → client_number ns i ≡ Some n
    there i n is (inr far) = sym (number_other ns at None i far.1) ∙ is
    there i n is (inl same) = absurd (none-some n (sym (number_same ns at None
        (subst (λ (l : ℕ). at < l) (length_set ns at None)
        (subst (λ (j : ℕ). j < length (slice_set ns at None)) same.1 (number_within (slice_set ns at None) i n is))))
        ∙ (ap (λ (j : ℕ). client_number (slice_set ns at None) j) (sym same.1) ∙ is)))

pub numbered_are : {W : Type 0} (deeds : List (AcceptDeed W)) (t : ℕ) (a : List (Option ℕ)) (u : ℕ)
    (b : List (Option ℕ)) → HasNumbered deeds t a u b → AreNumbers t a → AreNumbers u b
numbered_are [] t a u b h are = subst (λ (l : List (Option ℕ)). AreNumbers u l) (sym h.1)
    (subst (λ (n : ℕ). AreNumbers n a) (sym h.0) are)
numbered_are (GaveClient at ∷ deeds) t a u b h are =
    numbered_are deeds (t + 1) (slice_set a at (Some (t + 1))) u b h.1 (are_put t a at h.0 are)
numbered_are (LostClient why ∷ deeds) t a u b h are = numbered_are deeds t a u b h are
numbered_are (CouldNotGive why ∷ deeds) t a u b h are = numbered_are deeds t a u b h are
numbered_are (HadNoClient ∷ deeds) t a u b h are = numbered_are deeds t a u b h are

-- ---- how many are there

count_put : (ns : List (Option ℕ)) (at n : ℕ) → slice_get ns at ≡ Some None
    → clients_numbered (slice_set ns at (Some n)) ≡ 1 + clients_numbered ns
count_put [] at n is = absurd (none-some None is)
count_put (None ∷ ns) zero n is = refl
count_put (Some m ∷ ns) zero n is = absurd (none-some m (sym (same_Some (Some m) None is)))
count_put (None ∷ ns) (suc at) n is = count_put ns at n is
count_put (Some m ∷ ns) (suc at) n is = omega (arith, count_put ns at n is)

-- one that is taken out is one less
pub count_taken : (ns : List (Option ℕ)) (at n : ℕ) → client_number ns at ≡ Some n
    → clients_numbered ns ≡ 1 + clients_numbered (slice_set ns at None)
count_taken [] at n is = absurd (none-some n is)
count_taken (None ∷ ns) zero n is = absurd (none-some n is)
count_taken (Some m ∷ ns) zero n is = refl
count_taken (None ∷ ns) (suc at) n is = count_taken ns at n is
count_taken (Some m ∷ ns) (suc at) n is = omega (arith, count_taken ns at n is)

-- those that have come are there
pub numbered_count : {W : Type 0} (deeds : List (AcceptDeed W)) (t : ℕ) (a : List (Option ℕ)) (u : ℕ)
    (b : List (Option ℕ)) → HasNumbered deeds t a u b → u + clients_numbered a ≡ t + clients_numbered b
numbered_count [] t a u b h =
    omega (arith, h.0, ap (λ (l : List (Option ℕ)). clients_numbered l) h.1)
numbered_count (GaveClient at ∷ deeds) t a u b h = omega (
  arith,
  numbered_count deeds (t + 1) (slice_set a at (Some (t + 1))) u b h.1,
  count_put a at (t + 1) h.0,
)
numbered_count (LostClient why ∷ deeds) t a u b h = numbered_count deeds t a u b h
numbered_count (CouldNotGive why ∷ deeds) t a u b h = numbered_count deeds t a u b h
numbered_count (HadNoClient ∷ deeds) t a u b h = numbered_count deeds t a u b h

-- ---- what was taken until something is told

-- clients were taken, and nothing is told
pub record HasTakenSo {L W : Type 0} (did : L → L → List (AcceptDeed W) → Type 0) (old new : L) (taken : ℕ)
    (numbers : List (Option ℕ)) (now : ℕ) (after : List (Option ℕ)) : Type 0 where
  pub deeds : List (AcceptDeed W)
  pub heard : HasHeard did old new deeds
  pub given : HasNumbered deeds taken numbers now after
  pub none : reasons_given deeds ≡ []

module _ {L W : Type 0} (did : L → L → List (AcceptDeed W) → Type 0) where
  heard_nothing : (x : L) → HasHeard did x x []
  heard_nothing x start deeds h = subst (λ (l : List (AcceptDeed W)). did start x l) (sym (append-nil deeds)) h

  -- nothing yet
  pub taken_nothing : (x : L) (t : ℕ) (a : List (Option ℕ)) → HasTakenSo did x x t a t a
  taken_nothing x t a = record {
    deeds = [];
    heard = heard_nothing x;
    given = (refl, refl);
    none = refl;
  }

  -- and then further
  pub taken_then : (x y z : L) (t : ℕ) (a : List (Option ℕ)) (u : ℕ) (b : List (Option ℕ)) (v : ℕ)
      (c : List (Option ℕ)) → HasTakenSo did x y t a u b → HasTakenSo did y z u b v c → HasTakenSo did x z t a v c
  taken_then x y z t a u b v c h k = record {
    deeds = h.deeds ++ k.deeds;
    heard = heard_then did x y z h.deeds k.deeds h.heard k.heard;
    given = numbered_then h.deeds k.deeds t a u b v c h.given k.given;
    none = reasons_then h.deeds k.deeds ∙ (ap (λ (l : List W). l ++ reasons_given k.deeds) h.none ∙ k.none);
  }

  -- what it did last where this has arrived
  heard_as : {M S T : Type 0} (x y : L) (l : LoopValue M S) (e other : Arrival T W) → HasHeardFor did x y l e
      → e ≡ other → HasHeardFor did x y l other
  heard_as {M} {S} {T} x y l e other h is = subst (λ (z : Arrival T W). HasHeardFor did x y l z) is h

module _ {L E W : Type 0} (did : L → L → List (AcceptDeed W) → Type 0) where
  pub takes_then : (x y z : L) (t : ℕ) (a : List (Option ℕ)) (u : ℕ) (b : List (Option ℕ)) (v : ℕ)
      (c : List (Option ℕ)) (told : Option (Event E W)) → HasTakenSo did x y t a u b
      → TakesClients did y z u b v c told → TakesClients did x z t a v c told
  takes_then x y z t a u b v c told h k = record {
    deeds = h.deeds ++ k.deeds;
    heard = heard_then did x y z h.deeds k.deeds h.heard k.heard;
    before = k.before;
    given = numbered_then h.deeds k.deeds t a u b v k.before h.given k.given;
    of = k.of;
    behind = k.behind;
    reasons = reasons_then h.deeds k.deeds ∙ (ap (λ (l : List W). l ++ reasons_given k.deeds) h.none ∙ k.reasons);
  }

  -- where nothing is told
  pub taken_none : (x y : L) (t : ℕ) (a : List (Option ℕ)) (u : ℕ) (b : List (Option ℕ)) (told : Option (Event E W))
      → told ≡ None → TakesClients did x y t a u b told → HasTakenSo did x y t a u b
  taken_none x y t a u b told none h =
      by (subst (λ (e : Option (Event E W)). TakesClients did x y t a u b e) none h)
    where
      by : TakesClients {L = L} {E = E} {W = W} did x y t a u b None → HasTakenSo did x y t a u b
      by k = record {
        deeds = k.deeds;
        heard = k.heard;
        given = subst (λ (l : List (Option ℕ)). HasNumbered k.deeds t a u l) (sym k.behind) k.given;
        none = k.reasons;
      }

  -- it was asked some times, and then did this
  takes_last : (x y : L) (t : ℕ) (a : List (Option ℕ)) (u : ℕ) (b c : List (Option ℕ)) (told : Option (Event E W))
      (last : List (AcceptDeed W)) → HasHeardLast did x y last → HasNumbered last t a u b → IsOfNumber b told
      → c ≡ numbers_behind told b → reasons_given last ≡ reason_told told → TakesClients did x y t a u c told
  takes_last x y t a u b c told last (n, heard) given of behind reasons = record {
    deeds = replicate n HadNoClient ++ last;
    heard = heard;
    before = b;
    given = numbered_idle n last t a u b given;
    of = of;
    behind = behind;
    reasons = reasons_idle n last ∙ reasons;
  }

  -- what it did last where this has arrived
  module _ {M S T : Type 0} (x y : L) (l : LoopValue M S) (e : Arrival T W) (h : HasHeardFor did x y l e) where
    -- no client came, and nothing is told of one
    pub takes_ended : (at t : ℕ) (a : List (Option ℕ)) (u : ℕ) (b c : List (Option ℕ)) (told : Option (Event E W))
        → e ≡ arrival.Ended at → u ≡ t → b ≡ a → IsOfNumber b told → c ≡ numbers_behind told b
        → reason_told told ≡ [] → TakesClients did x y t a u c told
    takes_ended at t a u b c told is taken numbers of behind reasons =
        takes_last x y t a u b c told [] (heard_as did x y l e (arrival.Ended at) h is) (taken, numbers) of behind (sym reasons)

    -- one came, and has the next number
    pub takes_client : (at : ℕ) (stream : T) (t : ℕ) (a : List (Option ℕ)) (u : ℕ) (b : List (Option ℕ)) (v : ℕ)
        (c : List (Option ℕ)) → e ≡ arrival.Client at stream → u ≡ t → b ≡ a → slice_get b at ≡ Some None
        → v ≡ u + 1 → c ≡ slice_set b at (Some (u + 1)) → TakesClients {L = L} {E = E} {W = W} did x y t a v c None
    takes_client at stream t a u b v c is taken numbers none next put =
        takes_last x y t a v c c None (GaveClient at ∷ []) (heard_as did x y l e (arrival.Client at stream) h is)
        (numbered_from {W = W} (GaveClient at ∷ []) t u a b v c taken numbers (none, (next, put))) tt refl refl

    -- one was lost
    pub takes_lost : (why : W) (t : ℕ) (a : List (Option ℕ)) (u : ℕ) (b : List (Option ℕ)) → e ≡ arrival.Lost why
        → u ≡ t → b ≡ a → TakesClients {L = L} {E = E} {W = W} did x y t a u b None
    takes_lost why t a u b is taken numbers =
        takes_last x y t a u b b None (LostClient why ∷ []) (heard_as did x y l e (arrival.Lost why) h is) (taken, numbers) tt refl
        refl

    -- none can be taken, which is told
    pub takes_deaf : (why : W) (t : ℕ) (a : List (Option ℕ)) (u : ℕ) (b : List (Option ℕ)) (event : Event E W)
        → e ≡ arrival.NotAccepted why → u ≡ t → b ≡ a → IsNoMore b why event
        → TakesClients did x y t a u b (Some event)
    takes_deaf why t a u b (Deaf reason) is taken numbers more =
        takes_last x y t a u b b (Some (Deaf reason)) (CouldNotGive why ∷ []) (heard_as did x y l e (arrival.NotAccepted why) h is)
        (taken, numbers) more.1 refl (ap (λ (r : W). r ∷ []) (sym more.0))
    takes_deaf why t a u b (Full reason) is taken numbers more =
        takes_last x y t a u b b (Some (Full reason)) (CouldNotGive why ∷ []) (heard_as did x y l e (arrival.NotAccepted why) h is)
        (taken, numbers) tt refl (ap (λ (r : W). r ∷ []) (sym more))
    takes_deaf why t a u b (Decided at admission) is taken numbers more = absurd more
    takes_deaf why t a u b (Played at end) is taken numbers more = absurd more
    takes_deaf why t a u b (Gone at number) is taken numbers more = absurd more
    takes_deaf why t a u b TooLate is taken numbers more = absurd more

    -- the time has come
    pub takes_late : (t : ℕ) (a : List (Option ℕ)) (u : ℕ) (b : List (Option ℕ)) → e ≡ arrival.TooLate → u ≡ t
        → b ≡ a → TakesClients {L = L} {E = E} {W = W} did x y t a u b (Some TooLate)
    takes_late t a u b is taken numbers =
        takes_last x y t a u b b (Some TooLate) [] (heard_as did x y l e arrival.TooLate h is).0 (taken, numbers) tt refl refl
