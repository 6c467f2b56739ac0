-- What a listener did: it was asked some times, and then some times more; and what came of it where it was asked once.
use Rattle.std.proofs.Common.{◌≡◌, ◌∙◌, ◌+◌, ℕ, List, [], ◌∷◌, ◌++◌, Bool, true, false, length, MatchOption, Option}
use Rattle.std.proofs.Common.{None, Some, ap, append_assoc}
use Rattle.std.proofs.Common.{◌⊎◌, append-nil, inl, inr, replicate, subst, sym}
use Rattle.std.proofs.lemmas.Bool.{false≢true}
use Rattle.std.specs.List.{slice_get}
use Rattle.std.proofs.lemmas.List.{replicate-append-replicate}
use Rattle.ws_machines.specs.Machines.{Wants}
use Rattle.ws_loops.specs.Deeds.{Deed}
use Rattle.ws_loops.specs.Listeners.{AcceptDeed, CannotTake, HasAskedClient, HasClientBy, HasHeard, HasHeardFor}
use Rattle.ws_loops.specs.Listeners.{HasArrived, HasHeardLast, IfRoundMadeFor, IsPlaceToAsk}
use Rattle.ws_loops.specs.Listeners.AcceptDeed.{CouldNotGive, GaveClient, HadNoClient, LostClient}
use Rattle.ws_loops.specs.Looping.{LoopValue}
use Rattle.ws_loops.specs.Paces.{has_ended_by}
use Rattle.ws_loops.specs.Places.{AreOccupied, IsFirstFree}
use Rattle.ws_loops.specs.declared.listening.Arrival.{Arrival}
use Rattle.ws_loops.specs.declared.listening.Arrival.TheVariants as arrival
use Rattle.ws_loops.specs.declared.places.Place.TheVariants.{Empty}

module _ {L W : Type 0} (did : L → L → List (AcceptDeed W) → Type 0) where
  pub heard_nothing : (a : L) → HasHeardLast did a a []
  heard_nothing a = (
    0,
    λ start deeds x. subst (λ (l : List (AcceptDeed W)). did start a l) (sym (append-nil deeds)) x,
  )

  -- it was asked some times in vain, and then some more before this came of it
  pub heard_then : (a b c : L) (last : List (AcceptDeed W)) → HasHeardLast did a b [] → HasHeardLast did b c last
      → HasHeardLast did a c last
  heard_then a b c last (n, h) (m, k) = (
    n + m,
    λ start deeds x. subst (λ (l : List (AcceptDeed W)). did start c l) (parts deeds)
        (k start (deeds ++ (replicate n HadNoClient ++ [])) (h start deeds x)),
  )
    where
      parts : (deeds : List (AcceptDeed W)) → (deeds ++ (replicate n HadNoClient ++ []))
          ++ (replicate m HadNoClient ++ last) ≡ deeds ++ (replicate (n + m) HadNoClient ++ last)
      parts deeds = append_assoc deeds (replicate n HadNoClient ++ []) (replicate m HadNoClient ++ last)
          ∙ ap (λ (l : List (AcceptDeed W)). deeds ++ l)
          (ap (λ (l : List (AcceptDeed W)). l ++ (replicate m HadNoClient ++ last))
          (append-nil (replicate n HadNoClient))
          ∙ (sym (append_assoc (replicate n HadNoClient) (replicate m HadNoClient) last)
          ∙ ap (λ (l : List (AcceptDeed W)). l ++ last) (replicate-append-replicate n m HadNoClient)))

-- what came of it where it was asked once, for a place that is free
pub asked_so : {M S L W : Type 0} (wants : M → Wants) (does : S → S → List Deed → Type 0)
    (did : L → L → List (AcceptDeed W) → Type 0) (at : ℕ) (over : Bool) (old new : L) (l : LoopValue M S)
    (before after : Bool) (result : Option (Arrival S W)) → IsFirstFree l.places at → slice_get l.places at ≡ Some Empty
    → before ≡ false → HasAskedClient does did at old new before result after
    → HasClientBy wants does did over old new l before result after
asked_so wants does did at over old new l before after None free is hears (heard, same) = (
  (1, heard),
  same,
  λ so. inr (0, heard),
)
asked_so wants does did at over old new l before after (Some (arrival.Ended place)) free is hears h = absurd h
asked_so wants does did at over old new l before after (Some arrival.TooLate) free is hears h = absurd h
asked_so wants does did at over old new l before after (Some (arrival.Lost why)) free is hears (heard, same) = (
  (0, heard),
  (hears, same ∙ hears),
  λ until now. tt,
)
asked_so wants does did at over old new l before after (Some (arrival.NotAccepted why)) free is hears (heard, same) = (
  (0, heard),
  (hears, same),
  λ until now. tt,
)
asked_so {M} {S} {L} {W} wants does did at over old new l before after (Some
    (arrival.Client place stream)) free is hears
    (heard, here, fresh, same) = (
      (0, subst (λ (n : ℕ). HasHeard did old new (GaveClient n ∷ [])) (sym here) heard),
      (hears, same ∙ hears),
      λ until now. (
        subst (λ (n : ℕ). IsFirstFree l.places n) (sym here) free,
        subst (λ (n : ℕ). slice_get l.places n ≡ Some Empty) (sym here) is,
        fresh,
      ),
    )

-- the place for which one is asked for, or none is empty
pub place_so : {M S : Type 0} (l : LoopValue M S) (result : Option ℕ) (over : Bool)
    → MatchOption result (AreOccupied l.places (length l.places))
    (λ at. IsFirstFree l.places at × (slice_get l.places at ≡ Some Empty)) → l.deaf ≡ false
    → MatchOption result (over ≡ true → CannotTake l) (λ at. IsPlaceToAsk l at)
place_so l None over h hears = λ so. inl h
place_so l (Some at) over (free, is) hears = (free, is, hears)

-- it was asked some times in vain, and then so
pub heard_for : {M S T L W : Type 0} (did : L → L → List (AcceptDeed W) → Type 0) (a b c : L) (l : LoopValue M S)
    (happened : Arrival T W) → HasHeardLast did a b [] → HasHeardFor did b c l happened
    → HasHeardFor did a c l happened
heard_for did a b c l (arrival.Ended at) h k = heard_then did a b c [] h k
heard_for did a b c l (arrival.Client at stream) h k = heard_then did a b c (GaveClient at ∷ []) h k
heard_for did a b c l (arrival.Lost why) h k = heard_then did a b c (LostClient why ∷ []) h k
heard_for did a b c l (arrival.NotAccepted why) h k = heard_then did a b c (CouldNotGive why ∷ []) h k
heard_for did a b c l arrival.TooLate h (asked, why) = (heard_then did a b c [] h asked, by why)
  where
    by : CannotTake l ⊎ HasHeardLast did b c (HadNoClient ∷ []) → CannotTake l ⊎ HasHeardLast did a c (HadNoClient ∷ [])
    by (inl none) = inl none
    by (inr k) = inr (heard_then did a b c (HadNoClient ∷ []) h k)

-- what has arrived in front of the first round, where no time is waited for, or behind it
module _ {M S W : Type 0} (wants : M → Wants) (did : S → S → List Deed → Type 0) (late until : Option ℕ) (now : ℕ)
    (l : LoopValue M S) where
  pub arrived_so : (later : ℕ) (happened : Arrival S W) (Q P : Type 0) → ((late ≡ None) × Q) ⊎ ((late ≡ until) × P)
      → now ≡ later → HasArrived wants did late now l happened → HasArrived wants did until later l happened
  arrived_so later (arrival.Ended at) Q P way same h = h
  arrived_so later (arrival.Client at stream) Q P way same h = h
  arrived_so later (arrival.Lost why) Q P way same h = tt
  arrived_so later (arrival.NotAccepted why) Q P way same h = tt
  arrived_so later arrival.TooLate Q P (inl (none, _)) same (h, over) =
      absurd (false≢true (subst (λ (o : Option ℕ). has_ended_by o now ≡ true) none h))
  arrived_so later arrival.TooLate Q P (inr (is, _)) same (h, over) = (
    subst (λ (n : ℕ). has_ended_by until n ≡ true) same (subst (λ (o : Option ℕ). has_ended_by o now ≡ true) is h),
    over,
  )

  pub round_made_for : (old tickets : List (Option ℕ)) (happened : Arrival S W) (P : Type 0) → l.tickets ≡ tickets
      → ((late ≡ None) × (tickets ≡ old)) ⊎ ((late ≡ until) × P) → HasArrived wants did late now l happened
      → IfRoundMadeFor old happened P
  round_made_for old tickets (arrival.Ended at) P here (inl (none, same)) (over, (t, is, least)) =
      inl (t, subst (λ (k : List (Option ℕ)). slice_get k at ≡ Some (Some t)) (here ∙ same) is)
  round_made_for old tickets (arrival.Ended at) P here (inr (is, served)) h = inr served
  round_made_for old tickets (arrival.Client at stream) P here way h = tt
  round_made_for old tickets (arrival.Lost why) P here way h = tt
  round_made_for old tickets (arrival.NotAccepted why) P here way h = tt
  round_made_for old tickets arrival.TooLate P here (inl (none, same)) (h, over) =
      absurd (false≢true (subst (λ (o : Option ℕ). has_ended_by o now ≡ true) none h))
  round_made_for old tickets arrival.TooLate P here (inr (is, served)) h = served
