-- Clients of a listener that are served, so many at a time, and what is told of them.
use Rattle.std.specs.Prelude.{◌≡◌, ℕ, ◌+◌, ◌≤◌, ◌<◌, ⊤, List, [], ◌∷◌, ◌++◌, length, Option, None, Some}
use Rattle.std.specs.List.{All}
use Rattle.ws_loops.specs.Deeds.{Deed}
use Rattle.ws_loops.specs.Listeners.{AcceptDeed, HasHeard}
use Rattle.ws_clients.specs.Numbers.{clients_given, reasons_given}
use Rattle.ws_serving.specs.ClientEnds.{IsClientEnd}
use Rattle.ws_serving.specs.EndNumbers.{AreEndNumbers, numbers_of}
use Rattle.ws_serving.specs.News.{HasTakenNews, ends_in, fulls_in}
use Rattle.ws_serving.specs.declared.guests.Service.{Service}
use Rattle.ws_serving.specs.declared.news_sink.News.{News}
use Rattle.ws_serving.specs.declared.news_sink.News.TheVariants.{Ended, Full}
use Rattle.ws_serving.specs.declared.serving.ServingEnd.{ServingEnd}
use Rattle.ws_serving.specs.declared.serving.ServingEnd.TheVariants.{Deaf, Done, Refused, Stopped}

-- no more than are to be served, if they are counted
abbrev pub IsWithinCount : Option ℕ → ℕ → Type 0
IsWithinCount None came = ⊤
IsWithinCount (Some most) came = came ≤ most

-- more ends are to be told
abbrev pub IsStillOpen : Option ℕ → ℕ → Type 0
IsStillOpen None told = ⊤
IsStillOpen (Some most) told = told < most

-- one, if there is a reason
abbrev pub once_if : {W : Type 0} → List W → ℕ
once_if [] = 0
once_if (why ∷ more) = 1

-- Clients were served: the listener did these things, by which it gave clients, no more than are to be served, and this
-- is what was told of them. Each client whose end was told is one that it gave, and its end follows from what its
-- stream did; so many are there still, never more than may be. That it could give none was told once, but for these
-- last reasons.
pub record HasServedClients {S L E W : Type 0} (did : S → S → List Deed → Type 0)
    (ldid : L → L → List (AcceptDeed W) → Type 0) (heard : E → E → List News → Type 0) (service : Service)
    (first : L) (old new : E) (there : ℕ) (untold : List W) : Type 0 where
  pub last : L
  pub deeds : List (AcceptDeed W)
  pub asked : HasHeard ldid first last deeds
  pub within : IsWithinCount service.count (clients_given deeds)
  pub news : List News
  pub put : HasTakenNews heard old new news
  pub ends : All (λ end. IsClientEnd did service end.1) (ends_in news)
  pub numbers : AreEndNumbers service.at_once (clients_given deeds) (numbers_of (ends_in news))
  pub came : clients_given deeds ≡ there + length (ends_in news)
  pub few : there ≤ service.at_once
  pub reasons : List W
  pub could_not : reasons_given deeds ≡ reasons ++ untold
  pub full : fulls_in news ≡ once_if reasons

-- this could be told next: the end of a client that was given and of which none was told, or, once, that no more can be
-- taken
abbrev pub IsNextNews : {S : Type 0} → (S → S → List Deed → Type 0) → Service → ℕ → List News → News → Type 0
IsNextNews did service came told (Ended number end) = IsClientEnd did service end × (1 ≤ number) × (number ≤ came)
    × All (λ other. other ≡ number → ⊥) (numbers_of (ends_in told))
IsNextNews did service came told Full = fulls_in told ≡ 0

-- The serving of clients has ended so. Done: the ends of as many as were to be served were told, and nobody is there.
-- Else more were to be told. Deaf: nobody is there, and the listener said last that it can give none. Stopped: the loop
-- could not go on. Refused: what was to be told next was not taken.
abbrev pub ServesAll : {S L E W F : Type 0} → (S → S → List Deed → Type 0) → (L → L → List (AcceptDeed W) → Type 0)
    → (E → E → List News → Type 0) → (E → E → News → F → Type 0) → Service → L → E → E → ServingEnd F → Type 0
ServesAll did ldid heard refused service first old new Done =
    (s : HasServedClients did ldid heard service first old new 0 [])
    × (service.count ≡ Some (length (ends_in s.news)))
ServesAll {W = W} did ldid heard refused service first old new Deaf = (why : W)
    × (s : HasServedClients did ldid heard service first old new 0 (why ∷ []))
    × IsStillOpen service.count (length (ends_in s.news))
ServesAll did ldid heard refused service first old new (Stopped fault) = (there : ℕ)
    × (s : HasServedClients did ldid heard service first old new there [])
    × IsStillOpen service.count (length (ends_in s.news))
ServesAll {E = E} {W = W} did ldid heard refused service first old new (Refused why) = (mid : E) × (there : ℕ)
    × (untold : List W) × (s : HasServedClients did ldid heard service first old mid there untold)
    × IsStillOpen service.count (length (ends_in s.news))
    × (next : News) × IsNextNews did service (clients_given s.deeds) s.news next × refused mid new next why
