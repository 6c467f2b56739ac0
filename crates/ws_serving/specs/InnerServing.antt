-- Inside the crate: what is told of clients that are served.
use Rattle.std.specs.Prelude.{◌≡◌, ℕ, ◌+◌, ◌<◌, ◌⊎◌, Bool, true, false, not, nat_lt, List, [], ◌∷◌, Option, None, Some}
use Rattle.std.specs.Prelude.{length}
use Rattle.std.specs.List.{All}
use Rattle.ws_loops.specs.Deeds.{Deed}
use Rattle.ws_loops.specs.Listeners.{AcceptDeed, HasHeard}
use Rattle.ws_echo.specs.EchoMachines.{EchoValue}
use Rattle.ws_clients.specs.Clients.{ClientsValue}
use Rattle.ws_clients.specs.Counting.{CountedValue, HasCounted}
use Rattle.ws_clients.specs.Numbers.{AreNumbers, client_number, clients_given, clients_numbered, reasons_given}
use Rattle.ws_serving.specs.ClientEnds.{IsClientEnd, known_to}
use Rattle.ws_serving.specs.EndNumbers.{AreEndNumbers, numbers_of}
use Rattle.ws_serving.specs.InnerGuests.{AreEchoes, IsUnserved}
use Rattle.ws_serving.specs.News.{HasTakenNews, ends_in, fulls_in}
use Rattle.ws_serving.specs.Serving.{ServesAll, once_if}
use Rattle.ws_serving.specs.declared.client_end.ClientEnd.{ClientEnd}
use Rattle.ws_serving.specs.declared.guests.Guests.{Guests}
use Rattle.ws_serving.specs.declared.guests.Service.{Service}
use Rattle.ws_serving.specs.declared.news_sink.News.{News}
use Rattle.ws_serving.specs.declared.news_sink.News.TheVariants.{Ended, Full}
use Rattle.ws_serving.specs.declared.serving.Said.{Said}
use Rattle.ws_serving.specs.declared.serving.ServingEnd.{ServingEnd}
use Rattle.ws_serving.specs.declared.serving.ServingEnd.TheVariants.{Refused}

-- so many ends were told that no more are to be
abbrev pub is_last : Option ℕ → ℕ → Bool
is_last None told = false
is_last (Some count) told = not (nat_lt told count)

-- no more of them can be told than can be counted
abbrev pub most_told : ℕ
most_told = 18446744073709551615

-- this number stands in no place
abbrev pub StandsNowhere : List (Option ℕ) → ℕ → Type 0
StandsNowhere numbers n = (at : ℕ) → client_number numbers at ≡ Some n → ⊥

-- Clients were served since these states, in which nobody had come, and this is what was told of them.
pub record IsServing {S L E W : Type 0} (did : S → S → List Deed → Type 0)
    (ldid : L → L → List (AcceptDeed W) → Type 0) (heard : E → E → List News → Type 0) (service : Service)
    (first : CountedValue L) (from : E) (l : CountedValue L) (e : E) (x : ClientsValue EchoValue S) (said : Said)
    : Type 0 where
  pub counted : first.left ≡ service.count
  pub deeds : List (AcceptDeed W)
  pub asked : HasHeard (λ start now told. HasCounted ldid start now told) first l deeds
  pub taken : x.taken ≡ clients_given deeds
  pub news : List News
  pub put : HasTakenNews heard from e news
  pub ends : All (λ end. IsClientEnd did service end.1) (ends_in news)
  pub numbers : AreEndNumbers service.at_once x.taken (numbers_of (ends_in news))
  pub told : said.told ≡ length (ends_in news)
  pub came : x.taken ≡ clients_numbered x.numbers + length (ends_in news)
  pub apart : AreNumbers x.taken x.numbers
  pub gone : All (StandsNowhere x.numbers) (numbers_of (ends_in news))
  pub len : length x.numbers ≡ service.at_once
  pub full : fulls_in news ≡ once_if (reasons_given deeds)
  pub is_full : said.full ≡ nat_lt 0 (fulls_in news)
  pub known : x.known ≡ known_to service
  pub plays : AreEchoes did service x.places

-- whatever clients were served until the first states, the same were until the second ones
abbrev pub KeepsServing : {S L E W : Type 0} → (S → S → List Deed → Type 0) → (L → L → List (AcceptDeed W) → Type 0)
    → (E → E → List News → Type 0) → Service → CountedValue L → CountedValue L → E → E → ClientsValue EchoValue S
    → ClientsValue EchoValue S → Said → Said → Type 0
KeepsServing {L = L} {E = E} did ldid heard service l m e f x y said then = (first : CountedValue L) (from : E)
    → IsServing did ldid heard service first from l e x said → IsServing did ldid heard service first from m f y then

-- whatever clients were served until these states, where more ends were to be told, the serving has ended so
abbrev pub StopsServing : {S L E W F : Type 0} → (S → S → List Deed → Type 0)
    → (L → L → List (AcceptDeed W) → Type 0) → (E → E → List News → Type 0) → (E → E → News → F → Type 0) → Service
    → CountedValue L → E → E → ClientsValue EchoValue S → Said → ServingEnd F → Type 0
StopsServing {L = L} {E = E} did ldid heard refused service l e f x said end = (first : CountedValue L) (from : E)
    → IsServing did ldid heard service first from l e x said → is_last service.count said.told ≡ false
    → ServesAll did ldid heard refused service first.listener from f end

-- nobody has come to these clients, who are to be served so
pub record AreReady {S L : Type 0} (service : Service) (l : CountedValue L) (x : ClientsValue EchoValue S) : Type 0
  where
    pub counted : l.left ≡ service.count
    pub clients : IsUnserved service x

-- one more end was told
abbrev pub SaysEnd : Said → Said → Type 0
SaysEnd old new = (new.told ≡ old.told + 1) × (new.full ≡ old.full)

-- it was told now, or before, that no client can be taken
abbrev pub SaysFull : {E : Type 0} → (E → E → List News → Type 0) → E → E → Said → Said → Type 0
SaysFull heard e f old new = ((old.full ≡ true) × (f ≡ e) × (new ≡ old))
    ⊎ ((old.full ≡ false) × HasTakenNews heard e f (Full ∷ []) × (new.told ≡ old.told) × (new.full ≡ true))

-- the sink has refused this, and so the serving has ended
abbrev pub EndsRefused : {E F : Type 0} → (E → E → News → F → Type 0) → E → E → News → ServingEnd F → Type 0
EndsRefused {F = F} refused e f news end = (why : F) × (end ≡ Refused why) × refused e f news why
