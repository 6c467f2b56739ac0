-- The numbers of clients, in the order in which their listener gave them, and what is told of each.
use Rattle.std.specs.Prelude.{◌≡◌, ℕ, ◌+◌, ◌≤◌, ⊤, false, Bool, List, [], ◌∷◌, Option, None, Some, length}
use Rattle.std.specs.Prelude.{slice_get, slice_set}
use Rattle.ws_loops.specs.Listeners.{AcceptDeed, HasHeard}
use Rattle.ws_loops.specs.Listeners.AcceptDeed.{CouldNotGive, GaveClient, HadNoClient, LostClient}
use Rattle.ws_loops.specs.declared.places.Place.{Place}
use Rattle.ws_loops.specs.declared.places.Place.TheVariants.{Broken, Empty, Open, Pending}
use Rattle.ws_clients.specs.Clients.{ClientsValue}
use Rattle.ws_clients.specs.declared.clients.Event.{Event}
use Rattle.ws_clients.specs.declared.clients.Event.TheVariants.{Deaf, Decided, Full, Gone, Played, TooLate}
use Rattle.ws_clients.specs.declared.talking.Talk.{Talk}
use Rattle.ws_clients.specs.declared.talking.Talk.TheVariants.{Admits, Leaves, Plays}

-- what stands at this place of a list, if anything does
abbrev pub there_at : {X : Type 0} → Option (Option X) → Option X
there_at None = None
there_at (Some x) = x

-- the number of the client in this place, if one is there and isn't left
abbrev pub client_number : List (Option ℕ) → ℕ → Option ℕ
client_number numbers at = there_at (slice_get numbers at)

-- one is there
abbrev pub IsNumberedAt : List (Option ℕ) → ℕ → Type 0
IsNumberedAt numbers at = (n : ℕ) × (client_number numbers at ≡ Some n)

-- no client is there, in no place, but those that are left
abbrev pub AreUnnumbered : List (Option ℕ) → Type 0
AreUnnumbered numbers = (at : ℕ) → client_number numbers at ≡ None

-- each number is one of those that were given, from 1, and no two places have the same
pub record AreNumbers (taken : ℕ) (numbers : List (Option ℕ)) : Type 0 where
  pub given : (at n : ℕ) → client_number numbers at ≡ Some n → (1 ≤ n) × (n ≤ taken)
  pub apart : (at other n : ℕ) → client_number numbers at ≡ Some n → client_number numbers other ≡ Some n → at ≡ other

-- ---- numbers that are given

-- So many clients had come, these were the numbers in the places, and then the listener did this: so many have come
-- now, and these are the numbers. Whoever is given for a place, in which nobody was, gets the next number, and no other
-- number changes.
abbrev pub HasNumbered : {W : Type 0} → List (AcceptDeed W) → ℕ → List (Option ℕ) → ℕ → List (Option ℕ) → Type 0
HasNumbered [] taken numbers now after = (now ≡ taken) × (after ≡ numbers)
HasNumbered (GaveClient at ∷ deeds) taken numbers now after = (slice_get numbers at ≡ Some None)
    × HasNumbered deeds (taken + 1) (slice_set numbers at (Some (taken + 1))) now after
HasNumbered (LostClient why ∷ deeds) taken numbers now after = HasNumbered deeds taken numbers now after
HasNumbered (CouldNotGive why ∷ deeds) taken numbers now after = HasNumbered deeds taken numbers now after
HasNumbered (HadNoClient ∷ deeds) taken numbers now after = HasNumbered deeds taken numbers now after

-- so many clients were given
abbrev pub clients_given : {W : Type 0} → List (AcceptDeed W) → ℕ
clients_given [] = 0
clients_given (GaveClient at ∷ deeds) = 1 + clients_given deeds
clients_given (LostClient why ∷ deeds) = clients_given deeds
clients_given (CouldNotGive why ∷ deeds) = clients_given deeds
clients_given (HadNoClient ∷ deeds) = clients_given deeds

-- so many are numbers
abbrev pub clients_numbered : List (Option ℕ) → ℕ
clients_numbered [] = 0
clients_numbered (None ∷ numbers) = clients_numbered numbers
clients_numbered (Some n ∷ numbers) = 1 + clients_numbered numbers

-- for these reasons none could be given
abbrev pub reasons_given : {W : Type 0} → List (AcceptDeed W) → List W
reasons_given [] = []
reasons_given (GaveClient at ∷ deeds) = reasons_given deeds
reasons_given (LostClient why ∷ deeds) = reasons_given deeds
reasons_given (CouldNotGive why ∷ deeds) = why ∷ reasons_given deeds
reasons_given (HadNoClient ∷ deeds) = reasons_given deeds

-- ---- what is told

-- this reason is told why no client can be taken
abbrev pub reason_told : {E W : Type 0} → Option (Event E W) → List W
reason_told (Some (Full why)) = why ∷ []
reason_told (Some (Deaf why)) = why ∷ []
reason_told (Some (Decided at admission)) = []
reason_told (Some (Played at end)) = []
reason_told (Some (Gone at number)) = []
reason_told (Some TooLate) = []
reason_told None = []

-- these are the numbers once that is told: one that is gone has none
abbrev pub numbers_behind : {E W : Type 0} → Option (Event E W) → List (Option ℕ) → List (Option ℕ)
numbers_behind (Some (Gone at number)) numbers = slice_set numbers at None
numbers_behind (Some (Decided at admission)) numbers = numbers
numbers_behind (Some (Played at end)) numbers = numbers
numbers_behind (Some TooLate) numbers = numbers
numbers_behind (Some (Full why)) numbers = numbers
numbers_behind (Some (Deaf why)) numbers = numbers
numbers_behind None numbers = numbers

-- The client of which it tells has a number, that which is told where it is gone, if it wasn't left; where it tells
-- that nobody is there, nobody has one.
abbrev pub IsOfNumber : {E W : Type 0} → List (Option ℕ) → Option (Event E W) → Type 0
IsOfNumber numbers (Some (Decided at admission)) = IsNumberedAt numbers at
IsOfNumber numbers (Some (Played at end)) = IsNumberedAt numbers at
IsOfNumber numbers (Some (Gone at number)) = number ≡ client_number numbers at
IsOfNumber numbers (Some TooLate) = ⊤
IsOfNumber numbers (Some (Full why)) = ⊤
IsOfNumber numbers (Some (Deaf why)) = AreUnnumbered numbers
IsOfNumber numbers None = ⊤

-- What the listener did until something was told, if something was, and which numbers it gave by that. Each time that
-- it could give no client that is told.
pub record TakesClients {L E W : Type 0} (did : L → L → List (AcceptDeed W) → Type 0) (old new : L) (taken : ℕ)
    (numbers : List (Option ℕ)) (now : ℕ) (after : List (Option ℕ)) (told : Option (Event E W)) : Type 0 where
  pub deeds : List (AcceptDeed W)
  pub heard : HasHeard did old new deeds
  pub before : List (Option ℕ)
  pub given : HasNumbered deeds taken numbers now before
  pub of : IsOfNumber before told
  pub behind : after ≡ numbers_behind told before
  pub reasons : reasons_given deeds ≡ reason_told told

-- among these clients
abbrev pub TakesIn : {M S L E W : Type 0} → (L → L → List (AcceptDeed W) → Type 0) → L → L → ClientsValue M S
    → ClientsValue M S → Event E W → Type 0
TakesIn did old new x y event = TakesClients did old new x.taken x.numbers y.taken y.numbers (Some event)

-- the client in this place is left, if one waits there, and has no number any more
abbrev pub numbers_left : {S : Type 0} → Option S → ℕ → List (Option ℕ) → List (Option ℕ)
numbers_left None at numbers = numbers
numbers_left (Some stream) at numbers = slice_set numbers at None

-- the stream that is held beside this place, if one is
abbrev pub stream_at : {S : Type 0} → List (Option S) → ℕ → Option S
stream_at held at = there_at (slice_get held at)

-- ---- what is kept

-- who is read from or played to has a number, and who is left has none
abbrev pub IsNumberOf : {M : Type 0} → Talk M → Option ℕ → Type 0
IsNumberOf (Admits machine) number = (n : ℕ) × (number ≡ Some n)
IsNumberOf (Plays machine) number = (n : ℕ) × (number ≡ Some n)
IsNumberOf (Leaves machine) number = number ≡ None

-- so it is in a slot; who waits has a number too, and an empty place has none
abbrev pub IsNumberOn : {M S : Type 0} → Place (Talk M) S → Option ℕ → Type 0
IsNumberOn Empty number = number ≡ None
IsNumberOn (Open slot) number = IsNumberOf slot.machine number
IsNumberOn (Pending watch) number = (n : ℕ) × (number ≡ Some n)
IsNumberOn Broken number = ⊤

-- Each place has room for a number. Where the loop was not stopped by a fault each number is one for its place.
pub record AreNumbersSound {M S : Type 0} (places : List (Place (Talk M) S)) (taken : ℕ) (numbers : List (Option ℕ))
    (broken : Bool) : Type 0 where
  pub len : length numbers ≡ length places
  pub are : AreNumbers taken numbers
  pub each : broken ≡ false → (i : ℕ) (place : Place (Talk M) S) → slice_get places i ≡ Some place
      → IsNumberOn place (client_number numbers i)

-- so it is but for this place, whatever stands there
abbrev pub AreNumbersBut : {M S : Type 0} → ℕ → List (Place (Talk M) S) → ℕ → List (Option ℕ) → Bool → Type 0
AreNumbersBut at places taken numbers broken = AreNumbersSound (slice_set places at Broken) taken numbers broken

-- nobody is there, or some may be: this is told, for this reason
abbrev pub IsNoMore : {E W : Type 0} → List (Option ℕ) → W → Event E W → Type 0
IsNoMore numbers why (Deaf reason) = (reason ≡ why) × AreUnnumbered numbers
IsNoMore numbers why (Full reason) = reason ≡ why
IsNoMore numbers why (Decided at admission) = ⊥
IsNoMore numbers why (Played at end) = ⊥
IsNoMore numbers why (Gone at number) = ⊥
IsNoMore numbers why TooLate = ⊥
