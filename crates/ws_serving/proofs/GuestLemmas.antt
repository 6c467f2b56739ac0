-- Clients that are served: what is played to each is an echo of the service, also once something has happened, and how
-- the connection of one has ended follows from that.
use Rattle.std.proofs.Common.{◌≡◌, ◌∙◌, ◌++◌, ◌⊎◌, ℕ, true, List, [], Option, None, Some, ap, inl, inr, refl, subst}
use Rattle.std.proofs.Common.{slice_set, sym}
use Rattle.std.specs.List.{slice_get}
use Rattle.std.proofs.lemmas.Option.{none-some, same_Some}
use Rattle.ws_machines.specs.Told.{Told}
use Rattle.ws_loops.specs.Deeds.{Deed, Happened}
use Rattle.ws_loops.specs.Listeners.{AcceptDeed}
use Rattle.ws_loops.specs.declared.places.Place.{Place}
use Rattle.ws_loops.specs.declared.places.Place.TheVariants.{Broken, Empty, Open, Pending}
use Rattle.ws_loops.specs.declared.slot.Slot.{Slot}
use Rattle.ws_echo.specs.EchoMachines.{BeginsEcho, EchoGivesSo, EchoValue, WasEchoing}
use Rattle.ws_echo.specs.declared.echo_machine.EchoEnd.{EchoEnd}
use Rattle.ws_handshake.specs.declared.admission.AcceptedRequest.{AcceptedRequest}
use Rattle.ws_handshake.specs.declared.admission.Admission.{Admission}
use Rattle.ws_handshake.specs.declared.admission.Admission.TheVariants as admission
use Rattle.ws_clients.specs.Clients.{ClientsValue, HoldsBehind, IsHeldAt, IsPlayEnd, IsPlaying, KeepsPlays, PlayNoMore}
use Rattle.ws_clients.specs.Clients.{PlayedOnly, PlaysAt, PlaysOn, PlaysThere, StandsWhere}
use Rattle.ws_clients.specs.Numbers.{AreUnnumbered, TakesIn, client_number, numbers_left, stream_at, there_at}
use Rattle.ws_clients.specs.Talks.{IsAdmission}
use Rattle.ws_clients.specs.declared.clients.Event.{Event}
use Rattle.ws_clients.specs.declared.clients.Event.TheVariants.{Deaf, Decided, Full, Gone, Played, TooLate}
use Rattle.ws_clients.specs.declared.talking.Talk.{Talk}
use Rattle.ws_serving.specs.ClientEnds.{IsClientEnd, echo_behind, known_to}
use Rattle.ws_serving.specs.InnerGuests.{AreEchoes, EchoesAt, HasLeft, HoldsAsked, IsQuiet, IsToSeeTo, SeesTo}
use Rattle.ws_serving.specs.InnerGuests.{TellsReasons, gone_step}
use Rattle.ws_serving.specs.declared.client_end.ClientEnd.{ClientEnd}
use Rattle.ws_serving.specs.declared.client_end.ClientEnd.TheVariants.{Echoed, NoMemory}
use Rattle.ws_serving.specs.declared.guests.Service.{Service}
use Rattle.ws_serving.specs.declared.guests.Step.{Step}
use Rattle.ws_serving.specs.declared.guests.Step.TheVariants.{Ended, On}
use Rattle.ws_serving.specs.declared.guests.Step.TheVariants as step

-- what was told of an echo
abbrev echo_agrees : EchoValue → EchoValue → List Told → Type 0
echo_agrees start now told = WasEchoing start now told

abbrev echo_gives : EchoValue → List Told → EchoEnd → Type 0
echo_gives start told end = EchoGivesSo start told end

module _ {S : Type 0} (did : S → S → List Deed → Type 0) (service : Service) where
  abbrev Places : Type 0
  Places = List (Place (Talk EchoValue) S)

  -- nothing is played in a place that stands otherwise
  not_pending : (places : Places) (at : ℕ) (watch : _) → slice_get places at ≡ Some (Pending watch)
      → (start : EchoValue) (stream : S) (happened : List Happened)
      → IsPlaying echo_agrees did start stream happened places at → ⊥
  not_pending places at watch is start stream happened (place, there, plays) =
      subst (λ (p : Place (Talk EchoValue) S). PlaysThere echo_agrees did start stream happened p)
      (same_Some place (Pending watch) (sym there ∙ is)) plays

  -- no slot stands in it
  pending_open : (places : Places) (at : ℕ) (watch : _) → slice_get places at ≡ Some (Pending watch)
      → PlaysAt places at → ⊥
  pending_open places at watch is (slot, there, player) =
      let bad : Pending watch ≡ Open slot = same_Some (Pending watch) (Open slot) (sym is ∙ there) in absurd (cc)

  empty_open : (places : Places) (at : ℕ) → slice_get places at ≡ Some Empty → PlaysAt places at → ⊥
  empty_open places at is (slot, there, player) =
      let bad : Empty ≡ Open slot = same_Some Empty (Open slot) (sym is ∙ there) in absurd (cc)

  module _ {K W : Type 0} (heard : K → K → List (ℕ × List ℕ) → Type 0) (old new : Places) (from to : K)
      (event : Event EchoEnd W) (on : PlaysOn heard echo_agrees did echo_gives old new from to (Some event))
      (stands : StandsWhere new event) where
    -- what came of what was played in a place leaves no slot there
    ended_open : (at : ℕ) (start : EchoValue) (stream : S) (happened : List Happened) (other : Event EchoEnd W)
        → Some event ≡ Some other → IsPlayEnd did echo_gives start stream at happened other → PlaysAt new at → ⊥
    ended_open at start stream happened other same end plays =
        by event (same_Some event other same) stands end
      where
        by : (e : Event EchoEnd W) → e ≡ other → StandsWhere new e
            → IsPlayEnd did echo_gives start stream at happened other → ⊥
        by e is there ended = of other (subst (λ (x : Event EchoEnd W). StandsWhere new x) is there) ended
          where
            of : (x : Event EchoEnd W) → StandsWhere new x → IsPlayEnd did echo_gives start stream at happened x → ⊥
            of (Played place end) (watch, at_place) ended =
                pending_open new at watch (subst (λ (n : ℕ). slice_get new n ≡ Some (Pending watch)) ended.0 at_place)
                plays
            of (Gone place number) at_place ended =
                empty_open new at (subst (λ (n : ℕ). slice_get new n ≡ Some Empty) ended at_place) plays
            of (Decided place admission) at_place ended = absurd ended
            of TooLate at_place ended = absurd ended
            of (Full why) at_place ended = absurd ended
            of (Deaf why) at_place ended = absurd ended

    -- the echoes go on
    pub echoes_on : PlayedOnly old new (Some event) → AreEchoes did service old → AreEchoes did service new
    echoes_on only echoes at plays =
        let (request, is, start, begins, happened, playing) = echoes at (only.0 at plays) in
        let (more, lines, goes) = on.each at start is.last happened playing in
        by request is start begins (happened ++ more) goes
      where
        by : (request : AcceptedRequest)
            (is : IsAdmission did (known_to service) (admission.Accepted request)) (start : EchoValue)
            → BeginsEcho (echo_behind service request) start → (happened : List Happened)
            → IsPlaying echo_agrees did start is.last happened new at
            ⊎ ((other : Event EchoEnd W) × (Some event ≡ Some other)
            × IsPlayEnd did echo_gives start is.last at happened other)
            → EchoesAt did service new at
        by request is start begins happened (inl still) = (request, is, start, begins, happened, still)
        by request is start begins happened (inr (other, same, end)) =
            absurd (ended_open at start is.last happened other same end plays)

  -- how the connection of a client has ended to which was played
  pub played_end : {K W : Type 0} (heard : K → K → List (ℕ × List ℕ) → Type 0) (old new : Places) (from to : K)
      (at : ℕ) (end : EchoEnd)
      → PlaysOn {W = W} heard echo_agrees did echo_gives old new from to (Some (Played at end))
      → StandsWhere {W = W} new (Played at end) → PlaysAt old at → AreEchoes did service old
      → IsClientEnd did service (Echoed end)
  played_end {W = W} heard old new from to at end on (watch, there) plays echoes =
      let (request, is, start, begins, happened, playing) = echoes at plays in
      let (more, lines, goes) = on.each at start is.last happened playing in
      by request is start begins (happened ++ more) goes
    where
      by : (request : AcceptedRequest)
          (is : IsAdmission did (known_to service) (admission.Accepted request)) (start : EchoValue)
          → BeginsEcho (echo_behind service request) start → (happened : List Happened)
          → IsPlaying echo_agrees did start is.last happened new at
          ⊎ ((other : Event EchoEnd W) × (Some (Played at end) ≡ Some other)
          × IsPlayEnd did echo_gives start is.last at happened other) → IsClientEnd did service (Echoed end)
      by request is start begins happened (inl still) =
          absurd (not_pending new at watch there start is.last happened still)
      by request is start begins happened (inr (other, same, ended)) =
          let (here, gives, (last, done)) = subst
          (λ (e : Event EchoEnd W). IsPlayEnd did echo_gives start is.last at happened e)
          (sym (same_Some (Played at end) other same)) ended in (
            request,
            is,
            record { happened = happened; gives = gives (echo_behind service request) begins; last = last; done = done },
          )

  asked_as : (held : List (Option S)) (at : ℕ) (request : Admission) (known : List (List ℕ)) → known ≡ known_to service
      → (is : IsAdmission did known request) × IsHeldAt held at is.last → HoldsAsked did service held at request
  asked_as held at request known same holds =
      subst (λ (k : List (List ℕ)). (is : IsAdmission did k request) × IsHeldAt held at is.last) same holds

  -- what has happened is to be seen to
  pub to_see : {K L W : Type 0} (heard : K → K → List (ℕ × List ℕ) → Type 0)
      (ldid : L → L → List (AcceptDeed W) → Type 0) (l m : L) (x y : ClientsValue EchoValue S) (from to : K)
      (event : Event EchoEnd W) (takes : TakesIn ldid l m x y event)
      → PlaysOn heard echo_agrees did echo_gives x.places y.places from to (Some event)
      → PlayedOnly x.places y.places (Some event) → StandsWhere y.places event → HoldsBehind did y.known y.held event
      → y.known ≡ known_to service → AreEchoes did service x.places
      → IsToSeeTo did service takes.before y event
  to_see heard ldid l m x y from to (Decided at request) takes on only stands holds known echoes =
      (takes.of, takes.behind, asked_as y.held at request y.known known holds)
  to_see heard ldid l m x y from to (Played at end) takes on only stands holds known echoes =
      (takes.of, takes.behind, holds, played_end heard x.places y.places from to at end on stands only.1 echoes)
  to_see heard ldid l m x y from to (Gone at number) takes on only stands holds known echoes =
      (takes.of, takes.behind)
  to_see heard ldid l m x y from to TooLate takes on only stands holds known echoes = takes.behind
  to_see heard ldid l m x y from to (Full why) takes on only stands holds known echoes = takes.behind
  to_see heard ldid l m x y from to (Deaf why) takes on only stands holds known echoes = (takes.of, takes.behind)

  -- ---- one client

  -- echoes stay where all that is played stays
  echoes_kept : (old new : Places) → PlayNoMore old new → KeepsPlays echo_agrees did old new
      → AreEchoes did service old → AreEchoes did service new
  echoes_kept old new only keeps echoes at plays =
      let (request, is, start, begins, happened, playing) = echoes at (only at plays) in
      (request, is, start, begins, happened, keeps at start is.last happened playing)

  -- a client was left, and how its connection ended is told
  pub left_sees : (x y : ClientsValue EchoValue S) (at : ℕ) (end : ClientEnd) (told : Step)
      → HasLeft at end x y told → IsClientEnd did service end → y.taken ≡ x.taken → y.known ≡ x.known
      → AreEchoes did service x.places → PlayNoMore x.places y.places
      → KeepsPlays echo_agrees did x.places y.places → SeesTo did service x.numbers x y told
  left_sees x y at end told (n, there, is, gone) ends taken known echoes only keeps =
      subst (λ (s : Step). SeesTo did service x.numbers x y s) (sym is) (record {
        tells = (ends, (at, there, gone));
        taken = taken;
        known = known;
        plays = echoes_kept x.places y.places only keeps echoes;
      })

  -- an echo is played to a client
  pub play_sees : (x y : ClientsValue EchoValue S) (at : ℕ) (request : AcceptedRequest) (start : EchoValue)
      → HoldsAsked did service x.held at (admission.Accepted request)
      → BeginsEcho (echo_behind service request) start
      → ((stream : S) × IsHeldAt x.held at stream × IsPlaying echo_agrees did start stream [] y.places at)
      → ((other : ℕ) → PlaysAt y.places other → (other ≡ at) ⊎ PlaysAt x.places other)
      → KeepsPlays echo_agrees did x.places y.places → y.numbers ≡ x.numbers → y.taken ≡ x.taken
      → y.known ≡ x.known → AreEchoes did service x.places → SeesTo did service x.numbers x y On
  play_sees x y at request start (is, held) begins (stream, also, playing) only keeps numbers taken known echoes =
      record { tells = inl numbers; taken = taken; known = known; plays = all }
    where
      same : stream ≡ is.last
      same = same_Some stream is.last (same_Some (Some stream) (Some is.last) (sym also ∙ held))

      here : EchoesAt did service y.places at
      here = (
        request,
        is,
        start,
        begins,
        [],
        subst (λ (s : S). IsPlaying echo_agrees did start s [] y.places at) same playing,
      )

      by : (other : ℕ) → (other ≡ at) ⊎ PlaysAt x.places other → EchoesAt did service y.places other
      by other (inl at_place) = subst (λ (n : ℕ). EchoesAt did service y.places n) (sym at_place) here
      by other (inr before) =
          let (asked, was, first, began, happened, plays) = echoes other before in
          (asked, was, first, began, happened, keeps other first was.last happened plays)

      all : AreEchoes did service y.places
      all other plays = by other (only other plays)

-- the number of a client that is left is gone
pub left_number : {S : Type 0} (held : List (Option S)) (at : ℕ) (stream : S) (numbers after : List (Option ℕ))
    → IsHeldAt held at stream → after ≡ numbers_left (stream_at held at) at numbers
    → after ≡ slice_set numbers at None
left_number {S} held at stream numbers after is left =
    left ∙ ap (λ (o : Option S). numbers_left o at numbers) (ap (λ (o : Option (Option S)). there_at o) is)

module _ {S : Type 0} (did : S → S → List Deed → Type 0) (service : Service) where
  -- what was seen to where these were there
  pub sees_as : (before numbers : List (Option ℕ)) (x y : ClientsValue EchoValue S) (told : Step) → numbers ≡ before
      → SeesTo did service numbers x y told → SeesTo did service before x y told
  sees_as before numbers x y told same sees =
      subst (λ (b : List (Option ℕ)). SeesTo did service b x y told) same sees

  -- memory ran out for a client, which is gone, or had been left
  pub gone_sees : (before : List (Option ℕ)) (x : ClientsValue EchoValue S) (at : ℕ) (number : Option ℕ) (told : Step)
      → told ≡ gone_step number → number ≡ client_number before at → x.numbers ≡ slice_set before at None
      → AreEchoes did service x.places → SeesTo did service before x x told
  gone_sees before x at None told is there gone echoes =
      subst (λ (t : Step). SeesTo did service before x x t) (sym is)
      (record { tells = inr (at, sym there, gone); taken = refl; known = refl; plays = echoes })
  gone_sees before x at (Some n) told is there gone echoes =
      subst (λ (t : Step). SeesTo did service before x x t) (sym is)
      (record { tells = (tt, (at, sym there, gone)); taken = refl; known = refl; plays = echoes })

  -- there is nothing to see to
  pub idle_sees : (before : List (Option ℕ)) (x : ClientsValue EchoValue S) → x.numbers ≡ before
      → AreEchoes did service x.places → SeesTo did service before x x On
  idle_sees before x same echoes = record { tells = inl same; taken = refl; known = refl; plays = echoes }

  pub full_sees : (before : List (Option ℕ)) (x : ClientsValue EchoValue S) → x.numbers ≡ before
      → AreEchoes did service x.places → SeesTo did service before x x step.Full
  full_sees before x same echoes = record { tells = same; taken = refl; known = refl; plays = echoes }

  pub deaf_sees : (before : List (Option ℕ)) (x : ClientsValue EchoValue S) → AreUnnumbered before
      → x.numbers ≡ before → AreEchoes did service x.places → SeesTo did service before x x step.Deaf
  deaf_sees before x none same echoes = record { tells = (none, same); taken = refl; known = refl; plays = echoes }

-- ---- reasons

-- none is told
pub quiet_reasons : (W : Type 0) (told : Step) → IsQuiet told → TellsReasons {W = W} told []
quiet_reasons W (Ended n end) quiet = refl
quiet_reasons W On quiet = refl
quiet_reasons W step.Full quiet = absurd quiet
quiet_reasons W step.Deaf quiet = absurd quiet

pub gone_quiet : (number : Option ℕ) (told : Step) → told ≡ gone_step number → IsQuiet told
gone_quiet None told is = subst (λ (t : Step). IsQuiet t) (sym is) tt
gone_quiet (Some n) told is = subst (λ (t : Step). IsQuiet t) (sym is) tt

pub left_quiet : {S : Type 0} (x y : ClientsValue EchoValue S) (at : ℕ) (end : ClientEnd) (told : Step)
    → HasLeft at end x y told → IsQuiet told
left_quiet x y at end told (n, there, is, gone) = subst (λ (t : Step). IsQuiet t) (sym is) tt
