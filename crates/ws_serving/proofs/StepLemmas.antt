-- Clients that are served, step by step: what was told of them follows from what the listener did.
use Rattle.std.proofs.Common.{◌≡◌, ◌∙◌, ◌+◌, ◌++◌, ◌≤◌, ◌<◌, ◌⊎◌, ◌≢◌, ℕ, Bool, true, false, List, [], ◌∷◌, length}
use Rattle.std.proofs.Common.{Option, None, Some, ap, sym, refl, subst, arith, replicate, suc, zero, nat_eq, nat_lt}
use Rattle.std.proofs.Common.{append_assoc, append-nil, inl, inr, slice_set}
use Rattle.std.specs.List.{All}
use Rattle.std.specs.Prelude.{MatchOption}
use Rattle.std.proofs.lemmas.Bool.{false≢true}
use Rattle.std.proofs.lemmas.Bool.Decides.{eqb_tells, nat_tests}
use Rattle.std.proofs.lemmas.List.Elements.{All-nil, All-push, All-same}
use Rattle.std.proofs.lemmas.Option.{none-some, same_Some}
use Rattle.ws_loops.specs.Deeds.{Deed}
use Rattle.ws_loops.specs.Listeners.{AcceptDeed, HasHeard}
use Rattle.ws_loops.proofs.PlaceLemmas.{length_set}
use Rattle.ws_echo.specs.EchoMachines.{EchoValue}
use Rattle.ws_clients.specs.Clients.{ClientsValue}
use Rattle.ws_clients.specs.Counting.{CountedValue, HasCounted, IsLeftBehind}
use Rattle.ws_clients.specs.Numbers.{AreNumbers, AreUnnumbered, client_number, clients_given, clients_numbered}
use Rattle.ws_clients.specs.Numbers.{reasons_given}
use Rattle.ws_clients.proofs.NumberLemmas.{are_taken, count_taken, given_then, heard_then, number_other, number_same}
use Rattle.ws_clients.proofs.NumberLemmas.{number_within, numbered_are, numbered_comes, numbered_count, numbered_given}
use Rattle.ws_clients.proofs.NumberLemmas.{numbered_len}
use Rattle.ws_serving.specs.ClientEnds.{IsClientEnd}
use Rattle.ws_serving.specs.EndNumbers.{AreEndNumbers, numbers_of}
use Rattle.ws_serving.specs.InnerGuests.{AreEchoes, IsUnserved, NobodyHasGone, StepsOn}
use Rattle.ws_serving.specs.InnerServing.{AreReady, EndsRefused, IsServing, KeepsServing, SaysEnd, SaysFull}
use Rattle.ws_serving.specs.InnerServing.{StandsNowhere, StopsServing, is_last}
use Rattle.ws_serving.specs.News.{HasTakenNews, ends_in, fulls_in}
use Rattle.ws_serving.specs.Serving.{HasServedClients, IsNextNews, IsStillOpen, IsWithinCount, ServesAll, once_if}
use Rattle.ws_serving.specs.declared.client_end.ClientEnd.{ClientEnd}
use Rattle.ws_serving.specs.declared.guests.Service.{Service}
use Rattle.ws_serving.specs.declared.guests.Step.{Step}
use Rattle.ws_serving.specs.declared.guests.Step.TheVariants as step
use Rattle.ws_serving.specs.declared.news_sink.News.{News}
use Rattle.ws_serving.specs.declared.news_sink.News.TheVariants.{Ended, Full}
use Rattle.ws_serving.specs.declared.serving.Said.{Said}
use Rattle.ws_serving.specs.declared.serving.ServingEnd.{ServingEnd}
use Rattle.ws_serving.specs.declared.serving.ServingEnd.TheVariants as end
use Rattle.ws_loops.specs.declared.fault.LoopFault.{LoopFault}
use Rattle.ws_serving.proofs.EndLemmas.{Differs, count_push, ends_full, ends_push, fulls_full, fulls_push, given_none}
use Rattle.ws_serving.proofs.EndLemmas.{numbers_ended, numbers_later, numbers_len, numbers_none, numbers_push}
use Rattle.ws_serving.proofs.EndLemmas.{reasons_more, reasons_none}

-- ---- numbers in places

count_few : (ns : List (Option ℕ)) → clients_numbered ns ≤ length ns
count_few [] = omega arith
count_few (None ∷ ns) = omega (arith, count_few ns)
count_few (Some n ∷ ns) = omega (arith, count_few ns)

-- a number that is not taken out was there, elsewhere
set_there : (ns : List (Option ℕ)) (at i n : ℕ) → client_number (slice_set ns at None) i ≡ Some n
    → (client_number ns i ≡ Some n) × (i ≡ at → ⊥)
set_there ns at i n is = by (eqb_tells i at)
  where
    by : ((nat_eq i at ≡ true) × (i ≡ at)) ⊎ ((nat_eq i at ≡ false) × (i ≢ at))
        → (client_number ns i ≡ Some n) × (i ≡ at → ⊥)
    by (inr far) = (sym (number_other ns at None i far.1) ∙ is, far.1)
    by (inl same) = absurd (none-some n (sym (number_same ns at None
        (subst (λ (l : ℕ). at < l) (length_set ns at None)
        (subst (λ (j : ℕ). j < length (slice_set ns at None)) same.1 (number_within (slice_set ns at None) i n is))))
        ∙ (ap (λ (j : ℕ). client_number (slice_set ns at None) j) (sym same.1) ∙ is)))

count_same : (ns : List (Option ℕ)) (at : ℕ) → client_number ns at ≡ None
    → clients_numbered (slice_set ns at None) ≡ clients_numbered ns
count_same [] zero none = refl
count_same [] (suc at) none = refl
count_same (None ∷ ns) zero none = refl
count_same (Some n ∷ ns) zero none = absurd (none-some n (sym none))
count_same (None ∷ ns) (suc at) none = count_same ns at none
count_same (Some n ∷ ns) (suc at) none = omega (arith, count_same ns at none)

-- the numbers are those of before, where nobody has gone
record AreAlike (before after : List (Option ℕ)) : Type 0 where
  pub count : clients_numbered after ≡ clients_numbered before
  pub len : length after ≡ length before
  pub there : (i n : ℕ) → client_number after i ≡ Some n → client_number before i ≡ Some n
  pub apart : (taken : ℕ) → AreNumbers taken before → AreNumbers taken after

same_alike : (before after : List (Option ℕ)) → after ≡ before → AreAlike before after
same_alike before after same = record {
  count = ap (λ (l : List (Option ℕ)). clients_numbered l) same;
  len = ap (λ (l : List (Option ℕ)). length l) same;
  there = λ i n is. ap (λ (l : List (Option ℕ)). client_number l i) (sym same) ∙ is;
  apart = λ taken are. subst (λ (l : List (Option ℕ)). AreNumbers taken l) (sym same) are;
}

set_alike : (before : List (Option ℕ)) (at : ℕ) → client_number before at ≡ None
    → AreAlike before (slice_set before at None)
set_alike before at none = record {
  count = count_same before at none;
  len = length_set before at None;
  there = λ i n is. (set_there before at i n is).0;
  apart = λ taken are. are_taken taken before at are;
}

nobody_alike : (before after : List (Option ℕ)) → NobodyHasGone before after → AreAlike before after
nobody_alike before after (inl same) = same_alike before after same
nobody_alike before after (inr (at, none, is)) =
    subst (λ (l : List (Option ℕ)). AreAlike before l) (sym is) (set_alike before at none)

none_count : (ns : List (Option ℕ)) → AreUnnumbered ns → clients_numbered ns ≡ 0
none_count [] none = refl
none_count (None ∷ ns) none = none_count ns (λ at. none (suc at))
none_count (Some n ∷ ns) none = absurd (none-some n (sym (none zero)))

none_apart : (ns : List (Option ℕ)) → AreUnnumbered ns → AreNumbers 0 ns
none_apart ns none = record {
  given = λ at n is. absurd (none-some n (sym (none at) ∙ is));
  apart = λ at other n is also. absurd (none-some n (sym (none at) ∙ is));
}

-- ---- reasons that are told once

once_few : {W : Type 0} (reasons : List W) → once_if reasons ≤ 1
once_few [] = omega arith
once_few (why ∷ more) = omega arith

once_more : {W : Type 0} (reasons : List W) (why : W) → once_if (reasons ++ why ∷ []) ≡ 1
once_more [] why = refl
once_more (first ∷ more) why = refl

is_more : (n k : ℕ) → n ≡ 1 + k → nat_lt 0 n ≡ true
is_more n k is = grind (arith, nat_tests, is)

once_none : {W : Type 0} (reasons : List W) → once_if reasons ≡ 0 → reasons ≡ []
once_none [] none = refl
once_none (why ∷ more) none = absurd (omega (arith, none))

-- ---- the count

none_left : (most : Option ℕ) → IsLeftBehind most 0 most
none_left None = refl
none_left (Some most) = (most, refl, omega arith)

within_left : (most : Option ℕ) (given : ℕ) (after : Option ℕ) → IsLeftBehind most given after
    → IsWithinCount most given
within_left None given after left = tt
within_left (Some most) given after (left, is, sum) = omega (arith, sum)

-- so many are to be served, and nobody is there
all_served : (o : Option ℕ) (told came there count : ℕ) → is_last o told ≡ true → IsWithinCount o came → told ≡ count
    → came ≡ there + count → (o ≡ Some count) × (there ≡ 0)
all_served None told came there count last within is sum = absurd (false≢true last)
all_served (Some most) told came there count last within is sum =
    let reached : most ≤ told = grind (arith, nat_tests) in
    (ap (λ (n : ℕ). Some n) (omega (arith, reached, within, is, sum)), omega (arith, reached, within, is, sum))

-- more ends are to be told
open_by : (o : Option ℕ) (told count : ℕ) → is_last o told ≡ false → told ≡ count → IsStillOpen o count
open_by None told count more is = tt
open_by (Some most) told count more is =
    let below : told < most = grind (arith, nat_tests) in omega (arith, below, is)

module _ {S L E W : Type 0} (did : S → S → List Deed → Type 0) (ldid : L → L → List (AcceptDeed W) → Type 0)
    (heard : E → E → List News → Type 0) (service : Service) where
  abbrev counted_did : CountedValue L → CountedValue L → List (AcceptDeed W) → Type 0
  counted_did start now told = HasCounted ldid start now told

  abbrev Serving : CountedValue L → E → CountedValue L → E → ClientsValue EchoValue S → Said → Type 0
  Serving first from l e x said = IsServing did ldid heard service first from l e x said

  abbrev IsEnd : ℕ × ClientEnd → Type 0
  IsEnd end = IsClientEnd did service end.1

  -- ---- news

  news_nothing : (e : E) → HasTakenNews heard e e []
  news_nothing e start taken h = subst (λ (l : List News). heard start e l) (sym (append-nil taken)) h

  news_then : (d e f : E) (one other : List News) → HasTakenNews heard d e one → HasTakenNews heard e f other
      → HasTakenNews heard d f (one ++ other)
  news_then d e f one other h k start taken x =
      subst (λ (l : List News). heard start f l) (append_assoc taken one other)
      (k start (taken ++ one) (h start taken x))

  asked_nothing : (l : CountedValue L) → HasHeard counted_did l l []
  asked_nothing l start deeds h =
      subst (λ (d : List (AcceptDeed W)). counted_did start l d) (sym (append-nil deeds)) h

  -- ---- a state behind a step

  -- The clients that were there behind a step, before what is told by it: of them just this was told.
  record IsBehind (first : CountedValue L) (from : E) (m : CountedValue L) (e : E) (taken : ℕ)
      (before : List (Option ℕ)) (told : ℕ) (news : List News) : Type 0 where
    pub deeds : List (AcceptDeed W)
    pub asked : HasHeard counted_did first m deeds
    pub given : taken ≡ clients_given deeds
    pub put : HasTakenNews heard from e news
    pub ends : All IsEnd (ends_in news)
    pub numbers : AreEndNumbers service.at_once taken (numbers_of (ends_in news))
    pub count : told ≡ length (ends_in news)
    pub came : taken ≡ clients_numbered before + length (ends_in news)
    pub apart : AreNumbers taken before
    pub gone : All (StandsNowhere before) (numbers_of (ends_in news))
    pub len : length before ≡ service.at_once

  -- so it is before a step
  abbrev now_behind : (first : CountedValue L) (from : E) (l : CountedValue L) (e : E) (x : ClientsValue EchoValue S)
      (said : Said) (h : Serving first from l e x said)
      → IsBehind first from l e x.taken x.numbers said.told h.news
  now_behind first from l e x said h = record {
    deeds = h.deeds;
    asked = h.asked;
    given = h.taken;
    put = h.put;
    ends = h.ends;
    numbers = h.numbers;
    count = h.told;
    came = h.came;
    apart = h.apart;
    gone = h.gone;
    len = h.len;
  }

  -- the clients of whom it was told are none of those who are there, also behind a step
  stay_gone : (first : CountedValue L) (from : E) (l m : CountedValue L) (e : E) (x y : ClientsValue EchoValue S)
      (said : Said) (s : Step) (h : Serving first from l e x said) (k : StepsOn did ldid service l m x y s)
      → All (StandsNowhere k.before) (numbers_of (ends_in h.news))
  stay_gone first from l m e x y said s h k i d below at is = far _ (h.gone i d below) (h.numbers.given i d below).1
      (numbered_comes k.deeds x.taken x.numbers y.taken k.before at _ k.given is)
    where
      far : (n : ℕ) → StandsNowhere x.numbers n → n ≤ x.taken
          → (client_number x.numbers at ≡ Some n) ⊎ ((x.taken < n) × (n ≤ y.taken)) → ⊥
      far n nowhere old (inl there) = nowhere at there
      far n nowhere old (inr new) = omega (arith, old, new.0)

  -- and behind it
  abbrev step_behind : (first : CountedValue L) (from : E) (l m : CountedValue L) (e : E)
      (x y : ClientsValue EchoValue S) (said : Said) (s : Step) (h : Serving first from l e x said) (k : StepsOn did ldid service l m x y s)
      → IsBehind first from m e y.taken k.before said.told h.news
  step_behind first from l m e x y said s h k = record {
    deeds = h.deeds ++ k.deeds;
    asked = heard_then counted_did first l m h.deeds k.deeds h.asked k.heard;
    given = omega (
      arith,
      numbered_given k.deeds x.taken x.numbers y.taken k.before k.given,
      h.taken,
      given_then h.deeds k.deeds,
    );
    put = h.put;
    ends = h.ends;
    numbers = numbers_later service.at_once x.taken y.taken (numbers_of (ends_in h.news))
        (omega (arith, numbered_given k.deeds x.taken x.numbers y.taken k.before k.given)) h.numbers;
    count = h.told;
    came = omega (arith, numbered_count k.deeds x.taken x.numbers y.taken k.before k.given, h.came);
    apart = numbered_are k.deeds x.taken x.numbers y.taken k.before k.given h.apart;
    gone = stay_gone first from l m e x y said s h k;
    len = numbered_len k.deeds x.taken x.numbers y.taken k.before k.given ∙ h.len;
  }

  -- ---- what was told, where the serving has ended

  abbrev counts : (first : CountedValue L) (m : CountedValue L) (deeds : List (AcceptDeed W))
      → HasHeard counted_did first m deeds → HasCounted ldid first m deeds
  counts first m deeds asked = asked first [] (record {
    deeds = [];
    heard = λ start told h. subst (λ (d : List (AcceptDeed W)). ldid start first.listener d) (sym (append-nil told)) h;
    left = none_left first.left;
    unasked = 0;
    all = refl;
    closed = inl refl;
  })

  -- as many clients as the listener itself gave
  given_all : (first m : CountedValue L) (deeds : List (AcceptDeed W)) (asked : HasHeard counted_did first m deeds)
      → clients_given deeds ≡ clients_given (counts first m deeds asked).deeds
  given_all first m deeds asked =
      let c = counts first m deeds asked in
      ap (λ (d : List (AcceptDeed W)). clients_given d) c.all ∙ given_none c.deeds c.unasked

  abbrev served : (first : CountedValue L) (from : E) (m : CountedValue L) (e : E) (taken : ℕ)
      (before : List (Option ℕ)) (told : ℕ) (news : List News) (there : ℕ) → first.left ≡ service.count
      → (b : IsBehind first from m e taken before told news) → clients_numbered before ≡ there
      → (reasons untold : List W) → reasons_given b.deeds ≡ reasons ++ untold → fulls_in news ≡ once_if reasons
      → HasServedClients did ldid heard service first.listener from e there untold
  served first from m e taken before told news there counted b count reasons untold could_not full =
      let c = counts first m b.deeds b.asked in
      let given : clients_given b.deeds ≡ clients_given c.deeds = given_all first m b.deeds b.asked in record {
        last = m.listener;
        deeds = c.deeds;
        asked = c.heard;
        within = subst (λ (o : Option ℕ). IsWithinCount o (clients_given c.deeds)) counted
            (within_left first.left (clients_given c.deeds) m.left c.left);
        news = news;
        put = b.put;
        ends = b.ends;
        numbers = subst (λ (n : ℕ). AreEndNumbers service.at_once n (numbers_of (ends_in news))) (b.given ∙ given)
            b.numbers;
        came = omega (arith, given, b.given, b.came, count);
        few = omega (arith, count_few before, b.len, count);
        reasons = reasons;
        could_not = sym (ap (λ (d : List (AcceptDeed W)). reasons_given d) c.all ∙ reasons_none c.deeds c.unasked)
            ∙ could_not;
        full = full;
      }

  no_more : (reasons more : List W) → more ≡ [] → reasons ++ more ≡ reasons
  no_more reasons more none = ap (λ (l : List W). reasons ++ l) none ∙ append-nil reasons

  -- ---- a step, and what is told by it

  -- nothing
  pub on_step : (first : CountedValue L) (from : E) (l m : CountedValue L) (e : E) (x y : ClientsValue EchoValue S)
      (said : Said) → Serving first from l e x said → StepsOn did ldid service l m x y step.On
      → Serving first from m e y said
  on_step first from l m e x y said h k =
      let b = step_behind first from l m e x y said step.On h k in
      let alike = nobody_alike k.before y.numbers k.tells in record {
        counted = h.counted;
        deeds = b.deeds;
        asked = b.asked;
        taken = b.given;
        news = h.news;
        put = b.put;
        ends = b.ends;
        numbers = b.numbers;
        told = b.count;
        came = omega (arith, b.came, alike.count);
        apart = alike.apart y.taken b.apart;
        gone = λ i d below at is. b.gone i d below at (alike.there at _ is);
        len = alike.len ∙ b.len;
        full = h.full ∙ ap (λ (r : List W). once_if r) (sym (reasons_more h.deeds k.deeds
            ∙ no_more (reasons_given h.deeds) (reasons_given k.deeds) k.reasons));
        is_full = h.is_full;
        known = k.known ∙ h.known;
        plays = k.plays;
      }

  -- the end of a client, which is there no longer
  ended_at : (first : CountedValue L) (from : E) (l m : CountedValue L) (e f : E) (x y : ClientsValue EchoValue S)
      (said then : Said) (n : ℕ) (end : ClientEnd) (at : ℕ) → Serving first from l e x said
      → (k : StepsOn did ldid service l m x y (step.Ended n end)) → HasTakenNews heard e f (Ended n end ∷ [])
      → SaysEnd said then → IsClientEnd did service end → client_number k.before at ≡ Some n
      → y.numbers ≡ slice_set k.before at None → Serving first from m f y then
  ended_at first from l m e f x y said then n end at h k put says is there after =
      let b = step_behind first from l m e x y said (step.Ended n end) h k in
      let old = numbers_of (ends_in h.news) in
      let all : numbers_of (ends_in (h.news ++ Ended n end ∷ [])) ≡ old ++ n ∷ [] =
      ap (λ (l : List (ℕ × ClientEnd)). numbers_of l) (ends_push h.news n end) ∙ numbers_push (ends_in h.news) n end in
      let one : length (ends_in (h.news ++ Ended n end ∷ [])) ≡ 1 + length (ends_in h.news) =
      ap (λ (l : List (ℕ × ClientEnd)). length l) (ends_push h.news n end) ∙ count_push (ends_in h.news) (n, end) in
      let (first_one, last) = b.apart.given at n there in
      let left = slice_set k.before at None in record {
        counted = h.counted;
        deeds = b.deeds;
        asked = b.asked;
        taken = b.given;
        news = h.news ++ Ended n end ∷ [];
        put = news_then from e f h.news (Ended n end ∷ []) b.put put;
        ends = subst (λ (l : List (ℕ × ClientEnd)). All IsEnd l) (sym (ends_push h.news n end))
            (All-push IsEnd (ends_in h.news) (n, end) b.ends is);
        numbers = subst (λ (l : List ℕ). AreEndNumbers service.at_once y.taken l) (sym all)
            (numbers_ended service.at_once y.taken old n b.numbers first_one last far
            (omega (arith, last, b.came, count_few k.before, b.len, numbers_len (ends_in h.news))));
        told = omega (arith, says.0, b.count, one);
        came = omega (
          arith,
          b.came,
          count_taken k.before at n there,
          ap (λ (l : List (Option ℕ)). clients_numbered l) after,
          one,
        );
        apart = subst (λ (l : List (Option ℕ)). AreNumbers y.taken l) (sym after)
            (are_taken y.taken k.before at b.apart);
        gone = subst (λ (l : List ℕ). All (StandsNowhere y.numbers) l) (sym all)
            (subst (λ (l : List (Option ℕ)). All (StandsNowhere l) (old ++ n ∷ [])) (sym after)
            (All-push (StandsNowhere left) old n (λ i d below other has. b.gone i d below other
            (set_there k.before at other _ has).0) nowhere));
        len = ap (λ (l : List (Option ℕ)). length l) after ∙ length_set k.before at None ∙ b.len;
        full = fulls_push h.news n end ∙ h.full ∙ ap (λ (r : List W). once_if r) (sym (reasons_more h.deeds k.deeds
            ∙ no_more (reasons_given h.deeds) (reasons_given k.deeds) k.reasons));
        is_full = says.1 ∙ h.is_full ∙ ap (λ (j : ℕ). nat_lt 0 j) (sym (fulls_push h.news n end));
        known = k.known ∙ h.known;
        plays = k.plays;
      }
    where
      far : All (Differs n) (numbers_of (ends_in h.news))
      far i d below same = stay_gone first from l m e x y said (step.Ended n end) h k i d below at
          (there ∙ ap (λ (j : ℕ). Some j) (sym same))

      nowhere : StandsNowhere (slice_set k.before at None) n
      nowhere other has =
          let (was, away) = set_there k.before at other n has in
          away ((step_behind first from l m e x y said (step.Ended n end) h k).apart.apart other at n was there)

  pub ended_step : (first : CountedValue L) (from : E) (l m : CountedValue L) (e f : E) (x y : ClientsValue EchoValue S)
      (said then : Said) (n : ℕ) (end : ClientEnd) → Serving first from l e x said
      → StepsOn did ldid service l m x y (step.Ended n end) → HasTakenNews heard e f (Ended n end ∷ [])
      → SaysEnd said then → Serving first from m f y then
  ended_step first from l m e f x y said then n end h k put says =
      let (is, (at, there, after)) = k.tells in
      ended_at first from l m e f x y said then n end at h k put says is there after

  -- that no client can be taken, if it wasn't told before
  pub full_step : (first : CountedValue L) (from : E) (l m : CountedValue L) (e f : E) (x y : ClientsValue EchoValue S)
      (said then : Said) → Serving first from l e x said → StepsOn did ldid service l m x y step.Full
      → SaysFull heard e f said then → Serving first from m f y then
  full_step first from l m e f x y said then h k (inl (full, same, also)) =
      let b = step_behind first from l m e x y said step.Full h k in
      let alike = same_alike k.before y.numbers k.tells in
      subst (λ (g : E). Serving first from m g y then) (sym same)
      (subst (λ (s : Said). Serving first from m e y s) (sym also) (record {
        counted = h.counted;
        deeds = b.deeds;
        asked = b.asked;
        taken = b.given;
        news = h.news;
        put = b.put;
        ends = b.ends;
        numbers = b.numbers;
        told = b.count;
        came = omega (arith, b.came, alike.count);
        apart = alike.apart y.taken b.apart;
        gone = λ i d below at is. b.gone i d below at (alike.there at _ is);
        len = alike.len ∙ b.len;
        full = again k.reasons;
        is_full = h.is_full;
        known = k.known ∙ h.known;
        plays = k.plays;
      }))
    where
      told : fulls_in h.news ≡ 1
      told = grind (arith, nat_tests, full, h.is_full, h.full, once_few (reasons_given h.deeds))

      again : (why : W) × (reasons_given k.deeds ≡ why ∷ [])
          → fulls_in h.news ≡ once_if (reasons_given (h.deeds ++ k.deeds))
      again (why, is) = told ∙ sym (ap (λ (r : List W). once_if r) (reasons_more h.deeds k.deeds
          ∙ ap (λ (l : List W). reasons_given h.deeds ++ l) is) ∙ once_more (reasons_given h.deeds) why)
  full_step first from l m e f x y said then h k (inr (full, put, same, now)) =
      let b = step_behind first from l m e x y said step.Full h k in
      let alike = same_alike k.before y.numbers k.tells in record {
        counted = h.counted;
        deeds = b.deeds;
        asked = b.asked;
        taken = b.given;
        news = h.news ++ Full ∷ [];
        put = news_then from e f h.news (Full ∷ []) b.put put;
        ends = subst (λ (l : List (ℕ × ClientEnd)). All IsEnd l) (sym (ends_full h.news)) b.ends;
        numbers = subst (λ (l : List (ℕ × ClientEnd)). AreEndNumbers service.at_once y.taken (numbers_of l))
            (sym (ends_full h.news)) b.numbers;
        told = same ∙ b.count ∙ ap (λ (l : List (ℕ × ClientEnd)). length l) (sym (ends_full h.news));
        came = omega (
          arith,
          b.came,
          alike.count,
          ap (λ (l : List (ℕ × ClientEnd)). length l) (ends_full h.news),
        );
        apart = alike.apart y.taken b.apart;
        gone = subst (λ (l : List (ℕ × ClientEnd)). All (StandsNowhere y.numbers) (numbers_of l))
            (sym (ends_full h.news)) (λ i d below at is. b.gone i d below at (alike.there at _ is));
        len = alike.len ∙ b.len;
        full = once k.reasons;
        is_full = now ∙ sym (is_more (fulls_in (h.news ++ Full ∷ [])) (fulls_in h.news) (fulls_full h.news));
        known = k.known ∙ h.known;
        plays = k.plays;
      }
    where
      once : (why : W) × (reasons_given k.deeds ≡ why ∷ [])
          → fulls_in (h.news ++ Full ∷ []) ≡ once_if (reasons_given (h.deeds ++ k.deeds))
      once (why, is) = fulls_full h.news ∙ ap (λ (j : ℕ). 1 + j) none ∙ sym (ap (λ (r : List W). once_if r)
          (reasons_more h.deeds k.deeds ∙ ap (λ (l : List W). reasons_given h.deeds ++ l) is)
          ∙ once_more (reasons_given h.deeds) why)
        where
          none : fulls_in h.news ≡ 0
          none = grind (arith, nat_tests, full, h.is_full)

  -- ---- how it ends

  module _ {F : Type 0} (refused : E → E → News → F → Type 0) where
    pub deaf_step : (first : CountedValue L) (from : E) (l m : CountedValue L) (e : E) (x y : ClientsValue EchoValue S)
        (said : Said) → Serving first from l e x said → StepsOn did ldid service l m x y step.Deaf
        → is_last service.count said.told ≡ false
        → ServesAll did ldid heard refused service first.listener from e end.Deaf
    deaf_step first from l m e x y said h k more =
        let (why, is) = k.reasons in (
          why,
          served first from m e y.taken k.before said.told h.news 0 h.counted
              (step_behind first from l m e x y said step.Deaf h k) (none_count k.before k.tells.0)
              (reasons_given h.deeds) (why ∷ [])
              (reasons_more h.deeds k.deeds ∙ ap (λ (r : List W). reasons_given h.deeds ++ r) is) h.full,
          open_by service.count said.told (length (ends_in h.news)) more h.told,
        )

    pub stopped_step : (first : CountedValue L) (from : E) (l : CountedValue L) (e : E) (x : ClientsValue EchoValue S)
        (said : Said) (fault : LoopFault) → Serving first from l e x said → is_last service.count said.told ≡ false
        → ServesAll did ldid heard refused service first.listener from e (end.Stopped fault)
    stopped_step first from l e x said fault h more = (
      clients_numbered x.numbers,
      served first from l e x.taken x.numbers said.told h.news (clients_numbered x.numbers) h.counted
          (now_behind first from l e x said h) refl (reasons_given h.deeds) []
          (sym (append-nil (reasons_given h.deeds))) h.full,
      open_by service.count said.told (length (ends_in h.news)) more h.told,
    )

    pub done_step : (first : CountedValue L) (from : E) (l : CountedValue L) (e : E) (x : ClientsValue EchoValue S)
        (said : Said) → Serving first from l e x said → is_last service.count said.told ≡ true
        → ServesAll did ldid heard refused service first.listener from e end.Done
    done_step first from l e x said h last =
        let b = now_behind first from l e x said h in
        let s = served first from l e x.taken x.numbers said.told h.news (clients_numbered x.numbers) h.counted b refl
        (reasons_given h.deeds) [] (sym (append-nil (reasons_given h.deeds))) h.full in
        let all = all_served service.count said.told (clients_given s.deeds) (clients_numbered x.numbers)
        (length (ends_in h.news)) last s.within h.told s.came in (
          served first from l e x.taken x.numbers said.told h.news 0 h.counted b all.1 (reasons_given h.deeds) []
              (sym (append-nil (reasons_given h.deeds))) h.full,
          all.0,
        )

    -- the sink has refused the end of a client
    end_refused : (first : CountedValue L) (from : E) (l m : CountedValue L) (e f : E) (x y : ClientsValue EchoValue S)
        (said : Said) (n : ℕ) (ended : ClientEnd) (at : ℕ) (why : F) → Serving first from l e x said
        → is_last service.count said.told ≡ false → (k : StepsOn did ldid service l m x y (step.Ended n ended))
        → refused e f (Ended n ended) why
        → IsClientEnd did service ended → client_number k.before at ≡ Some n
        → ServesAll did ldid heard refused service first.listener from f (end.Refused why)
    end_refused first from l m e f x y said n ended at why h more k refuses is there =
        let b = step_behind first from l m e x y said (step.Ended n ended) h k in
        let (one, last) = b.apart.given at n there in (
          e,
          clients_numbered k.before,
          [],
          served first from m e y.taken k.before said.told h.news (clients_numbered k.before) h.counted b refl
              (reasons_given h.deeds) [] (reasons_more h.deeds k.deeds
              ∙ ap (λ (l : List W). reasons_given h.deeds ++ l) k.reasons) h.full,
          open_by service.count said.told (length (ends_in h.news)) more h.told,
          Ended n ended,
          (is, one, omega (arith, last, b.given, given_all first m b.deeds b.asked), far),
          refuses,
        )
      where
        far : All (Differs n) (numbers_of (ends_in h.news))
        far i d below same = stay_gone first from l m e x y said (step.Ended n ended) h k i d below at
            (there ∙ ap (λ (j : ℕ). Some j) (sym same))

    pub refused_step : (first : CountedValue L) (from : E) (l m : CountedValue L) (e f : E)
        (x y : ClientsValue EchoValue S) (said : Said) (n : ℕ) (ended : ClientEnd) (stop : ServingEnd F)
        → Serving first from l e x said → is_last service.count said.told ≡ false
        → StepsOn did ldid service l m x y (step.Ended n ended) → EndsRefused refused e f (Ended n ended) stop
        → ServesAll did ldid heard refused service first.listener from f stop
    refused_step first from l m e f x y said n ended stop h more k (why, is, refuses) =
        let (ends, (at, there, after)) = k.tells in
        subst (λ (s : ServingEnd F). ServesAll did ldid heard refused service first.listener from f s) (sym is)
        (end_refused first from l m e f x y said n ended at why h more k refuses ends there)

    -- the sink has refused that no client can be taken
    pub full_refused : (first : CountedValue L) (from : E) (l m : CountedValue L) (e f : E)
        (x y : ClientsValue EchoValue S) (said : Said) (stop : ServingEnd F) → Serving first from l e x said
        → is_last service.count said.told ≡ false → StepsOn did ldid service l m x y step.Full
        → said.full ≡ false → EndsRefused refused e f Full stop
        → ServesAll did ldid heard refused service first.listener from f stop
    full_refused first from l m e f x y said stop h more k full (why, is, refuses) =
        subst (λ (s : ServingEnd F). ServesAll did ldid heard refused service first.listener from f s) (sym is)
        (by k.reasons)
      where
        none : fulls_in h.news ≡ 0
        none = grind (arith, nat_tests, full, h.is_full)

        by : (reason : W) × (reasons_given k.deeds ≡ reason ∷ [])
            → ServesAll did ldid heard refused service first.listener from f (end.Refused why)
        by (reason, given) = (
          e,
          clients_numbered k.before,
          reason ∷ [],
          served first from m e y.taken k.before said.told h.news (clients_numbered k.before) h.counted
              (step_behind first from l m e x y said step.Full h k) refl [] (reason ∷ [])
              (reasons_more h.deeds k.deeds ∙ ap (λ (l : List W). l ++ reasons_given k.deeds)
              (once_none (reasons_given h.deeds) (sym h.full ∙ none)) ∙ given) none,
          open_by service.count said.told (length (ends_in h.news)) more h.told,
          Full,
          none,
          refuses,
        )

  -- ---- what comes of a step

  module _ {F : Type 0} (refused : E → E → News → F → Type 0) (l m : CountedValue L) (e f : E)
      (x y : ClientsValue EchoValue S) (said then : Said) where
    abbrev Goes : Type 0
    Goes = KeepsServing did ldid heard service l m e f x y said then

    abbrev StopsAs : ServingEnd F → Type 0
    StopsAs stop = StopsServing did ldid heard refused service l e f x said stop

    pub ended_goes : (n : ℕ) (end : ClientEnd) (stop : Option (ServingEnd F))
        → StepsOn did ldid service l m x y (step.Ended n end)
        → MatchOption stop (HasTakenNews heard e f (Ended n end ∷ []) × SaysEnd said then)
        (EndsRefused refused e f (Ended n end))
        → MatchOption stop Goes StopsAs
    ended_goes n end None k (put, says) =
        λ first from h. ended_step first from l m e f x y said then n end h k put says
    ended_goes n end (Some stop) k refuses =
        λ first from h more. refused_step refused first from l m e f x y said n end stop h more k refuses

    pub goes_none : (stop : Option (ServingEnd F)) → stop ≡ None → MatchOption stop Goes StopsAs → Goes
    goes_none stop none goes = subst (λ (r : Option (ServingEnd F)). MatchOption r Goes StopsAs) none goes

    pub stops_some : (stop : Option (ServingEnd F)) (end : ServingEnd F) → stop ≡ Some end
        → MatchOption stop Goes StopsAs → StopsAs end
    stops_some stop end is goes = subst (λ (r : Option (ServingEnd F)). MatchOption r Goes StopsAs) is goes

    pub full_goes : (stop : Option (ServingEnd F)) → StepsOn did ldid service l m x y step.Full
        → MatchOption stop (SaysFull heard e f said then)
        (λ end. (said.full ≡ false) × EndsRefused refused e f Full end)
        → MatchOption stop Goes StopsAs
    full_goes None k says = λ first from h. full_step first from l m e f x y said then h k says
    full_goes (Some stop) k (full, refuses) =
        λ first from h more. full_refused refused first from l m e f x y said stop h more k full refuses

  -- ---- how it begins

  pub begins_serving : (l : CountedValue L) (e : E) (x : ClientsValue EchoValue S) (said : Said)
      → AreReady service l x → said.told ≡ 0 → said.full ≡ false → Serving l e l e x said
  begins_serving l e x said ready told full = record {
    counted = ready.counted;
    deeds = [];
    asked = asked_nothing l;
    taken = ready.clients.taken;
    news = [];
    put = news_nothing e;
    ends = All-nil IsEnd;
    numbers = numbers_none service.at_once x.taken;
    told = told;
    came = omega (arith, ready.clients.taken, none_count x.numbers ready.clients.numbers);
    apart = subst (λ (n : ℕ). AreNumbers n x.numbers) (sym ready.clients.taken)
        (none_apart x.numbers ready.clients.numbers);
    gone = All-nil (StandsNowhere x.numbers);
    len = ready.clients.len;
    full = refl;
    is_full = full;
    known = ready.clients.known;
    plays = λ at playing. absurd (ready.clients.plays at playing);
  }
