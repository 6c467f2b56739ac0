-- The talks that an application may have had, call after call.
use Rattle.std.proofs.Common.{◌≡◌, ◌∙◌, ℕ, zero, suc, ◌+◌, ◌-◌, ◌<◌, ◌≤◌, ◌↔◌, nat_le, Bool, true, false, cond, List, [], ◌∷◌, ◌++◌, length, map, take, drop, get_or, Some, None, ap, sym, refl, subst, arith, append_assoc, append-nil, length-append, inl, inr}
use Rattle.std.specs.Prelude.{slice_get}
use Rattle.std.proofs.lemmas.Bool.{cases_lt, le-leb, lt-leb}
use Rattle.std.specs.Io.{StartsWith}
use Rattle.std.proofs.lemmas.List.{drop_all, drop_more, get_or-map, length-map, take-append-le}
use Rattle.std.proofs.lemmas.Option.{slice_get_within}
use Rattle.std.proofs.Math.Numerals.{add-one}
use Rattle.std.proofs.Math.Seq.{take-add}
use Rattle.ws_wire.specs.declared.role.Role.{Role}
use Rattle.ws_wire.specs.Header.{AreBytes}
use Rattle.ws_wire.specs.Frame.{Frame, stream_bytes}
use Rattle.ws_session.specs.declared.event.Event.{Event}
use Rattle.ws_session.specs.declared.event.PlacedEvent.{PlacedEvent}
use Rattle.ws_session.specs.declared.status.Status.{Status}
use Rattle.ws_session.specs.Events.{HasEvents}
use Rattle.ws_session.specs.Exchange.{SessionValue, Exchange, HasExchanged, is_over, status_of}
use Rattle.ws_session.specs.Faults.{KeysFit, frames_of}
use Rattle.ws_session.specs.Replies.{replies_by, reply_to, under_key}
use Rattle.ws_session.specs.Sends.{most_limits}
use Rattle.ws_session.specs.Taking.{HasTakenAll, TakesAll, events_in}
use Rattle.ws_session.specs.Validity.{AreValidFrames}
use Rattle.ws_session.proofs.ByteLists.{bytes_append}
use Rattle.ws_suite.specs.Evidence.{other_role}
use Rattle.ws_peer.specs.declared.app_peer.AppStep.{AppStep}
use Rattle.ws_peer.specs.declared.peer.Going.{Going}
use Rattle.ws_peer.specs.declared.peer.Going.TheVariants.{Ended, More}
use Rattle.ws_peer.specs.Talks.{Entry, Fed, Finished, PeerEnd, PlannedStep, Says, fed_by, fed_in}
use Rattle.ws_sends.specs.declared.keyed_send.KeyedSend.{KeyedSend}
use Rattle.ws_peer.specs.Apps.{AppHistory, AppPeerValue, AreFramesOfSends, IsAppTalk, MayHaveSaid, SaysAfter, SendsOwn, TakesFed, nothing_said, plan_after, planned, planned_in, sends_next, taken_next, taken_of_fed}
use Rattle.ws_peer.specs.EchoTalks.{HasTakenSomething}
use Rattle.ws_peer.specs.InnerAppLaws.{AppLaws}
use Rattle.ws_echo.proofs.Echoing.{at_equal, nothing_is_valid}
use Rattle.ws_echo.specs.InnerEchoing.{piece_call}
use Rattle.ws_peer.proofs.EchoTalkLemmas.{begun_by, begins_with, the_rest}
use Rattle.ws_peer.proofs.AppSends.{stream_both}

-- ---- lists

pub get_front : (talk more : List Entry) (n : ℕ) → n < length talk → slice_get (talk ++ more) n ≡ slice_get talk n
get_front [] more n less = absurd (omega (arith, less))
get_front (entry ∷ talk) more zero less = refl
get_front (entry ∷ talk) more (suc n) less = get_front talk more n (omega (arith, less))

pub get_last : (talk : List Entry) (entry : Entry) → slice_get (talk ++ entry ∷ []) (length talk) ≡ Some entry
get_last [] entry = refl
get_last (x ∷ talk) entry = get_last talk entry

pub get_there : (talk : List Entry) (n : ℕ) → n < length talk → (entry : Entry) × (slice_get talk n ≡ Some entry)
get_there [] n less = absurd (omega (arith, less))
get_there (entry ∷ talk) zero less = (entry, refl)
get_there (entry ∷ talk) (suc n) less = get_there talk n (omega (arith, less))

-- ---- one call more

-- what has been said after each call, and this after one more
abbrev said_with : (ℕ → AppHistory) → ℕ → AppHistory → ℕ → AppHistory
said_with said n next k = cond (nat_le k n) (said k) next

with_before : (said : ℕ → AppHistory) (n k : ℕ) (next : AppHistory) → k ≤ n → said_with said n next k ≡ said k
with_before said n k next le = ap (λ b. cond b (said k) next) (le-leb k n le)

with_after : (said : ℕ → AppHistory) (n k : ℕ) (next : AppHistory) → n < k → said_with said n next k ≡ next
with_after said n k next less = ap (λ b. cond b (said k) next) (lt-leb k n less)

pub said_both : (end : PeerEnd) (a b c d : AppHistory) (entry : Entry) → a ≡ c → b ≡ d → SaysAfter end c d entry → SaysAfter end a b entry
said_both end a b c d entry e f h = subst (λ (x : AppHistory). SaysAfter end x b entry) (sym e) (subst (λ (x : AppHistory). SaysAfter end c x entry) (sym f) h)

some_same : (a b : Entry) → Some a ≡ Some b → a ≡ b
some_same a b e = cc

talk_more : (end : PeerEnd) (talk : List Entry) (said : ℕ → AppHistory) (entry : Entry) (next : AppHistory) → IsAppTalk end talk said → SaysAfter end (said (length talk)) next entry
    → IsAppTalk end (talk ++ entry ∷ []) (said_with said (length talk) next)
talk_more end talk said entry next so_far now =
    let n = length talk in
    let len : length (talk ++ entry ∷ []) ≡ n + 1 = length-append talk (entry ∷ []) in
    record {
      begun = with_before said n 0 next (omega arith) ∙ so_far.begun;
      each = λ k e got.
          elim (cases_lt k n) [
            | inl before ↦ said_both end (said_with said n next k) (said_with said n next (k + 1)) (said k) (said (k + 1)) e (with_before said n k next (omega (arith, before))) (with_before said n (k + 1) next (omega (arith, before)))
                (so_far.each k e (sym (get_front talk (entry ∷ []) k before) ∙ got))
            | inr past ↦
                let within = slice_get_within (talk ++ entry ∷ []) k e got in
                let here : k ≡ n = omega (arith, past, within, len) in
                let same : entry ≡ e = some_same entry e (sym (get_last talk entry) ∙ (ap (λ i. slice_get (talk ++ entry ∷ []) i) (sym here) ∙ got)) in
                subst (λ (x : Entry). SaysAfter end (said_with said n next k) (said_with said n next (k + 1)) x) same
                (said_both end (said_with said n next k) (said_with said n next (k + 1)) (said n) next entry
                (with_before said n k next (omega (arith, here)) ∙ ap (λ i. said i) here) (with_after said n (k + 1) next (omega (arith, here))) now)
          ];
    }

-- ---- calls of a talk

-- from the k-th call on these are the calls
abbrev pub AreCalls : PeerEnd → (ℕ → AppHistory) → ℕ → List Entry → Type 0
AreCalls end said k calls = (i : ℕ) (entry : Entry) → slice_get calls i ≡ Some entry → SaysAfter end (said (k + i)) (said (k + i + 1)) entry

says_at : (end : PeerEnd) (said : ℕ → AppHistory) (a b c d : ℕ) (entry : Entry) → a ≡ c → b ≡ d → SaysAfter end (said c) (said d) entry → SaysAfter end (said a) (said b) entry
says_at end said a b c d entry e f h = said_both end (said a) (said b) (said c) (said d) entry (ap (λ i. said i) e) (ap (λ i. said i) f) h

pub first_call : (end : PeerEnd) (said : ℕ → AppHistory) (k : ℕ) (entry : Entry) (calls : List Entry) → AreCalls end said k (entry ∷ calls) → SaysAfter end (said k) (said (k + 1)) entry
first_call end said k entry calls each = says_at end said k (k + 1) (k + 0) (k + 0 + 1) entry (omega arith) (omega arith) (each 0 entry refl)

pub later_calls : (end : PeerEnd) (said : ℕ → AppHistory) (k : ℕ) (entry : Entry) (calls : List Entry) → AreCalls end said k (entry ∷ calls) → AreCalls end said (k + 1) calls
later_calls end said k entry calls each i x got = says_at end said (k + 1 + i) (k + 1 + i + 1) (k + suc i) (k + suc i + 1) x (omega arith) (omega arith) (each (suc i) x got)

fed_once : (end : PeerEnd) (old new : AppHistory) (entry : Entry) → SaysAfter end old new entry → new.fed ≡ old.fed ++ fed_by entry
fed_once end old new (Fed piece appended going) h = h.fed
fed_once end old new (Finished appended) h = ap (λ (x : AppHistory). x.fed) h.0 ∙ sym (append-nil old.fed)

fed_after : (end : PeerEnd) (said : ℕ → AppHistory) (k m : ℕ) (calls : List Entry) → AreCalls end said k calls → m ≡ k + length calls → (said m).fed ≡ (said k).fed ++ fed_in calls
fed_after end said k m [] each e =
    let same : m ≡ k = omega (arith, e) in
    ap (λ i. (said i).fed) same ∙ sym (append-nil (said k).fed)
fed_after end said k m (entry ∷ calls) each e =
    let one = fed_once end (said k) (said (k + 1)) entry (first_call end said k entry calls each) in
    fed_after end said (k + 1) m calls (later_calls end said k entry calls each) (omega (arith, e))
    ∙ (ap (λ (l : List ℕ). l ++ fed_in calls) one ∙ append_assoc (said k).fed (fed_by entry) (fed_in calls))

-- the first calls
pub begin_calls : (end : PeerEnd) (front later : List Entry) (said : ℕ → AppHistory) → IsAppTalk end (front ++ later) said → AreCalls end said 0 front
begin_calls end front later said is i entry got =
    says_at end said (0 + i) (0 + i + 1) i (i + 1) entry (omega arith) (omega arith) (is.each i entry (get_front front later i (slice_get_within front i entry got) ∙ got))

-- all that was fed in a talk
pub all_fed : (end : PeerEnd) (talk : List Entry) (said : ℕ → AppHistory) → IsAppTalk end talk said → (said (length talk)).fed ≡ fed_in talk
all_fed end talk said is =
    fed_after end said 0 (length talk) talk (λ i entry got. says_at end said (0 + i) (0 + i + 1) i (i + 1) entry (omega arith) (omega arith) (is.each i entry got)) (omega arith)
    ∙ ap (λ (x : AppHistory). x.fed ++ fed_in talk) is.begun

-- ---- what was sent is valid

sent_valid : (end : PeerEnd) (old new : AppHistory) (entry : Entry) → SaysAfter end old new entry → AreValidFrames most_limits old.sent → AreValidFrames most_limits new.sent
sent_valid end old new (Fed piece appended going) h v = h.valid
sent_valid end old new (Finished appended) h v = subst (λ (x : AppHistory). AreValidFrames most_limits x.sent) (sym h.0) v

pub all_valid : (end : PeerEnd) (talk : List Entry) (said : ℕ → AppHistory) → IsAppTalk end talk said → (n : ℕ) → n ≤ length talk → AreValidFrames most_limits (said n).sent
all_valid end talk said is zero le = subst (λ (x : AppHistory). AreValidFrames most_limits x.sent) (sym is.begun) nothing_is_valid
all_valid end talk said is (suc n) le =
    let (entry, got) = get_there talk n (omega (arith, le)) in
    subst (λ k. AreValidFrames most_limits (said k).sent) (add-one n) (sent_valid end (said n) (said (n + 1)) entry (is.each n entry got) (all_valid end talk said is n (omega (arith, le))))

-- ---- the talk of a peer

-- with a new application nothing was said yet
pub said_nothing : (peer : AppPeerValue) (end : PeerEnd) → peer.key ≡ end.key → peer.plan ≡ end.plan → peer.session.role ≡ end.role → peer.session.limits ≡ most_limits
    → HasExchanged peer.session [] [] false → peer.fed ≡ [] → peer.taken ≡ 0 → peer.done ≡ 0 → MayHaveSaid peer end []
said_nothing peer end k p r l h f t d = record {
  key = k;
  plan = p;
  said = λ n. nothing_said end.plan;
  is_app = record { begun = refl; each = λ n entry got. absurd (let wrong : None ≡ Some entry = got in cc) };
  exchanged = h;
  role = r;
  limits = l;
  fed = f;
  bytes = subst (λ (bytes : List ℕ). AreBytes bytes) (sym f) (λ i. omega arith);
  taken = t;
  rest = ap (λ n. drop n peer.plan) d ∙ p;
}

-- and after one call more
said_more : (peer : AppPeerValue) (end : PeerEnd) (talk : List Entry) (entry : Entry) (said : ℕ → AppHistory) (next : AppHistory) → peer.key ≡ end.key → peer.plan ≡ end.plan
    → IsAppTalk end talk said → SaysAfter end (said (length talk)) next entry → HasExchanged peer.session next.sent (taken_of_fed next) false → peer.session.role ≡ end.role → peer.session.limits ≡ most_limits
    → peer.fed ≡ next.fed → AreBytes peer.fed → peer.taken ≡ next.taken → drop peer.done peer.plan ≡ next.plan → MayHaveSaid peer end (talk ++ entry ∷ [])
said_more peer end talk entry said next k p is now h r l f b t d =
    let n = length talk in
    let len : length (talk ++ entry ∷ []) ≡ n + 1 = length-append talk (entry ∷ []) in
    let last : next ≡ said_with said n next (length (talk ++ entry ∷ [])) = sym (with_after said n (length (talk ++ entry ∷ [])) next (omega (arith, len))) in
    record {
      key = k;
      plan = p;
      said = said_with said n next;
      is_app = talk_more end talk said entry next is now;
      exchanged = subst (λ (x : AppHistory). HasExchanged peer.session x.sent (taken_of_fed x) false) last h;
      role = r;
      limits = l;
      fed = f ∙ ap (λ (x : AppHistory). x.fed) last;
      bytes = b;
      taken = t ∙ ap (λ (x : AppHistory). x.taken) last;
      rest = d ∙ ap (λ (x : AppHistory). x.plan) last;
    }

-- no more comes
pub said_finished : (peer : AppPeerValue) (end : PeerEnd) (talk : List Entry) → MayHaveSaid peer end talk → MayHaveSaid peer end (talk ++ Finished [] ∷ [])
said_finished peer end talk had =
    said_more peer end talk (Finished []) had.said (had.said (length talk)) had.key had.plan had.is_app (refl, refl) had.exchanged had.role had.limits had.fed had.bytes had.taken had.rest

-- ---- a piece was fed

-- what is known of the call: a session took some more of what was fed, and then did the sends of its plan
pub record IsStep (sends : List KeyedSend) (old new : AppPeerValue) (mid : SessionValue) (count : ℕ) (piece before middle after : List ℕ) : Type 0 where
  pub short : old.taken ≤ length old.fed
  pub key : new.key ≡ old.key
  pub plan : new.plan ≡ old.plan
  pub fed : new.fed ≡ old.fed ++ piece
  pub bytes : AreBytes piece
  pub counted : count ≡ taken_next (drop old.done old.plan) (length new.fed - old.taken)
  pub taken : new.taken ≡ old.taken + count
  pub rest : drop new.done new.plan ≡ plan_after (drop old.done old.plan)
  pub told_before : List PlacedEvent
  pub told_after : List PlacedEvent
  pub took : HasTakenAll reply_to old.session mid (piece_call (take count (drop old.taken new.fed)) old.key before middle) told_before told_after
  pub own : SendsOwn sends mid new.session middle after
  pub sends_so : sends_next (drop old.done old.plan) ≡ sends

abbrev exchange_of : List Frame → List ℕ → Exchange
exchange_of sent taken = record { sent = sent; taken = taken; ended = false }

abbrev history_of : List Frame → List ℕ → ℕ → List PlannedStep → AppHistory
history_of sent fed taken plan = record { sent = sent; fed = fed; taken = taken; plan = plan }

taken_more : (fed piece : List ℕ) (taken count : ℕ) → taken ≤ length fed → take (taken + count) (fed ++ piece) ≡ take taken fed ++ take count (drop taken (fed ++ piece))
taken_more fed piece taken count short = take-add taken count (fed ++ piece) ∙ ap (λ (l : List ℕ). l ++ take count (drop taken (fed ++ piece))) (take-append-le taken fed piece short)

put_of : (before replied own middle after : List ℕ) → middle ≡ before ++ replied → after ≡ middle ++ own → after ≡ before ++ (replied ++ own)
put_of before replied own middle after m a = a ∙ (ap (λ (l : List ℕ). l ++ own) m ∙ append_assoc before replied own)

ended_by : (over : Bool) → (cond over Ended More ≡ Ended) ↔ (over ≡ true)
ended_by true = (λ e. refl, λ e. refl)
ended_by false = (λ e. absurd cc, λ e. absurd cc)

module _ (laws : AppLaws) (sends : List KeyedSend) (old new : AppPeerValue) (mid : SessionValue) (count : ℕ) (piece before middle after : List ℕ) (step : IsStep sends old new mid count piece before middle after) where
  -- the peer before the call: after this talk, with this sent
  module _ (end : PeerEnd) (talk : List Entry) (sent : List Frame) (was_valid : AreValidFrames most_limits sent) (role : old.session.role ≡ end.role) (limits : old.session.limits ≡ most_limits) (key : old.key ≡ end.key)
      (exchanged : HasExchanged old.session sent (take old.taken old.fed) false) (going : Going) (answered : (going ≡ Ended) ↔ (is_over new.session.status ≡ true)) where
    abbrev later : List Event
    later = events_in step.took.told

    abbrev replies : List Frame
    replies = replies_by reply_to sent later

    abbrev was : AppHistory
    was = history_of sent old.fed old.taken (drop old.done old.plan)

    abbrev next : AppHistory
    next = history_of (sent ++ (replies ++ frames_of step.own.own)) (old.fed ++ piece) (old.taken + taken_next (drop old.done old.plan) (length (old.fed ++ piece) - old.taken)) (plan_after (drop old.done old.plan))

    taken_so : old.taken + count ≡ next.taken
    taken_so = ap (λ k. old.taken + k) (step.counted ∙ ap (λ (l : List ℕ). taken_next (drop old.done old.plan) (length l - old.taken)) step.fed)

    taken_is : take old.taken old.fed ++ take count (drop old.taken new.fed) ≡ taken_of_fed next
    taken_is =
        ap (λ (l : List ℕ). take old.taken old.fed ++ take count (drop old.taken l)) step.fed ∙ (sym (taken_more old.fed piece old.taken count step.short)
        ∙ ap (λ k. take k (old.fed ++ piece)) taken_so)

    takes : TakesAll reply_to old.session mid (exchange_of sent (take old.taken old.fed)) (piece_call (take count (drop old.taken new.fed)) old.key before middle) step.took.told
    takes = step.took.takes (exchange_of sent (take old.taken old.fed)) refl exchanged

    abbrev between : Exchange
    between = exchange_of (sent ++ replies) (take old.taken old.fed ++ take count (drop old.taken new.fed))

    now_exchanged : HasExchanged new.session next.sent (taken_of_fed next) false
    now_exchanged =
        subst (λ (l : List ℕ). HasExchanged new.session next.sent l false) taken_is
        (subst (λ (l : List Frame). HasExchanged new.session l between.taken false) (append_assoc sent replies (frames_of step.own.own)) (step.own.agrees between takes.agrees))

    now_role : new.session.role ≡ end.role
    now_role = step.own.same.0 ∙ (step.took.same.0 ∙ role)

    now_limits : new.session.limits ≡ most_limits
    now_limits = step.own.same.1 ∙ (step.took.same.1 ∙ limits)

    had : HasEvents end.role most_limits (taken_of_fed was) exchanged.events
    had = at_equal old.session.role end.role old.session.limits most_limits role limits (take old.taken old.fed) exchanged.events exchanged.has_events

    has : HasEvents end.role most_limits (taken_of_fed next) (exchanged.events ++ later)
    has =
        subst (λ (l : List ℕ). HasEvents end.role most_limits l (exchanged.events ++ later)) taken_is
        (at_equal old.session.role end.role old.session.limits most_limits role limits between.taken (exchanged.events ++ later) (takes.events exchanged.events exchanged.has_events))

    now_valid : AreValidFrames most_limits next.sent
    now_valid =
        subst (λ (l : List Frame). AreValidFrames most_limits l) (append_assoc sent replies (frames_of step.own.own))
        (step.own.valid between takes.agrees (laws.valid end.role (taken_of_fed next) exchanged.events later sent has was_valid))

    status : new.session.status ≡ status_of next.sent false (exchanged.events ++ later)
    status =
        let here = at_equal new.session.role end.role new.session.limits most_limits now_role now_limits (taken_of_fed next) now_exchanged.events now_exchanged.has_events in
        now_exchanged.status ∙ ap (λ (l : List Event). status_of next.sent false l) (laws.one_list end.role (taken_of_fed next) now_exchanged.events (exchanged.events ++ later) here has)

    added : after ≡ before ++ (stream_bytes (map (under_key old.session.role old.key) replies) ++ stream_bytes step.own.own)
    added = put_of before (stream_bytes (map (under_key old.session.role old.key) replies)) (stream_bytes step.own.own) middle after takes.put step.own.put

    put : drop (length before) after ≡ stream_bytes (map (under_key end.role end.key) replies ++ step.own.own)
    put =
        sym (the_rest after before (stream_bytes (map (under_key old.session.role old.key) replies) ++ stream_bytes step.own.own) added)
        ∙ (sym (stream_both (map (under_key old.session.role old.key) replies) step.own.own)
        ∙ (ap (λ (r : Role). stream_bytes (map (under_key r old.key) replies ++ step.own.own)) role
        ∙ ap (λ (k : List ℕ). stream_bytes (map (under_key end.role k) replies ++ step.own.own)) key))

    ended : (going ≡ Ended) ↔ (is_over (status_of next.sent false (exchanged.events ++ later)) ≡ true)
    ended = subst (λ (s : Status). (going ≡ Ended) ↔ (is_over s ≡ true)) status answered

    sent_so : AreFramesOfSends end.role (exchanged.events ++ later) (sent ++ replies) (sends_next (drop old.done old.plan)) step.own.own
    sent_so =
        let told =
        at_equal old.session.role mid.role old.session.limits mid.limits (sym step.took.same.0) (sym step.took.same.1) between.taken (exchanged.events ++ later) (takes.events exchanged.events exchanged.has_events) in
        subst (λ (l : List KeyedSend). AreFramesOfSends end.role (exchanged.events ++ later) (sent ++ replies) l step.own.own) (sym step.sends_so)
        (subst (λ (r : Role). AreFramesOfSends r (exchanged.events ++ later) (sent ++ replies) sends step.own.own) (step.took.same.0 ∙ role)
        (step.own.are_sent (sent ++ replies) between.taken (exchanged.events ++ later) takes.agrees told))

    takes_fed : TakesFed end was next piece (drop (length before) after) going
    takes_fed = record {
      fed = refl;
      took = refl;
      plan = refl;
      before = exchanged.events;
      had = had;
      later = later;
      has = has;
      own = step.own.own;
      layout = step.own.layout;
      keys = subst (λ (r : Role). KeysFit (other_role r) step.own.own) (step.took.same.0 ∙ role) step.own.keys;
      are_sent = sent_so;
      sent = refl;
      valid = now_valid;
      put = put;
      ended = ended;
    }

  fed_leads : (going : Going) → (going ≡ Ended) ↔ (is_over new.session.status ≡ true) → (end : PeerEnd) (talk : List Entry) → MayHaveSaid old end talk → MayHaveSaid new end (talk ++ Fed piece (drop (length before) after) going ∷ [])
  fed_leads going answered end talk h =
      let last = h.said (length talk) in
      let sent = last.sent in
      let same : last ≡ history_of sent old.fed old.taken (drop old.done old.plan) =
      ap (λ (l : List ℕ). history_of sent l last.taken last.plan) (sym h.fed) ∙ (ap (λ k. history_of sent old.fed k last.plan) (sym h.taken) ∙ ap (λ (p : List PlannedStep). history_of sent old.fed old.taken p) (sym h.rest)) in
      let valid = all_valid end talk h.said h.is_app (length talk) (omega arith) in
      let exchanged = subst (λ (x : AppHistory). HasExchanged old.session sent (taken_of_fed x) false) same h.exchanged in
      let t : TakesFed end (was end talk sent valid h.role h.limits h.key exchanged going answered) (next end talk sent valid h.role h.limits h.key exchanged going answered) piece (drop (length before) after) going =
      takes_fed end talk sent valid h.role h.limits h.key exchanged going answered in
      let now_bytes : AreBytes new.fed = subst (λ (l : List ℕ). AreBytes l) (sym step.fed) (bytes_append old.fed piece h.bytes step.bytes) in
      let after_it = next end talk sent valid h.role h.limits h.key exchanged going answered in
      said_more new end talk (Fed piece (drop (length before) after) going) h.said after_it (step.key ∙ h.key) (step.plan ∙ h.plan) h.is_app
      (subst (λ (x : AppHistory). TakesFed end x after_it piece (drop (length before) after) going) (sym same) t)
      (now_exchanged end talk sent valid h.role h.limits h.key exchanged going answered) (now_role end talk sent valid h.role h.limits h.key exchanged going answered)
      (now_limits end talk sent valid h.role h.limits h.key exchanged going answered) step.fed now_bytes
      (step.taken ∙ taken_so end talk sent valid h.role h.limits h.key exchanged going answered) step.rest

  pub says_fed : HasTakenSomething old.session → Says MayHaveSaid old new (λ appended. Fed piece appended (cond (is_over new.session.status) Ended More)) before after
  says_fed some =
      let t = step.took.takes some.exchange some.goes_on some.exchanged in
      record {
        appended = drop (length before) after;
        grown = begun_by after before (begins_with after before _ (put_of before _ _ middle after t.put step.own.put));
        leads = λ end talk h. fed_leads (cond (is_over new.session.status) Ended More) (ended_by (is_over new.session.status)) end talk h;
      }

-- ---- plans

-- a step that is there is the next of the plan
pub planned_at : (steps : List AppStep) (n : ℕ) (step : AppStep) → n < length steps → step ≡ get_or steps n step → drop n (planned_in steps) ≡ planned step ∷ drop (n + 1) (planned_in steps)
planned_at steps n step less is =
    let size : length (planned_in steps) ≡ length steps = length-map steps planned in
    drop_more (planned_in steps) n (planned step) (omega (arith, less, size))
    ∙ ap (λ (x : PlannedStep). x ∷ drop (n + 1) (planned_in steps)) (get_or-map planned steps n step (planned step) less ∙ ap (λ (x : AppStep). planned x) (sym is))

-- behind its end there is none
pub planned_none : (steps : List AppStep) (n : ℕ) → length steps ≤ n → drop n (planned_in steps) ≡ []
planned_none steps n past = drop_all n (planned_in steps) (omega (arith, past, length-map steps planned))

-- ---- what is appended

-- what was taken of what was fed before is within all that was fed
pub still_short : (fed piece all : List ℕ) (taken : ℕ) → taken ≤ length fed → all ≡ fed ++ piece → taken ≤ length all
still_short fed piece all taken short e = omega (arith, short, ap (λ (l : List ℕ). length l) e, length-append fed piece)

pub starts_on : (before middle after : List ℕ) → StartsWith middle before → StartsWith after middle → StartsWith after before
starts_on before middle after m a =
    begins_with after before (drop (length before) middle ++ drop (length middle) after)
    (put_of before (drop (length before) middle) (drop (length middle) after) middle after (begun_by middle before m) (begun_by after middle a))
