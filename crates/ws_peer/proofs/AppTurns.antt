-- What some calls of an application add to what it has said: what it was told by them, and what it sent.
use Rattle.std.proofs.Common.{◌≡◌, ◌∙◌, ℕ, zero, suc, ◌+◌, ◌-◌, ◌≤◌, Bool, true, false, cond, ◌||◌, List, [], ◌∷◌, ◌++◌, length, map, flat_map, drop, Some, ap, sym, refl, subst, arith, append_assoc, append-nil}
use Rattle.std.specs.Prelude.{slice_get}
use Rattle.std.specs.List.{AllByRecursion}
use Rattle.std.proofs.lemmas.Grind.{flat_map-append}
use Rattle.std.proofs.lemmas.List.{drop-drop, length-append}
use Rattle.ws_wire.specs.Header.{IsMaskingKey, is_masked}
use Rattle.ws_wire.specs.Frame.{Frame, KeyedFrame, FitsTheLayout, stream_bytes}
use Rattle.ws_wire.proofs.Splits.{all-append}
use Rattle.ws_session.specs.declared.event.Event.{Event}
use Rattle.ws_session.specs.Events.{HasEvents}
use Rattle.ws_session.specs.Exchange.{is_over, status_of}
use Rattle.ws_session.specs.Faults.{KeysFit, expects_key, frames_of}
use Rattle.ws_session.specs.Replies.{has_close, key_for, replies_by, reply_to, under_key}
use Rattle.ws_session.specs.Sends.{most_limits}
use Rattle.ws_suite.specs.AppFairness.{AnswerPings, go_on}
use Rattle.ws_suite.specs.Evidence.{other_role}
use Rattle.ws_peer.specs.declared.peer.Going.{Going}
use Rattle.ws_peer.specs.declared.peer.Going.TheVariants.{More, Ended}
use Rattle.ws_peer.specs.Talks.{Entry, Fed, Finished, PeerEnd, PlannedStep, appended_by, appended_in, fed_by, fed_in}
use Rattle.ws_peer.specs.Runs.{PeerGoesOn, piece_fed, pieces_in}
use Rattle.ws_peer.specs.Apps.{AppHistory, IsAppTalk, SaysAfter, SendNoClose, TakesFed, has_close_send, plan_after, sends_next, taken_next, taken_of_fed, waiting_after}
use Rattle.ws_peer.specs.InnerAppLaws.{AppLaws}
use Rattle.ws_peer.proofs.AppReplies.{both_answered, end_closed, go_on_is, none_owed, pings_answered}
use Rattle.ws_peer.proofs.AppSends.{frames_both, frames_keyed, has_close-append, keys_fit, neither, no_close_sent, none_left, none_right, stream_both}
use Rattle.ws_peer.proofs.AppTalkLemmas.{AreCalls, first_call, get_front, get_there, later_calls}

-- from what it had said to what it has said after these calls
pub record Ran (end : PeerEnd) (old new : AppHistory) (calls : List Entry) : Type 0 where
  pub fed : new.fed ≡ old.fed ++ fed_in calls
  pub plan : new.plan ≡ drop (length (pieces_in calls)) old.plan
  pub short : old.taken ≤ length old.fed → new.taken ≤ length new.fed
  pub waits : old.taken ≤ length old.fed → length new.fed - new.taken ≡ waiting_after old.plan (length old.fed - old.taken) (pieces_in calls)
  -- these events were told
  pub later : List Event
  pub has : (before : List Event) → HasEvents end.role most_limits (taken_of_fed old) before → HasEvents end.role most_limits (taken_of_fed new) (before ++ later)
  -- these frames were sent
  pub keyed : List KeyedFrame
  pub layout : AllByRecursion FitsTheLayout keyed
  pub keys : KeysFit (other_role end.role) keyed
  pub sent : new.sent ≡ old.sent ++ frames_of keyed
  pub put : appended_in calls ≡ stream_bytes keyed
  pub answers : has_close new.sent ≡ false → AnswerPings later (frames_of keyed)
  pub closes : (before : List Event) → (go_on before ≡ false → has_close old.sent ≡ true) → go_on (before ++ later) ≡ false → has_close new.sent ≡ true
  pub quiet : SendNoClose old.plan → has_close (flat_map reply_to later) ≡ false → has_close (frames_of keyed) ≡ false

-- ---- plans

taken_least : (plan : List PlannedStep) (waiting : ℕ) → taken_next plan waiting ≤ waiting
taken_least [] waiting = omega arith
taken_least (step ∷ plan) waiting = omega arith

plan_dropped : (plan : List PlannedStep) → plan_after plan ≡ drop 1 plan
plan_dropped [] = refl
plan_dropped (step ∷ plan) = refl

drop_more : (n : ℕ) (plan : List PlannedStep) → drop (suc n) plan ≡ drop n (plan_after plan)
drop_more zero [] = refl
drop_more (suc n) [] = refl
drop_more n (step ∷ plan) = refl

waits_on : (plan : List PlannedStep) (waiting : ℕ) (first second : List (List ℕ)) → waiting_after plan waiting (first ++ second) ≡ waiting_after (drop (length first) plan) (waiting_after plan waiting first) second
waits_on plan waiting [] second = refl
waits_on plan waiting (piece ∷ first) second =
    let left = waiting + length piece - taken_next plan (waiting + length piece) in
    waits_on (plan_after plan) left first second ∙ ap (λ (p : List PlannedStep). waiting_after p (waiting_after (plan_after plan) left first) second) (sym (drop_more (length first) plan))

no_close_next : (plan : List PlannedStep) → SendNoClose plan → has_close_send (sends_next plan) ≡ false
no_close_next [] none = refl
no_close_next (step ∷ plan) none = none.0

pub none_dropped : (n : ℕ) (plan : List PlannedStep) → SendNoClose plan → SendNoClose (drop n plan)
none_dropped zero plan none = none
none_dropped (suc n) [] none = tt
none_dropped (suc n) (step ∷ plan) none = none_dropped n plan none.1

-- ---- no call

pub ran_none : (end : PeerEnd) (old : AppHistory) → Ran end old old []
ran_none end old = record {
  fed = sym (append-nil old.fed);
  plan = refl;
  short = λ short. short;
  waits = λ short. refl;
  later = [];
  has = λ before has. subst (λ (l : List Event). HasEvents end.role most_limits (taken_of_fed old) l) (sym (append-nil before)) has;
  keyed = [];
  layout = tt;
  keys = tt;
  sent = sym (append-nil old.sent);
  put = refl;
  answers = λ free payload h. absurd cc;
  closes = λ before was h. was (ap (λ (l : List Event). go_on l) (sym (append-nil before)) ∙ h);
  quiet = λ none free. refl;
}

-- ---- one call

-- no more comes
ran_finished : (end : PeerEnd) (old : AppHistory) (appended : List ℕ) → appended ≡ [] → Ran end old old (Finished appended ∷ [])
unfolding ran_none
ran_finished end old appended e =
    let r = ran_none end old in
    record {
      fed = r.fed;
      plan = r.plan;
      short = r.short;
      waits = r.waits;
      later = [];
      has = r.has;
      keyed = [];
      layout = tt;
      keys = tt;
      sent = r.sent;
      put = ap (λ (l : List ℕ). l ++ []) e;
      answers = r.answers;
      closes = r.closes;
      quiet = r.quiet;
    }

-- a piece was fed
module _ (laws : AppLaws) (end : PeerEnd) (is_key : IsMaskingKey (key_for end.role end.key)) (old new : AppHistory) (piece appended : List ℕ) (going : Going) (t : TakesFed end old new piece appended going) where
  abbrev replies : List Frame
  replies = replies_by reply_to old.sent t.later

  abbrev keyed : List KeyedFrame
  keyed = map (under_key end.role end.key) replies ++ t.own

  frames_so : frames_of keyed ≡ replies ++ frames_of t.own
  frames_so = frames_both (map (under_key end.role end.key) replies) t.own ∙ ap (λ (l : List Frame). l ++ frames_of t.own) (frames_keyed end.role end.key replies)

  length_so : length new.fed ≡ length old.fed + length piece
  length_so = ap (λ (l : List ℕ). length l) t.fed ∙ length-append old.fed piece

  has_so : (before : List Event) → HasEvents end.role most_limits (taken_of_fed old) before → HasEvents end.role most_limits (taken_of_fed new) (before ++ t.later)
  has_so before has = subst (λ (l : List Event). HasEvents end.role most_limits (taken_of_fed new) (l ++ t.later)) (laws.one_list end.role (taken_of_fed old) t.before before t.had has) t.has

  waits_so : old.taken ≤ length old.fed → length new.fed - new.taken ≡ waiting_after old.plan (length old.fed - old.taken) (piece ∷ [])
  waits_so short =
      let waiting = length old.fed - old.taken in
      let all : length new.fed - old.taken ≡ waiting + length piece = omega (arith, length_so, short) in
      let next : taken_next old.plan (length new.fed - old.taken) ≡ taken_next old.plan (waiting + length piece) = ap (λ k. taken_next old.plan k) all in
      omega (arith, all, next, t.took, length_so, short, taken_least old.plan (waiting + length piece))

  short_so : old.taken ≤ length old.fed → new.taken ≤ length new.fed
  short_so short = omega (arith, t.took, length_so, short, taken_least old.plan (length new.fed - old.taken))

  ran_fed : Ran end old new (Fed piece appended going ∷ [])
  ran_fed = record {
    fed = t.fed ∙ ap (λ (l : List ℕ). old.fed ++ l) (sym (append-nil piece));
    plan = t.plan ∙ plan_dropped old.plan;
    short = short_so;
    waits = waits_so;
    later = t.later;
    has = has_so;
    keyed = keyed;
    layout = all-append FitsTheLayout (map (under_key end.role end.key) replies) t.own (laws.can end.role (taken_of_fed new) end.key t.before t.later old.sent t.has is_key) t.layout;
    keys = all-append (λ (x : KeyedFrame). is_masked x.key ≡ expects_key (other_role end.role)) (map (under_key end.role end.key) replies) t.own (keys_fit end.role end.key replies) t.keys;
    sent = t.sent ∙ ap (λ (l : List Frame). old.sent ++ l) (sym frames_so);
    put = append-nil appended ∙ t.put;
    answers = λ free.
        subst (λ (l : List Frame). AnswerPings t.later l) (sym frames_so) (pings_answered old.sent (frames_of t.own) t.later (ap (λ (l : List Frame). has_close l) (sym t.sent) ∙ free));
    closes = λ before was h. ap (λ (l : List Frame). has_close l) t.sent ∙ end_closed before t.later old.sent (frames_of t.own) was h;
    quiet = λ none free.
        ap (λ (l : List Frame). has_close l) frames_so
        ∙ (has_close-append replies (frames_of t.own) ∙ neither (has_close replies) (has_close (frames_of t.own)) (none_owed old.sent t.later free)
        (no_close_sent end.role (t.before ++ t.later) (old.sent ++ replies) (sends_next old.plan) t.own t.are_sent (no_close_next old.plan none)));
  }

ran_one : AppLaws → (end : PeerEnd) → IsMaskingKey (key_for end.role end.key) → (old new : AppHistory) (entry : Entry) → SaysAfter end old new entry → Ran end old new (entry ∷ [])
ran_one laws end is_key old new (Fed piece appended going) h = ran_fed laws end is_key old new piece appended going h
ran_one laws end is_key old new (Finished appended) h = subst (λ (x : AppHistory). Ran end old x (Finished appended ∷ [])) (sym h.0) (ran_finished end old appended h.1)

-- ---- some calls, and then others

module _ (end : PeerEnd) (old mid new : AppHistory) (first second : List Entry) (a : Ran end old mid first) (b : Ran end mid new second) where
  abbrev keyed_both : List KeyedFrame
  keyed_both = a.keyed ++ b.keyed

  abbrev later_both : List Event
  later_both = a.later ++ b.later

  pieces_both : pieces_in (first ++ second) ≡ pieces_in first ++ pieces_in second
  pieces_both = flat_map-append piece_fed first second

  sent_both : new.sent ≡ old.sent ++ frames_of keyed_both
  sent_both =
      b.sent ∙ (ap (λ (l : List Frame). l ++ frames_of b.keyed) a.sent ∙ (append_assoc old.sent (frames_of a.keyed) (frames_of b.keyed)
      ∙ ap (λ (l : List Frame). old.sent ++ l) (sym (frames_both a.keyed b.keyed))))

  plan_both : new.plan ≡ drop (length (pieces_in (first ++ second))) old.plan
  plan_both =
      b.plan ∙ (ap (λ (p : List PlannedStep). drop (length (pieces_in second)) p) a.plan ∙ (drop-drop (length (pieces_in second)) (length (pieces_in first)) old.plan
      ∙ ap (λ n. drop n old.plan) (sym (ap (λ (l : List (List ℕ)). length l) pieces_both ∙ length-append (pieces_in first) (pieces_in second)))))

  waits_both : old.taken ≤ length old.fed → length new.fed - new.taken ≡ waiting_after old.plan (length old.fed - old.taken) (pieces_in (first ++ second))
  waits_both short =
      b.waits (a.short short) ∙ (ap (λ w. waiting_after mid.plan w (pieces_in second)) (a.waits short)
      ∙ (ap (λ (p : List PlannedStep). waiting_after p (waiting_after old.plan (length old.fed - old.taken) (pieces_in first)) (pieces_in second)) a.plan
      ∙ (sym (waits_on old.plan (length old.fed - old.taken) (pieces_in first) (pieces_in second)) ∙ ap (λ (l : List (List ℕ)). waiting_after old.plan (length old.fed - old.taken) l) (sym pieces_both))))

  has_both : (before : List Event) → HasEvents end.role most_limits (taken_of_fed old) before → HasEvents end.role most_limits (taken_of_fed new) (before ++ later_both)
  has_both before has = subst (λ (l : List Event). HasEvents end.role most_limits (taken_of_fed new) l) (append_assoc before a.later b.later) (b.has (before ++ a.later) (a.has before has))

  answers_both : has_close new.sent ≡ false → AnswerPings later_both (frames_of keyed_both)
  answers_both free =
      let before : has_close mid.sent ≡ false =
      none_left (has_close mid.sent) (has_close (frames_of b.keyed)) (sym (has_close-append mid.sent (frames_of b.keyed)) ∙ (ap (λ (l : List Frame). has_close l) (sym b.sent) ∙ free)) in
      subst (λ (l : List Frame). AnswerPings later_both l) (sym (frames_both a.keyed b.keyed)) (both_answered a.later b.later (frames_of a.keyed) (frames_of b.keyed) (a.answers before) (b.answers free))

  closes_both : (before : List Event) → (go_on before ≡ false → has_close old.sent ≡ true) → go_on (before ++ later_both) ≡ false → has_close new.sent ≡ true
  closes_both before was h = b.closes (before ++ a.later) (a.closes before was) (ap (λ (l : List Event). go_on l) (append_assoc before a.later b.later) ∙ h)

  quiet_both : SendNoClose old.plan → has_close (flat_map reply_to later_both) ≡ false → has_close (frames_of keyed_both) ≡ false
  quiet_both none free =
      let parts : has_close (flat_map reply_to a.later) || has_close (flat_map reply_to b.later) ≡ false =
      sym (has_close-append (flat_map reply_to a.later) (flat_map reply_to b.later)) ∙ (ap (λ (l : List Frame). has_close l) (sym (flat_map-append reply_to a.later b.later)) ∙ free) in
      let after : SendNoClose mid.plan = subst (λ (p : List PlannedStep). SendNoClose p) (sym a.plan) (none_dropped (length (pieces_in first)) old.plan none) in
      ap (λ (l : List Frame). has_close l) (frames_both a.keyed b.keyed)
      ∙ (has_close-append (frames_of a.keyed) (frames_of b.keyed)
      ∙ neither (has_close (frames_of a.keyed)) (has_close (frames_of b.keyed)) (a.quiet none (none_left (has_close (flat_map reply_to a.later)) (has_close (flat_map reply_to b.later)) parts))
      (b.quiet after (none_right (has_close (flat_map reply_to a.later)) (has_close (flat_map reply_to b.later)) parts)))

  ran_both : Ran end old new (first ++ second)
  ran_both = record {
    fed = b.fed ∙ (ap (λ (l : List ℕ). l ++ fed_in second) a.fed ∙ (append_assoc old.fed (fed_in first) (fed_in second) ∙ ap (λ (l : List ℕ). old.fed ++ l) (sym (flat_map-append fed_by first second))));
    plan = plan_both;
    short = λ short. b.short (a.short short);
    waits = waits_both;
    later = later_both;
    has = has_both;
    keyed = keyed_both;
    layout = all-append FitsTheLayout a.keyed b.keyed a.layout b.layout;
    keys = all-append (λ (x : KeyedFrame). is_masked x.key ≡ expects_key (other_role end.role)) a.keyed b.keyed a.keys b.keys;
    sent = sent_both;
    put =
        flat_map-append appended_by first second ∙ (ap (λ (l : List ℕ). l ++ appended_in second) a.put ∙ (ap (λ (l : List ℕ). stream_bytes a.keyed ++ l) b.put
        ∙ sym (stream_both a.keyed b.keyed)));
    answers = answers_both;
    closes = closes_both;
    quiet = quiet_both;
  }

-- ---- calls of a talk

-- calls that begin at some place of a talk
pub ran : AppLaws → (end : PeerEnd) → IsMaskingKey (key_for end.role end.key) → (said : ℕ → AppHistory) (k m : ℕ) (calls : List Entry) → AreCalls end said k calls → m ≡ k + length calls → Ran end (said k) (said m) calls
ran laws end is_key said k m [] each e =
    let same : k ≡ m = omega (arith, e) in
    subst (λ (x : AppHistory). Ran end (said k) x []) (ap (λ i. said i) same) (ran_none end (said k))
ran laws end is_key said k m (entry ∷ calls) each e =
    ran_both end (said k) (said (k + 1)) (said m) (entry ∷ []) calls (ran_one laws end is_key (said k) (said (k + 1)) entry (first_call end said k entry calls each))
    (ran laws end is_key said (k + 1) m calls (later_calls end said k entry calls each) (omega (arith, e)))

-- ---- whether it goes on

all_at : {X : Type 0} (P : X → Type 0) (xs : List X) (i : ℕ) (x : X) → AllByRecursion P xs → slice_get xs i ≡ Some x → P x
all_at P [] zero x h got = absurd cc
all_at P [] (suc i) x h got = absurd cc
all_at P (y ∷ xs) zero x h got = subst P (let e : y ≡ x = cc in e) h.0
all_at P (y ∷ xs) (suc i) x h got = all_at P xs i x h.1 got

either : (b : Bool) → (b ≡ true → ⊥) → b ≡ false
either true free = absurd (free refl)
either false free = refl

-- after a call it goes on or has ended as the events say
module _ (laws : AppLaws) (end : PeerEnd) (old new : AppHistory) (events : List Event) (has : HasEvents end.role most_limits (taken_of_fed new) events) where
  goes_as : (piece appended : List ℕ) (going : Going) (t : TakesFed end old new piece appended going) → go_on events ≡ cond (is_over (status_of new.sent false (t.before ++ t.later))) false true
  goes_as piece appended going t = go_on_is new.sent events ∙ ap (λ (l : List Event). cond (is_over (status_of new.sent false l)) false true) (laws.one_list end.role (taken_of_fed new) events (t.before ++ t.later) has t.has)

  goes_after : (entry : Entry) → PeerGoesOn entry → SaysAfter end old new entry → go_on events ≡ true
  goes_after (Fed piece appended going) more t =
      let not_over = either (is_over (status_of new.sent false (t.before ++ t.later))) (λ over. let ended : going ≡ Ended = t.ended.1 over in let wrong : More ≡ Ended = sym more ∙ ended in cc) in
      goes_as piece appended going t ∙ ap (λ b. cond b false true) not_over
  goes_after (Finished appended) more t = absurd more

  pub ends_after : (piece appended : List ℕ) → TakesFed end old new piece appended Ended → go_on events ≡ false
  ends_after piece appended t = goes_as piece appended Ended t ∙ ap (λ b. cond b false true) (t.ended.0 refl)

-- after calls after each of which it went on, neither a close nor a fault has come
pub still_goes : AppLaws → (end : PeerEnd) (front later : List Entry) (said : ℕ → AppHistory) → IsAppTalk end (front ++ later) said → AllByRecursion PeerGoesOn front → (events : List Event)
    → HasEvents end.role most_limits (taken_of_fed (said (length front))) events → go_on events ≡ true
still_goes laws end [] later said is goes events has =
    let none : events ≡ [] = laws.one_list end.role [] events [] (subst (λ (x : AppHistory). HasEvents end.role most_limits (taken_of_fed x) events) is.begun has) (laws.nothing end.role) in
    ap (λ (l : List Event). go_on l) none
still_goes laws end (first ∷ front) later said is goes events has =
    let i = length front in
    let (entry, got) = get_there (first ∷ front) i (omega arith) in
    let there = get_front (first ∷ front) later i (omega arith) ∙ got in
    let here : suc i ≡ i + 1 = omega arith in
    goes_after laws end (said i) (said (i + 1)) events (subst (λ k. HasEvents end.role most_limits (taken_of_fed (said k)) events) here has) entry (all_at PeerGoesOn (first ∷ front) i entry goes got) (is.each i entry there)
