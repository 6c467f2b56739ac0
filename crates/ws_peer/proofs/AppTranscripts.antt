-- The transcript of a run over an application: turn by turn, what was sent has its events, and what was got is what the
-- application sent for them and by itself.
use Rattle.std.proofs.Common.{◌≡◌, ◌∙◌, ℕ, zero, suc, ◌+◌, ◌-◌, ◌<◌, ◌≤◌, ◌⊎◌, true, false, cond, ◌||◌, List, [], ◌∷◌, ◌++◌, length, map, flat_map, take, drop, get_or, Some, ap, ap₂, sym, refl, subst, inl, inr, arith, append_assoc, append-nil}
use Rattle.std.specs.Prelude.{slice_get}
use Rattle.std.specs.List.{AllByRecursion}
use Rattle.std.proofs.lemmas.Bool.{cases_lt}
use Rattle.std.proofs.lemmas.Grind.{flat_map-append}
use Rattle.std.proofs.lemmas.List.{drop-drop, get_or_append_left, length-append, length-map, take_all, take-append-drop, take-append-le}
use Rattle.std.proofs.lemmas.Option.{slice_get_within}
use Rattle.std.proofs.Math.Numerals.{add-one}
use Rattle.ws_wire.specs.Header.{AreBytes, IsMaskingKey, is_masked}
use Rattle.ws_wire.specs.Frame.{Frame, KeyedFrame, FitsTheLayout, stream_bytes}
use Rattle.ws_wire.proofs.Splits.{all-append}
use Rattle.ws_session.specs.declared.event.Event.{Event}
use Rattle.ws_session.specs.Events.{HasEvents}
use Rattle.ws_session.specs.Faults.{KeysFit, expects_key, frames_of}
use Rattle.ws_session.specs.Replies.{has_close, key_for, reply_to}
use Rattle.ws_session.specs.Sends.{most_limits}
use Rattle.ws_session.specs.Validity.{AreValidFrames}
use Rattle.ws_scripts.specs.declared.transcript.Turn.{Turn}
use Rattle.ws_scripts.specs.declared.transcript.Ended.{Ended as HowEnded}
use Rattle.ws_scripts.specs.declared.transcript.Ended.TheVariants.{Tester, Peer}
use Rattle.ws_scripts.specs.declared.transcript.Transcript.{Transcript}
use Rattle.ws_suite.specs.Evidence.{other_role}
use Rattle.ws_suite.specs.AppFairness.{AnswerPings, IsAppTranscript, SendsNoClose, go_on}
use Rattle.ws_peer.specs.declared.peer.Going.TheVariants.{Ended}
use Rattle.ws_peer.specs.Talks.{Entry, Fed, Finished, PeerEnd, PlannedStep, appended_in, fed_in}
use Rattle.ws_peer.specs.Runs.{EndsByPeer, EndsByTester, PeerGoesOn, IsRunOf, joined_talk, piece_fed, pieces_by_turn, pieces_in, turn_of, with_finish}
use Rattle.ws_peer.specs.Apps.{AppHistory, IsAppTalk, SendNoClose, TakesAllByTurn, TakesFed, taken_of_fed, waiting_after}
use Rattle.ws_peer.specs.InnerAppLaws.{AppLaws}
use Rattle.ws_peer.proofs.Talking.{fed_in-more}
use Rattle.ws_peer.proofs.EchoTranscripts.{all_sent, fewer_calls, finish_nothing, front_goes, goes_before, got_so_far, recorded, sent_so_far, talk_parts}
use Rattle.ws_peer.proofs.AppSends.{frames_both, has_close-append, neither, none_left, none_right, stream_both}
use Rattle.ws_peer.proofs.AppReplies.{ended_so, go_on-more, no_both, no_close_called}
use Rattle.ws_peer.proofs.AppLastReply.{EndsWithReply, closed_nothing, last_answered}
use Rattle.ws_peer.proofs.AppTalkLemmas.{all_valid, get_front, get_last}
use Rattle.ws_peer.proofs.AppTurns.{Ran, ends_after, none_dropped, ran, still_goes}

-- ---- turns one after the other

-- the calls of this turn, counted from 0
abbrev part_at : ℕ → List (List Entry) → List Entry
part_at n [] = []
part_at zero (part ∷ parts) = part
part_at (suc n) (part ∷ parts) = part_at n parts

abbrev all_pieces : List (List (List ℕ)) → List (List ℕ)
all_pieces turns = flat_map (λ (pieces : List (List ℕ)). pieces) turns

turn_more : (n : ℕ) (parts : List (List Entry)) → joined_talk (take (suc n) parts) ≡ joined_talk (take n parts) ++ part_at n parts
turn_more zero [] = refl
turn_more (suc n) [] = refl
turn_more zero (part ∷ parts) = append-nil part
turn_more (suc n) (part ∷ parts) = ap (λ (l : List Entry). part ++ l) (turn_more n parts) ∙ sym (append_assoc part (joined_talk (take n parts)) (part_at n parts))

pieces_at : (n : ℕ) (parts : List (List Entry)) → pieces_in (part_at n parts) ≡ get_or (pieces_by_turn parts) n []
pieces_at zero [] = refl
pieces_at (suc n) [] = refl
pieces_at zero (part ∷ parts) = refl
pieces_at (suc n) (part ∷ parts) = pieces_at n parts

pieces_joined : (n : ℕ) (parts : List (List Entry)) → pieces_in (joined_talk (take n parts)) ≡ all_pieces (take n (pieces_by_turn parts))
pieces_joined zero parts = refl
pieces_joined (suc n) [] = refl
pieces_joined (suc n) (part ∷ parts) = flat_map-append piece_fed part (joined_talk (take n parts)) ∙ ap (λ (l : List (List ℕ)). pieces_in part ++ l) (pieces_joined n parts)

get_middle : (front more : List Entry) (i : ℕ) → slice_get (front ++ more) (length front + i) ≡ slice_get more i
get_middle [] more i = ap (λ k. slice_get more k) (let e : 0 + i ≡ i = omega arith in e)
get_middle (entry ∷ front) more i =
    let e : suc (length front) + i ≡ suc (length front + i) = omega arith in
    ap (λ k. slice_get (entry ∷ (front ++ more)) k) e ∙ get_middle front more i

-- ---- all is taken by the end of each turn

front_taken : (plan : List PlannedStep) (before more : List (List (List ℕ))) → TakesAllByTurn plan (before ++ more) → TakesAllByTurn plan before
front_taken plan [] more h = tt
front_taken plan (pieces ∷ before) more h = (h.0, front_taken (drop (length pieces) plan) before more h.1)

taken_at : (plan : List PlannedStep) (turns : List (List (List ℕ))) (n : ℕ) → TakesAllByTurn plan turns → n < length turns → waiting_after (drop (length (all_pieces (take n turns))) plan) 0 (get_or turns n []) ≡ 0
taken_at plan [] n h less = absurd (omega (arith, less))
taken_at plan (pieces ∷ turns) zero h less = h.0
taken_at plan (pieces ∷ turns) (suc n) h less =
    let rest : List (List ℕ) = all_pieces (take n turns) in
    let same : drop (length rest) (drop (length pieces) plan) ≡ drop (length (pieces ++ rest)) plan = drop-drop (length rest) (length pieces) plan ∙ ap (λ k. drop k plan) (sym (length-append pieces rest)) in
    ap (λ (p : List PlannedStep). waiting_after p 0 (get_or turns n [])) (sym same) ∙ taken_at (drop (length pieces) plan) turns n h.1 (omega (arith, less))

-- ---- the transcript of turns

module _ (laws : AppLaws) (end : PeerEnd) (is_key : IsMaskingKey (key_for end.role end.key)) (talk tail : List Entry) (parts : List (List Entry)) (said : ℕ → AppHistory) (is : IsAppTalk end talk said) (talk_is : talk ≡ joined_talk parts ++ tail) where
  -- how many calls the first turns have
  abbrev calls : ℕ → ℕ
  calls n = length (joined_talk (take n parts))

  parted : (n : ℕ) → talk ≡ joined_talk (take n parts) ++ (joined_talk (drop n parts) ++ tail)
  parted n = talk_is ∙ (ap (λ (l : List Entry). l ++ tail) (talk_parts n parts) ∙ append_assoc (joined_talk (take n parts)) (joined_talk (drop n parts)) tail)

  parted_more : (n : ℕ) → talk ≡ joined_talk (take n parts) ++ (part_at n parts ++ (joined_talk (drop (suc n) parts) ++ tail))
  parted_more n =
      let rest = joined_talk (drop (suc n) parts) ++ tail in
      parted (suc n) ∙ (ap (λ (l : List Entry). l ++ rest) (turn_more n parts) ∙ append_assoc (joined_talk (take n parts)) (part_at n parts) rest)

  within : (n : ℕ) → calls n ≤ length talk
  within n = omega (arith, ap (λ (l : List Entry). length l) (parted n), length-append (joined_talk (take n parts)) (joined_talk (drop n parts) ++ tail))

  pub turn_ran : (n : ℕ) → Ran end (said (calls n)) (said (calls (suc n))) (part_at n parts)
  turn_ran n =
      let front = joined_talk (take n parts) in
      let rest = joined_talk (drop (suc n) parts) ++ tail in
      ran laws end is_key said (calls n) (calls (suc n)) (part_at n parts)
      (λ i entry got.
      let inside = slice_get_within (part_at n parts) i entry got in
      is.each (calls n + i) entry (ap (λ (l : List Entry). slice_get l (calls n + i)) (parted_more n) ∙ (get_middle front (part_at n parts ++ rest) i ∙ (get_front (part_at n parts) rest i inside ∙ got))))
      (ap (λ (l : List Entry). length l) (turn_more n parts) ∙ length-append front (part_at n parts))

  -- the events of the first turns, and the frames that were sent in them
  abbrev events_to : ℕ → List Event
  events_to zero = []
  events_to (suc n) = events_to n ++ (turn_ran n).later

  abbrev keyed_to : ℕ → List KeyedFrame
  keyed_to zero = []
  keyed_to (suc n) = keyed_to n ++ (turn_ran n).keyed

  fed_to : (n : ℕ) → (said (calls n)).fed ≡ fed_in (joined_talk (take n parts))
  fed_to zero = ap (λ (x : AppHistory). x.fed) is.begun
  fed_to (suc n) =
      (turn_ran n).fed ∙ (ap (λ (l : List ℕ). l ++ fed_in (part_at n parts)) (fed_to n) ∙ (sym (flat_map-append _ (joined_talk (take n parts)) (part_at n parts))
      ∙ ap (λ (l : List Entry). fed_in l) (sym (turn_more n parts))))

  plan_to : (n : ℕ) → (said (calls n)).plan ≡ drop (length (pieces_in (joined_talk (take n parts)))) end.plan
  plan_to zero = ap (λ (x : AppHistory). x.plan) is.begun
  plan_to (suc n) =
      let front = pieces_in (joined_talk (take n parts)) in
      let more = pieces_in (part_at n parts) in
      let all : pieces_in (joined_talk (take (suc n) parts)) ≡ front ++ more = ap (λ (l : List Entry). pieces_in l) (turn_more n parts) ∙ flat_map-append piece_fed (joined_talk (take n parts)) (part_at n parts) in
      (turn_ran n).plan ∙ (ap (λ (p : List PlannedStep). drop (length more) p) (plan_to n) ∙ (drop-drop (length more) (length front) end.plan
      ∙ ap (λ k. drop k end.plan) (sym (ap (λ (l : List (List ℕ)). length l) all ∙ length-append front more))))

  put_to : (n : ℕ) → appended_in (joined_talk (take n parts)) ≡ stream_bytes (keyed_to n)
  put_to zero = refl
  put_to (suc n) =
      ap (λ (l : List Entry). appended_in l) (turn_more n parts) ∙ (flat_map-append _ (joined_talk (take n parts)) (part_at n parts)
      ∙ (ap₂ (λ (x y : List ℕ). x ++ y) (put_to n) (turn_ran n).put ∙ sym (stream_both (keyed_to n) (turn_ran n).keyed)))

  sent_to : (n : ℕ) → (said (calls n)).sent ≡ frames_of (keyed_to n)
  sent_to zero = ap (λ (x : AppHistory). x.sent) is.begun
  sent_to (suc n) = (turn_ran n).sent ∙ (ap (λ (l : List Frame). l ++ frames_of (turn_ran n).keyed) (sent_to n) ∙ sym (frames_both (keyed_to n) (turn_ran n).keyed))

  layout_to : (n : ℕ) → AllByRecursion FitsTheLayout (keyed_to n)
  layout_to zero = tt
  layout_to (suc n) = all-append FitsTheLayout (keyed_to n) (turn_ran n).keyed (layout_to n) (turn_ran n).layout

  keys_to : (n : ℕ) → KeysFit (other_role end.role) (keyed_to n)
  keys_to zero = tt
  keys_to (suc n) = all-append (λ (x : KeyedFrame). is_masked x.key ≡ expects_key (other_role end.role)) (keyed_to n) (turn_ran n).keyed (keys_to n) (turn_ran n).keys

  short_to : (n : ℕ) → (said (calls n)).taken ≤ length (said (calls n)).fed
  short_to zero = omega (arith, ap (λ (x : AppHistory). x.taken) is.begun)
  short_to (suc n) = (turn_ran n).short (short_to n)

  has_to : (n : ℕ) → HasEvents end.role most_limits (taken_of_fed (said (calls n))) (events_to n)
  has_to zero = subst (λ (x : AppHistory). HasEvents end.role most_limits (taken_of_fed x) []) (sym is.begun) (laws.nothing end.role)
  has_to (suc n) = (turn_ran n).has (events_to n) (has_to n)

  closed_to : (n : ℕ) → go_on (events_to n) ≡ false → has_close (said (calls n)).sent ≡ true
  closed_to zero h = absurd cc
  closed_to (suc n) h = (turn_ran n).closes (events_to n) (closed_to n) h

  quiet_to : SendNoClose end.plan → (n : ℕ) → has_close (flat_map reply_to (events_to n)) ≡ false → has_close (frames_of (keyed_to n)) ≡ false
  quiet_to none zero free = refl
  quiet_to none (suc n) free =
      let front = flat_map reply_to (events_to n) in
      let more = flat_map reply_to (turn_ran n).later in
      let split : has_close front || has_close more ≡ false =
      sym (has_close-append front more) ∙ (ap (λ (l : List Frame). has_close l) (sym (flat_map-append reply_to (events_to n) (turn_ran n).later)) ∙ free) in
      let plan : SendNoClose (said (calls n)).plan = subst (λ (p : List PlannedStep). SendNoClose p) (sym (plan_to n)) (none_dropped (length (pieces_in (joined_talk (take n parts)))) end.plan none) in
      ap (λ (l : List Frame). has_close l) (frames_both (keyed_to n) (turn_ran n).keyed)
      ∙ (has_close-append (frames_of (keyed_to n)) (frames_of (turn_ran n).keyed)
      ∙ neither (has_close (frames_of (keyed_to n))) (has_close (frames_of (turn_ran n).keyed)) (quiet_to none n (none_left (has_close front) (has_close more) split))
      ((turn_ran n).quiet plan (none_right (has_close front) (has_close more) split)))

  -- while neither a close nor a fault came it closed nothing
  silent_to : SendNoClose end.plan → (n : ℕ) → go_on (events_to n) ≡ true → has_close (frames_of (keyed_to n)) ≡ false
  silent_to none n goes = quiet_to none n (no_close_called laws end.role (taken_of_fed (said (calls n))) [] (events_to n) (has_to n) goes)

  -- where all of these turns was taken by their ends
  taken_to : (whole more : List (List (List ℕ))) → pieces_by_turn parts ≡ whole ++ more → TakesAllByTurn end.plan whole → (n : ℕ) → n ≤ length whole → (said (calls n)).taken ≡ length (said (calls n)).fed
  taken_to whole more pieces all zero le =
      omega (arith, ap (λ (x : AppHistory). x.taken) is.begun, ap (λ (x : AppHistory). length x.fed) is.begun)
  taken_to whole more pieces all (suc n) le =
      let old = said (calls n) in
      let new = said (calls (suc n)) in
      let before = taken_to whole more pieces all n (omega (arith, le)) in
      let nothing : length old.fed - old.taken ≡ 0 = omega (arith, before) in
      let same : pieces_in (joined_talk (take n parts)) ≡ all_pieces (take n whole) =
      pieces_joined n parts ∙ ap (λ (l : List (List (List ℕ))). all_pieces l) (ap (λ (l : List (List (List ℕ))). take n l) pieces ∙ take-append-le n whole more (omega (arith, le))) in
      let here : pieces_in (part_at n parts) ≡ get_or whole n [] = pieces_at n parts ∙ (ap (λ (l : List (List (List ℕ))). get_or l n []) pieces ∙ get_or_append_left whole more [] n (omega (arith, le))) in
      let left : length new.fed - new.taken ≡ 0 =
      (turn_ran n).waits (short_to n) ∙ (ap (λ w. waiting_after old.plan w (pieces_in (part_at n parts))) nothing
      ∙ (ap (λ (l : List (List ℕ)). waiting_after old.plan 0 l) here
      ∙ (ap (λ (p : List PlannedStep). waiting_after p 0 (get_or whole n [])) (plan_to n ∙ ap (λ (l : List (List ℕ)). drop (length l) end.plan) same) ∙ taken_at end.plan whole n all (omega (arith, le))))) in
      omega (arith, left, short_to (suc n))

  -- so what was sent has the events that it was told, and also where it was told the last one
  all_told : (n : ℕ) → ((said (calls n)).taken ≡ length (said (calls n)).fed) ⊎ ((go_on (events_to n) ≡ false) × AreBytes (said (calls n)).fed) → HasEvents end.role most_limits (said (calls n)).fed (events_to n)
  all_told n (inl whole) = subst (λ (l : List ℕ). HasEvents end.role most_limits l (events_to n)) (take_all (said (calls n)).taken (said (calls n)).fed (omega (arith, whole))) (has_to n)
  all_told n (inr (over, bytes)) =
      let x = said (calls n) in
      let parts_of : taken_of_fed x ++ drop x.taken x.fed ≡ x.fed = take-append-drop x.taken x.fed in
      let (all, whole) = laws.some end.role x.fed bytes in
      let same : all ≡ events_to n = ended_so laws end.role (taken_of_fed x) (drop x.taken x.fed) (events_to n) all (has_to n) over (subst (λ (l : List ℕ). HasEvents end.role most_limits l all) (sym parts_of) whole) in
      subst (λ (l : List Event). HasEvents end.role most_limits x.fed l) same whole

  goes_to : (n : ℕ) → AllByRecursion PeerGoesOn (joined_talk (take n parts)) → go_on (events_to n) ≡ true
  goes_to n goes = still_goes laws end (joined_talk (take n parts)) (joined_talk (drop n parts) ++ tail) said (subst (λ (l : List Entry). IsAppTalk end l said) (parted n) is) goes (events_to n) (has_to n)

  -- what is known of the run's end and of its turns
  pub record AreTurns (ended : HowEnded) : Type 0 where
    pub bytes : AreBytes (fed_in (joined_talk parts))
    pub told : (n : ℕ) → n ≤ length parts → HasEvents end.role most_limits (said (calls n)).fed (events_to n)
    pub goes : (n : ℕ) → n < length parts → go_on (events_to n) ≡ true
    pub ended_so : ended ≡ cond (go_on (events_to (length parts))) Tester Peer
    pub reply : SendNoClose end.plan → (before : List Event) (last : Event) → events_to (length parts) ≡ before ++ last ∷ [] → go_on (last ∷ []) ≡ false → EndsWithReply (said (calls (length parts))).sent last

  count : length (map turn_of parts) ≡ length parts
  count = length-map parts turn_of

  turn_to : (n : ℕ) → (later : List Event) × (more : List KeyedFrame) × (events_to (n + 1) ≡ events_to n ++ later) × (keyed_to (n + 1) ≡ keyed_to n ++ more) × (has_close (frames_of (keyed_to (n + 1))) ≡ false → AnswerPings later (frames_of more))
  turn_to n =
      let one : n + 1 ≡ suc n = add-one n in (
        (turn_ran n).later,
        (turn_ran n).keyed,
        ap (λ k. events_to k) one,
        ap (λ k. keyed_to k) one,
        λ free. (turn_ran n).answers (ap (λ (l : List Frame). has_close l) (sent_to (suc n)) ∙ (ap (λ k. has_close (frames_of (keyed_to k))) (sym one) ∙ free)),
      )

  abbrev app_of : (ended : HowEnded) → AreTurns ended → IsAppTranscript end.role (recorded parts ended)
  app_of ended h = record {
    bytes = subst (λ (l : List ℕ). AreBytes l) (sym (all_sent parts)) h.bytes;
    events = events_to;
    has_events = λ n less. subst (λ (l : List ℕ). HasEvents end.role most_limits l (events_to n)) (fed_to n ∙ sym (sent_so_far n parts)) (h.told n (omega (arith, less, count)));
    sent = keyed_to;
    begun = refl;
    got = λ n less. got_so_far n parts ∙ put_to n;
    layout = layout_to (length (map turn_of parts));
    keys = keys_to (length (map turn_of parts));
    valid = subst (λ (l : List Frame). AreValidFrames most_limits l) (sent_to (length (map turn_of parts))) (all_valid end talk said is (calls (length (map turn_of parts))) (within (length (map turn_of parts))));
    turn = λ n less. turn_to n;
    closes = λ n less over. ap (λ (l : List Frame). has_close l) (sym (sent_to n)) ∙ closed_to n over;
    goes_on = λ n less. h.goes n (omega (arith, less, count));
    ended = h.ended_so ∙ ap (λ k. cond (go_on (events_to k)) Tester Peer) (sym count);
  }

  silent_of : (ended : HowEnded) (h : AreTurns ended) → SendNoClose end.plan → SendsNoClose end.role (recorded parts ended) (app_of ended h)
  silent_of ended h none = record {
    none = λ goes. silent_to none (length (map turn_of parts)) goes;
    answers = λ n less over. silent_to none n (h.goes n (omega (arith, less, count)));
    reply = λ before last are over.
        subst (λ k. EndsWithReply (frames_of (keyed_to k)) last) (sym count)
        (subst (λ (l : List Frame). EndsWithReply l last) (sent_to (length parts)) (h.reply none before last (ap (λ k. events_to k) (sym count) ∙ are) over));
  }

  -- an application's transcript, which closes nothing by itself where no step of the plan does
  pub app_of_turns : (transcript : Transcript) (ended : HowEnded) → AreTurns ended → transcript.turns ≡ map turn_of parts → transcript.ended ≡ ended
      → (app : IsAppTranscript end.role transcript) × (SendNoClose end.plan → SendsNoClose end.role transcript app)
  app_of_turns transcript ended h turns how =
      subst (λ (t : Transcript). (app : IsAppTranscript end.role t) × (SendNoClose end.plan → SendsNoClose end.role t app))
      (sym (ap₂ (λ (l : List Turn) (e : HowEnded). record { turns = l; ended = e }) turns how)) (app_of ended h, silent_of ended h)

-- ---- the tester ends it

-- an application's transcript, which closes nothing by itself where no step of the plan does
abbrev pub IsFairTranscript : PeerEnd → Transcript → Type 0
IsFairTranscript end transcript = (app : IsAppTranscript end.role transcript) × (SendNoClose end.plan → SendsNoClose end.role transcript app)

last_said : (end : PeerEnd) (before : List Entry) (left : List ℕ) (said : ℕ → AppHistory) → IsAppTalk end (before ++ Finished left ∷ []) said → left ≡ []
last_said end before left said is = (is.each (length before) (Finished left) (get_last before (Finished left))).1

by_tester : AppLaws → (end : PeerEnd) → IsMaskingKey (key_for end.role end.key) → (turns : List (List (List ℕ))) (talk : List Entry) (said : ℕ → AppHistory) (transcript : Transcript)
    → EndsByTester turns talk transcript → IsAppTalk end talk said → AreBytes (fed_in talk) → TakesAllByTurn end.plan turns → IsFairTranscript end transcript
by_tester laws end is_key turns talk said transcript r is bytes all =
    let finish = Finished r.left ∷ [] in
    let parts = r.parts in
    let none : r.left ≡ [] = last_said end (joined_talk parts) r.left said (subst (λ (l : List Entry). IsAppTalk end l said) r.talk_is is) in
    let fed : fed_in talk ≡ fed_in (joined_talk parts) = ap (λ (l : List Entry). fed_in l) r.talk_is ∙ (fed_in-more (joined_talk parts) (Finished r.left) ∙ append-nil (fed_in (joined_talk parts))) in
    let pieces : pieces_by_turn parts ≡ turns ++ [] = r.pieces ∙ sym (append-nil turns) in
    let size : length parts ≡ length turns = sym (length-map parts pieces_in) ∙ ap (λ (l : List (List (List ℕ))). length l) r.pieces in
    let goes = λ (n : ℕ). goes_to laws end is_key talk finish parts said is r.talk_is n (front_goes n parts r.goes_on) in
    app_of_turns laws end is_key talk finish parts said is r.talk_is transcript Tester
    (record {
      bytes = subst (λ (l : List ℕ). AreBytes l) fed bytes;
      told = λ n le. all_told laws end is_key talk finish parts said is r.talk_is n (inl (taken_to laws end is_key talk finish parts said is r.talk_is turns [] pieces all n (omega (arith, le, size))));
      goes = λ n less. goes n;
      ended_so = ap (λ b. cond b Tester Peer) (sym (goes (length parts)));
      reply = λ quiet before last are over.
          absurd (no_both (go_on (events_to laws end is_key talk finish parts said is r.talk_is (length parts))) (goes (length parts)) (ap (λ (l : List Event). go_on l) are ∙ (go_on-more before last [] ∙ over)));
    })
    (r.recorded ∙ (ap (λ (l : List ℕ). with_finish (map turn_of parts) l) none ∙ finish_nothing (map turn_of parts))) r.ended

-- ---- the peer ends it

by_peer : AppLaws → (end : PeerEnd) → IsMaskingKey (key_for end.role end.key) → (turns : List (List (List ℕ))) (talk : List Entry) (said : ℕ → AppHistory) (transcript : Transcript)
    → EndsByPeer turns talk transcript → IsAppTalk end talk said → AreBytes (fed_in talk) → TakesAllByTurn end.plan turns → IsFairTranscript end transcript
by_peer laws end is_key turns talk said transcript r is bytes all =
    let parts = r.parts in
    let p = r.pieces in
    let talk_is : talk ≡ joined_talk parts ++ [] = r.talk_is ∙ sym (append-nil (joined_talk parts)) in
    let last = Fed r.piece r.appended Ended in
    let whole : joined_talk parts ≡ r.before ++ last ∷ [] = sym r.talk_is ∙ r.last in
    let before_taken : TakesAllByTurn end.plan p.before = front_taken end.plan p.before ((p.first ++ p.others) ∷ p.after) (subst (λ (l : List (List (List ℕ))). TakesAllByTurn end.plan l) p.are_turns all) in
    let size : length parts ≡ length p.before + 1 =
    sym (length-map parts pieces_in) ∙ (ap (λ (l : List (List (List ℕ))). length l) p.are_fed ∙ length-append p.before (p.first ∷ [])) in
    let goes = λ (n : ℕ) (less : n < length parts).
    goes_to laws end is_key talk [] parts said is talk_is n (goes_before n parts r.before last whole (fewer_calls n parts p.before p.first p.are_fed p.some less) r.goes_on) in
    let count = length parts in
    let all_calls : length (joined_talk (take count parts)) ≡ length r.before + 1 =
    ap (λ (l : List (List Entry)). length (joined_talk l)) (take_all count parts (omega arith)) ∙ (ap (λ (l : List Entry). length l) whole ∙ length-append r.before (last ∷ [])) in
    let got : slice_get talk (length r.before) ≡ Some last = ap (λ (l : List Entry). slice_get l (length r.before)) r.last ∙ get_last r.before last in
    let over : go_on (events_to laws end is_key talk [] parts said is talk_is count) ≡ false =
    ends_after laws end (said (length r.before)) (said (length r.before + 1)) (events_to laws end is_key talk [] parts said is talk_is count)
    (subst (λ k. HasEvents end.role most_limits (taken_of_fed (said k)) (events_to laws end is_key talk [] parts said is talk_is count)) all_calls (has_to laws end is_key talk [] parts said is talk_is count))
    r.piece r.appended (is.each (length r.before) last got) in
    let is_last : IsAppTalk end (r.before ++ last ∷ []) said = subst (λ (l : List Entry). IsAppTalk end l said) r.last is in
    let t : TakesFed end (said (length r.before)) (said (length r.before + 1)) r.piece r.appended Ended = is.each (length r.before) last got in
    let events_now : events_to laws end is_key talk [] parts said is talk_is count ≡ t.before ++ t.later =
    laws.one_list end.role (taken_of_fed (said (length r.before + 1))) (events_to laws end is_key talk [] parts said is talk_is count) (t.before ++ t.later)
    (subst (λ k. HasEvents end.role most_limits (taken_of_fed (said k)) (events_to laws end is_key talk [] parts said is talk_is count)) all_calls (has_to laws end is_key talk [] parts said is talk_is count)) t.has in
    let reply = λ (quiet : SendNoClose end.plan) (front : List Event) (e : Event) (are : events_to laws end is_key talk [] parts said is talk_is count ≡ front ++ e ∷ []) (ended : go_on (e ∷ []) ≡ false).
    subst (λ k. EndsWithReply (said k).sent e) (sym all_calls)
    (last_answered laws end (said (length r.before)) (said (length r.before + 1)) r.piece r.appended Ended t (closed_nothing laws end is_key r.before (last ∷ []) said is_last r.goes_on quiet)
    (still_goes laws end r.before (last ∷ []) said is_last r.goes_on t.before t.had) front e (sym events_now ∙ are) ended) in
    let are_bytes : AreBytes (fed_in (joined_talk parts)) = subst (λ (l : List Entry). AreBytes (fed_in l)) r.talk_is bytes in
    let last_bytes : AreBytes (said (length (joined_talk (take count parts)))).fed =
    subst (λ (l : List ℕ). AreBytes l) (ap (λ (l : List (List Entry)). fed_in (joined_talk l)) (sym (take_all count parts (omega arith))) ∙ sym (fed_to laws end is_key talk [] parts said is talk_is count)) are_bytes in
    let told = λ (n : ℕ) (le : n ≤ length parts).
    all_told laws end is_key talk [] parts said is talk_is n
    (elim (cases_lt n count) [
      | inl less ↦ inl (taken_to laws end is_key talk [] parts said is talk_is p.before (p.first ∷ []) p.are_fed before_taken n (omega (arith, less, size)))
      | inr past ↦
          let here : count ≡ n = omega (arith, le, past) in
          inr (ap (λ k. go_on (events_to laws end is_key talk [] parts said is talk_is k)) (sym here) ∙ over, subst (λ k. AreBytes (said (length (joined_talk (take k parts)))).fed) here last_bytes)
    ]) in
    app_of_turns laws end is_key talk [] parts said is talk_is transcript Peer
    (record {
      bytes = are_bytes;
      told = told;
      goes = goes;
      ended_so = ap (λ b. cond b Tester Peer) (sym over);
      reply = reply;
    })
    r.recorded r.ended

-- the transcript of a run in an application's talk
pub app_transcript : AppLaws → (end : PeerEnd) → IsMaskingKey (key_for end.role end.key) → (turns : List (List (List ℕ))) (talk : List Entry) (said : ℕ → AppHistory) (transcript : Transcript)
    → IsRunOf turns talk transcript → IsAppTalk end talk said → AreBytes (fed_in talk) → TakesAllByTurn end.plan turns → IsFairTranscript end transcript
app_transcript laws end is_key turns talk said transcript (inl r) is bytes all = by_tester laws end is_key turns talk said transcript r is bytes all
app_transcript laws end is_key turns talk said transcript (inr r) is bytes all = by_peer laws end is_key turns talk said transcript r is bytes all
