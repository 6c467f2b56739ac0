-- What is told of what came, and the evidence of it without the pings.
use Rattle.std.proofs.Common.{◌≡◌, ◌∙◌, ℕ, zero, suc, ◌+◌, ◌<◌, ◌≤◌, ◌&&◌, Bool, true, false, if◌then◌else◌, List, []}
use Rattle.std.proofs.Common.{◌∷◌, ◌++◌, get_or, length, take, map, flat_map, Option, None, Some, inl, inr, ap, ap₂}
use Rattle.std.proofs.Common.{sym, refl, subst, arith, ◌↔◌}
use Rattle.std.proofs.lemmas.Bool.{cases_lt}
use Rattle.std.proofs.lemmas.List.{length-map, length-take-le, map-append, take_all, take_more}
use Rattle.std.proofs.lemmas.List.Elements.{filter-append}
use Rattle.std.specs.Prelude.{IsTrue}
use Rattle.std.specs.List.{filter, last_or, take-map}
use Rattle.ws_wire.specs.declared.role.Role.{Role}
use Rattle.ws_session.specs.declared.event.Event.{Event}
use Rattle.ws_session.specs.declared.event.Event.TheVariants as event
use Rattle.ws_session.specs.Exchange.{SessionValue}
use Rattle.ws_scripts.specs.declared.transcript.Transcript.{Transcript}
use Rattle.ws_scripts.specs.declared.transcript.Turn.{Turn}
use Rattle.ws_suite.specs.declared.evidence.InTurn.{InTurn}
use Rattle.ws_suite.specs.declared.evidence.Reply.{Reply}
use Rattle.ws_suite.specs.declared.evidence.Reply.TheVariants as reply
use Rattle.ws_suite.specs.declared.evidence.Ending.{Ending}
use Rattle.ws_suite.specs.declared.evidence.Direction.{Direction}
use Rattle.ws_suite.specs.declared.evidence.Evidence.{Evidence}
use Rattle.ws_suite.specs.declared.evidence.collecting.Way.{Way}
use Rattle.ws_suite.specs.declared.evidence.collecting.Collected.{Collected}
use Rattle.ws_suite.specs.declared.evidence.keeping.AllReplies.{AllReplies}
use Rattle.ws_suite.specs.Evidence.{IsDirectionOf, IsEvidenceOf, by_turn, ending_in, got_in}
use Rattle.ws_suite.specs.Explanation.{IsBeyondBy, told_in}
use Rattle.ws_suite.specs.Doom.{HasDoomCounted, IsDoomedAfter}
use Rattle.ws_suite.specs.Growing.{AreAll}
use Rattle.ws_suite.specs.InnerCollecting.{EventLaws, HasTakenWay, IsToldEvidenceOf, at_turn, first_beyond}
use Rattle.ws_suite.specs.InnerCollecting.{found_by, way_bytes}
use Rattle.ws_suite.specs.InnerDoom.{HasEndedInTurn, IsKnownAtClose}
use Rattle.ws_suite.specs.InnerJudging.{answers_among, is_answer, without_pings}
use Rattle.ws_suite.specs.Matching.{ends_with_close, is_message, is_pong}
use Rattle.ws_suite.proofs.DoomLemmas.{known_now, known_still}
use Rattle.ws_suite.proofs.EvidenceLemmas.{no_items}
use Rattle.ws_suite.proofs.OneVerdict.{one_direction, same_direction}
use Rattle.ws_suite.proofs.TurnsCollected.{turn_begun}

-- ---- the pings left out

told_turn : (turn : ℕ) (events : List Event) → answers_among (at_turn turn (flat_map told_in events)) ≡ at_turn turn (flat_map got_in events)
told_turn turn [] = refl
told_turn turn (event.Part ∷ events) = told_turn turn events
told_turn turn (event.Message message ∷ events) = ap (λ (l : List (InTurn Reply)). record { turn = turn; what = reply.Message message } ∷ l) (told_turn turn events)
told_turn turn (event.Ping payload ∷ events) = told_turn turn events
told_turn turn (event.Pong payload ∷ events) = ap (λ (l : List (InTurn Reply)). record { turn = turn; what = reply.Pong payload } ∷ l) (told_turn turn events)
told_turn turn (event.Close close ∷ events) = told_turn turn events
told_turn turn (event.Failed reason ∷ events) = told_turn turn events

told_turns : (turn : ℕ) (events : List (List Event)) → answers_among (by_turn told_in turn events) ≡ by_turn got_in turn events
told_turns turn [] = refl
told_turns turn (first ∷ events) =
    filter-append (λ x. is_answer x.what) (at_turn turn (flat_map told_in first)) (by_turn told_in (turn + 1) events)
    ∙ ap₂ (λ (a b : List (InTurn Reply)). a ++ b) (told_turn turn first) (told_turns (turn + 1) events)

got_turn : (turn : ℕ) (events : List Event) → answers_among (at_turn turn (flat_map got_in events)) ≡ at_turn turn (flat_map got_in events)
got_turn turn [] = refl
got_turn turn (event.Part ∷ events) = got_turn turn events
got_turn turn (event.Message message ∷ events) = ap (λ (l : List (InTurn Reply)). record { turn = turn; what = reply.Message message } ∷ l) (got_turn turn events)
got_turn turn (event.Ping payload ∷ events) = got_turn turn events
got_turn turn (event.Pong payload ∷ events) = ap (λ (l : List (InTurn Reply)). record { turn = turn; what = reply.Pong payload } ∷ l) (got_turn turn events)
got_turn turn (event.Close close ∷ events) = got_turn turn events
got_turn turn (event.Failed reason ∷ events) = got_turn turn events

pub all_answers : (turn : ℕ) (events : List (List Event)) → answers_among (by_turn got_in turn events) ≡ by_turn got_in turn events
all_answers turn [] = refl
all_answers turn (first ∷ events) =
    filter-append (λ x. is_answer x.what) (at_turn turn (flat_map got_in first)) (by_turn got_in (turn + 1) events)
    ∙ ap₂ (λ (a b : List (InTurn Reply)). a ++ b) (got_turn turn first) (all_answers (turn + 1) events)

-- what is told is the evidence, with pings
pub told_is_evidence : (tested : Role) (transcript : Transcript) (x : Evidence) → IsToldEvidenceOf tested transcript x → IsEvidenceOf tested transcript (without_pings x)
told_is_evidence tested transcript x h = record {
  due = h.due;
  got = record {
    events = h.got.events;
    are_events = h.got.are_events;
    replies = ap (λ (l : List (InTurn Reply)). answers_among l) h.got.replies ∙ told_turns 0 h.got.events;
    ending = h.got.ending;
    has_rest = h.got.has_rest;
  };
  turns = h.turns;
  ended = h.ended;
  uncounted = h.uncounted;
}

pub counted_without : (tested : Role) (transcript : Transcript) (shown counted : Evidence) → HasDoomCounted tested transcript shown counted
    → HasDoomCounted tested transcript (without_pings shown) (without_pings counted)
counted_without tested transcript shown counted h = record {
  replies = h.replies;
  ending = h.ending;
  has_rest = h.has_rest;
  got = ap (λ (d : Direction). record { replies = answers_among d.replies; ending = d.ending; has_rest = d.has_rest }) h.got;
  turns = h.turns;
  ended = h.ended;
  answers_doom = h.answers_doom;
}

-- the evidence of a transcript has none
pub no_pings : (tested : Role) (transcript : Transcript) (shown counted : Evidence) → IsEvidenceOf tested transcript shown → HasDoomCounted tested transcript shown counted → without_pings counted ≡ counted
no_pings tested transcript shown counted h k =
    let same : counted.got.replies ≡ by_turn got_in 0 h.got.events = ap (λ (d : Direction). d.replies) k.got ∙ h.got.replies in
    let all : answers_among counted.got.replies ≡ counted.got.replies = ap (λ (l : List (InTurn Reply)). answers_among l) same ∙ (all_answers 0 h.got.events ∙ sym same) in
    ap (λ (l : List (InTurn Reply)). record { due = counted.due; got = record { replies = l; ending = counted.got.ending; has_rest = counted.got.has_rest }; turns = counted.turns; ended = counted.ended; answers_doom = counted.answers_doom }) all

-- ---- lists of replies

kept_by_both : (test : Reply → Bool) → ((r : Reply) → test r ≡ true → is_answer r ≡ true) → (replies : List (InTurn Reply))
    → filter (λ x. test x.what) (answers_among replies) ≡ filter (λ x. test x.what) replies
kept_by_both test goes [] = refl
kept_by_both test goes (x ∷ replies) = pick (kept_by_both test goes replies) (is_answer x.what) (test x.what) refl refl
  where
    pick : filter (λ (x : InTurn Reply). test x.what) (answers_among replies) ≡ filter (λ (x : InTurn Reply). test x.what) replies → (a b : Bool) → is_answer x.what ≡ a → test x.what ≡ b
        → filter (λ (x : InTurn Reply). test x.what) (if a then x ∷ answers_among replies else answers_among replies) ≡ (if b then x ∷ filter (λ (x : InTurn Reply). test x.what) replies else filter (λ (x : InTurn Reply). test x.what) replies)
    pick later true true e f = ap (λ (b : Bool). if b then x ∷ filter (λ (x : InTurn Reply). test x.what) (answers_among replies) else filter (λ (x : InTurn Reply). test x.what) (answers_among replies)) f
        ∙ ap (λ (l : List (InTurn Reply)). x ∷ l) later
    pick later true false e f = ap (λ (b : Bool). if b then x ∷ filter (λ (x : InTurn Reply). test x.what) (answers_among replies) else filter (λ (x : InTurn Reply). test x.what) (answers_among replies)) f ∙ later
    pick later false true e f = absurd (let wrong : false ≡ true = sym e ∙ goes x.what f in cc)
    pick later false false e f = later

message_goes : (r : Reply) → is_message r ≡ true → is_answer r ≡ true
message_goes (reply.Message message) e = refl
message_goes (reply.Pong payload) e = refl
message_goes (reply.Ping payload) e = absurd cc

pong_goes : (r : Reply) → is_pong r ≡ true → is_answer r ≡ true
pong_goes (reply.Message message) e = refl
pong_goes (reply.Pong payload) e = refl
pong_goes (reply.Ping payload) e = absurd cc

pub same_messages : (replies : List (InTurn Reply)) → filter (λ x. is_message x.what) replies ≡ filter (λ x. is_message x.what) (answers_among replies)
same_messages replies = sym (kept_by_both is_message message_goes replies)

pub same_pongs : (replies : List (InTurn Reply)) → filter (λ x. is_pong x.what) replies ≡ filter (λ x. is_pong x.what) (answers_among replies)
same_pongs replies = sym (kept_by_both is_pong pong_goes replies)

-- ---- the turns that go one way

pub way_more : (way : Way) (turns : List Turn) (i : ℕ) (turn : Turn) → i < length turns → turn ≡ get_or turns i turn → take (i + 1) (map (way_bytes way) turns) ≡ take i (map (way_bytes way) turns) ++ way_bytes way turn ∷ []
way_more way turns i turn less is =
    take-map (way_bytes way) (i + 1) turns
    ∙ (ap (λ (l : List Turn). map (way_bytes way) l) (take_more turns i turn less ∙ ap (λ (t : Turn). take i turns ++ t ∷ []) (sym is))
    ∙ (map-append (way_bytes way) (take i turns) (turn ∷ []) ∙ ap (λ (l : List (List ℕ)). l ++ way_bytes way turn ∷ []) (sym (take-map (way_bytes way) i turns))))

-- so many turns were taken this way
abbrev pub HaveTaken : Way → Role → List Turn → ℕ → SessionValue → Collected AllReplies → Type 0
HaveTaken way role turns i session collected =
    HasTakenWay AreAll way role (take i (map (way_bytes way) turns)) session collected

-- one turn more was taken this way
pub turn_taken : (way : Way) (role : Role) (turns : List Turn) (i : ℕ) (turn : Turn) (bytes : List ℕ)
    (s t : SessionValue) (a b : Collected AllReplies) → i < length turns → turn ≡ get_or turns i turn
    → bytes ≡ way_bytes way turn
    → ((before : List (List ℕ)) (last : List ℕ) → i ≡ length before
    → HasTakenWay AreAll way role (before ++ last ∷ []) s a
    → HasTakenWay AreAll way role (before ++ (last ++ bytes) ∷ []) t b)
    → HaveTaken way role turns i s a → HaveTaken way role turns (i + 1) t b
turn_taken way role turns i turn bytes s t a b less is same takes h =
    let all = map (way_bytes way) turns in
    let before = take i all in
    let count : length before ≡ i =
    length-take-le i all (omega (arith, less, length-map turns (way_bytes way))) in
    let more = ap (λ (l : List ℕ). before ++ l ∷ []) same ∙ sym (way_more way turns i turn less is) in
    subst (λ (l : List (List ℕ)). HasTakenWay AreAll way role l t b) more
    (takes before [] (sym count) (turn_begun (found_by way) role before s a h))

-- all turns were taken this way
pub direction_taken : (way : Way) (role : Role) (turns : List Turn) (i : ℕ) (s : SessionValue)
    (a : Collected AllReplies) (d : Direction) → length turns ≤ i → AreAll a.replies d.replies → d.ending ≡ a.ending
    → d.has_rest ≡ a.has_rest → HaveTaken way role turns i s a
    → IsDirectionOf role (found_by way) (map (way_bytes way) turns) d
direction_taken way role turns i s a d past replies ending rest h =
    let all = map (way_bytes way) turns in
    let whole : take i all ≡ all = take_all i all (omega (arith, past, length-map turns (way_bytes way))) in
    let same = same_direction d h.shown (sym replies ∙ h.replies) (ending ∙ h.ending) (rest ∙ h.has_rest) in
    subst (λ (l : List (List ℕ)). IsDirectionOf role (found_by way) l d) whole
    (subst (λ (x : Direction). IsDirectionOf role (found_by way) (take i all) x) (sym same) h.is_shown)

-- in the turn neither a close nor a fault was got: whether what was sent was doomed at it is known as before
still_known : EventLaws → (way : Way) (role : Role) (turns : List Turn) (i : ℕ) (turn : Turn)
    (s t : SessionValue) (a b : Collected AllReplies) → i < length turns → turn ≡ get_or turns i turn
    → HaveTaken way role turns i s a → HaveTaken way role turns (i + 1) t b
    → (tested : Role) (sent : List (List ℕ)) (r : Bool) → (HasEndedInTurn b.ending i → ⊥)
    → IsKnownAtClose tested sent a.ending r → IsKnownAtClose tested sent b.ending r
still_known laws way role turns i turn s t a b less is h k tested sent r none known =
    let all = map (way_bytes way) turns in
    let before = take i all in
    let count : length before ≡ i =
    length-take-le i all (omega (arith, less, length-map turns (way_bytes way))) in
    let grown = subst (λ (l : List (List ℕ)). IsDirectionOf role (found_by way) l k.shown)
    (way_more way turns i turn less is) k.is_shown in
    let none_there : HasEndedInTurn b.ending (length before) → ⊥ =
    λ ends. none (subst (λ (n : ℕ). HasEndedInTurn b.ending n) count ends) in
    known_still laws role (found_by way) before (way_bytes way turn) h.shown k.shown h.is_shown grown tested sent r
    b.ending (sym k.ending) none_there
    (subst (λ (o : Option (InTurn Ending)). IsKnownAtClose tested sent o r) h.ending known)

-- one turn more was taken: it is asked in the turn of the close or the fault
pub known_step : EventLaws → (way : Way) (role : Role) (turns : List Turn) (i : ℕ) (turn : Turn)
    (s t : SessionValue) (a b : Collected AllReplies) → i < length turns → turn ≡ get_or turns i turn
    → HaveTaken way role turns i s a → HaveTaken way role turns (i + 1) t b
    → (tested : Role) (sent : List (List ℕ)) (ends old new : Bool) → (IsTrue ends ↔ HasEndedInTurn b.ending i)
    → (ends ≡ true → (IsTrue new ↔ IsDoomedAfter tested sent (i + 1))) → (ends ≡ false → new ≡ old)
    → IsKnownAtClose tested sent a.ending old → IsKnownAtClose tested sent b.ending new
known_step laws way role turns i turn s t a b less is h k tested sent true old new tells asked kept known =
    known_now tested sent i b.ending new (tells.0 refl) (asked refl)
known_step laws way role turns i turn s t a b less is h k tested sent false old new tells asked kept known =
    let none : HasEndedInTurn b.ending i → ⊥ =
    λ at. absurd (let wrong : false ≡ true = tells.1 at in cc) in
    subst (λ (r : Bool). IsKnownAtClose tested sent b.ending r) (sym (kept refl))
    (still_known laws way role turns i turn s t a b less is h k tested sent old none known)

-- at the start there is no ending
none_at_start : (role : Role) (found : Event → List Reply) (d : Direction) → IsDirectionOf role found [] d
    → d.ending ≡ None
none_at_start role found d is =
    is.ending ∙ ap (λ (l : List (List Event)). last_or None (by_turn ending_in 0 l))
    (no_items is.events (omega (arith, is.are_events.each)))

-- so nothing is asked yet
pub known_at_start : (way : Way) (role : Role) (s : SessionValue) (a : Collected AllReplies)
    → HasTakenWay AreAll way role [] s a → (tested : Role) (sent : List (List ℕ)) (r : Bool)
    → IsKnownAtClose tested sent a.ending r
known_at_start way role s a h tested sent r =
    let none : a.ending ≡ None = h.ending ∙ none_at_start role (found_by way) h.shown h.is_shown in
    subst (λ (o : Option (InTurn Ending)). IsKnownAtClose tested sent o r) (sym none) tt

-- ---- bytes beyond a close

no_ending : (role : Role) (found : Event → List Reply) (d : Direction) → IsDirectionOf role found [] d
    → ends_with_close d.ending ≡ true → ⊥
no_ending role found d is close =
    let none : d.ending ≡ None = none_at_start role found d is in
    let wrong : false ≡ true = sym (ap (λ (o : Option (InTurn Ending)). ends_with_close o) none) ∙ close in
    cc

pub nothing_beyond : (role : Role) (found : Event → List Reply) (turns : List (List ℕ)) → IsBeyondBy role found turns 0 None
nothing_beyond role found turns zero less (d, is, close, rest) = no_ending role found d is close
nothing_beyond role found turns (suc n) less g = absurd (omega (arith, less))

both_true : (a b : Bool) → true ≡ (a && b) → (a ≡ true) × (b ≡ true)
both_true true b e = (refl, sym e)
both_true false b e = absurd cc

-- one turn more was taken
pub beyond_step : EventLaws → (role : Role) (found : Event → List Reply) (turns : List (List ℕ)) (i : ℕ) (shown : Direction) → IsDirectionOf role found (take (i + 1) turns) shown → (old : Option ℕ) (goes_on : Bool)
    → goes_on ≡ (ends_with_close shown.ending && shown.has_rest) → IsBeyondBy role found turns i old → IsBeyondBy role found turns (i + 1) (first_beyond old i goes_on)
beyond_step laws role found turns i shown is (Some turn) goes_on tells h = h
beyond_step laws role found turns i shown is None true tells h =
    let both = both_true (ends_with_close shown.ending) shown.has_rest tells in
    ((shown, is, both.0, both.1), h)
beyond_step laws role found turns i shown is None false tells h = λ count less g. elim (cases_lt i count) [
  | inl after ↦
      let same : count ≡ i + 1 = omega (arith, after, less) in
      let one = one_direction laws role found (take (i + 1) turns) g.0 shown (subst (λ (n : ℕ). IsDirectionOf role found (take n turns) g.0) same g.1) is in
      let close : ends_with_close shown.ending ≡ true = ap (λ (d : Direction). ends_with_close d.ending) (sym one) ∙ g.2 in
      let rest : shown.has_rest ≡ true = ap (λ (d : Direction). d.has_rest) (sym one) ∙ g.3 in
      absurd (let wrong : false ≡ true = tells ∙ (ap (λ (b : Bool). b && shown.has_rest) close ∙ rest) in cc)
  | inr before ↦ h count before g
]
