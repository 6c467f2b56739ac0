-- An echo's answers, turn by turn: each stands in the turn of what it answers.
use Rattle.std.proofs.Common.{◌≡◌, ◌∙◌, ℕ, zero, suc, ◌+◌, ◌<◌, Bool, true, false, cond, List, [], ◌∷◌, ◌++◌, length, map, take, flat_map, Option, Some, None, ap, ap₂, sym, refl, arith, append-nil}
use Rattle.std.proofs.lemmas.List.{map-append}
use Rattle.std.specs.Prelude.{◌||◌}
use Rattle.ws_wire.specs.declared.role.Role.{Role}
use Rattle.ws_wire.specs.Frame.{Frame, KeyedFrame}
use Rattle.ws_session.specs.declared.event.Event.{Event}
use Rattle.ws_session.specs.declared.event.Event.TheVariants as event
use Rattle.ws_session.specs.Faults.{frames_of}
use Rattle.ws_session.specs.Events.{events_after}
use Rattle.ws_session.specs.Replies.{close_code_of, echo_replies_of, has_close, under_key}
use Rattle.ws_suite.specs.declared.evidence.InTurn.{InTurn}
use Rattle.ws_suite.specs.declared.evidence.Reply.{Reply}
use Rattle.ws_suite.specs.declared.evidence.Reply.TheVariants as reply
use Rattle.ws_suite.specs.declared.evidence.Ending.{Ending}
use Rattle.ws_suite.specs.declared.evidence.Ending.TheVariants.{Closed, Failed, Doomed}
use Rattle.ws_suite.specs.Evidence.{by_turn, due_for, ending_in, got_in, joined_events}
use Rattle.ws_suite.specs.InnerCollecting.{at_turn}
use Rattle.ws_suite.specs.InnerEchoReplyLaws.{EchoReplyLaws}
use Rattle.ws_suite.proofs.ValidDirections.{events_by, joined_frames}
use Rattle.ws_suite.proofs.AnsweredEvents.{AllWhole, OnlyLastEnds, all_both, close_after, close_answers_end, empty_back, empty_front, end_stops, event_back, has_end, only_back, only_front, plain_answers, told_back, whole_answers}

-- ---- the frames of each turn

abbrev pub keyed : Role → List ℕ → List Frame → List KeyedFrame
keyed role key frames = map (under_key role key) frames

-- the answers of each turn, after these frames
abbrev pub answers_by : Role → List ℕ → List Frame → List (List Event) → List (List KeyedFrame)
answers_by role key sent [] = []
answers_by role key sent (events ∷ turns) = keyed role key (echo_replies_of sent events) ∷ answers_by role key (sent ++ echo_replies_of sent events) turns

pub length-answers_by : (role : Role) (key : List ℕ) (sent : List Frame) (turns : List (List Event)) → length (answers_by role key sent turns) ≡ length turns
length-answers_by role key sent [] = refl
length-answers_by role key sent (events ∷ turns) = ap suc (length-answers_by role key (sent ++ echo_replies_of sent events) turns)

pub frames_keyed : (role : Role) (key : List ℕ) (frames : List Frame) → frames_of (keyed role key frames) ≡ frames
frames_keyed role key [] = refl
frames_keyed role key (f ∷ frames) = ap (λ (l : List Frame). f ∷ l) (frames_keyed role key frames)

either_none : (b : Bool) (none : List Frame) → cond b none none ≡ none
either_none true none = refl
either_none false none = refl

none_for_none : (sent : List Frame) → echo_replies_of sent [] ≡ []
none_for_none sent = either_none (has_close sent) []

-- those of the first turns are the echo's answers to them
pub answers_so_far : EchoReplyLaws → (role : Role) (key : List ℕ) (n : ℕ) (sent : List Frame) (turns : List (List Event)) → joined_frames (take n (answers_by role key sent turns)) ≡ keyed role key (echo_replies_of sent (joined_events (take n turns)))
answers_so_far laws role key zero sent turns = ap (λ (l : List Frame). keyed role key l) (sym (none_for_none sent))
answers_so_far laws role key (suc n) sent [] = ap (λ (l : List Frame). keyed role key l) (sym (none_for_none sent))
answers_so_far laws role key (suc n) sent (events ∷ turns) =
    let first = echo_replies_of sent events in
    let later = joined_events (take n turns) in
    ap (λ (l : List KeyedFrame). keyed role key first ++ l) (answers_so_far laws role key n (sent ++ first) turns)
    ∙ (sym (map-append (under_key role key) first (echo_replies_of (sent ++ first) later)) ∙ ap (λ (l : List Frame). keyed role key l) (sym (laws.go_on sent events later)))

-- ---- what is told of them

abbrev pub answered : List (List Event) → List (List Event)
answered turns = map (λ (events : List Event). flat_map event_back events) turns

-- a turn in which the echo puts these frames
turn_told : (role : Role) (key : List ℕ) (events : List Event) (turns : List (List Event)) (sent frames : List Frame) → echo_replies_of sent events ≡ frames → events_after sent frames ≡ flat_map event_back events
    → events_by (sent ++ frames) (answers_by role key (sent ++ frames) turns) ≡ answered turns → events_by sent (answers_by role key sent (events ∷ turns)) ≡ answered (events ∷ turns)
turn_told role key events turns sent frames first here later =
    ap (λ (l : List Frame). events_after sent (frames_of (keyed role key l)) ∷ events_by (sent ++ frames_of (keyed role key l)) (answers_by role key (sent ++ l) turns)) first
    ∙ (ap (λ (l : List Frame). events_after sent l ∷ events_by (sent ++ l) (answers_by role key (sent ++ frames) turns)) (frames_keyed role key frames)
    ∙ ap₂ (λ (x : List Event) (xs : List (List Event)). x ∷ xs) here later)

-- once its close was sent, nothing was told of what comes, and it puts nothing
none_told : (role : Role) (key : List ℕ) (turns : List (List Event)) (sent : List Frame) → has_close sent ≡ true → joined_events turns ≡ [] → events_by sent (answers_by role key sent turns) ≡ answered turns
none_told role key [] sent closed none = refl
none_told role key (events ∷ turns) sent closed none =
    turn_told role key events turns sent [] (ap (λ b. cond b [] (plain_answers events)) closed)
    (ap (λ (l : List Event). flat_map event_back l) (sym (empty_front events (joined_events turns) none)))
    (none_told role key turns (sent ++ []) (ap (λ (l : List Frame). has_close l) (append-nil sent) ∙ closed) (empty_back events (joined_events turns) none))

turn_by : (role : Role) (key : List ℕ) (b : Bool) (events : List Event) (turns : List (List Event)) (sent : List Frame) → has_close (plain_answers events) ≡ b → AllWhole sent → has_close sent ≡ false → OnlyLastEnds (events ++ joined_events turns)
    → (has_close (sent ++ plain_answers events) ≡ false → events_by (sent ++ plain_answers events) (answers_by role key (sent ++ plain_answers events) turns) ≡ answered turns)
    → events_by (sent ++ plain_answers events) (answers_by role key (sent ++ plain_answers events) turns) ≡ answered turns
turn_by role key true events turns sent closes whole goes only later =
    none_told role key turns (sent ++ plain_answers events) (close_after sent (plain_answers events) goes ∙ closes) (end_stops events (joined_events turns) only (close_answers_end events closes))
turn_by role key false events turns sent closes whole goes only later = later (close_after sent (plain_answers events) goes ∙ closes)

-- the events of each turn's answers are those that answer this turn's events
pub told_by_turn : (role : Role) (key : List ℕ) (turns : List (List Event)) (sent : List Frame) → AllWhole sent → has_close sent ≡ false → OnlyLastEnds (joined_events turns) → events_by sent (answers_by role key sent turns) ≡ answered turns
told_by_turn role key [] sent whole goes only = refl
told_by_turn role key (events ∷ turns) sent whole goes only =
    turn_told role key events turns sent (plain_answers events) (ap (λ b. cond b [] (plain_answers events)) goes) (told_back sent events whole (only_front events (joined_events turns) only))
    (turn_by role key (has_close (plain_answers events)) events turns sent refl whole goes only
    (λ still. told_by_turn role key turns (sent ++ plain_answers events) (all_both sent (plain_answers events) whole (whole_answers events)) still (only_back events (joined_events turns) only)))

-- ---- what is got is what is due

got_back : (events : List Event) → flat_map got_in (flat_map event_back events) ≡ flat_map due_for events
got_back [] = refl
got_back (event.Part ∷ events) = got_back events
got_back (event.Message message ∷ events) = ap (λ (l : List Reply). reply.Message message ∷ l) (got_back events)
got_back (event.Ping payload ∷ events) = ap (λ (l : List Reply). reply.Pong payload ∷ l) (got_back events)
got_back (event.Pong payload ∷ events) = got_back events
got_back (event.Close None ∷ events) = got_back events
got_back (event.Close (Some close) ∷ events) = got_back events
got_back (event.Failed reason ∷ events) = got_back events

-- an answer is got in the turn in which it is due
pub got_when_due : (turn : ℕ) (turns : List (List Event)) → by_turn got_in turn (answered turns) ≡ by_turn due_for turn turns
got_when_due turn [] = refl
got_when_due turn (events ∷ turns) =
    ap₂ (λ (x : List Reply) (xs : List (InTurn Reply)). at_turn turn x ++ xs) (got_back events) (got_when_due (turn + 1) turns)

-- ---- the end

-- the code of the close by which an echo answers a close or a fault
abbrev pub code_due_for : Ending → Option ℕ
code_due_for (Closed code) = code
code_due_for (Failed reason) = Some (close_code_of reason)
code_due_for Doomed = None

-- the close that answers a close or a fault
abbrev pub close_back : Ending → Ending
close_back ending = Closed (code_due_for ending)

end_back : (events : List Event) → flat_map ending_in (flat_map event_back events) ≡ map close_back (flat_map ending_in events)
end_back [] = refl
end_back (event.Part ∷ events) = end_back events
end_back (event.Message message ∷ events) = end_back events
end_back (event.Ping payload ∷ events) = end_back events
end_back (event.Pong payload ∷ events) = end_back events
end_back (event.Close None ∷ events) = ap (λ (l : List Ending). Closed None ∷ l) (end_back events)
end_back (event.Close (Some close) ∷ events) = ap (λ (l : List Ending). Closed (Some close.code) ∷ l) (end_back events)
end_back (event.Failed reason ∷ events) = ap (λ (l : List Ending). close_back (Failed reason) ∷ l) (end_back events)

abbrev ending_at : ℕ → Ending → InTurn Ending
ending_at turn ending = record { turn = turn; what = ending }

abbrev pub answer_in_turn : InTurn Ending → InTurn Ending
answer_in_turn ending = record { turn = ending.turn; what = close_back ending.what }

back_in_turn : (turn : ℕ) (endings : List Ending) → at_turn turn (map close_back endings) ≡ map answer_in_turn (at_turn turn endings)
back_in_turn turn [] = refl
back_in_turn turn (ending ∷ endings) = ap (λ (l : List (InTurn Ending)). ending_at turn (close_back ending) ∷ l) (back_in_turn turn endings)

pub end_when_due : (turn : ℕ) (turns : List (List Event)) → by_turn ending_in turn (answered turns) ≡ map answer_in_turn (by_turn ending_in turn turns)
end_when_due turn [] = refl
end_when_due turn (events ∷ turns) =
    ap₂ (λ (x : List Ending) (xs : List (InTurn Ending)). at_turn turn x ++ xs) (end_back events) (end_when_due (turn + 1) turns)
    ∙ (ap (λ (l : List (InTurn Ending)). l ++ map answer_in_turn (by_turn ending_in (turn + 1) turns)) (back_in_turn turn (flat_map ending_in events))
    ∙ sym (map-append answer_in_turn (at_turn turn (flat_map ending_in events)) (by_turn ending_in (turn + 1) turns)))

no_end_in : (events : List Event) → has_end events ≡ false → flat_map ending_in events ≡ []
no_end_in [] e = refl
no_end_in (event.Part ∷ events) e = no_end_in events e
no_end_in (event.Message message ∷ events) e = no_end_in events e
no_end_in (event.Ping payload ∷ events) e = no_end_in events e
no_end_in (event.Pong payload ∷ events) e = no_end_in events e
no_end_in (event.Close close ∷ events) e = absurd cc
no_end_in (event.Failed reason ∷ events) e = absurd cc

one_end_in : (events : List Event) → OnlyLastEnds events → has_end events ≡ true → (ending : Ending) × (flat_map ending_in events ≡ ending ∷ [])
one_end_in [] only e = absurd cc
one_end_in (event.Part ∷ events) only e = one_end_in events only.1 e
one_end_in (event.Message message ∷ events) only e = one_end_in events only.1 e
one_end_in (event.Ping payload ∷ events) only e = one_end_in events only.1 e
one_end_in (event.Pong payload ∷ events) only e = one_end_in events only.1 e
one_end_in (event.Close close ∷ events) only e = (_, ap (λ (l : List Event). flat_map ending_in (event.Close close ∷ l)) (only.0 refl))
one_end_in (event.Failed reason ∷ events) only e = (Failed reason, ap (λ (l : List Event). flat_map ending_in (event.Failed reason ∷ l)) (only.0 refl))

pub end_of_both : (a b : List Event) → has_end (a ++ b) ≡ has_end a || has_end b
end_of_both [] b = refl
end_of_both (event.Part ∷ a) b = end_of_both a b
end_of_both (event.Message message ∷ a) b = end_of_both a b
end_of_both (event.Ping payload ∷ a) b = end_of_both a b
end_of_both (event.Pong payload ∷ a) b = end_of_both a b
end_of_both (event.Close close ∷ a) b = refl
end_of_both (event.Failed reason ∷ a) b = refl

ends_nowhere_by : (b : Bool) (turn : ℕ) (events : List Event) (turns : List (List Event)) → has_end events ≡ b → has_end events || has_end (joined_events turns) ≡ false
    → (has_end (joined_events turns) ≡ false → by_turn ending_in (turn + 1) turns ≡ []) → by_turn ending_in turn (events ∷ turns) ≡ []
ends_nowhere_by true turn events turns ends none later = absurd (let wrong : true ≡ false = sym (ap (λ b. b || has_end (joined_events turns)) ends) ∙ none in cc)
ends_nowhere_by false turn events turns goes none later =
    ap₂ (λ (x : List Ending) (xs : List (InTurn Ending)). at_turn turn x ++ xs) (no_end_in events goes) (later (sym (ap (λ b. b || has_end (joined_events turns)) goes) ∙ none))

pub ends_nowhere : (turn : ℕ) (turns : List (List Event)) → has_end (joined_events turns) ≡ false → by_turn ending_in turn turns ≡ []
ends_nowhere turn [] e = refl
ends_nowhere turn (events ∷ turns) e =
    ends_nowhere_by (has_end events) turn events turns refl (sym (end_of_both events (joined_events turns)) ∙ e) (λ none. ends_nowhere (turn + 1) turns none)

-- the one end of turns whose first has this number
pub record EndsIn (turn : ℕ) (turns : List (List Event)) : Type 0 where
  pub later : ℕ
  pub there : later < length turns
  pub ending : Ending
  pub found : by_turn ending_in turn turns ≡ record { turn = turn + later; what = ending } ∷ []
  pub before : has_end (joined_events (take later turns)) ≡ false
  pub by_then : has_end (joined_events (take (later + 1) turns)) ≡ true

ends_here : (turn : ℕ) (events : List Event) (turns : List (List Event)) → OnlyLastEnds (events ++ joined_events turns) → has_end events ≡ true → EndsIn turn (events ∷ turns)
ends_here turn events turns only ends =
    let one = one_end_in events (only_front events (joined_events turns) only) ends in
    let none : has_end (joined_events turns) ≡ false = ap (λ (l : List Event). has_end l) (end_stops events (joined_events turns) only ends) in
    let same : turn ≡ turn + 0 = omega arith in
    record {
      later = 0;
      there = omega arith;
      ending = one.0;
      found = ap₂ (λ (x : List Ending) (xs : List (InTurn Ending)). at_turn turn x ++ xs) one.1 (ends_nowhere (turn + 1) turns none) ∙ ap (λ (n : ℕ). ending_at n one.0 ∷ []) same;
      before = refl;
      by_then = ap (λ (l : List Event). has_end l) (append-nil events) ∙ ends;
    }

ends_later : (turn : ℕ) (events : List Event) (turns : List (List Event)) → has_end events ≡ false → EndsIn (turn + 1) turns → EndsIn turn (events ∷ turns)
ends_later turn events turns goes tail =
    let same : (turn + 1) + tail.later ≡ turn + (tail.later + 1) = omega arith in
    let next : (tail.later + 1) + 1 ≡ suc (tail.later + 1) = omega arith in
    record {
      later = tail.later + 1;
      there = omega (arith, tail.there);
      ending = tail.ending;
      found = ap₂ (λ (x : List Ending) (xs : List (InTurn Ending)). at_turn turn x ++ xs) (no_end_in events goes) tail.found ∙ ap (λ (n : ℕ). ending_at n tail.ending ∷ []) same;
      before = ap (λ (n : ℕ). has_end (joined_events (take n (events ∷ turns)))) (let e : tail.later + 1 ≡ suc tail.later = omega arith in e)
          ∙ (end_of_both events (joined_events (take tail.later turns)) ∙ (ap (λ b. b || has_end (joined_events (take tail.later turns))) goes ∙ tail.before));
      by_then = ap (λ (n : ℕ). has_end (joined_events (take n (events ∷ turns)))) next
          ∙ (end_of_both events (joined_events (take (tail.later + 1) turns)) ∙ (ap (λ b. b || has_end (joined_events (take (tail.later + 1) turns))) goes ∙ tail.by_then));
    }

ends_by : (b : Bool) (turn : ℕ) (events : List Event) (turns : List (List Event)) → has_end events ≡ b → OnlyLastEnds (events ++ joined_events turns) → has_end events || has_end (joined_events turns) ≡ true
    → (has_end (joined_events turns) ≡ true → EndsIn (turn + 1) turns) → EndsIn turn (events ∷ turns)
ends_by true turn events turns ends only some later = ends_here turn events turns only ends
ends_by false turn events turns goes only some later = ends_later turn events turns goes (later (sym (ap (λ b. b || has_end (joined_events turns)) goes) ∙ some))

pub ends_somewhere : (turn : ℕ) (turns : List (List Event)) → OnlyLastEnds (joined_events turns) → has_end (joined_events turns) ≡ true → EndsIn turn turns
ends_somewhere turn [] only e = absurd cc
ends_somewhere turn (events ∷ turns) only e =
    ends_by (has_end events) turn events turns refl only (sym (end_of_both events (joined_events turns)) ∙ e) (λ some. ends_somewhere (turn + 1) turns (only_back events (joined_events turns) only) some)
