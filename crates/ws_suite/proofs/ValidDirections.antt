-- Directions of valid frames: what is found in them, turn by turn.
use Rattle.std.proofs.Common.{◌≡◌, ◌∙◌, ℕ, zero, suc, ◌+◌, ◌-◌, ◌<◌, ◌≤◌, nat_le, Bool, true, false, if◌then◌else◌, List, [], ◌∷◌, ◌++◌, length, map, take, drop, flat_map, Option, None, ap, ap₂, sym, refl, subst, arith, append_assoc, append-nil}
use Rattle.std.proofs.lemmas.Bool.Decides.{nat_tests}
use Rattle.std.proofs.lemmas.Grind.{flat_map-append}
use Rattle.std.proofs.lemmas.List.{length-append, length-map, map-append, take_all, take_at}
use Rattle.std.specs.List.{AllByRecursion, concat, last_or}
use Rattle.ws_wire.specs.declared.role.Role.{Role}
use Rattle.ws_wire.specs.Frame.{Frame, KeyedFrame, FitsTheLayout, frame_bytes, stream_bytes}
use Rattle.ws_session.specs.declared.event.Event.{Event}
use Rattle.ws_session.specs.Validity.{AreValidFrames}
use Rattle.ws_session.specs.Faults.{KeysFit, frames_of}
use Rattle.ws_session.specs.Events.{HasEvents, event_of, events_after}
use Rattle.ws_session.specs.Reach.{PassingFrame, ending_within, events_of_fault, reason_within}
use Rattle.ws_session.specs.Sends.{most_limits}
use Rattle.ws_suite.specs.declared.evidence.Reply.{Reply}
use Rattle.ws_suite.specs.declared.evidence.Direction.{Direction}
use Rattle.ws_suite.specs.Evidence.{AreEventsByTurn, HasRest, IsDirectionOf, by_turn, ending_in, joined_events}
use Rattle.ws_suite.specs.InnerCollecting.{FrameLaws}

-- ---- frames by turn

abbrev pub joined_frames : List (List KeyedFrame) → List KeyedFrame
joined_frames turns = flat_map (λ (frames : List KeyedFrame). frames) turns

-- the events of each turn, after these frames
abbrev pub events_by : List Frame → List (List KeyedFrame) → List (List Event)
events_by before [] = []
events_by before (frames ∷ turns) = events_after before (frames_of frames) ∷ events_by (before ++ frames_of frames) turns

pub later_events : (before fs gs : List Frame) → events_after before (fs ++ gs) ≡ events_after before fs ++ events_after (before ++ fs) gs
later_events before [] gs = ap (λ (b : List Frame). events_after b gs) (sym (append-nil before))
later_events before (f ∷ fs) gs =
    ap (λ (l : List Event). event_of before f ∷ l) (later_events (before ++ f ∷ []) fs gs
    ∙ ap (λ (b : List Frame). events_after (before ++ f ∷ []) fs ++ events_after b gs) (append_assoc before (f ∷ []) fs))

pub events_of_turns : (n : ℕ) (before : List Frame) (turns : List (List KeyedFrame)) → joined_events (take n (events_by before turns)) ≡ events_after before (frames_of (joined_frames (take n turns)))
events_of_turns zero before turns = refl
events_of_turns (suc n) before [] = refl
events_of_turns (suc n) before (frames ∷ turns) =
    ap (λ (l : List Event). events_after before (frames_of frames) ++ l) (events_of_turns n (before ++ frames_of frames) turns)
    ∙ (sym (later_events before (frames_of frames) (frames_of (joined_frames (take n turns))))
    ∙ ap (λ (l : List Frame). events_after before l) (sym (map-append (λ (x : KeyedFrame). x.frame) frames (joined_frames (take n turns)))))

pub length-events_by : (before : List Frame) (turns : List (List KeyedFrame)) → length (events_by before turns) ≡ length turns
length-events_by before [] = refl
length-events_by before (frames ∷ turns) = ap suc (length-events_by (before ++ frames_of frames) turns)

length-events_after : (before frames : List Frame) → length (events_after before frames) ≡ length frames
length-events_after before [] = refl
length-events_after before (f ∷ frames) = ap suc (length-events_after (before ++ f ∷ []) frames)

pub bytes_of_turns : (n : ℕ) (turns : List (List KeyedFrame)) → concat (take n (map stream_bytes turns)) ≡ stream_bytes (joined_frames (take n turns))
bytes_of_turns zero turns = refl
bytes_of_turns (suc n) [] = refl
bytes_of_turns (suc n) (frames ∷ turns) =
    ap (λ (l : List ℕ). stream_bytes frames ++ l) (bytes_of_turns n turns) ∙ sym (flat_map-append frame_bytes frames (joined_frames (take n turns)))

frames_parts : (n : ℕ) (turns : List (List KeyedFrame)) → joined_frames turns ≡ joined_frames (take n turns) ++ joined_frames (drop n turns)
frames_parts zero turns = refl
frames_parts (suc n) [] = refl
frames_parts (suc n) (frames ∷ turns) =
    ap (λ (l : List KeyedFrame). frames ++ l) (frames_parts n turns) ∙ sym (append_assoc frames (joined_frames (take n turns)) (joined_frames (drop n turns)))

-- ---- frames within the first bytes

some_bytes : (x : KeyedFrame) → 0 < length (frame_bytes x)
some_bytes x = omega arith

ends_within : (n m : ℕ) (x : KeyedFrame) (xs : List KeyedFrame) → n ≡ length (frame_bytes x) + m → ending_within n (x ∷ xs) ≡ x ∷ ending_within m xs
ends_within n m x xs e =
    let inside : nat_le (length (frame_bytes x)) n ≡ true = grind (arith, nat_tests) in
    let left : n - length (frame_bytes x) ≡ m = omega arith in
    ap₂ (λ (b : Bool) (k : ℕ). if b then x ∷ ending_within k xs else []) inside left

none_within : (xs : List KeyedFrame) → ending_within 0 xs ≡ []
none_within [] = refl
none_within (x ∷ xs) =
    let some = some_bytes x in
    let outside : nat_le (length (frame_bytes x)) 0 ≡ false = grind (arith, nat_tests) in
    ap (λ (b : Bool). if b then x ∷ ending_within (0 - length (frame_bytes x)) xs else []) outside

front_within : (n : ℕ) (front later : List KeyedFrame) → n ≡ length (stream_bytes front) → ending_within n (front ++ later) ≡ front
front_within n [] later e = ap (λ (k : ℕ). ending_within k later) e ∙ none_within later
front_within n (x ∷ front) later e =
    ends_within n (length (stream_bytes front)) x (front ++ later) (e ∙ length-append (frame_bytes x) (stream_bytes front))
    ∙ ap (λ (l : List KeyedFrame). x ∷ l) (front_within (length (stream_bytes front)) front later refl)

fewer_within : (n : ℕ) (xs : List KeyedFrame) → n < length (stream_bytes xs) → length (ending_within n xs) < length xs
fewer_within n [] less = absurd (omega (arith, less))
fewer_within n (x ∷ xs) less = pick (λ m short. fewer_within m xs short) (nat_le (length (frame_bytes x)) n) refl
  where
    pick : ((m : ℕ) → m < length (stream_bytes xs) → length (ending_within m xs) < length xs) → (b : Bool) → nat_le (length (frame_bytes x)) n ≡ b
        → length (if b then x ∷ ending_within (n - length (frame_bytes x)) xs else []) < suc (length xs)
    pick later true e =
        let inside : length (frame_bytes x) ≤ n = grind (arith, nat_tests) in
        let fewer = later (n - length (frame_bytes x)) (omega (arith, less, inside, length-append (frame_bytes x) (stream_bytes xs))) in
        omega (arith, fewer)
    pick later false e = omega arith

-- ---- a direction

module _ (laws : FrameLaws) (role : Role) (turns : List (List KeyedFrame)) (layout : AllByRecursion FitsTheLayout (joined_frames turns))
    (keys : KeysFit role (joined_frames turns)) (valid : AreValidFrames most_limits (frames_of (joined_frames turns))) where
  -- the first bytes have the events of the frames in them
  first_events : (n : ℕ) → HasEvents role most_limits (take n (stream_bytes (joined_frames turns))) (events_after [] (frames_of (ending_within n (joined_frames turns))))
  first_events n =
      let fit = laws.fit most_limits most_limits (joined_frames turns) valid (omega arith) (omega arith) in
      let same = ap₂ (λ (xs : List KeyedFrame) (x : Option PassingFrame). events_after [] (frames_of (ending_within n xs))
      ++ events_of_fault (reason_within n (length (stream_bytes xs)) x)) fit.0 fit.1
      ∙ append-nil (events_after [] (frames_of (ending_within n (joined_frames turns)))) in
      subst (λ (l : List Event). HasEvents role most_limits (take n (stream_bytes (joined_frames turns))) l) same
      (laws.told role most_limits most_limits n (joined_frames turns) layout keys valid)

  turns_so_far : (n : ℕ) → HasEvents role most_limits (concat (take n (map stream_bytes turns))) (joined_events (take n (events_by [] turns)))
  turns_so_far n =
      let front = joined_frames (take n turns) in
      let later = joined_frames (drop n turns) in
      let parts = frames_parts n turns in
      let size = length (stream_bytes front) in
      let bytes : take size (stream_bytes (joined_frames turns)) ≡ concat (take n (map stream_bytes turns)) =
      ap (λ (l : List KeyedFrame). take size (stream_bytes l)) parts
      ∙ (ap (λ (l : List ℕ). take size l) (flat_map-append frame_bytes front later)
      ∙ (take_at (stream_bytes front) (stream_bytes later) size refl ∙ sym (bytes_of_turns n turns))) in
      let events : events_after [] (frames_of (ending_within size (joined_frames turns))) ≡ joined_events (take n (events_by [] turns)) =
      ap (λ (l : List KeyedFrame). events_after [] (frames_of (ending_within size l))) parts
      ∙ (ap (λ (l : List KeyedFrame). events_after [] (frames_of l)) (front_within size front later refl) ∙ sym (events_of_turns n [] turns)) in
      subst (λ (l : List ℕ). HasEvents role most_limits l (joined_events (take n (events_by [] turns)))) bytes
      (subst (λ (l : List Event). HasEvents role most_limits (take size (stream_bytes (joined_frames turns))) l) events (first_events size))

  pub are_by_turn : AreEventsByTurn role (map stream_bytes turns) (events_by [] turns)
  are_by_turn = record {
    each = length-events_by [] turns ∙ sym (length-map turns stream_bytes);
    so_far = λ n less. turns_so_far n;
  }

  pub all_bytes : concat (map stream_bytes turns) ≡ stream_bytes (joined_frames turns)
  all_bytes =
      ap (λ (l : List (List ℕ)). concat l) (sym (take_all (length turns) (map stream_bytes turns) (omega (arith, length-map turns stream_bytes))))
      ∙ (bytes_of_turns (length turns) turns ∙ ap (λ (l : List (List KeyedFrame)). stream_bytes (joined_frames l)) (take_all (length turns) turns (omega arith)))

  all_events : joined_events (events_by [] turns) ≡ events_after [] (frames_of (joined_frames turns))
  all_events =
      ap (λ (l : List (List Event)). joined_events l) (sym (take_all (length turns) (events_by [] turns) (omega (arith, length-events_by [] turns))))
      ∙ (events_of_turns (length turns) [] turns ∙ ap (λ (l : List (List KeyedFrame)). events_after [] (frames_of (joined_frames l))) (take_all (length turns) turns (omega arith)))

  -- no bytes stand after the last frame
  pub no_rest : HasRest role (concat (map stream_bytes turns)) (joined_events (events_by [] turns)) → ⊥
  no_rest rest =
      let all = joined_frames turns in
      let less : rest.n < length (stream_bytes all) = omega (arith, rest.fewer, ap (λ (l : List ℕ). length l) all_bytes) in
      let there : HasEvents role most_limits (take rest.n (stream_bytes all)) (events_after [] (frames_of all)) =
      subst (λ (l : List ℕ). HasEvents role most_limits (take rest.n l) (events_after [] (frames_of all))) all_bytes
      (subst (λ (l : List Event). HasEvents role most_limits (take rest.n (concat (map stream_bytes turns))) l) all_events rest.same) in
      let one = laws.one_list role most_limits (take rest.n (stream_bytes all)) (events_after [] (frames_of all)) (events_after [] (frames_of (ending_within rest.n all))) there (first_events rest.n) in
      omega (
        arith,
        ap (λ (l : List Event). length l) one,
        length-events_after [] (frames_of all),
        length-events_after [] (frames_of (ending_within rest.n all)),
        length-map all (λ (x : KeyedFrame). x.frame),
        length-map (ending_within rest.n all) (λ (x : KeyedFrame). x.frame),
        fewer_within rest.n all less,
      )

  pub valid_direction : (found : Event → List Reply) (direction : Direction) → direction.replies ≡ by_turn found 0 (events_by [] turns)
      → direction.ending ≡ last_or None (by_turn ending_in 0 (events_by [] turns)) → direction.has_rest ≡ false → IsDirectionOf role found (map stream_bytes turns) direction
  valid_direction found direction replies ending none = record {
    events = events_by [] turns;
    are_events = are_by_turn;
    replies = replies;
    ending = ending;
    has_rest = (λ e. absurd (let wrong : false ≡ true = sym none ∙ e in cc), λ rest. absurd (no_rest rest));
  }
