-- HasEvents grow at their end.
use Rattle.std.proofs.Common.{◌≡◌, ℕ, ◌+◌, ◌-◌, ◌<◌, ◌≤◌, List, [], ◌∷◌, ◌++◌, length, take, drop, Option, Some, None, refl, sym, ap, ◌∙◌, append_assoc, arith, inl, inr}
use Rattle.std.proofs.lemmas.Bool.{cases_lt}
use Rattle.std.proofs.lemmas.List.{length-append, append-nil, map-append, take_at, take-append-le, take-append-drop}
use Rattle.ws_wire.specs.declared.role.Role.{Role}
use Rattle.ws_wire.specs.Frame.{Frame, KeyedFrame, FitsTheLayout, frame_bytes, stream_bytes}
use Rattle.ws_wire.specs.Stream.{SplitsInto}
use Rattle.ws_wire.proofs.Frames.{none_begins}
use Rattle.ws_wire.proofs.Splits.{split_is_one}
use Rattle.ws_session.specs.declared.reason.Reason.{Reason}
use Rattle.ws_session.specs.declared.event.Event.{Event}
use Rattle.ws_session.specs.declared.event.Event.TheVariants as event
use Rattle.ws_session.specs.Limits.{LimitsValue}
use Rattle.ws_session.specs.Faults.{frames_of}
use Rattle.ws_session.specs.Events.{event_of, events_after, through_close, ending_before, events_of, IsFaultOf, HasEvents}
use Rattle.ws_session.specs.InnerNextFrame.{AreSent, BeginsNoFrame}
use Rattle.ws_session.proofs.Streams.{goes_on, ending_before_past, ending_before_stops, through_close_more}
use Rattle.ws_session.proofs.Faults.{first_stays, fault_before, one_fault}

-- xs begins ys
abbrev pub IsFront : List Event → List Event → Type 0
IsFront xs ys = (last : List Event) × (ys ≡ xs ++ last)

pub events_after-append : (before fs gs : List Frame) → events_after before (fs ++ gs) ≡ events_after before fs ++ events_after (before ++ fs) gs
events_after-append before [] gs = ap (λ (b : List Frame). events_after b gs) (sym (append-nil before))
events_after-append before (f ∷ fs) gs =
    ap (λ (l : List Event). event_of before f ∷ l) (events_after-append (before ++ f ∷ []) fs gs ∙ ap (λ (b : List Frame). events_after (before ++ f ∷ []) fs ++ events_after b gs) (append_assoc before (f ∷ []) fs))

-- what is events of the frames up to the first close
events_through : List KeyedFrame → List Event
events_through xs = events_after [] (frames_of (through_close xs))

events_through_more : (xs ys : List KeyedFrame) → (last : List Event) × (events_through (xs ++ ys) ≡ events_through xs ++ last)
unfolding events_through
events_through_more xs ys =
    let u = through_close_more xs ys in
    let fs = frames_of (through_close xs) in
    let gs = frames_of u.0 in
    (events_after fs gs, ap (λ (l : List KeyedFrame). events_after [] (frames_of l)) u.1 ∙ ap (λ (l : List Frame). events_after [] l) (map-append (λ (x : KeyedFrame). x.frame) (through_close xs) u.0) ∙ events_after-append [] fs gs)

-- what is events of frames that others follow, before what is events of a fault
front_with_fault : (xs ys zs : List KeyedFrame) (r : Reason) → zs ≡ xs ++ ys → IsFront (events_through xs) (events_through zs ++ event.Failed r ∷ [])
front_with_fault xs ys zs r e =
    let m = events_through_more xs ys in
    (m.0 ++ event.Failed r ∷ [], ap (λ (l : List KeyedFrame). events_through l ++ event.Failed r ∷ []) e ∙ ap (λ (l : List Event). l ++ event.Failed r ∷ []) m.1 ∙ append_assoc (events_through xs) m.0 (event.Failed r ∷ []))

-- a part that two lists begin with
begins : (p rest u t : List ℕ) → length p ≤ length rest → rest ++ u ≡ p ++ t → rest ≡ p ++ drop (length p) rest
begins p rest u t le e =
    let front : take (length p) rest ≡ p = sym (take-append-le (length p) rest u le) ∙ ap (λ (l : List ℕ). take (length p) l) e ∙ take_at p t (length p) refl in
    sym (take-append-drop (length p) rest) ∙ ap (λ (l : List ℕ). l ++ drop (length p) rest) front

-- a frame that goes on behind the rest ends after it
ends_late : (rest u b : List ℕ) (y : KeyedFrame) (ys : List KeyedFrame) → BeginsNoFrame rest → FitsTheLayout y → rest ++ u ≡ stream_bytes (y ∷ ys) ++ b → length rest < length (frame_bytes y)
ends_late rest u b y ys none sent e =
    elim (cases_lt (length rest) (length (frame_bytes y))) [
      | inl lt ↦ lt
      | inr le ↦ absurd (none y (drop (length (frame_bytes y)) rest) sent (begins (frame_bytes y) rest u (stream_bytes ys ++ b) le (e ∙ append_assoc (frame_bytes y) (stream_bytes ys) b)))
    ]

-- the frames that end before a place in a stream are those of more of it
pub ending_before_stays : (n : ℕ) (xs ys : List KeyedFrame) (rest u b : List ℕ) → BeginsNoFrame rest → AreSent ys → rest ++ u ≡ stream_bytes ys ++ b → n ≤ length (stream_bytes xs) + length rest → ending_before n (xs ++ ys) ≡ ending_before n xs
ending_before_stays n xs [] rest u b none sent e le = ap (λ (l : List KeyedFrame). ending_before n l) (append-nil xs)
ending_before_stays n xs (y ∷ ys) rest u b none sent e le =
    let late = ends_late rest u b y ys none sent.0 e in
    let below : n ≤ length (stream_bytes xs) + length (frame_bytes y) = omega arith in
    ending_before_stops n xs y ys below

module _ (role : Role) (limits : LimitsValue) (s u : List ℕ) (xs later : List KeyedFrame) (rest b : List ℕ) (split : SplitsInto s xs rest) (each : AreSent later) (goes : rest ++ u ≡ stream_bytes later ++ b) where
  long : length s ≡ length (stream_bytes xs) + length rest
  long = ap length split.whole ∙ length-append (stream_bytes xs) rest

  grows : (f g : Option (ℕ × Reason)) → IsFaultOf role limits s f → IsFaultOf role limits (s ++ u) g → IsFront (events_of xs f) (events_of (xs ++ later) g)
  unfolding events_through
  grows None None p q = events_through_more xs later
  grows None (Some g) p q =
      let late : length (stream_bytes xs) < g.0 = elim (cases_lt (length s) g.0) [
        | inl lt ↦ omega (arith, long)
        | inr le ↦ absurd (p g.0 g.1 (fault_before role limits s u g.0 g.1 le q.fault))
      ] in
      front_with_fault xs (ending_before (g.0 - length (stream_bytes xs)) later) (ending_before g.0 (xs ++ later)) g.1 (ending_before_past g.0 xs later late)
  grows (Some f) None p q = absurd (q f.0 f.1 (first_stays role limits s u f.0 f.1 p).fault)
  grows (Some f) (Some g) p q =
      let same = one_fault role limits (s ++ u) f.0 g.0 f.1 g.1 (first_stays role limits s u f.0 f.1 p) q in
      let le : f.0 ≤ length (stream_bytes xs) + length rest = omega (arith, long, p.fault.long) in
      let ends : ending_before g.0 (xs ++ later) ≡ ending_before f.0 xs = ap (λ n. ending_before n (xs ++ later)) (sym same.0) ∙ ending_before_stays f.0 xs later rest u b split.left each goes le in
      ([], ap (λ (l : List KeyedFrame). events_through l ++ event.Failed g.1 ∷ []) ends ∙ ap (λ (r : Reason). events_through (ending_before f.0 xs) ++ event.Failed r ∷ []) (sym same.1) ∙ sym (append-nil (events_through (ending_before f.0 xs) ++ event.Failed f.1 ∷ [])))

-- the events of more bytes begin with those of the bytes
pub events_front : (role : Role) (limits : LimitsValue) (s u : List ℕ) (events more : List Event) → HasEvents role limits s events → HasEvents role limits (s ++ u) more → IsFront events more
events_front role limits s u events more p q =
    let same : stream_bytes p.frames ++ (p.rest ++ u) ≡ stream_bytes q.frames ++ q.rest = sym (append_assoc (stream_bytes p.frames) p.rest u) ∙ ap (λ (l : List ℕ). l ++ u) (sym p.split.whole) ∙ q.split.whole in
    let g = goes_on p.frames q.frames (p.rest ++ u) q.rest p.split.each q.split.each q.split.left same in
    let front = grows role limits s u p.frames g.later p.rest q.rest p.split g.sent g.bytes p.fault q.fault p.is_fault q.is_fault in
    (front.0, q.are ∙ ap (λ (l : List KeyedFrame). events_of l q.fault) g.frames ∙ front.1 ∙ ap (λ (l : List Event). l ++ front.0) (sym p.are))

same_telling : (role : Role) (limits : LimitsValue) (s : List ℕ) (xs : List KeyedFrame) (f g : Option (ℕ × Reason)) → IsFaultOf role limits s f → IsFaultOf role limits s g → events_of xs f ≡ events_of xs g
same_telling role limits s xs None None p q = refl
same_telling role limits s xs None (Some g) p q = absurd (p g.0 g.1 q.fault)
same_telling role limits s xs (Some f) None p q = absurd (q f.0 f.1 p.fault)
same_telling role limits s xs (Some f) (Some g) p q =
    let same = one_fault role limits s f.0 g.0 f.1 g.1 p q in
    ap (λ (h : ℕ × Reason). events_of xs (Some h)) (ap (λ n. (n, f.1)) same.0 ∙ ap (λ (r : Reason). (g.0, r)) same.1)

-- a stream has one list of events
pub one_events : (role : Role) (limits : LimitsValue) (s : List ℕ) (events others : List Event) → HasEvents role limits s events → HasEvents role limits s others → events ≡ others
one_events role limits s events others p q =
    let split = split_is_one FitsTheLayout frame_bytes none_begins s p.frames q.frames p.rest q.rest p.split q.split in
    p.are ∙ same_telling role limits s p.frames p.fault q.fault p.is_fault q.is_fault ∙ ap (λ (l : List KeyedFrame). events_of l q.fault) split.0 ∙ sym q.are
