-- What the events of whole frames are: a close ends them, no fault is among them, and a pong is told of each pong.
use Rattle.std.proofs.Common.{◌≡◌, ◌∙◌, ◌||◌, ◌==◌, Bool, true, false, if◌then◌else◌, List, [], ◌∷◌, ◌++◌, ℕ}
use Rattle.std.proofs.Common.{bytes_eq, flat_map, Option, ap, ap₂, refl, arith, inl, inr}
use Rattle.std.proofs.lemmas.Bool.{and_parts, or_cases, or_left, or_right}
use Rattle.std.proofs.lemmas.Bool.Decides.{Decides-eqb, nat_tests}
use Rattle.std.specs.List.{AllByRecursion, list_any}
use Rattle.ws_wire.specs.Frame.{Frame}
use Rattle.ws_wire.proofs.Splits.{all-append}
use Rattle.ws_text.specs.Close.{CloseValue}
use Rattle.ws_session.specs.declared.message.Message.{Message}
use Rattle.ws_session.specs.declared.event.Event.{Event}
use Rattle.ws_session.specs.declared.event.Event.TheVariants as event
use Rattle.ws_session.specs.Events.{close_in, event_of, event_of_control, events_after}
use Rattle.ws_session.specs.Messages.{data_frames, groups_of, is_close, is_control, message_of}
use Rattle.ws_session.specs.Replies.{has_close}
use Rattle.ws_suite.specs.declared.evidence.Ending.{Ending}
use Rattle.ws_suite.specs.Evidence.{ending_in}
use Rattle.ws_suite.specs.Matching.{is_close_ending}
use Rattle.ws_suite.specs.AppFairness.{is_pong_of}
use Rattle.ws_suite.proofs.AnsweredEvents.{has_end, is_end}

-- ---- a close

close_is_control : (f : Frame) → is_close f ≡ true → is_control f ≡ true
close_is_control f e = grind (arith, nat_tests)

module _ (c : Option CloseValue) (p q : List ℕ) (m : Message) where
  -- the event of a frame, by what is asked of it
  abbrev told_by : Bool → Bool → Bool → Bool → Event
  told_by control close ping fin =
      if control then (if close then event.Close c else (if ping then event.Ping p else event.Pong q)) else (if fin then event.Message m else event.Part)

  ends_by : (control close ping fin : Bool) → (close ≡ true → control ≡ true) → is_end (told_by control close ping fin) ≡ close
  ends_by true true ping fin h = refl
  ends_by true false true fin h = refl
  ends_by true false false fin h = refl
  ends_by false true ping fin h = absurd (let wrong : false ≡ true = h refl in cc)
  ends_by false false ping true h = refl
  ends_by false false ping false h = refl

  closes_by : (control close ping fin : Bool) → AllByRecursion (λ (e : Ending). is_close_ending e ≡ true) (ending_in (told_by control close ping fin))
  closes_by true true ping fin = (refl, tt)
  closes_by true false true fin = tt
  closes_by true false false fin = tt
  closes_by false close ping true = tt
  closes_by false close ping false = tt

-- the message that this data frame finishes
abbrev finished_by : List Frame → Frame → Message
finished_by before f = message_of ((groups_of (data_frames before)).unfinished ++ f ∷ [])

end_of_frame : (before : List Frame) (f : Frame) → is_end (event_of before f) ≡ is_close f
end_of_frame before f = ends_by (close_in f.payload) f.payload f.payload (finished_by before f) (is_control f) (is_close f) (f.opcode == 9) f.fin (close_is_control f)

-- events of frames have an end exactly where the frames have a close
pub end_of_frames : (before frames : List Frame) → has_end (events_after before frames) ≡ has_close frames
end_of_frames before [] = refl
end_of_frames before (f ∷ frames) = ap₂ (λ (a b : Bool). a || b) (end_of_frame before f) (end_of_frames (before ++ f ∷ []) frames)

-- and it is a close
pub frames_close : (before frames : List Frame) → AllByRecursion (λ (e : Ending). is_close_ending e ≡ true) (flat_map ending_in (events_after before frames))
frames_close before [] = tt
frames_close before (f ∷ frames) =
    all-append (λ (e : Ending). is_close_ending e ≡ true) (ending_in (event_of before f)) (flat_map ending_in (events_after (before ++ f ∷ []) frames))
    (closes_by (close_in f.payload) f.payload f.payload (finished_by before f) (is_control f) (is_close f) (f.opcode == 9) f.fin)
    (frames_close (before ++ f ∷ []) frames)

-- ---- a pong

-- a pong with this payload
abbrev pub tells_pong : List ℕ → Event → Bool
tells_pong payload (event.Pong other) = bytes_eq payload other
tells_pong payload _ = false

pong_is_told : (before : List Frame) (f : Frame) → f.opcode ≡ 10 → event_of before f ≡ event.Pong f.payload
pong_is_told before f is =
    let control : is_control f ≡ true = grind (arith, nat_tests) in
    let no_close : is_close f ≡ false = grind (arith, nat_tests) in
    let no_ping : (f.opcode == 9) ≡ false = grind (arith, nat_tests) in
    ap (λ b. if b then event_of_control f else (if f.fin then event.Message (finished_by before f) else event.Part)) control
    ∙ (ap (λ b. if b then event.Close (close_in f.payload) else (if f.opcode == 9 then event.Ping f.payload else event.Pong f.payload)) no_close
    ∙ ap (λ b. if b then event.Ping f.payload else event.Pong f.payload) no_ping)

tells_it : (payload : List ℕ) (before : List Frame) (f : Frame) → is_pong_of payload f ≡ true → tells_pong payload (event_of before f) ≡ true
tells_it payload before f e =
    let both = and_parts (f.opcode == 10) (bytes_eq payload f.payload) e in
    ap (λ (x : Event). tells_pong payload x) (pong_is_told before f ((Decides-eqb f.opcode 10).0 both.0)) ∙ both.1

pub pongs_are_told : (payload : List ℕ) (before frames : List Frame) → list_any (is_pong_of payload) frames ≡ true → list_any (tells_pong payload) (events_after before frames) ≡ true
pongs_are_told payload before [] e = e
pongs_are_told payload before (f ∷ frames) e = elim (or_cases (is_pong_of payload f) (list_any (is_pong_of payload) frames) e) [
  | inl here ↦ or_left (tells_pong payload (event_of before f)) (list_any (tells_pong payload) (events_after (before ++ f ∷ []) frames)) (tells_it payload before f here)
  | inr later ↦ or_right (tells_pong payload (event_of before f)) (list_any (tells_pong payload) (events_after (before ++ f ∷ []) frames)) (pongs_are_told payload (before ++ f ∷ []) frames later)
]
