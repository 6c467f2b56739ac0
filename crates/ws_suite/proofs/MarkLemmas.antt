-- Each mark of a connection can be told: of what was sent, whatever it is; of what was got, where it is whole frames.
use Rattle.std.proofs.Common.{◌≡◌, ◌≢◌, ◌∙◌, ℕ, ◌+◌, ◌↔◌, ◌&&◌, ◌||◌, not, Bool, true, false}
use Rattle.std.proofs.Common.{List, [], ◌∷◌, ◌++◌, length, take, drop, flat_map, Option, Some, None, ap, sym, refl, subst, arith, inl, inr}
use Rattle.std.proofs.Common.{append-nil}
use Rattle.std.proofs.lemmas.Bool.{and_parts, and_from, not-true}
use Rattle.std.proofs.lemmas.List.{length-append, take-append-drop, take_at}
use Rattle.std.specs.List.{concat, last_or, list_any}
use Rattle.ws_wire.specs.declared.role.Role.{Role}
use Rattle.ws_wire.specs.Header.{AreBytes}
use Rattle.ws_wire.specs.Frame.{IsWireFrame, KeyedFrame, WireFrame, stream_bytes, wire_bytes}
use Rattle.ws_wire.specs.Stream.{SplitsIntoAnyForm}
use Rattle.ws_wire.proofs.Frames.{wire_none_begins, wire_told}
use Rattle.ws_wire.proofs.Splits.{SomeSplit, rest_bytes, some_split, split_is_one}
use Rattle.ws_session.specs.declared.event.Event.{Event}
use Rattle.ws_session.specs.declared.reason.Reason.{Reason}
use Rattle.ws_session.specs.declared.reason.Reason.TheVariants.{ReservedBits, Opcode, MaskWrong, NotShortest, BadLength, ControlCut, ControlLong, NothingToContinue, MessageOpen, TooBig, FrameBig, NotText, TextCut, CloseOneByte, CloseCode, CloseReason}
use Rattle.ws_session.specs.Events.{HasEvents, IsFaultOf}
use Rattle.ws_session.specs.Faults.{HasNoFault, IsFirstFault}
use Rattle.ws_session.specs.Sends.{most_limits}
use Rattle.ws_session.proofs.Faults.{one_fault}
use Rattle.ws_scripts.specs.declared.transcript.Transcript.{Transcript}
use Rattle.ws_suite.specs.declared.evidence.marks.Marks.{Marks}
use Rattle.ws_suite.specs.Evidence.{HasRest, got_turns, other_role, sent_turns}
use Rattle.ws_suite.specs.Marks.{AreMarksOf, ArePongsBehind, EndsInDataFrame, EndsInFrame, HasControlsBehind, HasOpenMessage, HideFault, HoldData, IsLate, StandBehind, end_message, is_close_frame, leaves_open}
use Rattle.ws_suite.specs.InnerCollecting.{EventLaws}
use Rattle.ws_suite.proofs.OneFault.{same_fault}

never_so : (P : Type 0) → (P → ⊥) → (false ≡ true) ↔ P
never_so P never = ((λ e. absurd (let wrong : false ≡ true = e in cc)), (λ p. absurd (never p)))

-- ---- messages that came

abbrev pub some_there : List Bool → Bool
some_there [] = false
some_there (x ∷ xs) = true

there_is_some : (xs : List Bool) → xs ≢ [] → some_there xs ≡ true
there_is_some [] some = absurd (some refl)
there_is_some (x ∷ xs) some = refl

none_is_empty : (xs : List Bool) → some_there xs ≡ true → xs ≢ []
none_is_empty [] e = absurd cc
none_is_empty (x ∷ xs) e = λ f. absurd cc

abbrev pub leaves_true : Option Bool → Bool
leaves_true None = false
leaves_true (Some b) = b

is_left_true : (o : Option Bool) → leaves_true o ≡ true → o ≡ Some true
is_left_true None e = absurd cc
is_left_true (Some b) e = ap (λ (c : Bool). Some c) e

module _ (laws : EventLaws) (role : Role) (bytes : List ℕ) (events : List Event) (has : HasEvents role most_limits bytes events) where
  one : (others : List Event) → HasEvents role most_limits bytes others → others ≡ events
  one others h = laws.one_list role most_limits bytes others events h has

  data_if : (some_there (flat_map leaves_open events) ≡ true) ↔ HoldData role bytes
  data_if = (
    (λ e. record { events = events; are_events = has; some = none_is_empty (flat_map leaves_open events) e }),
    (λ d. there_is_some (flat_map leaves_open events) (subst (λ (l : List Event). flat_map leaves_open l ≢ []) (one d.events d.are_events) d.some)),
  )

  -- ---- bytes of which none stand behind the last event

  module _ (whole : HasRest role bytes events → ⊥) where
    not_in_frame : (first : ℕ) → EndsInFrame role bytes first → ⊥
    not_in_frame first h =
        let front = h.behind.front in
        let parts : bytes ≡ front ++ first ∷ h.more = h.behind.parts in
        let size : length bytes ≡ length front + length (first ∷ h.more) = ap (λ (l : List ℕ). length l) parts ∙ length-append front (first ∷ h.more) in
        let cut : take (length front) bytes ≡ front = ap (λ (l : List ℕ). take (length front) l) parts ∙ take_at front (first ∷ h.more) (length front) refl in
        let same : HasEvents role most_limits (take (length front) bytes) events =
        subst (λ (l : List ℕ). HasEvents role most_limits l events) (sym cut) (subst (λ (l : List Event). HasEvents role most_limits front l) (one h.events h.are_events) h.behind.same) in
        whole (record { n = length front; fewer = omega (arith, size); same = same })

    open_if : (leaves_true (last_or None (flat_map leaves_open events)) ≡ true) ↔ HasOpenMessage role bytes
    open_if = (
      (λ e. inl (record { events = events; are_events = has; last_open = is_left_true (last_or None (flat_map leaves_open events)) e })),
      (λ h. leaves h),
    )
      where
        leaves : HasOpenMessage role bytes → leaves_true (last_or None (flat_map leaves_open events)) ≡ true
        leaves (inl h) =
            ap (λ (l : List Event). leaves_true (last_or None (flat_map leaves_open l))) (sym (one h.events h.are_events)) ∙ ap (λ (o : Option Bool). leaves_true o) h.last_open
        leaves (inr h) = absurd (not_in_frame h.0 h.1)

    data_end_if : (false ≡ true) ↔ EndsInDataFrame role bytes
    data_end_if = never_so (EndsInDataFrame role bytes) (λ h. not_in_frame h.0 h.1)

    none_behind : StandBehind role bytes events []
    none_behind = record {
      front = bytes;
      parts = sym (append-nil bytes);
      same = has;
      fewest = λ n less h. whole (record { n = n; fewer = less; same = h });
    }

    no_bytes_split : SplitsIntoAnyForm [] [] []
    no_bytes_split = record { each = tt; whole = refl; left = λ x more is e. absurd cc }

    -- and so no pongs
    pub no_pongs : (turns : List (List ℕ)) → concat turns ≡ bytes → ArePongsBehind role turns []
    no_pongs turns all = record {
      events = events;
      are_events = subst (λ (l : List ℕ). HasEvents role most_limits l events) (sym all) has;
      behind = [];
      stand_behind = subst (λ (l : List ℕ). StandBehind role l events []) (sym all) none_behind;
      frames = [];
      rest = [];
      split = no_bytes_split;
      among = refl;
    }

    controls_if : (true ≡ true) ↔ HasControlsBehind role bytes
    controls_if = (
      (λ e. record {
        events = events;
        are_events = has;
        behind = [];
        stand_behind = none_behind;
        controls = record { frames = []; rest = []; split = no_bytes_split; right = tt; cut = tt };
      }),
      (λ h. refl),
    )

-- ---- a fault that is late

abbrev is_not_text : Reason → Bool
is_not_text ReservedBits = false
is_not_text Opcode = false
is_not_text MaskWrong = false
is_not_text NotShortest = false
is_not_text BadLength = false
is_not_text ControlCut = false
is_not_text ControlLong = false
is_not_text NothingToContinue = false
is_not_text MessageOpen = false
is_not_text TooBig = false
is_not_text NotText = true
is_not_text TextCut = false
is_not_text CloseOneByte = false
is_not_text CloseCode = false
is_not_text CloseReason = false
is_not_text FrameBig = false

not_text_is : (reason : Reason) → is_not_text reason ≡ true → reason ≡ NotText
not_text_is ReservedBits e = absurd cc
not_text_is Opcode e = absurd cc
not_text_is MaskWrong e = absurd cc
not_text_is NotShortest e = absurd cc
not_text_is BadLength e = absurd cc
not_text_is ControlCut e = absurd cc
not_text_is ControlLong e = absurd cc
not_text_is NothingToContinue e = absurd cc
not_text_is MessageOpen e = absurd cc
not_text_is TooBig e = absurd cc
not_text_is NotText e = refl
not_text_is TextCut e = absurd cc
not_text_is CloseOneByte e = absurd cc
not_text_is CloseCode e = absurd cc
not_text_is CloseReason e = absurd cc
not_text_is FrameBig e = absurd cc

-- what is behind the frame at fault doesn't show it
abbrev shows_none : List WireFrame → Bool
shows_none later = not (end_message later) && not (list_any is_close_frame later)

abbrev hides : Reason → List WireFrame → Bool
hides reason [] = true
hides reason (x ∷ later) = is_not_text reason && (not x.header.fin && shows_none later)

hidden_if : (reason : Reason) (frames : List WireFrame) → hides reason frames ≡ true → HideFault reason frames
hidden_if reason [] e = tt
hidden_if reason (x ∷ later) e =
    let first = and_parts (is_not_text reason) (not x.header.fin && shows_none later) e in
    let second = and_parts (not x.header.fin) (shows_none later) first.1 in
    let third = and_parts (not (end_message later)) (not (list_any is_close_frame later)) second.1 in
    (not_text_is reason first.0, not-true x.header.fin second.0, not-true (end_message later) third.0, not-true (list_any is_close_frame later) third.1)

hidden_so : (reason : Reason) (frames : List WireFrame) → HideFault reason frames → hides reason frames ≡ true
hidden_so reason [] h = refl
hidden_so reason (x ∷ later) h =
    and_from (is_not_text reason) (not x.header.fin && shows_none later) (ap (λ (r : Reason). is_not_text r) h.0)
    (and_from (not x.header.fin) (shows_none later) (ap (λ b. not b) h.1)
    (and_from (not (end_message later)) (not (list_any is_close_frame later)) (ap (λ b. not b) h.2) (ap (λ b. not b) h.3)))

module _ (role : Role) (bytes : List ℕ) (are : AreBytes bytes) (place : ℕ) (reason : Reason) (first : IsFirstFault role most_limits bytes place reason) where
  abbrev behind : List KeyedFrame → List ℕ
  behind before = drop (length (stream_bytes before)) bytes

  behind_bytes : AreBytes (behind first.fault.before)
  behind_bytes = rest_bytes bytes (take (length (stream_bytes first.fault.before)) bytes) (behind first.fault.before) (sym (take-append-drop (length (stream_bytes first.fault.before)) bytes)) are

  split : SomeSplit IsWireFrame wire_bytes (behind first.fault.before)
  split = some_split IsWireFrame wire_bytes wire_told (behind first.fault.before) behind_bytes

  late_if : (hides reason split.frames ≡ true) ↔ IsLate role bytes
  late_if = (
    (λ e. record { place = place; reason = reason; is_first = first; frames = split.frames; rest = split.rest; split = split.split; hidden = hidden_if reason split.frames e }),
    (λ late. shown late),
  )
    where
      shown : IsLate role bytes → hides reason split.frames ≡ true
      shown late =
          let one = one_fault role most_limits bytes late.place place late.reason reason late.is_first first in
          let same = same_fault role most_limits bytes late.place place late.reason reason late.is_first.fault first.fault one.0 in
          let there : SplitsIntoAnyForm (behind first.fault.before) late.frames late.rest = subst (λ (l : List KeyedFrame). SplitsIntoAnyForm (behind l) late.frames late.rest) same.frames late.split in
          let frames = split_is_one IsWireFrame wire_bytes wire_none_begins (behind first.fault.before) late.frames split.frames late.rest split.rest there split.split in
          hidden_so reason split.frames (subst (λ (l : List WireFrame). HideFault reason l) frames.0 (subst (λ (r : Reason). HideFault r late.frames) one.1 late.hidden))

-- whether it is late can be told
late_told : (role : Role) (bytes : List ℕ) (events : List Event) → AreBytes bytes → HasEvents role most_limits bytes events → (b : Bool) × ((b ≡ true) ↔ IsLate role bytes)
late_told role bytes events are has = pick has.fault has.is_fault
  where
    pick : (fault : Option (ℕ × Reason)) → IsFaultOf role most_limits bytes fault → (b : Bool) × ((b ≡ true) ↔ IsLate role bytes)
    pick None none = (false, never_so (IsLate role bytes) (λ late. none late.place late.reason late.is_first.fault))
    pick (Some (place, reason)) first = (hides reason (split role bytes are place reason first).frames, late_if role bytes are place reason first)

-- ---- the marks

-- of these events on either side, where what was got is whole frames
abbrev pub marks_of : Bool → List Event → List Event → Marks
marks_of is_late sent got = record {
  sends_data = some_there (flat_map leaves_open sent);
  is_late = is_late;
  is_open = leaves_true (last_or None (flat_map leaves_open got));
  ends_in_data = false;
  has_controls = true;
}

module _ (laws : EventLaws) (tested : Role) (transcript : Transcript) (sent got : List Event) (has_sent : HasEvents tested most_limits (concat (sent_turns transcript.turns)) sent)
    (has_got : HasEvents (other_role tested) most_limits (concat (got_turns transcript.turns)) got) (whole : HasRest (other_role tested) (concat (got_turns transcript.turns)) got → ⊥) where
  marks_so : (is_late : Bool) → ((is_late ≡ true) ↔ IsLate tested (concat (sent_turns transcript.turns))) → AreMarksOf tested transcript (marks_of is_late sent got)
  marks_so is_late late = record {
    sends_data = data_if laws tested (concat (sent_turns transcript.turns)) sent has_sent;
    is_late = late;
    is_open = open_if laws (other_role tested) (concat (got_turns transcript.turns)) got has_got whole;
    ends_in_data = data_end_if laws (other_role tested) (concat (got_turns transcript.turns)) got has_got whole;
    has_controls = controls_if laws (other_role tested) (concat (got_turns transcript.turns)) got has_got whole;
  }

  pub marks_told : AreBytes (concat (sent_turns transcript.turns)) → (marks : Marks) × AreMarksOf tested transcript marks
  marks_told are =
      let late = late_told tested (concat (sent_turns transcript.turns)) sent are has_sent in
      (marks_of late.0 sent got, marks_so late.0 late.1)

  -- where no fault was sent, none was late
  pub faultless_marks : HasNoFault tested most_limits (concat (sent_turns transcript.turns)) → AreMarksOf tested transcript (marks_of false sent got)
  faultless_marks none = marks_so false (never_so (IsLate tested (concat (sent_turns transcript.turns))) (λ late. none late.place late.reason late.is_first.fault))
