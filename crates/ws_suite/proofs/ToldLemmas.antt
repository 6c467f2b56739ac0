-- What is told of the fault of a stream, of the frame under way and of its message.
use Rattle.std.proofs.Common.{◌≡◌, ◌∙◌, ℕ, ◌+◌, ◌-◌, ◌<◌, ◌≤◌, ◌↔◌, ◌⊎◌, Bool, true, false, List, []}
use Rattle.std.proofs.Common.{◌∷◌, drop, flat_map, length, Option, Some, None, sym, ap, refl, subst, arith, inl, inr}
use Rattle.std.specs.Prelude.{◌%◌, IsTrue, MatchOption}
use Rattle.std.proofs.lemmas.List.{drop-drop, length-drop}
use Rattle.std.specs.List.{concat, last_or}
use Rattle.ws_wire.specs.declared.opcode.Opcode.{Opcode}
use Rattle.ws_wire.specs.declared.role.Role.{Role}
use Rattle.ws_wire.specs.Opcode.{IsOpcode}
use Rattle.ws_session.specs.declared.event.Event.{Event}
use Rattle.ws_session.specs.declared.reason.Reason.{Reason}
use Rattle.ws_session.specs.declared.reason.Reason.TheVariants.{CloseCode}
use Rattle.ws_session.specs.Faults.{IsFirstFault}
use Rattle.ws_session.specs.Sends.{most_limits}
use Rattle.ws_suite.specs.declared.evidence.streams.StreamEnd.{StreamEnd}
use Rattle.ws_suite.specs.declared.evidence.streams.Streams.{Streams}
use Rattle.ws_scripts.specs.declared.transcript.Transcript.{Transcript}
use Rattle.ws_scripts.specs.declared.transcript.Turn.{Turn}
use Rattle.ws_suite.specs.declared.evidence.marks.Told.{Told}
use Rattle.ws_suite.specs.declared.evidence.streams.Seen.{Seen}
use Rattle.ws_suite.specs.Evidence.{ending_in, got_turns, other_role, sent_turns}
use Rattle.ws_suite.specs.InnerMarks.{AreStreamsOf, EndsSo, HasAllAsked, IsSeen, IsTold, IsToldStream}
use Rattle.ws_suite.specs.InnerMarks.{fault_of, first_asked, first_asked_by, left_open}
use Rattle.ws_suite.specs.Marks.{EndsInFrame, FailsByUndefinedCode, HasOpenMessage, IsLate, LeaveFragments}
use Rattle.ws_suite.specs.Marks.{StandBehind, leaves_open}
use Rattle.ws_suite.proofs.StreamEndLemmas.{HasOneList, no_end_is_told, one_behind, one_first_byte, told_fault_is}

-- ---- the bytes that are asked about

-- what was seen of a stream is told of it
pub told_so : (role : Role) (bytes : List ℕ) (seen : Seen) (told : Told) → IsSeen role bytes seen
    → IsTold seen bytes told → IsToldStream role bytes told
told_so role bytes seen told h t = record {
  is_seen = subst (λ (s : Seen). IsSeen role bytes s) (sym t.0) h;
  asked = t.1 ∙ ap (λ (s : Seen). drop (first_asked s) bytes) (sym t.0);
}

-- of both directions
pub sent_told : (tested : Role) (transcript : Transcript) (streams : Streams) (turns : List Turn) (told : Told)
    → AreStreamsOf tested transcript streams → turns ≡ transcript.turns
    → IsTold streams.sent (concat (sent_turns turns)) told
    → IsToldStream tested (concat (sent_turns transcript.turns)) told
sent_told tested transcript streams turns told h same t =
    told_so tested (concat (sent_turns transcript.turns)) streams.sent told h.sent
    (subst (λ (l : List Turn). IsTold streams.sent (concat (sent_turns l)) told) same t)

pub got_told : (tested : Role) (transcript : Transcript) (streams : Streams) (turns : List Turn) (told : Told)
    → AreStreamsOf tested transcript streams → turns ≡ transcript.turns
    → IsTold streams.got (concat (got_turns turns)) told
    → IsToldStream (other_role tested) (concat (got_turns transcript.turns)) told
got_told tested transcript streams turns told h same t =
    told_so (other_role tested) (concat (got_turns transcript.turns)) streams.got told h.got
    (subst (λ (l : List Turn). IsTold streams.got (concat (got_turns l)) told) same t)

asked_early : (end : Option StreamEnd) (last after : ℕ) → last ≤ after → first_asked_by end last after ≤ after
asked_early None last after le = omega arith
asked_early (Some end) last after le = le

-- of a fault they begin with its frame
pub asked_of_fault : (end : Option StreamEnd) (last after : ℕ) (reason : Reason) → Some reason ≡ fault_of end
    → first_asked_by end last after ≡ last
asked_of_fault None last after reason is = absurd cc
asked_of_fault (Some end) last after reason is = refl

module _ (role : Role) (bytes : List ℕ) (told : Told) (h : IsToldStream role bytes told) where
  early : first_asked told.seen ≤ told.seen.after
  early = asked_early told.seen.end told.seen.last told.seen.after h.is_seen.order

  -- the bytes behind the last event are among them
  pub all_asked : HasAllAsked told
  all_asked =
      let size = ap (λ (l : List ℕ). length l) h.asked ∙ length-drop (first_asked told.seen) bytes in
      (early, omega (arith, size, h.is_seen.within, early))

  pub behind_told : drop (told.seen.after - first_asked told.seen) told.bytes.items ≡ drop told.seen.after bytes
  behind_told =
      let first = first_asked told.seen in
      let passed = told.seen.after - first in
      let place : first + passed ≡ told.seen.after = omega (arith, early) in
      ap (λ (l : List ℕ). drop passed l) h.asked ∙ drop-drop passed first bytes
      ∙ ap (λ (n : ℕ). drop n bytes) place

-- ---- what is seen

module _ (role : Role) (given : List ℕ) (seen : Seen) (h : IsSeen role given seen) where
  module _ (one_list : HasOneList role given) where
    -- none is where the stream has ended
    pub none_at_end : (end : StreamEnd) → seen.end ≡ Some end → (first : ℕ) → EndsInFrame role given first → ⊥
    none_at_end end is first inside =
        let same = one_list inside.events h.events inside.are_events h.are_events in
        let goes_on = subst (λ (l : List Event). flat_map ending_in l ≡ []) same inside.goes_on in
        let none = no_end_is_told role given h.events seen.end seen.last h.are_events h.ends goes_on in
        absurd (let wrong : Some end ≡ None = sym is ∙ none in cc)

    -- nor where nothing is behind the events
    pub none_behind : length (drop seen.after given) < 1 → (first : ℕ) → EndsInFrame role given first → ⊥
    none_behind empty first inside =
        let same = one_list inside.events h.events inside.are_events h.are_events in
        let behind = one_behind role given h.events (first ∷ inside.more) (drop seen.after given)
        (subst (λ (l : List Event). StandBehind role given l (first ∷ inside.more)) same inside.behind) h.behind in
        omega (arith, ap (λ (l : List ℕ). length l) behind, empty)

    -- one is where the stream goes on and bytes are behind them
    pub first_behind : seen.end ≡ None → (first : ℕ) (more : List ℕ) → first ∷ more ≡ drop seen.after given
        → EndsInFrame role given first
    first_behind going first more is = record {
      events = h.events;
      are_events = h.are_events;
      goes_on = subst (λ (o : Option StreamEnd). EndsSo role given h.events o seen.last) going h.ends;
      more = more;
      behind = subst (λ (l : List ℕ). StandBehind role given h.events l) (sym is) h.behind;
    }

    -- fragments of a message are left where it has begun
    pub fragments_seen : (left_open seen.frame ≡ Some true) ↔ LeaveFragments role given
    fragments_seen = (
      λ so. record { events = h.events; are_events = h.are_events; last_open = sym h.left ∙ so },
      λ left. h.left ∙ subst (λ (l : List Event). last_or None (flat_map leaves_open l) ≡ Some true)
          (one_list left.events h.events left.are_events h.are_events) left.last_open,
    )

    -- a message is open where fragments are left, or the frame under way begins one
    pub open_by_frame : (left_open seen.frame ≡ Some true → ⊥) → (begins : Bool) → (IsTrue begins
        ↔ ((first : ℕ) × EndsInFrame role given first × ((first % 16 ≡ 1) ⊎ (first % 16 ≡ 2))))
        → (IsTrue begins ↔ HasOpenMessage role given)
    open_by_frame none begins tells = (
      λ so. inr (tells.0 so),
      λ h. elim h [
        | inl left ↦ absurd (none (fragments_seen.1 left))
        | inr frame ↦ tells.1 frame
      ],
    )

-- ---- its fault

-- the reason, or this one
abbrev reason_or : Option Reason → Reason → Reason
reason_or None other = other
reason_or (Some reason) other = reason

module _ (role : Role) (given : List ℕ) (seen : Seen) (h : IsSeen role given seen) where
  -- the reason that is told is that of the first fault
  reason_is : (place : ℕ) (reason : Reason) → IsFirstFault role most_limits given place reason
      → fault_of seen.end ≡ Some reason
  reason_is place reason f =
      told_fault_is role given h.events seen.end seen.last h.are_events h.ends place reason f

  -- without a fault it isn't late
  pub never_late : None ≡ fault_of seen.end → (IsTrue false ↔ IsLate role given)
  never_late none = (
    λ so. absurd (let wrong : false ≡ true = so in cc),
    λ late. absurd (let wrong : None ≡ Some late.reason = none ∙ reason_is late.place late.reason late.is_first in cc),
  )

  -- nor has it an undefined code
  pub never_undefined : None ≡ fault_of seen.end → (code : ℕ) → FailsByUndefinedCode role given code → ⊥
  never_undefined none code fails =
      absurd (let wrong : None ≡ Some CloseCode = none ∙ reason_is fails.place CloseCode fails.is_first in cc)

  -- with another fault it has none either
  pub no_code_of_another : (reason : Reason) → Some reason ≡ fault_of seen.end → (reason ≡ CloseCode → ⊥)
      → (code : ℕ) → FailsByUndefinedCode role given code → ⊥
  no_code_of_another reason is other code fails =
      other (ap (λ (o : Option Reason). reason_or o reason) (is ∙ reason_is fails.place CloseCode fails.is_first))

-- ---- the frame under way

-- what that frame is, if there is one
abbrev pub IsFrameUnderWay : Role → List ℕ → Option Opcode → Type 0
IsFrameUnderWay role bytes kind = MatchOption kind ((first : ℕ) → EndsInFrame role bytes first → ⊥)
    (λ (k : Opcode). (first : ℕ) × EndsInFrame role bytes first × IsOpcode k (first % 16))

-- what is asked of its opcode
pub asked_of_frame : (role : Role) (bytes : List ℕ) → HasOneList role bytes
    → (Asked : ℕ → Type 0) (kind : Option Opcode) (answer : Bool) → IsFrameUnderWay role bytes kind
    → (kind ≡ None → answer ≡ false)
    → ((k : Opcode) (number : ℕ) → kind ≡ Some k → IsOpcode k number → (IsTrue answer ↔ Asked number))
    → (IsTrue answer ↔ ((first : ℕ) × EndsInFrame role bytes first × Asked (first % 16)))
asked_of_frame role bytes one_list Asked None answer told none some = (
  λ is. absurd (let wrong : false ≡ true = sym (none refl) ∙ is in cc),
  λ h. absurd (told h.0 h.1),
)
asked_of_frame role bytes one_list Asked (Some k) answer (first, inside, is_kind) none some =
    let tells = some k (first % 16) refl is_kind in (
      λ is. (first, inside, tells.0 is),
      λ h.
          let same = one_first_byte role bytes one_list h.0 first h.1 inside in
          tells.1 (subst (λ (n : ℕ). Asked (n % 16)) same h.2),
    )
