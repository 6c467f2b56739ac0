-- A stream ends in one way: one list of bytes is behind its events, and it has one first fault, which is of one frame.
use Rattle.std.proofs.Common.{◌≡◌, ◌∙◌, ℕ, ◌+◌, ◌<◌, ◌≤◌, ◌↔◌, Bool, List, [], ◌∷◌, ◌++◌, length, take, drop, flat_map}
use Rattle.std.proofs.Common.{Option, Some, None, sym, ap, refl, subst, arith, inl, inr, append_assoc, append-nil}
use Rattle.std.proofs.Common.{get_or}
use Rattle.std.proofs.lemmas.Bool.{cases_lt}
use Rattle.std.proofs.lemmas.List.{length-append, take-append-le}
use Rattle.std.proofs.lemmas.Grind.{flat_map-append}
use Rattle.std.proofs.Math.Seq.{take-append_seam, drop-append_seam}
use Rattle.std.specs.Prelude.{IsTrue, MatchOption, ⊤}
use Rattle.ws_wire.specs.declared.role.Role.{Role}
use Rattle.ws_wire.specs.Header.{AreBytes, HeaderFields, IsHeader, header_bytes}
use Rattle.ws_wire.specs.Masking.{masked_payload}
use Rattle.ws_wire.specs.Frame.{FitsTheLayout, IsWireFrame, KeyedFrame, WireFrame, frame_bytes, stream_bytes}
use Rattle.ws_wire.specs.Frame.{wire_bytes}
use Rattle.ws_wire.specs.Stream.{SplitsIntoAnyForm}
use Rattle.ws_wire.proofs.Frames.{sent_is_wire, wire_told}
use Rattle.ws_wire.proofs.Headers.{same_header, same_parts}
use Rattle.ws_wire.proofs.Masks.{length-masked_payload, same_masked_payload}
use Rattle.ws_wire.proofs.Splits.{some_split}
use Rattle.ws_session.specs.declared.event.Event.{Event}
use Rattle.ws_session.specs.declared.event.Event.TheVariants as event
use Rattle.ws_session.specs.declared.reason.Reason.{Reason}
use Rattle.ws_session.specs.declared.reason.Reason.TheVariants.{CloseCode, ControlLong}
use Rattle.ws_session.specs.Limits.{LimitsValue}
use Rattle.ws_session.specs.Events.{HasEvents, IsFaultOf, events_after, events_of, ending_before, through_close}
use Rattle.ws_session.specs.Faults.{IsFaultAt, IsFirstFault, frames_of}
use Rattle.ws_session.specs.InnerNextFrame.{AreSent, header_of}
use Rattle.ws_session.specs.Sends.{most_limits}
use Rattle.ws_session.proofs.Faults.{one_fault}
use Rattle.ws_session.proofs.Next.{place_is, two_bytes}
use Rattle.ws_session.proofs.Places.{compare_frames, fault_parts}
use Rattle.ws_suite.specs.declared.evidence.Ending.{Ending}
use Rattle.ws_suite.specs.declared.evidence.Ending.TheVariants.{Failed}
use Rattle.ws_suite.specs.declared.evidence.streams.StreamEnd.{StreamEnd}
use Rattle.ws_suite.specs.declared.evidence.streams.StreamEnd.TheVariants as stream
use Rattle.ws_suite.specs.Evidence.{ending_in}
use Rattle.ws_suite.specs.InnerMarks.{EndsSo, fault_of}
use Rattle.ws_suite.specs.Marks.{EndsInFrame, FailsByUndefinedCode, HideFault, HoldsUndefinedCode, IsLate, StandBehind}

-- ---- behind the events

-- the front of one isn't shorter than that of the other
no_shorter : (role : Role) (bytes : List ℕ) (events : List Event) (a b : List ℕ) (p : StandBehind role bytes events a)
    (q : StandBehind role bytes events b) → length p.front < length q.front → ⊥
no_shorter role bytes events a b p q less =
    let n = length p.front in
    let same : take n q.front ≡ p.front = sym (take-append-le n q.front b (omega (arith, less)))
    ∙ ap (λ (l : List ℕ). take n l) (sym q.parts ∙ p.parts) ∙ take-append_seam p.front a in
    q.fewest n less (subst (λ (l : List ℕ). HasEvents role most_limits l events) (sym same) p.same)

-- two numbers of which neither is less are one
neither_less : (n m : ℕ) → (n < m → ⊥) → (m < n → ⊥) → n ≡ m
neither_less n m a b = elim (cases_lt n m) [
  | inl less ↦ absurd (a less)
  | inr up ↦ elim (cases_lt m n) [
    | inl more ↦ absurd (b more)
    | inr down ↦ omega (arith, up, down)
  ]
]

-- what is behind events is one
pub one_behind : (role : Role) (bytes : List ℕ) (events : List Event) (a b : List ℕ) → StandBehind role bytes events a
    → StandBehind role bytes events b → a ≡ b
one_behind role bytes events a b p q =
    let len = neither_less (length p.front) (length q.front) (no_shorter role bytes events a b p q)
    (no_shorter role bytes events b a q p) in
    (same_parts p.front q.front a b len (sym p.parts ∙ q.parts)).1

-- ---- a fault among the events

-- endings with one behind them are some
ends_some : (endings : List Ending) (last : Ending) → endings ++ last ∷ [] ≡ [] → ⊥
ends_some endings last e =
    omega (arith, ap (λ (l : List Ending). length l) e, length-append endings (last ∷ []))

-- the events with a fault end so
fault_ends : (role : Role) (bytes : List ℕ) (frames : List KeyedFrame) (place : ℕ) (reason : Reason)
    → IsFirstFault role most_limits bytes place reason → (fault : Option (ℕ × Reason))
    → IsFaultOf role most_limits bytes fault → flat_map ending_in (events_of frames fault) ≡ [] → ⊥
fault_ends role bytes frames place reason f None none e = none place reason f.fault
fault_ends role bytes frames place reason f (Some fault) is e =
    let told = events_after [] (frames_of (through_close (ending_before fault.0 frames))) in
    ends_some (flat_map ending_in told) (Failed fault.1)
    (sym (flat_map-append ending_in told (event.Failed fault.1 ∷ [])) ∙ e)

-- a stream with a fault has an event that ends it
pub fault_is_among : (role : Role) (bytes : List ℕ) (events : List Event) (place : ℕ) (reason : Reason)
    → HasEvents role most_limits bytes events → IsFirstFault role most_limits bytes place reason
    → flat_map ending_in events ≡ [] → ⊥
fault_is_among role bytes events place reason h f e = fault_ends role bytes h.frames place reason f h.fault h.is_fault
    (ap (λ (l : List Event). flat_map ending_in l) (sym h.are) ∙ e)

-- the stream ends with this fault, if it is one
abbrev IsFaultSo : Role → List ℕ → List Event → ℕ → Option Reason → Type 0
IsFaultSo role bytes events last None = ⊤
IsFaultSo role bytes events last (Some reason) = EndsSo role bytes events (Some (stream.Failed reason)) last

-- the end that is told is the fault of the stream
pub fault_is_told : (role : Role) (bytes : List ℕ) (events : List Event) (o : Option StreamEnd) (last : ℕ)
    → HasEvents role most_limits bytes events → EndsSo role bytes events o last → (place : ℕ) (reason : Reason)
    → IsFirstFault role most_limits bytes place reason → o ≡ Some (stream.Failed reason)
fault_is_told role bytes events None last h ends place reason f =
    absurd (fault_is_among role bytes events place reason h f ends)
fault_is_told role bytes events (Some stream.Closed) last h ends place reason f = absurd (ends.1 reason place f)
fault_is_told role bytes events (Some (stream.Failed other)) last h ends place reason f =
    ap (λ (r : Reason). Some (stream.Failed r))
    (one_fault role most_limits bytes ends.0 place other reason ends.1 f).1

-- so the fault that is told is that of the stream
pub told_fault_is : (role : Role) (bytes : List ℕ) (events : List Event) (o : Option StreamEnd) (last : ℕ)
    → HasEvents role most_limits bytes events → EndsSo role bytes events o last → (place : ℕ) (reason : Reason)
    → IsFirstFault role most_limits bytes place reason → fault_of o ≡ Some reason
told_fault_is role bytes events o last h ends place reason f =
    ap (λ (e : Option StreamEnd). fault_of e) (fault_is_told role bytes events o last h ends place reason f)

-- with a fault that is told the stream ends so
pub ends_with_told_fault : (role : Role) (bytes : List ℕ) (events : List Event) (o : Option StreamEnd) (last : ℕ)
    (reason : Reason) → Some reason ≡ fault_of o → EndsSo role bytes events o last
    → EndsSo role bytes events (Some (stream.Failed reason)) last
ends_with_told_fault role bytes events None last reason e ends = absurd cc
ends_with_told_fault role bytes events (Some stream.Closed) last reason e ends = absurd cc
ends_with_told_fault role bytes events (Some (stream.Failed other)) last reason e ends =
    subst (λ (o : Option Reason). IsFaultSo role bytes events last o) (sym e) ends

-- where no event ends the stream no end is told
pub no_end_is_told : (role : Role) (bytes : List ℕ) (events : List Event) (o : Option StreamEnd) (last : ℕ)
    → HasEvents role most_limits bytes events → EndsSo role bytes events o last → flat_map ending_in events ≡ []
    → o ≡ None
no_end_is_told role bytes events None last h ends e = refl
no_end_is_told role bytes events (Some stream.Closed) last h ends e = absurd (ends.0 e)
no_end_is_told role bytes events (Some (stream.Failed reason)) last h ends e =
    absurd (fault_is_among role bytes events ends.0 reason h ends.1 e)

-- ---- the frame of a fault

-- no whole frame stands in a part of one, with bytes behind it
no_frame_within : (h : HeaderFields) (p : List ℕ) (x : KeyedFrame) (u : List ℕ) → IsHeader h → FitsTheLayout x
    → length p ≤ h.len → 0 < length u → header_bytes h ++ masked_payload h.key p ≡ frame_bytes x ++ u → ⊥
no_frame_within h p x u is sent le some e =
    let body = masked_payload x.key x.frame.payload in
    let s = same_header h (header_of x) (masked_payload h.key p) (body ++ u) is (sent_is_wire x sent).header
    (e ∙ append_assoc (header_bytes (header_of x)) body u) in
    let len : h.len ≡ length x.frame.payload = ap (λ (g : HeaderFields). g.len) s.0 in
    let bytes : length (masked_payload h.key p) ≡ length (body ++ u) = ap (λ (l : List ℕ). length l) s.1 in
    omega (
      arith,
      le,
      some,
      len,
      bytes,
      length-append body u,
      length-masked_payload h.key p,
      length-masked_payload x.key x.frame.payload,
    )

-- nor do some
none_before_part : (more : List KeyedFrame) (h : HeaderFields) (p u : List ℕ) → AreSent more → IsHeader h
    → length p ≤ h.len → 0 < length u → header_bytes h ++ masked_payload h.key p ≡ stream_bytes more ++ u → more ≡ []
none_before_part [] h p u sent is le some e = refl
none_before_part (x ∷ more) h p u sent is le some e =
    absurd (no_frame_within h p x (stream_bytes more ++ u) is sent.0 le
    (omega (arith, some, length-append (stream_bytes more) u))
    (e ∙ append_assoc (frame_bytes x) (stream_bytes more) u))

some_part : (h : HeaderFields) (t : List ℕ) → 0 < length (header_bytes h ++ t)
some_part h t = omega (arith, two_bytes h, length-append (header_bytes h) t)

-- two faults at one place are of one frame, with the same of its payload
module _ (role : Role) (limits : LimitsValue) (bytes : List ℕ) (n m : ℕ) (r q : Reason)
    (f : IsFaultAt role limits bytes n r) (g : IsFaultAt role limits bytes m q) (same : n ≡ m) where
  abbrev part_f : List ℕ
  part_f = header_bytes f.header ++ masked_payload f.header.key f.payload

  abbrev part_g : List ℕ
  part_g = header_bytes g.header ++ masked_payload g.header.key g.payload

  same_bytes : stream_bytes f.before ++ part_f ≡ stream_bytes g.before ++ part_g
  same_bytes = sym f.parts ∙ ap (λ (k : ℕ). take k bytes) same ∙ g.parts

  pub same_before : f.before ≡ g.before
  same_before = elim (compare_frames f.before g.before part_f part_g f.sent g.sent same_bytes) [
    | inl h ↦
        let none = none_before_part h.more f.header f.payload part_g h.sent f.is_header f.within
        (some_part g.header (masked_payload g.header.key g.payload)) h.bytes in
        sym (h.frames ∙ ap (λ (l : List KeyedFrame). f.before ++ l) none ∙ append-nil f.before)
    | inr h ↦ absurd (no_frame_within g.header g.payload h.next (stream_bytes h.more ++ part_f) g.is_header h.is_sent
        g.within (omega (
          arith,
          some_part f.header (masked_payload f.header.key f.payload),
          length-append (stream_bytes h.more) part_f,
        )) h.bytes)
  ]

  pub same_last : length (stream_bytes f.before) ≡ length (stream_bytes g.before)
  same_last = ap (λ (l : List KeyedFrame). length (stream_bytes l)) same_before

  pub same_payload : f.payload ≡ g.payload
  same_payload =
      let part = same_parts (stream_bytes f.before) (stream_bytes g.before) part_f part_g same_last same_bytes in
      let s = same_header f.header g.header (masked_payload f.header.key f.payload)
      (masked_payload g.header.key g.payload) f.is_header g.is_header part.1 in
      same_masked_payload f.header.key f.payload g.payload
      (s.1 ∙ ap (λ (h : HeaderFields). masked_payload h.key g.payload) (sym s.0))

-- ---- a fault that is late

-- the bytes from the frame of the first fault on, with the frames in them, hide the fault where it is late
pub late_hides : (role : Role) (bytes : List ℕ) (place : ℕ) (reason : Reason)
    (f : IsFirstFault role most_limits bytes place reason) (last : ℕ) → length (stream_bytes f.fault.before) ≡ last
    → (late : IsLate role bytes)
    → SplitsIntoAnyForm (drop last bytes) late.frames late.rest × HideFault reason late.frames
late_hides role bytes place reason f last at late =
    let one = one_fault role most_limits bytes place late.place reason late.reason f late.is_first in
    let same = same_last role most_limits bytes place late.place reason late.reason f.fault late.is_first.fault one.0 in
    let start : length (stream_bytes late.is_first.fault.before) ≡ last = sym same ∙ at in (
      subst (λ (n : ℕ). SplitsIntoAnyForm (drop n bytes) late.frames late.rest) start late.split,
      subst (λ (r : Reason). HideFault r late.frames) (sym one.1) late.hidden,
    )

-- it is late where the bytes from its frame on hide it
pub late_is_told : (role : Role) (bytes : List ℕ) (reason : Reason) (last : ℕ) (events : List Event) (late : Bool)
    → AreBytes (drop last bytes) → EndsSo role bytes events (Some (stream.Failed reason)) last
    → ((frames : List WireFrame) (rest : List ℕ) → SplitsIntoAnyForm (drop last bytes) frames rest
    → (IsTrue late ↔ HideFault reason frames)) → (IsTrue late ↔ IsLate role bytes)
late_is_told role bytes reason last events late are (place, f, at) tells =
    let start = sym at in (
      λ yes.
          let s = some_split IsWireFrame wire_bytes wire_told (drop last bytes) are in
          record {
            place = place;
            reason = reason;
            is_first = f;
            frames = s.frames;
            rest = s.rest;
            split = subst (λ (n : ℕ). SplitsIntoAnyForm (drop n bytes) s.frames s.rest) start s.split;
            hidden = (tells s.frames s.rest s.split).0 yes;
          },
      λ is.
          let h = late_hides role bytes place reason f last at is in
          (tells is.frames is.rest h.0).1 h.1,
    )

-- ---- a close with an undefined code

masked_nothing : (key : Option (List ℕ)) → masked_payload key [] ≡ []
masked_nothing None = refl
masked_nothing (Some key) = refl

module _ (role : Role) (bytes : List ℕ) (place : ℕ) (f : IsFirstFault role most_limits bytes place CloseCode) where
  -- what applies there
  applied : (f.fault.header.opcode ≡ 8) × (length f.fault.payload ≡ f.fault.header.len)
  applied = elim f.fault.applies [
    | inl at_header ↦ absurd at_header.1
    | inr in_payload ↦ (in_payload.0, in_payload.1)
  ]

  abbrev head : List ℕ
  head = header_bytes f.fault.header

  abbrev body : List ℕ
  body = masked_payload f.fault.header.key f.fault.payload

  -- the bytes up to the end of the header
  abbrev head_end : ℕ
  head_end = length (stream_bytes f.fault.before) + length head

  place_so : place ≡ length (stream_bytes f.fault.before) + (length head + length f.fault.payload)
  place_so = place_is role most_limits bytes place CloseCode f.fault

  up_to_head : take head_end bytes ≡ stream_bytes f.fault.before ++ (head ++ [])
  up_to_head =
      let front = stream_bytes f.fault.before ++ head in
      let whole : bytes ≡ front ++ (body ++ drop place bytes) =
      fault_parts role most_limits bytes place CloseCode f.fault
      ∙ sym (append_assoc (stream_bytes f.fault.before) head (body ++ drop place bytes)) in
      let len : head_end ≡ length front = sym (length-append (stream_bytes f.fault.before) head) in
      ap (λ (k : ℕ). take k bytes) len ∙ ap (λ (l : List ℕ). take (length front) l) whole
      ∙ take-append_seam front (body ++ drop place bytes)
      ∙ ap (λ (l : List ℕ). stream_bytes f.fault.before ++ l) (sym (append-nil head))

  -- a longer one would be at fault at its header
  long_fault : 125 < f.fault.header.len → IsFaultAt role most_limits bytes head_end ControlLong
  long_fault long = record {
    before = f.fault.before;
    sent = f.fault.sent;
    no_close = f.fault.no_close;
    header = f.fault.header;
    is_header = f.fault.is_header;
    payload = [];
    are_bytes = λ i. omega arith;
    within = omega arith;
    long = omega (arith, place_so, f.fault.long);
    parts = up_to_head ∙ ap (λ (l : List ℕ). stream_bytes f.fault.before ++ (head ++ l))
        (sym (masked_nothing f.fault.header.key));
    applies = inl (refl, ((omega (arith, applied.0), omega (arith, applied.0)), long));
  }

  -- the payload has no more bytes than a control frame may have
  pub code_fault_is_short : length f.fault.payload ≤ 125
  code_fault_is_short = elim (cases_lt 125 (length f.fault.payload)) [
    | inr short ↦ short
    | inl long ↦ elim (f.first head_end ControlLong (long_fault (omega (arith, long, applied.1)))) [
      | inl early ↦ omega (arith, early, place_so)
      | inr at ↦ omega (arith, at.0, place_so, long)
    ]
  ]

  -- the frame at fault
  abbrev pub frame_at_fault : WireFrame
  frame_at_fault = record { header = f.fault.header; payload = f.fault.payload }

  pub is_frame_at_fault : IsWireFrame frame_at_fault
  is_frame_at_fault = record {
    header = f.fault.is_header;
    payload = f.fault.are_bytes;
    len = applied.1;
    small = omega (arith, applied.1, code_fault_is_short);
  }

  -- it stands where the frames before it end
  pub frame_at_last : (last : ℕ) → length (stream_bytes f.fault.before) ≡ last
      → drop last bytes ≡ wire_bytes frame_at_fault ++ drop place bytes
  frame_at_last last at =
      let front = stream_bytes f.fault.before in
      let rest = head ++ (body ++ drop place bytes) in
      ap (λ (n : ℕ). drop n bytes) (sym at)
      ∙ ap (λ (l : List ℕ). drop (length front) l) (fault_parts role most_limits bytes place CloseCode f.fault)
      ∙ drop-append_seam front rest ∙ sym (append_assoc head body (drop place bytes))

  -- whatever code makes the stream fail so stands in it
  pub code_stands_there : (code : ℕ) → FailsByUndefinedCode role bytes code → HoldsUndefinedCode f.fault.payload code
  code_stands_there code fails =
      let one = one_fault role most_limits bytes fails.place place CloseCode CloseCode fails.is_first f in
      let same = same_payload role most_limits bytes fails.place place CloseCode CloseCode fails.is_first.fault f.fault
      one.0 in
      subst (λ (l : List ℕ). HoldsUndefinedCode l code) same fails.holds

  -- what is found in its payload is told of the stream
  pub code_is_told : (o : Option ℕ) → MatchOption o ((code : ℕ) → HoldsUndefinedCode f.fault.payload code → ⊥)
      (HoldsUndefinedCode f.fault.payload)
      → MatchOption o ((code : ℕ) → FailsByUndefinedCode role bytes code → ⊥) (FailsByUndefinedCode role bytes)
  code_is_told None none = λ code fails. none code (code_stands_there code fails)
  code_is_told (Some code) holds = record { place = place; is_first = f; holds = holds }

-- ---- a frame that has come in part

-- a stream has one list of events
abbrev pub HasOneList : Role → List ℕ → Type 0
HasOneList role bytes = (events others : List Event) → HasEvents role most_limits bytes events
    → HasEvents role most_limits bytes others → events ≡ others

-- its first byte is one
pub one_first_byte : (role : Role) (bytes : List ℕ) → HasOneList role bytes → (a b : ℕ) → EndsInFrame role bytes a
    → EndsInFrame role bytes b → a ≡ b
one_first_byte role bytes one_list a b p q =
    let same = one_list p.events q.events p.are_events q.are_events in
    let behind = one_behind role bytes q.events (a ∷ p.more) (b ∷ q.more)
    (subst (λ (l : List Event). StandBehind role bytes l (a ∷ p.more)) same p.behind) q.behind in
    ap (λ (l : List ℕ). get_or l 0 0) behind
