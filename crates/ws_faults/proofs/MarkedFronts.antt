-- The frame that is marked begins behind the whole frames of the bytes without a fault in a payload, and stays marked.
use Rattle.std.proofs.Common.{◌≡◌, ◌∙◌, ◌<◌, ◌≤◌, ◌+◌, ◌++◌, ℕ, List, [], ◌∷◌, length, ap, sym, arith, inl, inr, true}
use Rattle.std.proofs.Common.{append_assoc, false, None, Some}
use Rattle.std.proofs.lemmas.Bool.{cases_lt}
use Rattle.std.proofs.lemmas.List.{length-append, take-append-le}
use Rattle.std.specs.List.{AllByRecursion, flat_map}
use Rattle.ws_wire.specs.declared.role.Role.{Role}
use Rattle.ws_wire.specs.Frame.{FitsTheLayout, IsWireFrame, KeyedFrame, WireFrame, frame_bytes, sent_as, stream_bytes}
use Rattle.ws_wire.specs.Frame.{wire_bytes}
use Rattle.ws_wire.specs.Header.{HeaderFields, IsHeader, header_bytes}
use Rattle.ws_wire.specs.Masking.{masked_payload}
use Rattle.ws_wire.specs.Stream.{SplitsIntoAnyForm}
use Rattle.ws_wire.proofs.Frames.{no_wire_begins, sent_is_wire}
use Rattle.ws_wire.proofs.Headers.{same_header}
use Rattle.ws_wire.proofs.Masks.{length-masked_payload}
use Rattle.ws_session.specs.declared.reason.Reason.{Reason}
use Rattle.ws_session.specs.Limits.{LimitsValue}
use Rattle.ws_session.specs.Faults.{IsFaultAt, IsFirstFault}
use Rattle.ws_session.specs.Sends.{most_limits}
use Rattle.ws_session.proofs.Faults.{fault_before, fault_later, first_stays}
use Rattle.ws_session.proofs.Next.{place_is}
use Rattle.ws_session.proofs.Places.{fault_parts}
use Rattle.ws_faults.specs.PayloadFaults.{IsMarkOf}

-- ---- frames that go past others

length_of_wire : (f : WireFrame) → IsWireFrame f
    → length (wire_bytes f) ≡ length (header_bytes f.header) + f.header.len
length_of_wire f is =
    omega (
      arith,
      length-append (header_bytes f.header) (masked_payload f.header.key f.payload),
      length-masked_payload f.header.key f.payload,
      is.len,
    )

-- where whole frames go on behind others, the header that stands behind these is that of a whole frame
goes_past : (before : List KeyedFrame) (frames : List WireFrame) (h : HeaderFields) (x y : List ℕ)
    → AllByRecursion FitsTheLayout before → AllByRecursion IsWireFrame frames → IsHeader h
    → flat_map wire_bytes frames ++ x ≡ stream_bytes before ++ (header_bytes h ++ y)
    → length (stream_bytes before) < length (flat_map wire_bytes frames)
    → length (stream_bytes before) + (length (header_bytes h) + h.len) ≤ length (flat_map wire_bytes frames)
goes_past before [] h x y fit are is e less = absurd (omega (arith, less))
goes_past [] (f ∷ frames) h x y fit are is e less =
    let rest = flat_map wire_bytes frames in
    let body = masked_payload f.header.key f.payload in
    let at : header_bytes f.header ++ (body ++ (rest ++ x)) ≡ header_bytes h ++ y =
    sym (append_assoc (wire_bytes f) rest x ∙ append_assoc (header_bytes f.header) body (rest ++ x)) ∙ e in
    let one = (same_header f.header h (body ++ (rest ++ x)) y are.0.header is at).0 in
    let head = ap (λ (g : HeaderFields). length (header_bytes g)) one in
    let len = ap (λ (g : HeaderFields). g.len) one in
    omega (arith, head, len, length_of_wire f are.0, length-append (wire_bytes f) rest)
goes_past (b ∷ before) (f ∷ frames) h x y fit are is e less =
    let rest = flat_map wire_bytes frames in
    let later = stream_bytes before in
    let at : wire_bytes f ++ (rest ++ x) ≡ wire_bytes (sent_as b) ++ (later ++ (header_bytes h ++ y)) =
    sym (append_assoc (wire_bytes f) rest x) ∙ e ∙ append_assoc (frame_bytes b) later (header_bytes h ++ y) in
    let one = no_wire_begins f (sent_as b) (rest ++ x) (later ++ (header_bytes h ++ y)) are.0 (sent_is_wire b fit.0)
    at in
    let len = ap (λ (g : WireFrame). length (wire_bytes g)) one.0 in
    let front = length-append (wire_bytes f) rest in
    let other = length-append (frame_bytes b) later in
    omega (
      arith,
      len,
      front,
      other,
      goes_past before frames h x y fit.1 are.1 is one.1 (omega (arith, len, front, other, less)),
    )

-- ---- in front of a fault

module _ (role : Role) (limits : LimitsValue) (bytes more : List ℕ) (place : ℕ) (reason : Reason) where
  -- the whole frames of bytes before the place of a fault end in front of its frame
  pub ends_before_fault : (f : IsFaultAt role limits (bytes ++ more) place reason) → length bytes < place
      → (frames : List WireFrame) (rest : List ℕ) → SplitsIntoAnyForm bytes frames rest
      → length (flat_map wire_bytes frames) ≤ length (stream_bytes f.before)
  ends_before_fault f late frames rest s = elim (cases_lt (length (stream_bytes f.before))
      (length (flat_map wire_bytes frames))) [
        | inr le ↦ le
        | inl past ↦ absurd (
            let front = flat_map wire_bytes frames in
            let all : front ++ (rest ++ more) ≡ bytes ++ more =
            sym (append_assoc front rest more) ∙ ap (λ (l : List ℕ). l ++ more) (sym s.whole) in
            let parts = fault_parts role limits (bytes ++ more) place reason f in
            let within = goes_past f.before frames f.header (rest ++ more) _ f.sent s.each f.is_header (all ∙ parts) past in
            omega (
              arith,
              within,
              late,
              f.within,
              place_is role limits (bytes ++ more) place reason f,
              ap (λ (l : List ℕ). length l) s.whole,
              length-append front rest,
            )
            )
      ]

  -- a fault within the first bytes is the first one of them
  pub first_of_front : place ≤ length bytes → IsFirstFault role limits (bytes ++ more) place reason
      → IsFirstFault role limits bytes place reason
  first_of_front early f = record {
    fault = fault_before role limits bytes more place reason early f.fault;
    first = λ m q g. f.first m q (fault_later role limits bytes more m q g);
  }

-- ---- marks

pub mark_ahead : (role : Role) (bytes more : List ℕ) (place : ℕ) → IsMarkOf role bytes None
    → IsMarkOf role (bytes ++ more) (Some place) → (frames : List WireFrame) (rest : List ℕ)
    → SplitsIntoAnyForm bytes frames rest → length (flat_map wire_bytes frames) ≤ place
mark_ahead role bytes more place none marked frames rest s = elim (cases_lt (length bytes) marked.told_at) [
  | inl late ↦
      let ends = ends_before_fault role most_limits bytes more marked.told_at marked.reason marked.is_first.fault late
      frames rest s in omega (arith, ends, marked.begins)
  | inr early ↦
      let first = first_of_front role most_limits bytes more marked.told_at marked.reason early marked.is_first in
      absurd (let wrong : true ≡ false = sym marked.of_payload ∙ none marked.told_at marked.reason first in cc)
]

pub mark_with_more : (role : Role) (bytes more : List ℕ) (place : ℕ) → IsMarkOf role bytes (Some place)
    → IsMarkOf role (bytes ++ more) (Some place)
mark_with_more role bytes more place marked =
    let f = marked.is_first.fault in
    let n = marked.told_at in
    record {
      told_at = n;
      reason = marked.reason;
      is_first = record {
        fault = record {
          before = f.before;
          sent = f.sent;
          no_close = f.no_close;
          header = f.header;
          is_header = f.is_header;
          payload = f.payload;
          are_bytes = f.are_bytes;
          within = f.within;
          long = omega (arith, f.long, length-append bytes more);
          parts = take-append-le n bytes more f.long ∙ f.parts;
          applies = f.applies;
        };
        first = (first_stays role most_limits bytes more n marked.reason marked.is_first).first;
      };
      of_payload = marked.of_payload;
      begins = marked.begins;
    }
