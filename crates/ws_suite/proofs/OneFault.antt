-- A stream has one first fault: its frames before it, its header and its payload are determined, so a close frame's
-- undefined code is.
use Rattle.std.proofs.Common.{◌≡◌, ◌∙◌, ℕ, ◌+◌, ◌/◌, ◌%◌, ◌≤◌, List, get_or, [], ◌∷◌, ◌++◌, length, take, Option, Some, None, ap, sym, refl, subst, arith, append_assoc}
use Rattle.std.proofs.lemmas.List.{length-append}
use Rattle.std.specs.List.{AllByRecursion}
use Rattle.ws_wire.specs.declared.role.Role.{Role}
use Rattle.ws_wire.specs.Header.{HeaderFields, IsHeader, header_bytes}
use Rattle.ws_wire.specs.Masking.{masked_payload}
use Rattle.ws_wire.specs.Frame.{KeyedFrame, FitsTheLayout, frame_bytes, sent_as, stream_bytes}
use Rattle.ws_wire.proofs.Frames.{no_frame_begins, sent_is_wire}
use Rattle.ws_wire.proofs.Headers.{same_header}
use Rattle.ws_wire.proofs.Masks.{length-masked_payload, same_masked_payload}
use Rattle.ws_session.specs.declared.event.Event.{Event}
use Rattle.ws_session.specs.declared.event.Event.TheVariants as event
use Rattle.ws_session.specs.declared.reason.Reason.{Reason}
use Rattle.ws_session.specs.declared.reason.Reason.TheVariants.{CloseCode}
use Rattle.ws_session.specs.Limits.{LimitsValue}
use Rattle.ws_session.specs.Events.{HasEvents, IsFaultOf, events_after, events_of, ending_before, through_close}
use Rattle.ws_session.specs.Faults.{IsFaultAt, IsFirstFault, frames_of}
use Rattle.ws_session.proofs.Faults.{one_fault}
use Rattle.ws_suite.specs.Marks.{FailsByUndefinedCode, HoldsUndefinedCode}

-- ---- frames, and a header with some of its payload

-- some of the payload of a header, as it stands on the wire
abbrev part_bytes : HeaderFields → List ℕ → List ℕ
part_bytes header payload = header_bytes header ++ masked_payload header.key payload

-- it is no more than a frame that begins there: so nothing follows that
not_behind : (h : HeaderFields) (p : List ℕ) (y : KeyedFrame) (g : HeaderFields) (q more : List ℕ) → IsHeader h → length p ≤ h.len → FitsTheLayout y
    → part_bytes h p ≡ frame_bytes y ++ (more ++ part_bytes g q) → ⊥
not_behind h p y g q more is within fits e =
    let tail = more ++ part_bytes g q in
    let z = masked_payload y.key y.frame.payload in
    let s = same_header h (sent_as y).header (masked_payload h.key p) (z ++ tail) is (sent_is_wire y fits).header (e ∙ append_assoc (header_bytes (sent_as y).header) z tail) in
    let len : h.len ≡ length y.frame.payload = ap (λ (t : HeaderFields). t.len) s.0 in
    let sizes : length (masked_payload h.key p) ≡ length z + length tail = ap (λ (l : List ℕ). length l) s.1 ∙ length-append z tail in
    let all : length tail ≡ length more + length (part_bytes g q) = length-append more (part_bytes g q) in
    let some : length (part_bytes g q) ≡ length (header_bytes g) + length (masked_payload g.key q) = length-append (header_bytes g) (masked_payload g.key q) in
    omega (arith, within, len, sizes, all, some, length-masked_payload h.key p, length-masked_payload y.key y.frame.payload)

-- what stands at the end of some bytes: frames, a header, and some of its payload
pub record SameParts (xs ys : List KeyedFrame) (g h : HeaderFields) (p q : List ℕ) : Type 0 where
  pub frames : xs ≡ ys
  pub header : g ≡ h
  pub payload : p ≡ q

pub same_parts_of : (xs ys : List KeyedFrame) (g h : HeaderFields) (p q : List ℕ) → AllByRecursion FitsTheLayout xs → AllByRecursion FitsTheLayout ys → IsHeader g → IsHeader h
    → length p ≤ g.len → length q ≤ h.len → stream_bytes xs ++ part_bytes g p ≡ stream_bytes ys ++ part_bytes h q → SameParts xs ys g h p q
same_parts_of [] [] g h p q fx fy ig ih wp wq e =
    let s = same_header g h (masked_payload g.key p) (masked_payload h.key q) ig ih e in
    record {
      frames = refl;
      header = s.0;
      payload = same_masked_payload h.key p q (ap (λ (t : HeaderFields). masked_payload t.key p) (sym s.0) ∙ s.1);
    }
same_parts_of [] (y ∷ ys) g h p q fx fy ig ih wp wq e =
    absurd (not_behind g p y h q (stream_bytes ys) ig wp fy.0 (e ∙ append_assoc (frame_bytes y) (stream_bytes ys) (part_bytes h q)))
same_parts_of (x ∷ xs) [] g h p q fx fy ig ih wp wq e =
    absurd (not_behind h q x g p (stream_bytes xs) ih wq fx.0 (sym e ∙ append_assoc (frame_bytes x) (stream_bytes xs) (part_bytes g p)))
same_parts_of (x ∷ xs) (y ∷ ys) g h p q fx fy ig ih wp wq e =
    let s = no_frame_begins x y (stream_bytes xs ++ part_bytes g p) (stream_bytes ys ++ part_bytes h q) fx.0 fy.0
    (sym (append_assoc (frame_bytes x) (stream_bytes xs) (part_bytes g p)) ∙ (e ∙ append_assoc (frame_bytes y) (stream_bytes ys) (part_bytes h q))) in
    let later = same_parts_of xs ys g h p q fx.1 fy.1 ig ih wp wq s.1 in
    record { frames = ap (λ (l : List KeyedFrame). x ∷ l) later.frames ∙ ap (λ (z : KeyedFrame). z ∷ ys) s.0; header = later.header; payload = later.payload }

-- ---- a fault

pub same_fault : (role : Role) (limits : LimitsValue) (bytes : List ℕ) (n m : ℕ) (r s : Reason) (a : IsFaultAt role limits bytes n r) (b : IsFaultAt role limits bytes m s) → n ≡ m
    → SameParts a.before b.before a.header b.header a.payload b.payload
same_fault role limits bytes n m r s a b e =
    same_parts_of a.before b.before a.header b.header a.payload b.payload a.sent b.sent a.is_header b.is_header a.within b.within (sym a.parts ∙ (ap (λ k. take k bytes) e ∙ b.parts))

-- ---- an undefined code

one_code_of : (payload : List ℕ) (a b : ℕ) → HoldsUndefinedCode payload a → HoldsUndefinedCode payload b → a ≡ b
one_code_of payload a b p q =
    let same = sym p.1.bytes ∙ q.1.bytes in
    let high : a / 256 ≡ b / 256 = ap (λ (l : List ℕ). get_or l 0 0) same in
    let low : a % 256 ≡ b % 256 = ap (λ (l : List ℕ). get_or l 1 0) same in
    omega (arith, high, low)

pub one_undefined_code : (role : Role) (bytes : List ℕ) (a b : ℕ) → FailsByUndefinedCode role bytes a → FailsByUndefinedCode role bytes b → a ≡ b
one_undefined_code role bytes a b p q =
    let place = one_fault role _ bytes p.place q.place CloseCode CloseCode p.is_first q.is_first in
    let same = same_fault role _ bytes p.place q.place CloseCode CloseCode p.is_first.fault q.is_first.fault place.0 in
    one_code_of q.is_first.fault.payload a b (subst (λ (l : List ℕ). HoldsUndefinedCode l a) same.payload p.holds) q.holds

-- ---- the events of a fault

-- the first fault is told last
pub fault_is_told : (role : Role) (limits : LimitsValue) (bytes : List ℕ) (events : List Event) (place : ℕ) (reason : Reason) → HasEvents role limits bytes events
    → IsFirstFault role limits bytes place reason → (front : List Event) × (events ≡ front ++ event.Failed reason ∷ [])
fault_is_told role limits bytes events place reason h first = pick h.fault h.is_fault h.are
  where
    pick : (fault : Option (ℕ × Reason)) → IsFaultOf role limits bytes fault → events ≡ events_of h.frames fault → (front : List Event) × (events ≡ front ++ event.Failed reason ∷ [])
    pick None none are = absurd (none place reason first.fault)
    pick (Some (other, why)) is are =
        let one = one_fault role limits bytes other place why reason is first in
        let front = events_after [] (frames_of (through_close (ending_before other h.frames))) in
        (front, are ∙ ap (λ (r : Reason). front ++ event.Failed r ∷ []) one.1)
