-- What shows a fault: its header at the front of the bytes from its frame on, and the last bytes of its payload.
use Rattle.std.proofs.Common.{◌≡◌, ◌∙◌, ℕ, ◌+◌, ◌-◌, ◌≤◌, ◌<◌, List, [], ◌∷◌, ◌++◌}
use Rattle.std.proofs.Common.{length, take, drop, Option, Some, None, ap, ap₂, sym, refl, subst, inl, inr, arith}
use Rattle.std.proofs.Common.{append_assoc, min}
use Rattle.std.proofs.lemmas.Bool.{cases_lt}
use Rattle.std.proofs.lemmas.List.{drop-append-le, length-append, length-drop, length-take-le, take-append-drop}
use Rattle.std.proofs.lemmas.List.{take-append-le, take_at, take_all}
use Rattle.std.proofs.Math.Nat.{min-eq_left, min-eq_right}
use Rattle.std.proofs.Math.Seq.{drop-append-add, drop-append_seam, take-append-add}
use Rattle.ws_wire.specs.declared.role.Role.{Role}
use Rattle.ws_wire.specs.declared.header.Form.{Form}
use Rattle.ws_wire.specs.declared.header.Form.TheVariants.{Short, Two, Eight}
use Rattle.ws_wire.specs.declared.reading.HeaderRead.{HeaderRead}
use Rattle.ws_wire.specs.Header.{HeaderFields, IsHeader, IsHeaderOf, IsMaskingKey, header_bytes, key_bytes}
use Rattle.ws_wire.specs.Header.{length_bytes}
use Rattle.ws_wire.specs.Frame.{stream_bytes}
use Rattle.ws_wire.specs.Masking.{masked_payload}
use Rattle.ws_wire.specs.Reading.{Begins, BeginsNoHeader}
use Rattle.ws_wire.proofs.Headers.{no_header_begins}
use Rattle.ws_wire.proofs.Masks.{length-masked_payload, masked_twice}
use Rattle.ws_session.specs.declared.event.Event.{Event}
use Rattle.ws_session.specs.declared.reason.Reason.{Reason}
use Rattle.ws_session.specs.Events.{HasEvents, IsFaultOf, events_of}
use Rattle.ws_session.specs.Faults.{HasNoFault, IsFaultAt, IsFirstFault}
use Rattle.ws_session.specs.InnerMasked.{masked_from}
use Rattle.ws_session.specs.Sends.{most_limits}
use Rattle.ws_session.proofs.Faults.{one_fault}
use Rattle.ws_session.proofs.MaskedParts.{masked_after}
use Rattle.ws_session.proofs.Next.{place_is}
use Rattle.ws_session.proofs.Places.{fault_parts}
use Rattle.ws_suite.specs.Found.{last_sixteen}
use Rattle.ws_suite.specs.InnerMarks.{EndsSo, FailsWithByte, IsSeen}
use Rattle.ws_suite.specs.declared.evidence.streams.Seen.{Seen}
use Rattle.ws_suite.specs.declared.evidence.streams.StreamEnd.{StreamEnd}
use Rattle.ws_suite.specs.declared.evidence.streams.StreamEnd.TheVariants as stream
use Rattle.ws_suite.proofs.StreamEndLemmas.{fault_is_among, same_last}

-- ---- the first bytes of a list

-- a list goes on, until so many of it are there
pub put_most : (most : ℕ) (a b : List ℕ) → take most (a ++ b) ≡ take most a ++ take (most - length (take most a)) b
put_most most a b = elim (cases_lt most (length a)) [
  | inl less ↦
      let size = length-take-le most a (omega (arith, less)) in
      let none : most - length (take most a) ≡ 0 = omega (arith, size) in
      take-append-le most a b (omega (arith, less)) ∙ (with_none (take most a)
      ∙ ap (λ (n : ℕ). take most a ++ take n b) (sym none))
  | inr all ↦
      let whole = take_all most a all in
      let n = most - length a in
      let most_is : most ≡ length a + n = omega (arith, all) in
      ap (λ (m : ℕ). take m (a ++ b)) most_is ∙ (take-append-add a b n
      ∙ ap (λ (l : List ℕ). l ++ take (most - length l) b) (sym whole))
]
  where
    with_none : (l : List ℕ) → l ≡ l ++ take 0 b
    with_none [] = refl
    with_none (x ∷ l) = ap (λ (m : List ℕ). x ∷ m) (with_none l)

-- no more are taken than there are
pub take_least : (n m : ℕ) (l : List ℕ) → n ≡ min m (length l) → take n l ≡ take m l
take_least n m l least = elim (cases_lt m (length l)) [
  | inl fewer ↦
      let at_most : m ≤ length l = omega (arith, fewer) in
      ap (λ (k : ℕ). take k l) (least ∙ min-eq_left at_most)
  | inr all ↦
      let same : n ≡ length l = least ∙ min-eq_right all in
      take_all n l (omega (arith, same)) ∙ sym (take_all m l all)
]

-- ---- a header at the front

key_at_most : (key : Option (List ℕ)) → IsMaskingKey key → length (key_bytes key) ≤ 4
key_at_most None is = omega arith
key_at_most (Some key) is = omega (arith, is.0)

length_at_most : (form : Form) (n : ℕ) → length (length_bytes form n) ≤ 8
length_at_most Short n = omega arith
length_at_most Two n = omega arith
length_at_most Eight n = omega arith

-- it has at most fourteen bytes
header_at_most : (h : HeaderFields) → IsHeader h → length (header_bytes h) ≤ 14
header_at_most h is = omega (
  arith,
  length-append (length_bytes h.form h.len) (key_bytes h.key),
  length_at_most h.form h.len,
  key_at_most h.key is.key,
)

-- what is read there is it
pub header_is_read : (bytes : List ℕ) (read : HeaderFields) (used : ℕ) → Begins read used bytes
    → (header : HeaderFields) (more : List ℕ) → IsHeader header → bytes ≡ header_bytes header ++ more
    → (used ≡ length (header_bytes header)) × (read.key ≡ header.key)
header_is_read bytes read used b header more is e =
    let own : IsHeaderOf header (header_bytes header) = record { fields = is; layout = refl } in
    let whole : take used bytes ++ drop used bytes ≡ header_bytes header ++ more = take-append-drop used bytes ∙ e in
    let s = no_header_begins read header (take used bytes) (header_bytes header) (drop used bytes) more b.front own
    whole in
    let size = length-take-le used bytes b.within in
    (omega (arith, size, ap (λ (l : List ℕ). length l) s.1), ap (λ (h : HeaderFields). h.key) s.0)

-- and some header is read
pub header_is_there : (bytes : List ℕ) → BeginsNoHeader bytes → (header : HeaderFields) (more : List ℕ)
    → IsHeader header → bytes ≡ header_bytes header ++ more → ⊥
header_is_there bytes none header more is e =
    none header (header_bytes header) more (record { fields = is; layout = refl }) e

-- ---- what shows a fault

masked_from_twice : (key : Option (List ℕ)) (n : ℕ) (p : List ℕ) → masked_from key n (masked_from key n p) ≡ p
masked_from_twice None n p = refl
masked_from_twice (Some key) n p = masked_twice key n p

module _ (role : Role) (bytes : List ℕ) (place : ℕ) (reason : Reason)
    (f : IsFaultAt role most_limits bytes place reason) (last : ℕ)
    (at : length (stream_bytes f.before) ≡ last) where
  abbrev head : List ℕ
  head = header_bytes f.header

  abbrev body : List ℕ
  body = masked_payload f.header.key f.payload

  abbrev rest : List ℕ
  rest = drop place bytes

  pub place_so : place ≡ last + (length head + length f.payload)
  place_so = place_is role most_limits bytes place reason f ∙ omega (arith, at)

  parts : bytes ≡ stream_bytes f.before ++ (head ++ (body ++ rest))
  parts = fault_parts role most_limits bytes place reason f

  from_frame : drop last bytes ≡ head ++ (body ++ rest)
  from_frame =
      ap₂ (λ (n : ℕ) (l : List ℕ). drop n l) (sym at) parts
      ∙ drop-append_seam (stream_bytes f.before) (head ++ (body ++ rest))

  -- the header is at the front of the first fourteen bytes from its frame on
  pub header_first : take 14 (drop last bytes) ≡ head ++ take (14 - length head) (body ++ rest)
  header_first =
      let n = 14 - length head in
      let all : 14 ≡ length head + n = omega (arith, header_at_most f.header f.is_header) in
      ap₂ (λ (m : ℕ) (l : List ℕ). take m l) all from_frame ∙ take-append-add head (body ++ rest) n

  pub header_cut : (front : List ℕ) (len : ℕ) → front ≡ take 14 (drop last bytes) → len ≡ length head
      → take len front ≡ head
  header_cut front len is size =
      ap (λ (l : List ℕ). take len l) (is ∙ header_first)
      ∙ take_at head (take (14 - length head) (body ++ rest)) len (sym size)

  -- the payload from this one of its bytes on, as it came
  came_from : (n : ℕ) → n ≤ length f.payload → take (length f.payload - n) (drop (last + (length head + n)) bytes)
      ≡ masked_from f.header.key n (drop n f.payload)
  came_from n within =
      let k = f.header.key in
      let size : length body ≡ length f.payload = length-masked_payload k f.payload in
      let front = take n f.payload in
      let back = drop n f.payload in
      let front_size = length-take-le n f.payload within in
      let body_parts : body ≡ masked_payload k front ++ masked_from k n back =
      ap (λ (l : List ℕ). masked_payload k l) (sym (take-append-drop n f.payload)) ∙ (masked_after k front back
      ∙ ap (λ (m : ℕ). masked_payload k front ++ masked_from k m back) front_size) in
      let masked_size = length-masked_payload k front in
      let dropped : drop n body ≡ masked_from k n back =
      ap (λ (l : List ℕ). drop n l) body_parts
      ∙ ap (λ (m : ℕ). drop m (masked_payload k front ++ masked_from k n back))
      (let same : n ≡ length (masked_payload k front) = omega (arith, masked_size, front_size) in same)
      ∙ drop-append_seam (masked_payload k front) (masked_from k n back) in
      let there : drop (last + (length head + n)) bytes ≡ drop n body ++ rest =
      ap₂ (λ (m : ℕ) (l : List ℕ). drop m l) (let same : last + (length head + n) ≡ length (stream_bytes f.before)
      + (length head + n) = omega (arith, at) in same) parts
      ∙ (drop-append-add (stream_bytes f.before) (head ++ (body ++ rest)) (length head + n)
      ∙ (drop-append-add head (body ++ rest) n
      ∙ drop-append-le n body rest (omega (arith, size, within)))) in
      let left : length f.payload - n ≡ length (drop n body) =
      omega (arith, size, length-drop n body) in
      ap (λ (l : List ℕ). take (length f.payload - n) l) there
      ∙ (take_at (drop n body) rest (length f.payload - n) (sym left) ∙ dropped)

  -- so the last bytes of the payload are these, unmasked
  pub last_of_payload : (came new : List ℕ) (skipped from : ℕ) (key : Option (List ℕ))
      → skipped ≡ length f.payload - 16 → from ≡ last + (length head + skipped)
      → came ≡ take (place - from) (drop from bytes) → key ≡ f.header.key → new ≡ masked_from key skipped came
      → new ≡ last_sixteen f.payload
  last_of_payload came new skipped from key s e c k u =
      let within : skipped ≤ length f.payload = omega (arith, s) in
      let count : place - from ≡ length f.payload - skipped = omega (arith, e, place_so, within) in
      let as_came : came ≡ masked_from f.header.key skipped (drop skipped f.payload) =
      c ∙ (ap₂ (λ (n m : ℕ). take n (drop m bytes)) count e ∙ came_from skipped within) in
      u ∙ (ap₂ (λ (o : Option (List ℕ)) (l : List ℕ). masked_from o skipped l) k as_came
      ∙ (masked_from_twice f.header.key skipped (drop skipped f.payload)
      ∙ ap (λ (n : ℕ). drop n f.payload) s))

-- ---- whether there is one

no_fault_by : (role : Role) (bytes : List ℕ) (fault : Option (ℕ × Reason)) → IsFaultOf role most_limits bytes fault
    → ((reason : Reason) (place : ℕ) → IsFirstFault role most_limits bytes place reason → ⊥)
    → HasNoFault role most_limits bytes
no_fault_by role bytes None is none = is
no_fault_by role bytes (Some fault) is none = absurd (none fault.1 fault.0 is)

-- none, where none is told
pub no_fault : (role : Role) (bytes : List ℕ) (events : List Event) → HasEvents role most_limits bytes events
    → ((reason : Reason) (place : ℕ) → IsFirstFault role most_limits bytes place reason → ⊥)
    → HasNoFault role most_limits bytes
no_fault role bytes events h none = no_fault_by role bytes h.fault h.is_fault none

-- the frame of the fault that was seen begins where it says so
pub seen_fault_begins : (role : Role) (bytes : List ℕ) (seen : Seen) (reason : Reason) → IsSeen role bytes seen
    → seen.end ≡ Some (stream.Failed reason)
    → (found : IsFirstFault role most_limits bytes seen.after reason)
    × (length (stream_bytes found.fault.before) ≡ seen.last)
seen_fault_begins role bytes seen reason h is =
    let ends = subst (λ (o : Option StreamEnd). EndsAt o) is h.ends in
    let found = subst (λ (o : Option StreamEnd). FailsAt o) is h.fails in
    let same = (one_fault role most_limits bytes ends.0 seen.after reason reason ends.1 found).0 in (
      found,
      sym (same_last role most_limits bytes ends.0 seen.after reason reason ends.1.fault found.fault same) ∙ ends.2,
    )
  where
    EndsAt : Option StreamEnd → Type 0
    EndsAt o = EndsSo role bytes h.events o seen.last

    FailsAt : Option StreamEnd → Type 0
    FailsAt o = FailsWithByte role bytes o seen.after

-- with a close none is told
pub closed_no_fault : (role : Role) (bytes : List ℕ) (seen : Seen) → IsSeen role bytes seen
    → seen.end ≡ Some stream.Closed → HasNoFault role most_limits bytes
closed_no_fault role bytes seen h is =
    no_fault role bytes h.events h.are_events
    (subst (λ (o : Option StreamEnd). EndsSo role bytes h.events o seen.last) is h.ends).1

-- nor where the stream goes on
pub open_no_fault : (role : Role) (bytes : List ℕ) (seen : Seen) → IsSeen role bytes seen → seen.end ≡ None
    → HasNoFault role most_limits bytes
open_no_fault role bytes seen h is =
    no_fault role bytes h.events h.are_events
    (λ reason place f. fault_is_among role bytes h.events place reason h.are_events f
    (subst (λ (o : Option StreamEnd). EndsSo role bytes h.events o seen.last) is h.ends))
