-- From what is judged of a header and its payload to what is judged of the frame.
use Rattle.std.proofs.Common.{◌≡◌, ◌≢◌, ℕ, zero, suc, ◌+◌, ◌^◌, ◌<◌, ◌≤◌, ◌⊎◌, Bool, List, [], ◌++◌, length, take, drop, Option, Some, None, refl, sym, ap, ◌∙◌, append_assoc, arith, inl, inr, subst}
use Rattle.std.proofs.lemmas.Bool.{cases_lt, lt-ltb, le-ltb}
use Rattle.std.proofs.lemmas.List.{length-append, take_at, take-append-drop, length-take, length-take-le}
use Rattle.ws_wire.specs.declared.role.Role.{Role}
use Rattle.ws_wire.specs.declared.header.Form.{Form}
use Rattle.ws_wire.specs.declared.header.Form.TheVariants.{Short, Two, Eight}
use Rattle.ws_wire.specs.Header.{HeaderFields, IsMaskingKey, AreBytes, header_bytes, CanHold, shortest_form}
use Rattle.ws_wire.specs.Masking.{masked_payload}
use Rattle.ws_wire.specs.Frame.{KeyedFrame, FitsTheLayout, sent_as, frame_bytes}
use Rattle.ws_wire.proofs.Frames.{sent_is_wire, length-frame_bytes}
use Rattle.ws_wire.proofs.Headers.{same_header}
use Rattle.ws_wire.proofs.Masks.{length-masked_payload, same_masked_payload, take-masked_payload}
use Rattle.ws_session.specs.declared.message.Message.{Message}
use Rattle.ws_session.specs.declared.reason.Reason.{Reason}
use Rattle.ws_session.specs.declared.reason.Reason.TheVariants.{ReservedBits, Opcode, MaskWrong, NotShortest, BadLength, ControlCut, ControlLong, NothingToContinue, MessageOpen, TooBig, FrameBig, NotText, TextCut, CloseOneByte, CloseCode, CloseReason}
use Rattle.ws_session.specs.Limits.{LimitsValue}
use Rattle.ws_session.specs.Faults.{number_of, open_payload, Applies, AppliesInPayload, IsNoLater}
use Rattle.ws_session.specs.InnerNextFrame.{header_of, IsFaultOfNext, HasNoFaultOfNext, IsFirstFaultOfNext, IsPartOfFrame}
use Rattle.std.specs.Prelude.{min}
use Rattle.std.proofs.Common.{add-zero}
use Rattle.std.proofs.lemmas.List.{take_all, take-take}
use Rattle.ws_wire.specs.Header.{key_bytes, length_bytes}
use Rattle.ws_wire.specs.Reading.{Begins, BeginsNoHeader}
use Rattle.ws_wire.proofs.Headers.{header_parts}
use Rattle.ws_wire.proofs.Numbers.{front_bytes}
use Rattle.ws_wire.proofs.Masks.{masked_payload_twice, masked_payload_bytes}
use Rattle.ws_wire.proofs.Splits.{rest_bytes}
use Rattle.ws_wire.proofs.Frames.{no_wire_of_cut_payload, no_wire_without_header}
use Rattle.ws_session.specs.Faults.{IsControl}
use Rattle.ws_session.specs.InnerChecking.{NoneAtHeader, IsFirstAtHeader, NoneInPayload, IsFirstInPayload, frame_with, IsRoomFor}
use Rattle.ws_session.proofs.HeaderReasons.{early_or_big}

pub none_or_some : (opened : Option Message) → (opened ≢ None → ⊥) → opened ≡ None
none_or_some None h = refl
none_or_some (Some m) h = absurd (h (λ e. absurd cc))

pub one_or_two : (n : ℕ) → n ≤ 2 → 1 ≤ n → (n ≡ 1) ⊎ (n ≡ 2)
one_or_two n le one = elim (cases_lt n 2) [ inl lt ↦ inl (omega arith) | inr ge ↦ inr (omega arith) ]

shortest_by : (form : Form) (n : ℕ) → CanHold form n → (((form ≡ Two) × (n < 126)) ⊎ ((form ≡ Eight) × (n < 65536)) → ⊥) → form ≡ shortest_form n
shortest_by Short n fits long = rw (lt-ltb n 126 fits) refl
shortest_by Two n fits long =
    elim (cases_lt n 126) [
      | inl small ↦ absurd (long (inl (refl, small)))
      | inr big ↦ rw (le-ltb n 126 big, lt-ltb n 65536 fits) refl
    ]
shortest_by Eight n fits long =
    elim (cases_lt n 65536) [
      | inl small ↦ absurd (long (inr (refl, small)))
      | inr big ↦ let more : 126 ≤ n = omega arith in rw (le-ltb n 126 more, le-ltb n 65536 big) refl
    ]

key_at_most : (key : Option (List ℕ)) → IsMaskingKey key → length (key_bytes key) ≤ 4
key_at_most None is = omega arith
key_at_most (Some key) is = omega (arith, is.0)

length_at_most : (form : Form) (n : ℕ) → length (length_bytes form n) ≤ 8
length_at_most Short n = omega arith
length_at_most Two n = omega arith
length_at_most Eight n = omega arith

-- a header has at most fourteen bytes
header_at_most : (h : HeaderFields) → IsMaskingKey h.key → length (header_bytes h) ≤ 14
header_at_most h is = omega (arith, length-append (length_bytes h.form h.len) (key_bytes h.key), length_at_most h.form h.len, key_at_most h.key is)

make_fields : Bool → ℕ → ℕ → Option (List ℕ) → ℕ → Form → HeaderFields
make_fields fin rsv opcode key len form = record { fin = fin; rsv = rsv; opcode = opcode; key = key; len = len; form = form }

-- the header h stands at the front of some bytes, and p is the payload behind it as far as it has come
module _ (role : Role) (limits : LimitsValue) (opened : Option Message) (bytes : List ℕ) (h : HeaderFields) (used : ℕ) (b : Begins h used bytes) (p : List ℕ) (is : p ≡ masked_payload h.key (take h.len (drop used bytes))) (are : AreBytes bytes) where
  pub parts : bytes ≡ header_bytes h ++ drop used bytes
  parts = header_parts h used bytes b

  pub size : used ≡ length (header_bytes h)
  size = sym (length-take-le used bytes b.within) ∙ ap (λ (l : List ℕ). length l) b.front.layout

  pub length_p : length p ≡ min h.len (length (drop used bytes))
  length_p = ap (λ (l : List ℕ). length l) is ∙ length-masked_payload h.key (take h.len (drop used bytes)) ∙ length-take h.len (drop used bytes)

  pub within_len : length p ≤ h.len
  within_len = omega (arith, length_p)

  total : length bytes ≡ used + length (drop used bytes)
  total = ap (λ (l : List ℕ). length l) parts ∙ length-append (header_bytes h) (drop used bytes) ∙ ap (λ n. n + length (drop used bytes)) (sym size)

  pub within_bytes : used + length p ≤ length bytes
  within_bytes = omega (arith, total, length_p)

  -- a front of the payload, masked, is a front of what follows the header
  pub masked_back : (n : ℕ) → n ≤ h.len → masked_payload h.key (take n p) ≡ take n (drop used bytes)
  masked_back n le =
      sym (take-masked_payload h.key n p) ∙ ap (λ (l : List ℕ). take n (masked_payload h.key l)) is ∙ ap (λ (l : List ℕ). take n l) (masked_payload_twice h.key (take h.len (drop used bytes))) ∙ take-take n h.len (drop used bytes) le

  pub bytes_p : AreBytes p
  bytes_p = subst (λ (l : List ℕ). AreBytes l) (sym is) (masked_payload_bytes h.key (take h.len (drop used bytes)) b.front.fields.key (front_bytes h.len (drop used bytes) (rest_bytes bytes (header_bytes h) (drop used bytes) parts are)))

  -- what applies to a front of the payload is a fault
  pub to_fault : (n : ℕ) (q : Reason) → n ≤ length p → Applies role limits opened h (take n p) q → IsFaultOfNext role limits opened bytes (used + n) q
  to_fault n q le a =
      let len : n ≤ h.len = omega (arith, within_len) in
      let size_n : length (take n p) ≡ n = length-take-le n p le in
      record {
        header = h;
        is_header = b.front.fields;
        payload = take n p;
        are_bytes = front_bytes n p bytes_p;
        within = omega (arith, size_n);
        rest = drop n (drop used bytes);
        parts = parts ∙ ap (λ (l : List ℕ). header_bytes h ++ l) (sym (take-append-drop n (drop used bytes)) ∙ ap (λ (l : List ℕ). l ++ drop n (drop used bytes)) (sym (masked_back n len)));
        is_place = ap (λ k. k + n) size ∙ ap (λ k. length (header_bytes h) + k) (sym size_n);
        applies = a;
      }

  -- and each fault is such
  pub record AtFront (n : ℕ) (q : Reason) : Type 0 where
    pub count : ℕ
    pub within : count ≤ length p
    pub place : n ≡ used + count
    pub applies : Applies role limits opened h (take count p) q

  pub from_fault : (n : ℕ) (q : Reason) → IsFaultOfNext role limits opened bytes n q → AtFront n q
  from_fault n q f =
      let same = same_header f.header h (masked_payload f.header.key f.payload ++ f.rest) (drop used bytes) f.is_header b.front.fields (sym f.parts ∙ parts) in
      let key : f.header.key ≡ h.key = ap (λ (g : HeaderFields). g.key) same.0 in
      let len : f.header.len ≡ h.len = ap (λ (g : HeaderFields). g.len) same.0 in
      let count = length f.payload in
      let masked_size : length (masked_payload f.header.key f.payload) ≡ count = length-masked_payload f.header.key f.payload in
      let le : count ≤ h.len = omega (arith, f.within, len) in
      let rest_size : length (drop used bytes) ≡ count + length f.rest = ap (λ (l : List ℕ). length l) (sym same.1) ∙ length-append (masked_payload f.header.key f.payload) f.rest ∙ ap (λ k. k + length f.rest) masked_size in
      let fits : count ≤ length p = omega (arith, length_p, rest_size, le) in
      let front : take count (drop used bytes) ≡ masked_payload f.header.key f.payload = ap (λ (l : List ℕ). take count l) (sym same.1) ∙ take_at (masked_payload f.header.key f.payload) f.rest count masked_size in
      let payload : take count p ≡ f.payload = same_masked_payload h.key (take count p) f.payload (masked_back count le ∙ front ∙ ap (λ (k : Option (List ℕ)). masked_payload k f.payload) key) in
      record {
        count = count;
        within = fits;
        place = f.is_place ∙ ap (λ (g : HeaderFields). length (header_bytes g) + count) same.0 ∙ ap (λ k. k + count) (sym size);
        applies = subst (λ (l : List ℕ). Applies role limits opened h l q) (sym payload) (subst (λ (g : HeaderFields). Applies role limits opened g f.payload q) same.0 f.applies);
      }

  -- ---- a fault of the header

  late_number : (q : Reason) → AppliesInPayload opened h [] q → 11 ≤ number_of q
  late_number NotText a = omega arith
  late_number TextCut a = omega arith
  late_number CloseOneByte a = omega arith
  late_number CloseCode a = omega arith
  late_number CloseReason a = omega arith
  late_number ReservedBits a = absurd a
  late_number Opcode a = absurd a
  late_number MaskWrong a = absurd a
  late_number NotShortest a = absurd a
  late_number BadLength a = absurd a
  late_number ControlCut a = absurd a
  late_number ControlLong a = absurd a
  late_number NothingToContinue a = absurd a
  late_number MessageOpen a = absurd a
  late_number TooBig a = absurd a
  late_number FrameBig a = absurd a

  -- no reason of a payload is told where none of it came of a frame that has some
  late_of_some : (q : Reason) → h.opcode ≤ 2 → 0 < h.len → AppliesInPayload opened h [] q → ⊥
  late_of_some NotText le some a = omega (arith, a.1)
  late_of_some TextCut le some a = omega (arith, a.2, some)
  late_of_some CloseOneByte le some a = omega (arith, a.0, le)
  late_of_some CloseCode le some a = omega (arith, a.0, le)
  late_of_some CloseReason le some a = omega (arith, a.0, le)
  late_of_some ReservedBits le some a = a
  late_of_some Opcode le some a = a
  late_of_some MaskWrong le some a = a
  late_of_some NotShortest le some a = a
  late_of_some BadLength le some a = a
  late_of_some ControlCut le some a = a
  late_of_some ControlLong le some a = a
  late_of_some NothingToContinue le some a = a
  late_of_some MessageOpen le some a = a
  late_of_some TooBig le some a = a
  late_of_some FrameBig le some a = a

  header_first_number : (r q : Reason) → (number_of r ≤ 10) ⊎ ((h.opcode ≤ 2) × (limits.max_frame < h.len)) → AppliesInPayload opened h [] q → number_of r ≤ number_of q
  header_first_number r q (inl early) a = omega (arith, late_number q a, early)
  header_first_number r q (inr big) a = absurd (late_of_some q big.0 (omega (arith, big.1)) a)

  header_first : (r : Reason) → IsFirstAtHeader role limits opened h r → (count : ℕ) (q : Reason) → Applies role limits opened h (take count p) q → IsNoLater used r (used + count) q
  header_first r first zero q (inl a) = inr (omega arith, first.first q a.1)
  header_first r first zero q (inr a) = inr (omega arith, header_first_number r q (early_or_big role limits opened h r first.wrong) a)
  header_first r first (suc count) q a = inl (omega arith)

  pub at_header : (r : Reason) → IsFirstAtHeader role limits opened h r → IsFirstFaultOfNext role limits opened bytes used r
  at_header r first = record {
    fault = subst (λ n. IsFaultOfNext role limits opened bytes n r) (add-zero used) (to_fault 0 r (omega arith) (inl (refl, first.wrong)));
    first = λ n q f. let at = from_fault n q f in subst (λ m. IsNoLater used r m q) (sym at.place) (header_first r first at.count q at.applies);
  }

  -- ---- the header is right
  module _ (none : NoneAtHeader role limits opened h) where
    pub is_data : h.opcode < 8 → h.opcode ≤ 2
    is_data lt = elim (cases_lt h.opcode 3) [ inl small ↦ omega arith | inr big ↦ absurd (none Opcode (inl (big, omega arith))) ]

    pub is_control_frame : 8 ≤ h.opcode → IsControl h
    is_control_frame le = elim (cases_lt h.opcode 11) [ inl small ↦ (le, omega arith) | inr big ↦ absurd (none Opcode (inr big)) ]

    pub control_is_short : 8 ≤ h.opcode → h.len ≤ 125
    control_is_short le = elim (cases_lt 125 h.len) [ inl long ↦ absurd (none ControlLong (is_control_frame le, long)) | inr short ↦ short ]

    pub begins_none : h.opcode ≤ 2 → 1 ≤ h.opcode → opened ≡ None
    begins_none le one = none_or_some opened (λ some. none MessageOpen (one_or_two h.opcode le one, some))

    pub goes_on_some : h.opcode ≡ 0 → opened ≡ None → ⊥
    goes_on_some e is_none = none NothingToContinue (e, is_none)

    pub data_fits : h.opcode ≤ 2 → length (open_payload opened) + h.len ≤ limits.max_message
    data_fits le = elim (cases_lt limits.max_message (length (open_payload opened) + h.len)) [ inl big ↦ absurd (none TooBig (le, big)) | inr fits ↦ fits ]

    small_len : h.len < 2 ^ 63
    small_len = elim (cases_lt h.len (2 ^ 63)) [ inl lt ↦ lt | inr big ↦ absurd (none BadLength big) ]

    shortest : h.form ≡ shortest_form h.len
    shortest = shortest_by h.form h.len b.front.fields.len (λ long. none NotShortest long)

    clean_at : (count : ℕ) (q : Reason) → count ≤ length p → NoneInPayload opened h p → Applies role limits opened h (take count p) q → ⊥
    clean_at count q le fine (inl a) = none q a.1
    clean_at count q le fine (inr a) = fine count q le a

    pub clean_by : NoneInPayload opened h p → HasNoFaultOfNext role limits opened bytes
    clean_by fine n q f = let at = from_fault n q f in clean_at at.count q at.within fine at.applies

    -- the payload isn't all there
    pub part_checked : length p < h.len → NoneInPayload opened h p → IsPartOfFrame role limits opened bytes
    part_checked short fine = record {
      clean = clean_by fine;
      none = λ x more can e. no_wire_of_cut_payload bytes h used b (omega (arith, length_p)) (sent_as x) more (sent_is_wire x can) e;
    }

    pub part_room : length p < h.len → IsRoomFor limits opened bytes
    part_room short = record {
      held = λ le.
          let header_size : used ≤ 14 = omega (arith, size, header_at_most h b.front.fields.key) in
          let behind : length (drop used bytes) < h.len = omega (arith, length_p) in
          elim (cases_lt h.opcode 8) [
            | inl lt ↦ omega (arith, total, data_fits (is_data lt))
            | inr ge ↦ omega (arith, total, control_is_short ge)
          ];
    }

    shift_by : (n count : ℕ) (r q : Reason) → IsNoLater n r count q → IsNoLater (used + n) r (used + count) q
    shift_by n count r q (inl lt) = inl (omega arith)
    shift_by n count r q (inr same) = inr (omega (arith, same.0), same.1)

    payload_first : (n : ℕ) (r : Reason) → IsFirstInPayload opened h p n r → (count : ℕ) (q : Reason) → count ≤ length p → Applies role limits opened h (take count p) q → IsNoLater (used + n) r (used + count) q
    payload_first n r first count q le (inl a) = absurd (none q a.1)
    payload_first n r first count q le (inr a) = shift_by n count r q (first.first count q (le, a))

    -- the payload breaks a rule
    pub payload_checked : (n : ℕ) (r : Reason) → IsFirstInPayload opened h p n r → IsFirstFaultOfNext role limits opened bytes (used + n) r
    payload_checked n r first = record {
      fault = to_fault n r first.fault.0 (inr first.fault.1);
      first = λ m q f. let at = from_fault m q f in subst (λ k. IsNoLater (used + n) r k q) (sym at.place) (payload_first n r first at.count q at.within at.applies);
    }

    -- the frame is whole
    arrived : KeyedFrame
    arrived = record { frame = frame_with h p; key = h.key }

    arrived_header : length p ≡ h.len → header_of arrived ≡ h
    unfolding arrived make_fields
    arrived_header whole =
        let form : shortest_form (length p) ≡ h.form = ap (λ n. shortest_form n) whole ∙ sym shortest in
        let same : make_fields h.fin h.rsv h.opcode h.key (length p) (shortest_form (length p)) ≡ make_fields h.fin h.rsv h.opcode h.key h.len h.form = cc in
        same

    -- the bytes as this frame's
    pub whole_can : length p ≡ h.len → FitsTheLayout (record { frame = frame_with h p; key = h.key })
    whole_can whole = record { rsv = b.front.fields.rsv; opcode = b.front.fields.opcode; key = b.front.fields.key; payload = bytes_p; len = omega (arith, small_len) }

    pub whole_front : length p ≡ h.len → bytes ≡ frame_bytes (record { frame = frame_with h p; key = h.key }) ++ drop h.len (drop used bytes)
    unfolding arrived
    whole_front whole =
        let header : header_of arrived ≡ h = arrived_header whole in
        let all : take (length p) p ≡ p = take_all (length p) p (omega arith) in
        let masked_all : masked_payload h.key p ≡ take h.len (drop used bytes) = ap (λ (l : List ℕ). masked_payload h.key l) (sym all) ∙ masked_back (length p) within_len ∙ ap (λ n. take n (drop used bytes)) whole in
        parts ∙ ap (λ (l : List ℕ). header_bytes h ++ l) (sym (take-append-drop h.len (drop used bytes)) ∙ ap (λ (l : List ℕ). l ++ drop h.len (drop used bytes)) (sym masked_all))
        ∙ sym (append_assoc (header_bytes h) (masked_payload h.key p) (drop h.len (drop used bytes))) ∙ ap (λ (g : HeaderFields). (header_bytes g ++ masked_payload h.key p) ++ drop h.len (drop used bytes)) (sym header)

    pub whole_size : (end : ℕ) → length p ≡ h.len → end ≡ used + length p → end ≡ length (frame_bytes (record { frame = frame_with h p; key = h.key }))
    unfolding arrived
    whole_size end whole at_end =
        let header : header_of arrived ≡ h = arrived_header whole in
        at_end ∙ ap (λ n. n + length p) (size ∙ ap (λ (g : HeaderFields). length (header_bytes g)) (sym header)) ∙ sym (length-frame_bytes arrived)

-- no header has come
pub part_of_header : (role : Role) (limits : LimitsValue) (opened : Option Message) (bytes : List ℕ) → BeginsNoHeader bytes → IsPartOfFrame role limits opened bytes
part_of_header role limits opened bytes none = record {
  clean = λ n q f. none f.header (header_bytes f.header) (masked_payload f.header.key f.payload ++ f.rest) (record { fields = f.is_header; layout = refl }) f.parts;
  none = λ x more can e. no_wire_without_header bytes none (sent_as x) more (sent_is_wire x can) e;
}

pub room_for_header : (limits : LimitsValue) (opened : Option Message) (bytes : List ℕ) → length bytes < 14 → IsRoomFor limits opened bytes
room_for_header limits opened bytes short = record { held = λ le. omega arith }
