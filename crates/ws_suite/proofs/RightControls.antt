-- A control frame breaks no rule where its header is in order, it is short, and what a close says may be said.
use Rattle.std.proofs.Common.{◌≡◌, ◌∙◌, ℕ, ◌<◌, ◌≤◌, ◌⊎◌, ◌^◌, Bool, true, false, List, length, take, None, ap, arith}
use Rattle.std.proofs.Common.{inl, inr, refl, subst, sym}
use Rattle.std.proofs.lemmas.Bool.{cases_eq, cases_lt, false_from_ne_true, lt-ltb, true_from_ne_false}
use Rattle.std.proofs.lemmas.List.{length-take-le, take_all}
use Rattle.std.specs.Prelude.{nat_lt}
use Rattle.ws_wire.specs.declared.header.Form.{Form}
use Rattle.ws_wire.specs.declared.header.Form.TheVariants.{Short, Two, Eight}
use Rattle.ws_wire.specs.declared.role.Role.{Role}
use Rattle.ws_wire.specs.Frame.{IsWireFrame, WireFrame}
use Rattle.ws_wire.specs.Header.{CanHold, HeaderFields, extra_bytes, is_longer_than_needed, is_masked, shortest_form}
use Rattle.ws_wire.specs.Masking.{masked_payload}
use Rattle.ws_wire.proofs.Frames.{shortest_holds, shortest_is_least}
use Rattle.ws_wire.proofs.Masks.{length-masked_payload}
use Rattle.ws_session.specs.declared.reason.Reason.{Reason}
use Rattle.ws_session.specs.declared.reason.Reason.TheVariants.{ReservedBits, Opcode, MaskWrong, NotShortest, BadLength}
use Rattle.ws_session.specs.declared.reason.Reason.TheVariants.{ControlCut, ControlLong, NothingToContinue, MessageOpen}
use Rattle.ws_session.specs.declared.reason.Reason.TheVariants.{TooBig, NotText, TextCut, CloseOneByte, CloseCode}
use Rattle.ws_session.specs.declared.reason.Reason.TheVariants.{CloseReason, FrameBig}
use Rattle.ws_session.specs.Faults.{AppliesAtHeader, AppliesInPayload, IsControl, expects_key}
use Rattle.ws_session.specs.Sends.{most_limits}
use Rattle.ws_suite.specs.InnerMarks.{IsPlainControl, IsRightClose}
use Rattle.ws_suite.specs.Marks.{HoldsUndefinedCode, IsRightControl}
use Rattle.ws_suite.proofs.UndefinedCodes.{bad_code_held, right_unless, wrong_byte, wrong_reason}

-- ---- a form that is longer than needed

abbrev IsTooLong : Form → ℕ → Type 0
IsTooLong form len = ((form ≡ Two) × (len < 126)) ⊎ ((form ≡ Eight) × (len < 65536))

longer_than : (least form : Form) (len : ℕ) → nat_lt (extra_bytes least) (extra_bytes form) ≡ true → CanHold least len
    → IsTooLong form len
longer_than Short Short len e holds = let no : false ≡ true = e in absurd cc
longer_than Short Two len e holds = inl (refl, holds)
longer_than Short Eight len e holds = inr (refl, omega arith)
longer_than Two Short len e holds = let no : false ≡ true = e in absurd cc
longer_than Two Two len e holds = let no : false ≡ true = e in absurd cc
longer_than Two Eight len e holds = inr (refl, omega arith)
longer_than Eight Short len e holds = let no : false ≡ true = e in absurd cc
longer_than Eight Two len e holds = let no : false ≡ true = e in absurd cc
longer_than Eight Eight len e holds = let no : false ≡ true = e in absurd cc

-- the shortest form has no more bytes than one that holds the length
shorter : (form other : Form) (len : ℕ) → len < 2 ^ 64 → form ≡ other
    → extra_bytes (shortest_form len) < extra_bytes other → is_longer_than_needed form len ≡ false → ⊥
shorter form other len below same less e =
    let yes : nat_lt (extra_bytes (shortest_form len)) (extra_bytes form) ≡ true =
    ap (λ (f : Form). nat_lt (extra_bytes (shortest_form len)) (extra_bytes f)) same
    ∙ lt-ltb (extra_bytes (shortest_form len)) (extra_bytes other) less in
    let both : true ≡ false = sym yes ∙ e in
    cc

not_too_long : (form : Form) (len : ℕ) → len < 2 ^ 64 → is_longer_than_needed form len ≡ false → IsTooLong form len → ⊥
not_too_long form len below e (inl (same, short)) =
    let least : extra_bytes (shortest_form len) ≤ 0 = (shortest_is_least len below).least Short short in
    shorter form Two len below same (omega arith) e
not_too_long form len below e (inr (same, short)) =
    let least : extra_bytes (shortest_form len) ≤ 2 = (shortest_is_least len below).least Two short in
    shorter form Eight len below same (omega arith) e

-- ---- no rule is broken

no_text : (opcode : ℕ) → 8 ≤ opcode → (opcode ≡ 1) ⊎ ((opcode ≡ 0) × ⊥) → ⊥
no_text opcode control (inl one) = omega arith
no_text opcode control (inr (zero_is, never)) = never

module _ (role : Role) (x : WireFrame) (is : IsWireFrame x) (plain : IsPlainControl role x.header x.payload)
    (control : IsControl x.header) where
  none_at_header : (r : Reason) → AppliesAtHeader role most_limits None x.header r → ⊥
  none_at_header ReservedBits a = a plain.1
  none_at_header Opcode (inl mid) = omega (arith, mid.1, control.0)
  none_at_header Opcode (inr high) = omega (arith, control.1)
  none_at_header MaskWrong a = a plain.3
  none_at_header NotShortest a = not_too_long x.header.form x.header.len (omega (arith, is.small)) plain.2 a
  none_at_header BadLength a = omega (arith, is.small)
  none_at_header ControlCut a = let no : true ≡ false = sym plain.0 ∙ a.1 in cc
  none_at_header ControlLong a = omega (arith, a.1, plain.4, is.len)
  none_at_header NothingToContinue a = omega (arith, a.0, control.0)
  none_at_header MessageOpen (inl one, _) = omega (arith, control.0)
  none_at_header MessageOpen (inr two, _) = omega (arith, control.0)
  none_at_header TooBig a = omega (arith, a.0, control.0)
  none_at_header FrameBig a = omega (arith, a.0, control.0)
  none_at_header NotText a = a
  none_at_header TextCut a = a
  none_at_header CloseOneByte a = a
  none_at_header CloseCode a = a
  none_at_header CloseReason a = a

  -- a reason of a close is told of its whole payload
  all_of : (n : ℕ) → n ≤ length x.payload → length (take n x.payload) ≡ x.header.len → take n x.payload ≡ x.payload
  all_of n le e = take_all n x.payload (omega (arith, length-take-le n x.payload le, is.len, e))

  in_payload : (x.header.opcode ≡ 8 → IsRightClose x.payload) → (n : ℕ) (r : Reason) → n ≤ length x.payload
      → AppliesInPayload None x.header (take n x.payload) r
      → (r ≡ CloseCode) × ((code : ℕ) × HoldsUndefinedCode x.payload code)
  in_payload close n NotText le a = absurd (no_text x.header.opcode control.0 a.0)
  in_payload close n TextCut le a = absurd (no_text x.header.opcode control.0 a.0)
  in_payload close n CloseOneByte le (eight, whole, one) =
      absurd (wrong_byte x.payload (ap (λ (l : List ℕ). length l) (sym (all_of n le whole)) ∙ one) (close eight))
  in_payload close n CloseCode le (eight, whole, bad) =
      let (c, held, never) = bad in
      let all = all_of n le whole in (
        refl,
        bad_code_held x.payload
            (c, record { fits = held.fits; bytes = sym all ∙ held.bytes }, never) (close eight),
      )
  in_payload close n CloseReason le (eight, whole, bad) =
      let (c, held, never) = bad in
      let all = all_of n le whole in
      absurd (wrong_reason x.payload c (record { fits = held.fits; bytes = sym all ∙ held.bytes }) never (close eight))
  in_payload close n ReservedBits le a = absurd a
  in_payload close n Opcode le a = absurd a
  in_payload close n MaskWrong le a = absurd a
  in_payload close n NotShortest le a = absurd a
  in_payload close n BadLength le a = absurd a
  in_payload close n ControlCut le a = absurd a
  in_payload close n ControlLong le a = absurd a
  in_payload close n NothingToContinue le a = absurd a
  in_payload close n MessageOpen le a = absurd a
  in_payload close n TooBig le a = absurd a
  in_payload close n FrameBig le a = absurd a

  pub right_control : (x.header.opcode ≡ 8 → IsRightClose x.payload) → IsRightControl role x
  right_control close = record {
    control = control;
    right = λ n r le a. elim a [
      | inl h ↦ absurd (none_at_header r h.1)
      | inr p ↦ in_payload close n r le p
    ];
  }

-- ---- what breaks none

told_bits : (a b : Bool) → ((a ≡ b → ⊥) → ⊥) → a ≡ b
told_bits true true told = refl
told_bits true false told = absurd (told (λ e. cc))
told_bits false true told = absurd (told (λ e. cc))
told_bits false false told = refl

module _ (role : Role) (x : WireFrame) (is : IsWireFrame x) (right : IsRightControl role x) where
  -- a reason of a header is told before any of the payload
  at_header : (r : Reason) → AppliesAtHeader role most_limits None x.header r → r ≡ CloseCode
  at_header r a = (right.right 0 r (omega arith) (inl (refl, a))).0

  pub plain_of_right : IsPlainControl role x.header x.payload
  plain_of_right = (
    true_from_ne_false x.header.fin (λ e. let no = at_header ControlCut (right.control, e) in cc),
    elim (cases_eq x.header.rsv 0) [
      | inl none ↦ none
      | inr some ↦ let no = at_header ReservedBits some in absurd cc
    ],
    false_from_ne_true (is_longer_than_needed x.header.form x.header.len) (λ e.
        let no = at_header NotShortest (longer_than (shortest_form x.header.len) x.header.form x.header.len e
        (shortest_holds x.header.len (omega (arith, is.small)))) in
        cc),
    told_bits (is_masked x.header.key) (expects_key role) (λ e. let no = at_header MaskWrong e in cc),
    elim (cases_lt 125 (length x.payload)) [
      | inl long ↦ let no = at_header ControlLong (right.control, omega (arith, is.len)) in absurd cc
      | inr short ↦ short
    ],
  )

  whole_applies : (r : Reason) → AppliesInPayload None x.header x.payload r
      → (r ≡ CloseCode) × ((code : ℕ) × HoldsUndefinedCode x.payload code)
  whole_applies r a =
      let all : take (length x.payload) x.payload ≡ x.payload = take_all (length x.payload) x.payload (omega arith) in
      right.right (length x.payload) r (omega arith)
      (inr (subst (λ (l : List ℕ). AppliesInPayload None x.header l r) (sym all) a))

  pub close_of_right : x.header.opcode ≡ 8 → IsRightClose x.payload
  close_of_right eight = right_unless x.payload is.payload plain_of_right.4
      (λ one. let no = (whole_applies CloseOneByte (eight, is.len, one)).0 in cc)
      (λ bad. (whole_applies CloseCode (eight, is.len, bad)).1)
      (λ c held never. let no = (whole_applies CloseReason (eight, is.len, (c, held, never))).0 in cc)

-- ---- the frame as it was found

pub plain_found : (role : Role) (x : WireFrame) (header : HeaderFields) (payload : List ℕ) → x.header ≡ header
    → payload ≡ masked_payload x.header.key x.payload → IsPlainControl role header payload → IsPlainControl role x.header x.payload
plain_found role x header payload same masked plain =
    let (fin, rsv, form, key, short) = subst (λ (h : HeaderFields). IsPlainControl role h payload) (sym same) plain in (
      fin,
      rsv,
      form,
      key,
      omega (
        arith,
        short,
        ap (λ (l : List ℕ). length l) masked,
        length-masked_payload x.header.key x.payload,
      ),
    )

pub found_plain : (role : Role) (x : WireFrame) (header : HeaderFields) (payload : List ℕ) → x.header ≡ header
    → payload ≡ masked_payload x.header.key x.payload → IsPlainControl role x.header x.payload → IsPlainControl role header payload
found_plain role x header payload same masked (fin, rsv, form, key, short) =
    subst (λ (h : HeaderFields). IsPlainControl role h payload) same (
      fin,
      rsv,
      form,
      key,
      omega (
        arith,
        short,
        ap (λ (l : List ℕ). length l) masked,
        length-masked_payload x.header.key x.payload,
      ),
    )
