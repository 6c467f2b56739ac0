-- A valid frame behind others has no fault.
use Rattle.std.proofs.Common.{◌≡◌, ℕ, suc, ◌+◌, ◌*◌, ◌/◌, ◌%◌, ◌^◌, ◌<◌, ◌≤◌, ◌⊎◌, true, cond, List, [], ◌∷◌, ◌++◌, length, get_or, drop, Option, Some, None, refl, sym, ap, ◌∙◌, append_assoc, arith, inl, inr, subst}
use Rattle.std.specs.Prelude.{nat_lt}
use Rattle.std.proofs.lemmas.Bool.{cases_lt, lt-ltb, le-ltb}
use Rattle.std.proofs.lemmas.List.{length-append, append-nil}
use Rattle.ws_wire.specs.declared.role.Role.{Role}
use Rattle.ws_wire.specs.declared.header.Form.TheVariants.{Short, Two, Eight}
use Rattle.ws_wire.specs.Header.{HeaderFields, is_masked, shortest_form}
use Rattle.ws_wire.specs.Frame.{KeyedFrame, FitsTheLayout, frame_bytes}
use Rattle.ws_text.specs.Text.{IsText, BeginsText}
use Rattle.ws_session.specs.declared.message.Kind.{Kind}
use Rattle.ws_session.specs.declared.message.Kind.TheVariants.{Text, Binary}
use Rattle.ws_session.specs.declared.message.Message.{Message}
use Rattle.ws_session.specs.declared.reason.Reason.{Reason}
use Rattle.ws_session.specs.declared.reason.Reason.TheVariants.{ReservedBits, Opcode, MaskWrong, NotShortest, BadLength, ControlCut, ControlLong, NothingToContinue, MessageOpen, TooBig, FrameBig, NotText, TextCut, CloseOneByte, CloseCode, CloseReason}
use Rattle.ws_session.specs.Limits.{LimitsValue}
use Rattle.ws_session.specs.Faults.{expects_key, open_payload, Applies, AppliesAtHeader, AppliesInPayload}
use Rattle.ws_session.specs.InnerNextFrame.{header_of, HasNoFaultOfNext}
use Rattle.std.proofs.Common.{eq-eqb}
use Rattle.std.proofs.lemmas.Bool.{le-leb, cases_eq}
use Rattle.ws_text.specs.Close.{CloseValue, IsClosePayload, close_payload, CodeAllowed}
use Rattle.ws_text.proofs.Texts.{no_text}
use Rattle.ws_session.specs.Faults.{IsOpenText}
use Rattle.ws_session.proofs.Places.{part_of}
use Rattle.ws_session.proofs.Payloads.{begins_front}
use Rattle.ws_session.proofs.Valid.{no_both, IsValidNext}

-- the shortest form is no longer than it has to be
is_shortest : (n : ℕ) → ((shortest_form n ≡ Two) × (n < 126)) ⊎ ((shortest_form n ≡ Eight) × (n < 65536)) → ⊥
is_shortest n (inl h) = let e : Short ≡ Two = ap (λ b. cond b Short (cond (nat_lt n 65536) Two Eight)) (sym (lt-ltb n 126 h.1)) ∙ h.0 in absurd cc
is_shortest n (inr h) =
    elim (cases_lt n 126) [
      | inl small ↦ let e : Short ≡ Eight = ap (λ b. cond b Short (cond (nat_lt n 65536) Two Eight)) (sym (lt-ltb n 126 small)) ∙ h.0 in absurd cc
      | inr big ↦ let e : Two ≡ Eight = ap (λ b. cond b Two Eight) (sym (lt-ltb n 65536 h.1)) ∙ ap (λ b. cond b Short (cond (nat_lt n 65536) Two Eight)) (sym (le-ltb n 126 big)) ∙ h.0 in absurd cc
    ]

no_control : (opcode : ℕ) → (opcode ≤ 2) ⊎ ((8 ≤ opcode) × (opcode ≤ 10)) → ((3 ≤ opcode) × (opcode ≤ 7)) ⊎ (11 ≤ opcode) → ⊥
no_control opcode (inl small) (inl mid) = omega (arith, mid.0)
no_control opcode (inl small) (inr big) = omega arith
no_control opcode (inr control) (inl mid) = omega (arith, mid.1, control.0)
no_control opcode (inr control) (inr big) = omega (arith, control.1)

pub one_or_two_is : (n : ℕ) → (n ≡ 1) ⊎ (n ≡ 2) → (1 ≤ n) × (n ≤ 2)
one_or_two_is n (inl one) = (omega arith, omega arith)
one_or_two_is n (inr two) = (omega arith, omega arith)

abbrev pub make_value : ℕ → List ℕ → CloseValue
make_value code reason = record { code = code; reason = reason }

pub two_bytes_are : (a b : ℕ) (reason : List ℕ) → a < 256 → b < 256 → a ∷ b ∷ reason ≡ close_payload (Some (make_value (256 * a + b) reason))
two_bytes_are a b reason high low =
    let first : a ≡ (256 * a + b) / 256 = omega arith in
    let second : b ≡ (256 * a + b) % 256 = omega arith in
    ap (λ n. n ∷ b ∷ reason) first ∙ ap (λ n. ((256 * a + b) / 256) ∷ n ∷ reason) second

pub code_fits : (a b : ℕ) → a < 256 → b < 256 → 256 * a + b < 2 ^ 16
code_fits a b high low = omega arith

pub reason_short : (a b : ℕ) (reason : List ℕ) → length (a ∷ b ∷ reason) ≤ 125 → length reason ≤ 123
reason_short a b reason le = omega arith

pub begins_nothing : BeginsText []
begins_nothing = record { more = []; is_text = no_text }

kind_or_not : (k : Kind) → (k ≡ Text) ⊎ (k ≡ Text → ⊥)
kind_or_not Text = inl refl
kind_or_not Binary = inr (λ e. absurd cc)

open_text_or_not : (opened : Option Message) → IsOpenText opened ⊎ (IsOpenText opened → ⊥)
open_text_or_not None = inr (λ h. h)
open_text_or_not (Some m) = kind_or_not m.kind

pub text_frame_or_not : (opened : Option Message) (opcode : ℕ) → ((opcode ≡ 1) ⊎ ((opcode ≡ 0) × IsOpenText opened)) ⊎ ((opcode ≡ 1) ⊎ ((opcode ≡ 0) × IsOpenText opened) → ⊥)
text_frame_or_not opened opcode =
    elim (cases_eq opcode 1) [
      | inl one ↦ inl (inl one)
      | inr not_one ↦ elim (cases_eq opcode 0) [
        | inr not_zero ↦ inr (λ h. elim h [ inl a ↦ not_one a | inr b ↦ not_zero b.0 ])
        | inl zero_is ↦ elim (open_text_or_not opened) [ inl text ↦ inl (inr (zero_is, text)) | inr other ↦ inr (λ h. elim h [ inl a ↦ not_one a | inr b ↦ other b.1 ]) ]
      ]
    ]

module _ (role : Role) (limits : LimitsValue) (opened : Option Message) (x : KeyedFrame) (can : FitsTheLayout x) (key : is_masked x.key ≡ expects_key role) (v : IsValidNext limits opened x.frame) where
  control_is : 8 ≤ x.frame.opcode → (x.frame.fin ≡ true) × (length x.frame.payload ≤ 125)
  control_is le = v.alone.control (le-leb 8 x.frame.opcode le)

  none_at_header : (r : Reason) → AppliesAtHeader role limits opened (header_of x) r → ⊥
  none_at_header ReservedBits a = a v.alone.rsv
  none_at_header Opcode a = no_control x.frame.opcode v.alone.opcode a
  none_at_header MaskWrong a = a key
  none_at_header NotShortest a = is_shortest (length x.frame.payload) a
  none_at_header BadLength a = omega (arith, a, can.len)
  none_at_header ControlCut a = no_both x.frame.fin (control_is a.0.0).0 a.1
  none_at_header ControlLong a = omega (arith, a.1, (control_is a.0.0).1)
  none_at_header NothingToContinue a = v.goes_on a.0 a.1
  none_at_header MessageOpen a = let n = one_or_two_is x.frame.opcode a.0 in a.1 (v.begins n.0 n.1)
  none_at_header TooBig a = omega (arith, a.1, v.size a.0)
  none_at_header FrameBig a = omega (arith, a.1, v.frame a.0)
  none_at_header NotText a = a
  none_at_header TextCut a = a
  none_at_header CloseOneByte a = a
  none_at_header CloseCode a = a
  none_at_header CloseReason a = a

  whole_is : (p q : List ℕ) → x.frame.payload ≡ p ++ q → length p ≡ length x.frame.payload → p ≡ x.frame.payload
  whole_is p [] e l = sym (append-nil p) ∙ sym e
  whole_is p (b ∷ q) e l = absurd (omega (arith, ap (λ (t : List ℕ). length t) e, length-append p (b ∷ q)))

  close_is : x.frame.opcode ≡ 8 → (c : Option CloseValue) × IsClosePayload x.frame.payload c
  close_is e = v.close (eq-eqb x.frame.opcode 8 e)

  not_one : (p : List ℕ) (c : Option CloseValue) → IsClosePayload p c → length p ≡ 1 → ⊥
  not_one p None is one = let size : length p ≡ 0 = ap (λ (l : List ℕ). length l) is in omega arith
  not_one p (Some c) is one = let size : length p ≡ suc (suc (length c.reason)) = ap (λ (l : List ℕ). length l) is.1 in omega arith

  same_bytes : (c d : CloseValue) → close_payload (Some c) ≡ close_payload (Some d) → (c.code ≡ d.code) × (c.reason ≡ d.reason)
  same_bytes c d e =
      let high : c.code / 256 ≡ d.code / 256 = ap (λ (l : List ℕ). get_or l 0 0) e in
      let low : c.code % 256 ≡ d.code % 256 = ap (λ (l : List ℕ). get_or l 1 0) e in
      (omega arith, ap (λ (l : List ℕ). drop 2 l) e)

  not_bad : (p : List ℕ) (c : Option CloseValue) (d : CloseValue) → IsClosePayload p c → p ≡ close_payload (Some d) → CodeAllowed d.code × IsText d.reason
  not_bad p None d is e = let empty : close_payload (Some d) ≡ [] = sym e ∙ is in absurd cc
  not_bad p (Some c) d is e = let same = same_bytes c d (sym is.1 ∙ e) in (subst (λ n. CodeAllowed n) same.0 is.0.code, subst (λ (l : List ℕ). IsText l) same.1 is.0.reason)

  none_in_payload : (p q : List ℕ) → x.frame.payload ≡ p ++ q → (r : Reason) → AppliesInPayload opened (header_of x) p r → ⊥
  none_in_payload p q e NotText a = a.2 (begins_front (open_payload opened ++ p) q (subst (λ (l : List ℕ). BeginsText l) (ap (λ (l : List ℕ). open_payload opened ++ l) e ∙ sym (append_assoc (open_payload opened) p q)) (v.text a.0)))
  none_in_payload p q e TextCut a = a.4 (subst (λ (l : List ℕ). IsText (open_payload opened ++ l)) (sym (whole_is p q e a.2)) (v.whole a.0 a.1))
  none_in_payload p q e CloseOneByte a = let c = close_is a.0 in not_one x.frame.payload c.0 c.1 (sym a.1 ∙ a.2)
  none_in_payload p q e CloseCode a = let c = close_is a.0 in a.2.2 (not_bad x.frame.payload c.0 a.2.0 c.1 (sym (whole_is p q e a.1) ∙ a.2.1.bytes)).0
  none_in_payload p q e CloseReason a = let c = close_is a.0 in a.2.2 (not_bad x.frame.payload c.0 a.2.0 c.1 (sym (whole_is p q e a.1) ∙ a.2.1.bytes)).1
  none_in_payload p q e ReservedBits a = a
  none_in_payload p q e Opcode a = a
  none_in_payload p q e MaskWrong a = a
  none_in_payload p q e NotShortest a = a
  none_in_payload p q e BadLength a = a
  none_in_payload p q e ControlCut a = a
  none_in_payload p q e ControlLong a = a
  none_in_payload p q e NothingToContinue a = a
  none_in_payload p q e MessageOpen a = a
  none_in_payload p q e TooBig a = a
  none_in_payload p q e FrameBig a = a

  none_applies : (p q : List ℕ) → x.frame.payload ≡ p ++ q → (r : Reason) → Applies role limits opened (header_of x) p r → ⊥
  none_applies p q e r (inl a) = none_at_header r a.1
  none_applies p q e r (inr a) = none_in_payload p q e r a

  pub valid_is_fine : HasNoFaultOfNext role limits opened (frame_bytes x)
  valid_is_fine n r f =
      let part = part_of f.header f.payload f.rest x [] f.is_header can f.within (sym f.parts ∙ sym (append-nil (frame_bytes x))) in
      none_applies f.payload part.back part.payload r (subst (λ (h : HeaderFields). Applies role limits opened h f.payload r) part.header f.applies)
