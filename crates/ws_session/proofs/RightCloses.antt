-- Close payloads: that of a right frame is one, one makes a right frame, and what completes the front of one.
use Rattle.std.proofs.Common.{◌≡◌, ℕ, zero, suc, ◌+◌, ◌*◌, ◌-◌, ◌/◌, ◌%◌, ◌<◌, ◌≤◌, List, [], ◌∷◌, ◌++◌, length, get_or}
use Rattle.std.proofs.Common.{take, drop, replicate, Option, Some, None, refl, sym, ap, ◌∙◌, arith, inl, inr, subst}
use Rattle.std.proofs.Common.{lit≤}
use Rattle.std.proofs.lemmas.Bool.{cases_lt}
use Rattle.std.proofs.lemmas.List.{length-append, length-replicate, take_all, take_rest}
use Rattle.ws_wire.specs.declared.role.Role.{Role}
use Rattle.ws_wire.specs.Header.{HeaderFields, AreBytes}
use Rattle.ws_text.specs.Text.{IsText}
use Rattle.ws_text.specs.Close.{CloseValue, CodeAllowed, CodeMayBegin, CanBeSaid, IsClosePayload, close_payload}
use Rattle.ws_text.specs.Close.{HoldsCode}
use Rattle.ws_text.proofs.Closes.{behind_code}
use Rattle.ws_text.proofs.Wanted.{text_bytes}
use Rattle.ws_session.specs.declared.message.Message.{Message}
use Rattle.ws_session.specs.declared.reason.Reason.{Reason}
use Rattle.ws_session.specs.declared.reason.Reason.TheVariants.{ReservedBits, Opcode, MaskWrong, NotShortest, BadLength}
use Rattle.ws_session.specs.declared.reason.Reason.TheVariants.{ControlCut, ControlLong, NothingToContinue, MessageOpen}
use Rattle.ws_session.specs.declared.reason.Reason.TheVariants.{TooBig, FrameBig, NotText, TextCut, CloseOneByte}
use Rattle.ws_session.specs.declared.reason.Reason.TheVariants.{CloseCode, CloseReason}
use Rattle.ws_session.specs.Limits.{LimitsValue}
use Rattle.ws_session.specs.Faults.{AppliesInPayload}
use Rattle.ws_session.specs.Doomed.{IsRightFrame}
use Rattle.ws_session.specs.InnerChecking.{NoneInPayload}
use Rattle.ws_session.specs.InnerDoomed.{CanEndText, CanEndClose}
use Rattle.ws_session.proofs.ByteLists.{back_are_bytes}
use Rattle.ws_session.proofs.Decided.{text_told, code_told}
use Rattle.ws_session.proofs.FineFrames.{make_value, two_bytes_are, code_fits, reason_short}
use Rattle.ws_session.proofs.Payloads.{front_is_all}
use Rattle.ws_session.proofs.RightPayloads.{zero_bytes, zero_text}

-- ---- what a close payload is not

not_one : (p : List ℕ) (c : Option CloseValue) → IsClosePayload p c → length p ≡ 1 → ⊥
not_one p None is one = let size : length p ≡ 0 = ap (λ (l : List ℕ). length l) is in omega arith
not_one p (Some c) is one = let size : length p ≡ suc (suc (length c.reason)) = ap (λ (l : List ℕ). length l) is.1 in
    omega arith

same_value : (c d : CloseValue) → close_payload (Some c) ≡ close_payload (Some d) → (c.code ≡ d.code)
    × (c.reason ≡ d.reason)
same_value c d e =
    let high : c.code / 256 ≡ d.code / 256 = ap (λ (l : List ℕ). get_or l 0 0) e in
    let low : c.code % 256 ≡ d.code % 256 = ap (λ (l : List ℕ). get_or l 1 0) e in
    (omega arith, ap (λ (l : List ℕ). drop 2 l) e)

-- what stands in it may be said
said : (p : List ℕ) (c : Option CloseValue) (d : CloseValue) → IsClosePayload p c → p ≡ close_payload (Some d)
    → CodeAllowed d.code × IsText d.reason
said p None d is e = let empty : close_payload (Some d) ≡ [] = sym e ∙ is in absurd cc
said p (Some c) d is e = let same = same_value c d (sym is.1 ∙ e) in
    (subst (λ n. CodeAllowed n) same.0 is.0.code, subst (λ (l : List ℕ). IsText l) same.1 is.0.reason)

-- ---- a close frame

module _ (opened : Option Message) (h : HeaderFields) (p : List ℕ) (opcode : h.opcode ≡ 8) (whole : length p ≡ h.len)
  where
    all_of : (n : ℕ) → n ≤ length p → length (take n p) ≡ h.len → take n p ≡ p
    all_of n le e = take_all n p (omega (arith, (front_is_all p n h.len le (omega arith) e).0))

    -- no reason applies where it says something, or is empty
    pub none_of_close : (close : Option CloseValue) → IsClosePayload p close → NoneInPayload opened h p
    none_of_close close is n NotText le a = elim a.0 [ inl one ↦ omega arith | inr more ↦ omega (arith, more.0) ]
    none_of_close close is n TextCut le a = elim a.0 [ inl one ↦ omega arith | inr more ↦ omega (arith, more.0) ]
    none_of_close close is n CloseOneByte le a = not_one p close is (ap (λ (l : List ℕ). length l) (sym (all_of n le a.1))
        ∙ a.2)
    none_of_close close is n CloseCode le a = a.2.2 (said p close a.2.0 is (sym (all_of n le a.1) ∙ a.2.1.bytes)).0
    none_of_close close is n CloseReason le a = a.2.2 (said p close a.2.0 is (sym (all_of n le a.1) ∙ a.2.1.bytes)).1
    none_of_close close is n ReservedBits le a = a
    none_of_close close is n Opcode le a = a
    none_of_close close is n MaskWrong le a = a
    none_of_close close is n NotShortest le a = a
    none_of_close close is n BadLength le a = a
    none_of_close close is n ControlCut le a = a
    none_of_close close is n ControlLong le a = a
    none_of_close close is n NothingToContinue le a = a
    none_of_close close is n MessageOpen le a = a
    none_of_close close is n TooBig le a = a
    none_of_close close is n FrameBig le a = a

-- the payload of a right close frame says something, or is empty
close_of_bytes : (p : List ℕ) → AreBytes p → length p ≤ 125 → (length p ≡ 1 → ⊥)
    → ((c : CloseValue) → HoldsCode p c → (CodeAllowed c.code → ⊥) → ⊥)
    → ((c : CloseValue) → HoldsCode p c → (IsText c.reason → ⊥) → ⊥) → (close : Option CloseValue)
    × IsClosePayload p close
close_of_bytes [] are short one code text = (None, refl)
close_of_bytes (a ∷ []) are short one code text = absurd (one refl)
close_of_bytes (a ∷ b ∷ reason) are short one code text =
    let value = make_value (256 * a + b) reason in
    let holds : HoldsCode (a ∷ b ∷ reason) value = record {
      fits = code_fits a b (are 0) (are 1);
      bytes = two_bytes_are
          a b reason (are 0) (are 1);
    } in
    elim (code_told (256 * a + b)) [
      | inr never ↦ absurd (code value holds never)
      | inl allowed ↦ elim (text_told reason) [
        | inr never ↦ absurd (text value holds never)
        | inl is_text ↦ (
          Some value,
          (
            record {
              code = allowed;
              reason = is_text;
              short = reason_short a b reason short;
            },
            holds.bytes,
          ),
        )
      ]
    ]

pub close_of_right : (role : Role) (limits : LimitsValue) (opened : Option Message) (h : HeaderFields) (p : List ℕ)
    → h.opcode ≡ 8 → h.len ≤ 125 → IsRightFrame role limits opened h p → (close : Option CloseValue)
    × IsClosePayload p close
close_of_right role limits opened h p opcode short right =
    let all : take (length p) p ≡ p = take_all (length p) p (omega arith) in
    let none : (r : Reason) → AppliesInPayload opened h p r → ⊥ = λ r a. right.right (length p) r (omega arith)
    (inr (subst (λ (l : List ℕ). AppliesInPayload opened h l r) (sym all) a)) in
    close_of_bytes p right.are_bytes (omega (arith, right.whole)) (λ one. none CloseOneByte (opcode, right.whole, one))
    (λ c holds never. none CloseCode (opcode, right.whole, (c, holds, never)))
    (λ c holds never. none CloseReason (opcode, right.whole, (c, holds, never)))

-- ---- what completes the front of a close payload

said_of : (code : ℕ) (reason : List ℕ) → CodeAllowed code → IsText reason → length reason ≤ 123
    → CanBeSaid (make_value code reason)
said_of code reason allowed text short = record { code = allowed; reason = text; short = short }

two_bytes : (a b : ℕ) (bytes : List ℕ) → a < 256 → b < 256 → AreBytes bytes → AreBytes (a ∷ b ∷ bytes)
two_bytes a b bytes high low are zero = high
two_bytes a b bytes high low are (suc zero) = low
two_bytes a b bytes high low are (suc (suc i)) = are i

-- nothing has come: 1000, and zeros
pub empty_can_end : (left : ℕ) → 2 ≤ left → left ≤ 125 → CanEndClose [] left
empty_can_end left some short =
    let reason = replicate (left - 2) 0 in
    let size : length reason ≡ left - 2 = length-replicate (left - 2) 0 in (
      3 ∷ 232 ∷ reason,
      omega arith,
      two_bytes 3 232 reason (lit≤ tt) (lit≤ tt) (zero_bytes (left - 2)),
      (
        Some (make_value 1000 reason),
        (
          said_of 1000 reason (inl (lit≤ tt, lit≤ tt)) (zero_text (left - 2))
              (omega arith),
          refl,
        ),
      ),
    )

pub ends_empty : (p : List ℕ) (left : ℕ) → length p < 1 → 0 < left → length p + left ≤ 125
    → (2 ≤ left → CanEndClose p left) × (CanEndClose p left → 2 ≤ left)
ends_empty [] left none some short = (
  λ le. empty_can_end left le (omega arith),
  λ h. elim (cases_lt left 2) [ inl one ↦ absurd (not_one h.0 h.3.0 h.3.1 (omega (arith, h.1))) | inr le ↦ le ],
)
ends_empty (a ∷ p) left none some short = absurd (omega arith)

-- half a code has come
code_in : (a b : ℕ) (reason : List ℕ) (c : Option CloseValue) → a < 256 → b < 256 → IsClosePayload (a ∷ b ∷ reason) c
    → CodeAllowed (256 * a + b) × IsText reason
code_in a b reason c high low is = said (a ∷ b ∷ reason) c (make_value (256 * a + b) reason) is
    (two_bytes_are a b reason high low)

close_from : (a b : ℕ) (reason : List ℕ) → a < 256 → b < 256 → CodeAllowed (256 * a + b) → IsText reason
    → length reason ≤ 123 → (c : Option CloseValue) × IsClosePayload (a ∷ b ∷ reason) c
close_from a b reason high low allowed text short = (
  Some (make_value (256 * a + b) reason),
  (said_of (256 * a + b) reason allowed text short, two_bytes_are a b reason high low),
)

half_can_end : (a : ℕ) (left : ℕ) → a < 256 → 0 < left → left ≤ 124 → CodeMayBegin a → CanEndClose (a ∷ []) left
half_can_end a left high some short begins =
    let reason = replicate (left - 1) 0 in
    let size : length reason ≡ left - 1 = length-replicate (left - 1) 0 in
    let low : begins.0 < 256 = begins.1 in (
      begins.0 ∷ reason,
      omega arith,
      (λ i. two_bytes 0 begins.0 reason (lit≤ tt) low (zero_bytes (left - 1)) (suc i)),
      close_from a begins.0 reason high low begins.2 (zero_text (left - 1)) (omega arith),
    )

half_ends : (a : ℕ) (more : List ℕ) (c : Option CloseValue) → a < 256 → 0 < length more → AreBytes more
    → IsClosePayload (a ∷ more) c → CodeMayBegin a
half_ends a [] c high some are is = absurd (omega arith)
half_ends a (b ∷ reason) c high some are is = (b, are 0, (code_in a b reason c high (are 0) is).0)

pub ends_half : (p : List ℕ) (left : ℕ) → AreBytes p → 1 ≤ length p → length p < 2 → 0 < left → length p + left ≤ 125
    → (CodeMayBegin (get_or p 0 0) → CanEndClose p left) × (CanEndClose p left → CodeMayBegin (get_or p 0 0))
ends_half [] left are one two some short = absurd (omega arith)
ends_half (a ∷ []) left are one two some short = (
  half_can_end a left (are 0) some (omega arith),
  λ h. half_ends a h.0 h.3.0 (are 0) (omega (arith, h.1)) h.2 h.3.1,
)
ends_half (a ∷ b ∷ p) left are one two some short = absurd (omega arith)

-- the code has come, and some of the reason
reason_ends : (a b : ℕ) (reason more : List ℕ) (c : Option CloseValue) → a < 256 → b < 256
    → IsClosePayload ((a ∷ b ∷ reason) ++ more) c → CodeAllowed (256 * a + b) × IsText (reason ++ more)
reason_ends a b reason more c high low is = code_in a b (reason ++ more) c high low is

reason_can_end : (a b : ℕ) (reason : List ℕ) (left : ℕ) → a < 256 → b < 256 → CodeAllowed (256 * a + b)
    → length reason + left ≤ 123 → CanEndText reason left → CanEndClose (a ∷ b ∷ reason) left
reason_can_end a b reason left high low allowed short h =
    let more = h.0 in
    let size : length (reason ++ more) ≡ length reason + length more = length-append reason more in (
      more,
      h.1,
      back_are_bytes reason more (text_bytes (reason ++ more) h.2),
      close_from a b (reason ++ more) high low
          allowed h.2 (omega (arith, h.1, size)),
    )

-- the same of a payload of two bytes and more
pub ends_reason : (p : List ℕ) (code left : ℕ) → AreBytes p → 2 ≤ length p → length p + left ≤ 125
    → code ≡ get_or p 0 0 * 256 + get_or p 1 0 → CodeAllowed code →
    (CanEndText (behind_code p) left → CanEndClose p left) × (CanEndClose p left → CanEndText (behind_code p) left)
ends_reason [] code left are two short e allowed = absurd (omega arith)
ends_reason (a ∷ []) code left are two short e allowed = absurd (omega arith)
ends_reason (a ∷ b ∷ reason) code left are two short e allowed =
    let same : code ≡ 256 * a + b = omega arith in
    let behind : behind_code (a ∷ b ∷ reason) ≡ reason = take_rest (a ∷ b ∷ reason) 2 in (
      λ h. reason_can_end a b reason left (are 0) (are 1) (subst (λ n. CodeAllowed n) same allowed) (omega arith)
          (subst (λ (l : List ℕ). CanEndText l left) behind h),
      λ h. subst (λ (l : List ℕ). CanEndText l left) (sym behind) (
        h.0,
        h.1,
        (reason_ends a b reason h.0 h.3.0 (are 0) (are 1) h.3.1).1,
      ),
    )

pub never_ends : (p : List ℕ) (code left : ℕ) → AreBytes p → 2 ≤ length p → code ≡ get_or p 0 0 * 256 + get_or p 1 0
    → ¬ CodeAllowed code → CanEndClose p left → ⊥
never_ends [] code left are two e never h = absurd (omega arith)
never_ends (a ∷ []) code left are two e never h = absurd (omega arith)
never_ends (a ∷ b ∷ reason) code left are two e never h =
    let same : 256 * a + b ≡ code = omega arith in
    never (subst (λ n. CodeAllowed n) same (reason_ends a b reason h.0 h.3.0 (are 0) (are 1) h.3.1).0)
