-- The payload of a close frame: that it says one thing, or holds one code, and what it is where that may stand there.
use Rattle.std.proofs.Common.{◌≡◌, ◌∙◌, ℕ, ◌+◌, ◌*◌, ◌/◌, ◌%◌, ◌<◌, ◌≤◌, Bool, List, [], ◌∷◌, length, drop, get_or}
use Rattle.std.proofs.Common.{Option, None, Some, MatchOption, is_some, IsTrue, ◌↔◌, ap, arith, inl, inr, refl}
use Rattle.std.proofs.Common.{subst, suc, sym}
use Rattle.ws_wire.specs.Header.{AreBytes}
use Rattle.ws_text.specs.Close.{CloseValue, CodeAllowed, HasBadCode, HoldsCode, IsClosePayload}
use Rattle.ws_text.specs.Close.{close_payload}
use Rattle.ws_text.specs.Text.{IsText}
use Rattle.ws_text.proofs.Closes.{behind_code}
use Rattle.ws_session.proofs.Decided.{code_told, text_told}
use Rattle.ws_suite.specs.InnerMarks.{IsRightClose}
use Rattle.ws_suite.specs.Marks.{HoldsUndefinedCode, IsUndefinedCode}

abbrev pub close_of : ℕ → List ℕ → CloseValue
close_of code reason = record { code = code; reason = reason }

-- ---- what stands there is one code and one reason

same_close : (payload : List ℕ) (c d : CloseValue) → payload ≡ close_payload (Some c)
    → payload ≡ close_payload (Some d) → (c.code ≡ d.code) × (c.reason ≡ d.reason)
same_close payload c d one other =
    let both : close_payload (Some c) ≡ close_payload (Some d) = sym one ∙ other in
    let high : c.code / 256 ≡ d.code / 256 = ap (λ (l : List ℕ). get_or l 0 0) both in
    let low : c.code % 256 ≡ d.code % 256 = ap (λ (l : List ℕ). get_or l 1 0) both in
    (omega arith, ap (λ (l : List ℕ). drop 2 l) both)

two_or_more : (payload : List ℕ) (c : CloseValue) → payload ≡ close_payload (Some c) → 2 ≤ length payload
two_or_more payload c e =
    let size : length payload ≡ suc (suc (length c.reason)) = ap (λ (l : List ℕ). length l) e in
    omega arith

-- ---- an undefined code

-- less than two bytes hold none
none_in_short : (payload : List ℕ) → length payload < 2 → (code : ℕ) → HoldsUndefinedCode payload code → ⊥
none_in_short payload short code (reason, held, undefined, text) =
    omega (arith, two_or_more payload (close_of code reason) held.bytes)

-- what holds one holds no other code, and that reason
pub held_is : (payload : List ℕ) (code other : ℕ) → HoldsCode payload (close_of code (behind_code payload))
    → HoldsUndefinedCode payload other → IsUndefinedCode code × IsText (behind_code payload)
held_is payload code other held (reason, also, undefined, text) =
    let (same, behind) = same_close payload (close_of other reason) (close_of code (behind_code payload)) also.bytes
    held.bytes in
    (subst (λ n. IsUndefinedCode n) same undefined, subst (λ (l : List ℕ). IsText l) behind text)

-- ---- what may stand in a close frame

-- where nothing may be said the code decides
pub right_by_code : (payload : List ℕ) (found : Option ℕ) (b : Bool) → b ≡ is_some found
    → MatchOption found ((code : ℕ) → HoldsUndefinedCode payload code → ⊥) (HoldsUndefinedCode payload)
    → ((close : Option CloseValue) → IsClosePayload payload close → ⊥) → IsTrue b ↔ IsRightClose payload
right_by_code payload None b e none never = (
  λ t. absurd cc,
  λ h. elim h [ inl said ↦ absurd (never said.0 said.1) | inr held ↦ absurd (none held.0 held.1) ],
)
right_by_code payload (Some code) b e holds never = (λ t. inr (code, holds), λ h. e)

-- one byte is wrong
pub wrong_byte : (payload : List ℕ) → length payload ≡ 1 → IsRightClose payload → ⊥
wrong_byte payload one (inl (None, e)) =
    let none : length payload ≡ 0 = ap (λ (l : List ℕ). length l) e in
    omega arith
wrong_byte payload one (inl (Some c, said)) = omega (arith, two_or_more payload c said.1)
wrong_byte payload one (inr (code, held)) = none_in_short payload (omega arith) code held

-- and so is a reason that is no text
pub wrong_reason : (payload : List ℕ) (c : CloseValue) → HoldsCode payload c → (IsText c.reason → ⊥)
    → IsRightClose payload → ⊥
wrong_reason payload c held no_text (inl (None, e)) = let both : close_payload (Some c) ≡ [] = sym held.bytes ∙ e in cc
wrong_reason payload c held no_text (inl (Some d, said)) =
    let same = same_close payload d c said.1 held.bytes in
    no_text (subst (λ (l : List ℕ). IsText l) same.1 said.0.reason)
wrong_reason payload c held no_text (inr (code, other)) =
    let (reason, also, undefined, text) = other in
    let same = same_close payload (close_of code reason) c also.bytes held.bytes in
    no_text (subst (λ (l : List ℕ). IsText l) same.1 text)

-- of a bad code only one that is undefined is right
pub bad_code_held : (payload : List ℕ) → HasBadCode payload → IsRightClose payload
    → (code : ℕ) × HoldsUndefinedCode payload code
bad_code_held payload (c, held, never) (inl (None, e)) =
    let both : close_payload (Some c) ≡ [] = sym held.bytes ∙ e in
    absurd cc
bad_code_held payload (c, held, never) (inl (Some d, said)) =
    let same = same_close payload d c said.1 held.bytes in
    absurd (never (subst (λ n. CodeAllowed n) same.0 said.0.code))
bad_code_held payload bad (inr held) = held

-- ---- what doesn't break a rule is right

two_bytes : (high low : ℕ) (reason : List ℕ) → high < 256 → low < 256
    → HoldsCode (high ∷ low ∷ reason) (close_of (256 * high + low) reason)
two_bytes high low reason is_high is_low =
    let code = 256 * high + low in
    let first : high ≡ code / 256 = omega arith in
    let second : low ≡ code % 256 = omega arith in
    record {
      fits = omega arith;
      bytes = ap (λ n. n ∷ low ∷ reason) first ∙ ap (λ n. (code / 256) ∷ n ∷ reason) second;
    }

pub right_unless : (payload : List ℕ) → AreBytes payload → length payload ≤ 125 → (length payload ≡ 1 → ⊥)
    → (HasBadCode payload → (code : ℕ) × HoldsUndefinedCode payload code)
    → ((c : CloseValue) → HoldsCode payload c → (IsText c.reason → ⊥) → ⊥) → IsRightClose payload
right_unless [] are short one code text = inl (None, refl)
right_unless (high ∷ []) are short one code text = absurd (one refl)
right_unless (high ∷ low ∷ reason) are short one code text =
    let c = close_of (256 * high + low) reason in
    let held : HoldsCode (high ∷ low ∷ reason) c = two_bytes high low reason (are 0) (are 1) in
    elim (code_told (256 * high + low)) [
      | inr never ↦ inr (code (c, held, never))
      | inl allowed ↦ elim (text_told reason) [
        | inr never ↦ absurd (text c held never)
        | inl is_text ↦ inl (
          Some c,
          (record { code = allowed; reason = is_text; short = omega arith }, held.bytes),
        )
      ]
    ]
