-- Close payloads.
use Rattle.std.proofs.Common.{◌≡◌, ℕ, ◌+◌, ◌-◌, ◌*◌, ◌/◌, ◌%◌, ◌<◌, ◌≤◌, List, [], ◌∷◌, length, take, drop, get_or, refl, sym, ap, ◌∙◌, arith, inl, inr, subst, Option, None, Some, Result, Ok, Err}
use Rattle.std.specs.Prelude.{IsOk, MatchResult}
use Rattle.std.proofs.lemmas.Bool.{cases_lt}
use Rattle.std.proofs.lemmas.List.{take_rest}
use Rattle.ws_text.specs.Text.{IsText}
use Rattle.ws_text.specs.Close.{CloseValue, CodeMayBegin, close_payload, IsClosePayload, HoldsCode}

-- where the only error says that U fails, U leaves none
pub is_ok_of : {T E U : Type 0} (r : Result T E) (P : T → Type 0) (Q : E → Type 0) → MatchResult r P (λ e. (¬ U) × Q e) → U → IsOk r
is_ok_of (Ok x) P Q h u = refl
is_ok_of (Err e) P Q h u = absurd (h.0 u)

-- ---- a payload of two bytes and more

-- the bytes behind the first two, as `payload[2..]`
abbrev pub behind_code : List ℕ → List ℕ
behind_code payload = take (length payload - 2) (drop 2 payload)

payload_is : (high low code : ℕ) (rest : List ℕ) → high < 256 → low < 256 → code ≡ high * 256 + low → high ∷ low ∷ rest ≡ (code / 256) ∷ (code % 256) ∷ rest
payload_is high low code rest h l e =
    let first : high ≡ code / 256 = omega arith in
    let second : low ≡ code % 256 = omega arith in
    ap (λ n. n ∷ low ∷ rest) first ∙ ap (λ n. (code / 256) ∷ n ∷ rest) second

pub holds_code : (payload : List ℕ) (code : ℕ) → 2 ≤ length payload → get_or payload 0 0 < 256 → get_or payload 1 0 < 256 → code ≡ get_or payload 0 0 * 256 + get_or payload 1 0 → HoldsCode payload (record { code = code; reason = behind_code payload })
holds_code [] code len h l e = absurd (omega arith)
holds_code (x ∷ []) code len h l e = absurd (omega arith)
holds_code (x ∷ y ∷ rest) code len h l e = record {
  fits = omega arith;
  bytes = payload_is x y code rest h l e ∙ ap (λ (r : List ℕ). (code / 256) ∷ (code % 256) ∷ r) (sym (take_rest (x ∷ y ∷ rest) 2));
}

reason_is : (payload : List ℕ) (close : CloseValue) → payload ≡ close_payload (Some close) → close.reason ≡ behind_code payload
reason_is payload close e = sym (ap (λ (l : List ℕ). drop 2 l) e) ∙ sym (take_rest payload 2)

-- such a payload says nothing where what is behind its code is no text
pub says_nothing : (payload : List ℕ) (close : Option CloseValue) → 2 ≤ length payload → ¬ IsText (behind_code payload) → ¬ IsClosePayload payload close
says_nothing payload None len none p = let e = ap length p in absurd (omega arith)
says_nothing payload (Some close) len none p = none (subst (λ (l : List ℕ). IsText l) (reason_is payload close p.1) p.0.reason)

-- ---- the higher byte of a code

pub three_begins : (high : ℕ) → high ≡ 3 → CodeMayBegin high
three_begins high e = (232, omega arith, inl (omega arith, omega arith))

pub eleven_begin : (high : ℕ) → 11 ≤ high → high ≤ 19 → CodeMayBegin high
eleven_begin high low top =
    elim (cases_lt high 12) [
      | inl first ↦ (184, omega arith, inr (inr (omega arith, omega arith)))
      | inr later ↦ (0, omega arith, inr (inr (omega arith, omega arith)))
    ]
