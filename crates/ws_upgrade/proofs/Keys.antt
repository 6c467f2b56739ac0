-- Right keys, by the standard engine of base64.
use Rattle.std.proofs.Common.{◌≡◌, ℕ, ◌≤◌, List, length, take, replicate, refl, sym, ap, ◌∙◌, subst, rules, arith, Ok, Err, Result, [], length-append, length-take-le}
use Rattle.std.specs.Prelude.{IsErr, is_err, true, false}
use Rattle.base64.specs.Engines.{standard}
use Rattle.base64.specs.Rfc4648.{encode_symbols, padding_len}
use Rattle.base64.specs.GeneralPurpose.{decode_of, IsBytes, IsStrict}
use Rattle.base64.proofs.EngineFacts.{decode_of_iff, decode_of_strict}
use Rattle.base64.proofs.RoundTrip.{length-encode_symbols}
use Rattle.ws_upgrade.specs.Accept.{key_of, IsHandshakeKey}

strict : IsStrict standard
strict = (refl, refl)

pub length-key_of : (nonce : List ℕ) → length nonce ≡ 16 → length (key_of nonce) ≡ 24
length-key_of nonce len =
    length-append (encode_symbols standard.encode_table nonce) (replicate (padding_len (length nonce)) 61)
    ∙ rw (length-encode_symbols, len) refl

decoded : (key nonce : List ℕ) → IsBytes key → IsBytes nonce → key ≡ key_of nonce → decode_of standard key ≡ Ok nonce
decoded key nonce bytes nonce_bytes spelled = (decode_of_iff standard key nonce strict bytes nonce_bytes).1 spelled

value_or_nil : {E : Type 0} → Result (List ℕ) E → List ℕ
value_or_nil (Ok x) = x
value_or_nil (Err e) = []

-- what doesn't decode is no key
pub no_key-err : (key : List ℕ) → IsBytes key → IsErr (decode_of standard key) → IsHandshakeKey key → ⊥
no_key-err key bytes err is_key =
    let (nonce, nonce_bytes, len, is) = is_key in
    let wrong : false ≡ true = subst (λ r. is_err r ≡ true) (decoded key nonce bytes nonce_bytes is) err in
    search (rules, wrong)

-- what decodes to n bytes is a key only at 16
pub no_key-len : (key bytes : List ℕ) (n : ℕ) → IsBytes key → n ≤ 18 → length bytes ≡ 18 → decode_of standard key ≡ Ok (take n bytes)
    → IsHandshakeKey key → n ≡ 16
unfolding value_or_nil
no_key-len key bytes n key_bytes le len decodes is_key =
    let (nonce, nonce_bytes, sixteen, is) = is_key in
    let same : take n bytes ≡ nonce = ap value_or_nil (sym decodes ∙ decoded key nonce key_bytes nonce_bytes is) in
    sym (length-take-le n bytes (omega arith)) ∙ ap length same ∙ sixteen

-- what decodes to some bytes is their base64
pub spelled : (key nonce : List ℕ) → IsBytes key → decode_of standard key ≡ Ok nonce → key ≡ key_of nonce
spelled key nonce bytes decodes = decode_of_strict standard key nonce strict bytes decodes
