-- A key of the wrong length, or that isn't the base64 of 16 bytes, is no handshake key; another one spells its nonce.
use Rattle.std.proofs.Common.{rules, ◌≡◌, length, take, sym, ap, ◌∙◌, subst, Ok}
use Rattle.base64.specs.GeneralPurpose.{IsBytes, decode_of}
use Rattle.base64.specs.Engines.{standard}
use Rattle.ws_upgrade.proofs.Keys.{length-key_of, no_key-err, no_key-len, spelled}
use Rattle.ws_upgrade.proofs.accepting.nonce_of.Goals as goal

pub returns-then-key-ne-KEY_LEN-clause-none : goal.returns-then-key-ne-KEY_LEN-clause-none
returns-then-key-ne-KEY_LEN-clause-none c =
    λ _ is_key. let (nonce, _, len, is) = is_key in c.if-key-ne-KEY_LEN.true (ap length is ∙ length-key_of nonce len)

pub returns-in_err-len-clause-none : goal.returns-in_err-len-clause-none
returns-in_err-len-clause-none c =
    let bytes : IsBytes c.args.key.now = λ i. search (rules, c.type_inv.key i) in
    λ _ is_key. no_key-err c.args.key.now bytes (search rules) is_key

pub returns-then-len-ne-NONCE_LEN-clause-none : goal.returns-then-len-ne-NONCE_LEN-clause-none
returns-then-len-ne-NONCE_LEN-clause-none c =
    let bytes : IsBytes c.args.key.now = λ i. search (rules, c.type_inv.key i) in
    let found = c.in_ok-len.ensures.found in
    λ _ is_key. c.if-len-ne-NONCE_LEN.true (no_key-len c.args.key.now c.decode.new.bytes c.in_ok-len.len bytes found.0 c.decode.ensures.len found.1 is_key)

pub returns-clause-found : goal.returns-clause-found
returns-clause-found c =
    let bytes : IsBytes c.args.key.now = λ i. search (rules, c.type_inv.key i) in
    let all = c.decode.new.bytes in
    let nonce = c.copy_nonce.result in
    let same : take c.in_ok-len.len all ≡ nonce = ap (λ n. take n all) c.if-len-ne-NONCE_LEN.false ∙ sym c.copy_nonce.ensures.same in
    let is = spelled c.args.key.now nonce bytes (subst (λ l. decode_of standard c.args.key.now ≡ Ok l) same c.in_ok-len.ensures.found.1) in
    (c.copy_nonce.ensures.bytes, search rules, is)
