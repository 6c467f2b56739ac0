-- Messages that are kept as heads beside their joined payloads.
use Rattle.std.proofs.Common.{◌≡◌, ◌∙◌, ℕ, ◌+◌, ◌≤◌, List, [], ◌∷◌, ◌++◌, length, take, drop, ap, ap₂, arith}
use Rattle.std.proofs.lemmas.List.{drop-append-le, length-drop, take-append-le, take_all}
use Rattle.ws_session.specs.declared.message.Message.{Message}
use Rattle.ws_pair.specs.declared.messages.Head.{Head}
use Rattle.ws_pair.specs.KeptMessages.{kept_messages, whole_message, kept_len}

pub len_more : (heads : List Head) (head : Head) → kept_len (heads ++ head ∷ []) ≡ kept_len heads + head.len
len_more [] head = omega arith
len_more (x ∷ heads) head = omega (arith, len_more heads head)

-- one more
pub kept_more : (heads : List Head) (head : Head) (payloads payload : List ℕ) → kept_len heads ≡ length payloads
    → head.len ≡ length payload
    → kept_messages (heads ++ head ∷ []) (payloads ++ payload)
    ≡ kept_messages heads payloads ++ whole_message head.kind payload ∷ []
kept_more [] head [] payload count len =
    ap (λ (l : List ℕ). whole_message head.kind l ∷ []) (take_all head.len payload (omega (arith, len)))
kept_more [] head (x ∷ payloads) payload count len = absurd (omega (arith, count))
kept_more (x ∷ heads) head payloads payload count len =
    let less : x.len ≤ length payloads = omega (arith, count) in
    let rest : kept_len heads ≡ length (drop x.len payloads) = omega (arith, count, length-drop x.len payloads) in
    ap₂ (λ (a b : List ℕ). whole_message x.kind a ∷ kept_messages (heads ++ head ∷ []) b)
    (take-append-le x.len payloads payload less) (drop-append-le x.len payloads payload less)
    ∙ ap (λ (l : List Message). whole_message x.kind (take x.len payloads) ∷ l)
    (kept_more heads head (drop x.len payloads) payload rest len)
