-- Replies that wait: one more, and whether there is any.
use Rattle.std.proofs.Common.{◌≡◌, ◌∙◌, ℕ, ◌≤◌, List, [], ◌∷◌, ◌++◌, length, drop, ap, ap₂, sym, refl, arith}
use Rattle.std.proofs.Common.{length-append}
use Rattle.std.proofs.lemmas.List.{drop-append-le, length-drop}
use Rattle.ws_suite.specs.declared.evidence.InTurn.{InTurn}
use Rattle.ws_suite.specs.declared.evidence.Reply.{Reply}
use Rattle.ws_suite.specs.declared.evidence.kept.Head.{Head}
use Rattle.ws_suite.specs.InnerWaiting.{HasPlaces}
use Rattle.ws_suite.specs.Kept.{kept_replies, payloads_len}
use Rattle.ws_suite.proofs.KeptLemmas.{kept_count, kept_more, len_more, with_payload}

-- ---- one more

module _ (heads : List Head) (payloads : List ℕ) (heads_gone bytes_gone : ℕ)
    (h : HasPlaces heads payloads heads_gone bytes_gone)
    (head : Head) (payload : List ℕ) (len : head.len ≡ length payload) where
  heads_are : drop heads_gone (heads ++ head ∷ []) ≡ drop heads_gone heads ++ head ∷ []
  heads_are = drop-append-le heads_gone heads (head ∷ []) h.before

  payloads_are : drop bytes_gone (payloads ++ payload) ≡ drop bytes_gone payloads ++ payload
  payloads_are = drop-append-le bytes_gone payloads payload h.bytes_before

  pub places_more : HasPlaces (heads ++ head ∷ []) (payloads ++ payload) heads_gone bytes_gone
  places_more = record {
    before = omega (arith, h.before, length-append heads (head ∷ []));
    bytes_before = omega (arith, h.bytes_before, length-append payloads payload);
    count =
        ap (λ (l : List Head). payloads_len l) heads_are
        ∙ (omega (
          arith,
          len_more (drop heads_gone heads) head,
          h.count,
          len,
          length-append (drop bytes_gone payloads) payload,
        )
        ∙ ap (λ (l : List ℕ). length l) (sym payloads_are));
  }

  pub waiting_more : kept_replies (drop heads_gone (heads ++ head ∷ [])) (drop bytes_gone (payloads ++ payload))
      ≡ kept_replies (drop heads_gone heads) (drop bytes_gone payloads) ++ with_payload head payload ∷ []
  waiting_more =
      ap₂ (λ (a : List Head) (b : List ℕ). kept_replies a b) heads_are payloads_are
      ∙ kept_more (drop heads_gone heads) head (drop bytes_gone payloads) payload h.count len

-- ---- whether there is any

-- nothing is there where no head is
pub none_waits : (heads : List Head) (payloads : List ℕ) (heads_gone bytes_gone : ℕ) → length heads ≤ heads_gone
    → kept_replies (drop heads_gone heads) (drop bytes_gone payloads) ≡ []
none_waits heads payloads heads_gone bytes_gone less = pick (drop heads_gone heads) (omega
    (arith, less, length-drop heads_gone heads))
  where
    pick : (l : List Head) → length l ≡ 0 → kept_replies l (drop bytes_gone payloads) ≡ []
    pick [] e = refl
    pick (x ∷ l) e = absurd (omega (arith, e))

pub some_waits : (heads : List Head) (payloads : List ℕ) (heads_gone bytes_gone : ℕ)
    → kept_replies (drop heads_gone heads) (drop bytes_gone payloads) ≡ [] → length heads ≤ heads_gone
some_waits heads payloads heads_gone bytes_gone none = omega (
  arith,
  length-drop heads_gone heads,
  kept_count (drop heads_gone heads) (drop bytes_gone payloads),
  ap (λ (l : List (InTurn Reply)). length l) none,
)
