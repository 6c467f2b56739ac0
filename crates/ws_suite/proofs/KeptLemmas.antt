-- Replies that are kept as heads beside their joined payloads.
use Rattle.std.proofs.Common.{◌≡◌, ◌∙◌, ◌&&◌, ℕ, suc, ◌+◌, ◌≤◌, Bool, true, false, cond, Option, List, [], ◌∷◌, ◌++◌, length}
use Rattle.std.proofs.Common.{take, drop, filter, ap, ap₂, refl, subst, sym, arith}
use Rattle.std.proofs.Math.Seq.{drop-append_seam}
use Rattle.std.proofs.lemmas.List.{drop-append-le, length-append, length-drop, length-take-le, take-append-le, take_all, take_at}
use Rattle.ws_suite.specs.declared.evidence.InTurn.{InTurn}
use Rattle.ws_suite.specs.declared.evidence.Reply.{Reply}
use Rattle.ws_suite.specs.declared.evidence.kept.Head.{Head}
use Rattle.ws_suite.specs.declared.evidence.kept.Kept.{Kept}
use Rattle.ws_suite.specs.declared.evidence.kept.ReplyKind.{ReplyKind}
use Rattle.ws_suite.specs.declared.evidence.kept.ReplyKind.TheVariants.{Text, Binary, Pong, Ping}
use Rattle.ws_suite.specs.Kept.{IsHeadOf, kept_replies, payloads_len, reply_in, reply_of, turn_in}
use Rattle.ws_suite.specs.InnerMarks.{is_head_before, is_pong_before, is_pong_kind, is_turn_before, joined_payloads}
use Rattle.ws_suite.specs.Matching.{is_pong, payload_of}

-- ---- one more

pub len_more : (heads : List Head) (head : Head) → payloads_len (heads ++ head ∷ []) ≡ payloads_len heads + head.len
len_more [] head = omega arith
len_more (x ∷ heads) head = omega (arith, len_more heads head)

abbrev pub with_payload : Head → List ℕ → InTurn Reply
with_payload head payload = record { turn = turn_in head; what = reply_of head.kind payload }

pub kept_more : (heads : List Head) (head : Head) (payloads payload : List ℕ) → payloads_len heads ≡ length payloads
    → head.len ≡ length payload
    → kept_replies (heads ++ head ∷ []) (payloads ++ payload)
    ≡ kept_replies heads payloads ++ with_payload head payload ∷ []
kept_more [] head [] payload count len =
    ap (λ (l : List ℕ). with_payload head l ∷ []) (take_all head.len payload (omega (arith, len)))
kept_more [] head (x ∷ payloads) payload count len = absurd (omega (arith, count))
kept_more (x ∷ heads) head payloads payload count len =
    let less : x.len ≤ length payloads = omega (arith, count) in
    let rest : payloads_len heads ≡ length (drop x.len payloads) = omega (arith, count, length-drop x.len payloads) in
    ap₂ (λ (a b : List ℕ). with_payload x a ∷ kept_replies (heads ++ head ∷ []) b)
    (take-append-le x.len payloads payload less) (drop-append-le x.len payloads payload less)
    ∙ ap (λ (l : List (InTurn Reply)). with_payload x (take x.len payloads) ∷ l)
    (kept_more heads head (drop x.len payloads) payload rest len)

-- so it is with the head of a reply
pub head_with_payload : (reply : Kept) (head : Head) → IsHeadOf reply head
    → with_payload head reply.payload.now ≡ reply_in reply
head_with_payload reply head h =
    ap₂ (λ (turn : ℕ) (kind : ReplyKind). record { turn = turn; what = reply_of kind reply.payload.now }) h.turn h.kind

-- ---- how many

pub kept_count : (heads : List Head) (payloads : List ℕ) → length (kept_replies heads payloads) ≡ length heads
kept_count [] payloads = refl
kept_count (x ∷ heads) payloads = ap suc (kept_count heads (drop x.len payloads))

-- ---- what is kept of a payload

pub payload_kept : (kind : ReplyKind) (payload : List ℕ) → payload_of (reply_of kind payload) ≡ payload
payload_kept Text payload = refl
payload_kept Binary payload = refl
payload_kept Pong payload = refl
payload_kept Ping payload = refl

-- ---- the pongs before a turn

pong_kept : (kind : ReplyKind) (payload : List ℕ) → is_pong (reply_of kind payload) ≡ is_pong_kind kind
pong_kept Text payload = refl
pong_kept Binary payload = refl
pong_kept Pong payload = refl
pong_kept Ping payload = refl

-- a reply is such a pong by its head
pub pong_by_kind : (end : Option ℕ) (turn : ℕ) (kind : ReplyKind) (payload : List ℕ)
    → is_pong_before end (record { turn = turn; what = reply_of kind payload })
    ≡ (is_pong_kind kind && is_turn_before end turn)
pong_by_kind end turn kind payload = ap (λ (b : Bool). b && is_turn_before end turn) (pong_kept kind payload)

-- its payload is joined to those of the others, or it is none and leaves them as they are
pub joined_more : (end : Option ℕ) (reply : Kept) (left : List (InTurn Reply))
    → (is_pong_kind reply.kind && is_turn_before end reply.turn) ≡ true
    → joined_payloads (filter (is_pong_before end) (reply_in reply ∷ left))
    ≡ reply.payload.now ++ joined_payloads (filter (is_pong_before end) left)
joined_more end reply left is =
    let rest = filter (is_pong_before end) left in
    ap (λ (b : Bool). joined_payloads (cond b (reply_in reply ∷ rest) rest))
    (pong_by_kind end reply.turn reply.kind reply.payload.now ∙ is)
    ∙ ap (λ (payload : List ℕ). payload ++ joined_payloads rest) (payload_kept reply.kind reply.payload.now)

pub joined_less : (end : Option ℕ) (reply : Kept) (left : List (InTurn Reply))
    → (is_pong_kind reply.kind && is_turn_before end reply.turn) ≡ false
    → joined_payloads (filter (is_pong_before end) (reply_in reply ∷ left)) ≡ joined_payloads (filter (is_pong_before end) left)
joined_less end reply left is =
    let rest = filter (is_pong_before end) left in
    ap (λ (b : Bool). joined_payloads (cond b (reply_in reply ∷ rest) rest))
    (pong_by_kind end reply.turn reply.kind reply.payload.now ∙ is)

-- the heads of such pongs beside their payloads are those pongs, and have as many bytes
abbrev pub AreBefore : Option ℕ → List Head → List (InTurn Reply) → Type 0
AreBefore end heads replies = (kept_replies (filter (is_head_before end) heads) (joined_payloads replies) ≡ replies)
    × (payloads_len (filter (is_head_before end) heads) ≡ length (joined_payloads replies))

pub kept_before : (end : Option ℕ) (heads : List Head) (payloads : List ℕ) → payloads_len heads ≡ length payloads
    → AreBefore end heads (filter (is_pong_before end) (kept_replies heads payloads))
kept_before end [] payloads count = (refl, refl)
kept_before end (x ∷ heads) payloads count =
    pick (kept_before end heads (drop x.len payloads) (omega (arith, count, length-drop x.len payloads)))
    (is_head_before end x) refl
  where
    payload : List ℕ
    payload = take x.len payloads

    first : InTurn Reply
    first = with_payload x payload

    others : List (InTurn Reply)
    others = filter (is_pong_before end) (kept_replies heads (drop x.len payloads))

    front : List Head
    front = filter (is_head_before end) heads

    len : length payload ≡ x.len
    len = length-take-le x.len payloads (omega (arith, count))

    same : is_pong_before end first ≡ is_head_before end x
    same = pong_by_kind end (turn_in x) x.kind payload

    Are : Bool → Bool → Type 0
    Are a b = (kept_replies (cond a (x ∷ front) front) (joined_payloads (cond b (first ∷ others) others))
        ≡ cond b (first ∷ others) others)
        × (payloads_len (cond a (x ∷ front) front) ≡ length (joined_payloads (cond b (first ∷ others) others)))

    both : AreBefore end heads others → Are true true
    both later =
        let joins : joined_payloads (first ∷ others) ≡ payload ++ joined_payloads others =
        ap (λ (l : List ℕ). l ++ joined_payloads others) (payload_kept x.kind payload) in
        let ahead : take x.len (payload ++ joined_payloads others) ≡ payload =
        take_at payload (joined_payloads others) x.len len in
        let behind : drop x.len (payload ++ joined_payloads others) ≡ joined_payloads others =
        ap (λ (n : ℕ). drop n (payload ++ joined_payloads others)) (sym len) ∙ drop-append_seam payload (joined_payloads others) in (
          ap (λ (l : List ℕ). kept_replies (x ∷ front) l) joins
              ∙ (ap₂ (λ (a b : List ℕ). with_payload x a ∷ kept_replies front b) ahead behind
              ∙ ap (λ (l : List (InTurn Reply)). first ∷ l) later.0),
          omega (
            arith,
            later.1,
            len,
            length-append payload (joined_payloads others),
            ap (λ (l : List ℕ). length l) joins,
          ),
        )

    pick : AreBefore end heads others → (b : Bool) → is_head_before end x ≡ b
        → Are (is_head_before end x) (is_pong_before end first)
    pick later true e = subst (λ (a : Bool). Are a (is_pong_before end first)) (sym e)
        (subst (λ (b : Bool). Are true b) (sym (same ∙ e)) (both later))
    pick later false e = subst (λ (a : Bool). Are a (is_pong_before end first)) (sym e)
        (subst (λ (b : Bool). Are false b) (sym (same ∙ e)) later)
