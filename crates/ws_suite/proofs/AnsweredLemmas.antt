-- Replies that are answered one for one: what is found in them.
use Rattle.std.proofs.Common.{◌≡◌, ◌∙◌, ◌↔◌, ℕ, ◌<◌, ◌≤◌, nat_le, nat_lt, Bool, true, false, ◌&&◌, ◌||◌}
use Rattle.std.proofs.Common.{if◌then◌else◌, List, [], ◌∷◌, ◌++◌, length}
use Rattle.std.proofs.Common.{Option, Some, None, drop, take, ap, ap₂, sym, refl, subst, inl, inr, arith, append-nil}
use Rattle.std.proofs.lemmas.Bool.{and_from, le-leb, or_left, or_right}
use Rattle.std.proofs.lemmas.Bool.Decides.{nat_tests}
use Rattle.std.proofs.lemmas.List.{length-drop, length-map, length-take-le, take-append-drop}
use Rattle.std.proofs.lemmas.Slice.Eq.{bytes_eq-Decides}
use Rattle.std.specs.List.{filter, last_or, list_any, zip}
use Rattle.ws_suite.specs.declared.evidence.InTurn.{InTurn}
use Rattle.ws_suite.specs.declared.evidence.Reply.{Reply}
use Rattle.ws_suite.specs.declared.evidence.Evidence.{Evidence}
use Rattle.ws_suite.specs.declared.evidence.kept.Head.{Head}
use Rattle.ws_session.specs.declared.message.Kind.{Kind}
use Rattle.ws_session.specs.declared.message.Kind.TheVariants as kind
use Rattle.ws_suite.specs.declared.evidence.Reply.TheVariants as reply
use Rattle.ws_suite.specs.declared.evidence.kept.ReplyKind.{ReplyKind}
use Rattle.ws_suite.specs.declared.evidence.kept.ReplyKind.TheVariants.{Text, Binary, Pong, Ping}
use Rattle.ws_suite.specs.InnerAnswered.{AreAnsweredEach, AreHeadsAnswered}
use Rattle.ws_suite.specs.InnerMarks.{AreMet, is_answered_by}
use Rattle.ws_suite.specs.InnerJudging.{AreFindingsOf, answers_among, is_answer, without_pings}
use Rattle.ws_suite.specs.Kept.{kept_replies, payloads_len, reply_of}
use Rattle.ws_suite.specs.Matching.{IsBeginningOf, IsLastPong, IsWithSomeLeftOut, bare, has_payload_of, is_message, is_pong}
use Rattle.ws_suite.specs.Matching.{matches_of, message_replies, payload_of, pong_replies}
use Rattle.ws_suite.specs.Verdicts.{is_before, is_before_match, is_unmatched}
use Rattle.ws_suite.proofs.JudgeLemmas.{found_first, left_of_match}
use Rattle.ws_suite.proofs.KeptLemmas.{payload_kept}
use Rattle.ws_suite.proofs.TellingLemmas.{same_messages, same_pongs}
use Rattle.ws_suite.proofs.TestLemmas.{all_so}

-- ---- by their heads

pub answered_as_kept : (dues gots : List Head) (payloads others : List ℕ) → payloads ≡ others → AreHeadsAnswered dues gots
    → AreAnsweredEach (kept_replies dues payloads) (kept_replies gots others)
answered_as_kept [] [] payloads others same h = tt
answered_as_kept [] (got ∷ gots) payloads others same h = absurd h
answered_as_kept (due ∷ dues) [] payloads others same h = absurd h
answered_as_kept (due ∷ dues) (got ∷ gots) payloads others same (kind, len, turn, later) = (
  ap (λ (k : ReplyKind). reply_of k (take got.len others)) kind
      ∙ ap₂ (λ (n : ℕ) (l : List ℕ). reply_of due.kind (take n l)) len (sym same),
  turn,
  answered_as_kept dues gots (drop due.len payloads) (drop got.len others)
      (ap₂ (λ (n : ℕ) (l : List ℕ). drop n l) (sym len) same) later,
)

kind_in : Reply → ReplyKind
kind_in (reply.Message message) = of_message message.kind
  where
    of_message : Kind → ReplyKind
    of_message kind.Text = Text
    of_message kind.Binary = Binary
kind_in (reply.Pong payload) = Pong
kind_in (reply.Ping payload) = Ping

kind_kept : (kind : ReplyKind) (payload : List ℕ) → kind_in (reply_of kind payload) ≡ kind
unfolding kind_in
kind_kept Text payload = refl
kind_kept Binary payload = refl
kind_kept Pong payload = refl
kind_kept Ping payload = refl

no_bytes : (bytes : List ℕ) → length bytes ≡ 0 → bytes ≡ []
no_bytes [] none = refl
no_bytes (x ∷ bytes) none = absurd (omega (arith, none))

-- so those that are answered have the same heads and payloads
pub kept_as_answered : (dues gots : List Head) (payloads others : List ℕ) → payloads_len dues ≡ length payloads
    → payloads_len gots ≡ length others → AreAnsweredEach (kept_replies dues payloads) (kept_replies gots others)
    → AreHeadsAnswered dues gots × (payloads ≡ others)
kept_as_answered [] [] payloads others all rest h = (tt, no_bytes payloads (sym all) ∙ sym (no_bytes others (sym rest)))
kept_as_answered [] (got ∷ gots) payloads others all rest h = absurd h
kept_as_answered (due ∷ dues) [] payloads others all rest h = absurd h
kept_as_answered (due ∷ dues) (got ∷ gots) payloads others all rest (same, turn, later) =
    let kind : got.kind ≡ due.kind = sym (kind_kept got.kind (take got.len others)) ∙ (ap kind_in same ∙ kind_kept due.kind (take due.len payloads)) in
    let first : take got.len others ≡ take due.len payloads = sym (payload_kept got.kind (take got.len others)) ∙ (ap payload_of same ∙ payload_kept due.kind (take due.len payloads)) in
    let len : got.len ≡ due.len = sym (length-take-le got.len others (omega (arith, rest))) ∙ (ap (λ (l : List ℕ). length l) first ∙ length-take-le due.len payloads (omega (arith, all))) in
    let behind = kept_as_answered dues gots (drop due.len payloads) (drop got.len others)
    (omega (arith, all, length-drop due.len payloads)) (omega (arith, rest, length-drop got.len others)) later in (
      (kind, len, turn, behind.0),
      sym (take-append-drop due.len payloads) ∙ (ap₂ (λ (a b : List ℕ). a ++ b) (sym first) behind.1 ∙ take-append-drop got.len others),
    )

-- ---- those of a kind

pub answered_of_kind : (test : Reply → Bool) (dues gots : List (InTurn Reply)) → AreAnsweredEach dues gots
    → AreAnsweredEach (filter (λ x. test x.what) dues) (filter (λ x. test x.what) gots)
answered_of_kind test [] [] h = tt
answered_of_kind test [] (got ∷ gots) h = absurd h
answered_of_kind test (due ∷ dues) [] h = absurd h
answered_of_kind test (due ∷ dues) (got ∷ gots) (same, turn, later) = pick (test due.what) refl (answered_of_kind test dues gots later)
  where
    pick : (b : Bool) → test due.what ≡ b → AreAnsweredEach (filter (λ x. test x.what) dues) (filter (λ x. test x.what) gots)
        → AreAnsweredEach (filter (λ x. test x.what) (due ∷ dues)) (filter (λ x. test x.what) (got ∷ gots))
    pick true is h =
        subst (λ (l : List (InTurn Reply)). AreAnsweredEach l (filter (λ x. test x.what) (got ∷ gots)))
        (sym (ap (λ (b : Bool). if b then due ∷ filter (λ x. test x.what) dues else filter (λ x. test x.what) dues) is))
        (subst (λ (l : List (InTurn Reply)). AreAnsweredEach (due ∷ filter (λ x. test x.what) dues) l)
        (sym (ap (λ (b : Bool). if b then got ∷ filter (λ x. test x.what) gots else filter (λ x. test x.what) gots) (ap (λ (r : Reply). test r) same ∙ is)))
        (same, turn, h))
    pick false is h =
        subst (λ (l : List (InTurn Reply)). AreAnsweredEach l (filter (λ x. test x.what) (got ∷ gots)))
        (sym (ap (λ (b : Bool). if b then due ∷ filter (λ x. test x.what) dues else filter (λ x. test x.what) dues) is))
        (subst (λ (l : List (InTurn Reply)). AreAnsweredEach (filter (λ x. test x.what) dues) l)
        (sym (ap (λ (b : Bool). if b then got ∷ filter (λ x. test x.what) gots else filter (λ x. test x.what) gots) (ap (λ (r : Reply). test r) same ∙ is)))
        h)

-- ---- none is early, and all are there

pub answered_same : (dues gots : List (InTurn Reply)) → AreAnsweredEach dues gots → bare gots ≡ bare dues
answered_same [] [] h = refl
answered_same [] (got ∷ gots) h = absurd h
answered_same (due ∷ dues) [] h = absurd h
answered_same (due ∷ dues) (got ∷ gots) (same, turn, later) = ap₂ (λ (r : Reply) (l : List Reply). r ∷ l) same (answered_same dues gots later)

pub answered_count : (dues gots : List (InTurn Reply)) → AreAnsweredEach dues gots → length gots ≡ length dues
answered_count dues gots h = omega (arith, ap (λ (l : List Reply). length l) (answered_same dues gots h), length-map gots (λ (x : InTurn Reply). x.what), length-map dues (λ (x : InTurn Reply). x.what))

in_turn : (due got : InTurn Reply) → due.turn ≤ got.turn → nat_lt got.turn due.turn ≡ false
in_turn due got turn = grind (arith, nat_tests, turn)

pub answered_late : (dues gots : List (InTurn Reply)) → AreAnsweredEach dues gots → list_any is_before (zip gots dues) ≡ false
answered_late [] [] h = refl
answered_late [] (got ∷ gots) h = absurd h
answered_late (due ∷ dues) [] h = absurd h
answered_late (due ∷ dues) (got ∷ gots) (same, turn, later) =
    ap₂ (λ (a b : Bool). a || b) (in_turn due got turn) (answered_late dues gots later)

-- ---- pongs

own_payload : (due got : InTurn Reply) → got.what ≡ due.what → has_payload_of got due ≡ true
own_payload due got same = (bytes_eq-Decides (payload_of due.what) (payload_of got.what)).1 (ap (λ (r : Reply). payload_of r) (sym same))

-- the pong answers the ping
abbrev answers : InTurn Reply → InTurn Reply → Bool
answers got due = has_payload_of got due && nat_le due.turn got.turn

-- each has its answer
pub each_is_answered : (dues gots : List (InTurn Reply)) → AreAnsweredEach dues gots → AreMet dues gots
each_is_answered [] [] h = tt
each_is_answered [] (got ∷ gots) h = absurd h
each_is_answered (due ∷ dues) [] h = absurd h
each_is_answered (due ∷ dues) (got ∷ gots) (same, turn, later) = (
  or_left (answers got due) (is_answered_by gots due)
      (and_from (has_payload_of got due) (nat_le due.turn got.turn) (own_payload due got same)
      (le-leb due.turn got.turn turn)),
  all_so (λ d. is_answered_by gots d ≡ true) (λ d. is_answered_by (got ∷ gots) d ≡ true)
      (λ d e. or_right (answers got d) (is_answered_by gots d) e) dues (each_is_answered dues gots later),
)

answered_matches : (f : InTurn Reply × Option (InTurn Reply) → Bool)
    → ((due got : InTurn Reply) → due.turn ≤ got.turn → f (got, Some due) ≡ false)
    → (dues gots : List (InTurn Reply)) → AreAnsweredEach dues gots → list_any f (matches_of dues gots) ≡ false
answered_matches f each [] [] h = refl
answered_matches f each [] (got ∷ gots) h = absurd h
answered_matches f each (due ∷ dues) [] h = absurd h
answered_matches f each (due ∷ dues) (got ∷ gots) (same, turn, later) =
    let found = found_first got due (due ∷ dues) dues refl (own_payload due got same) in
    ap₂ (λ (o : Option (InTurn Reply)) (l : List (InTurn Reply)). list_any f ((got, o) ∷ matches_of l gots)) found.0
    (sym (left_of_match got due (due ∷ dues) dues found.0 found.1))
    ∙ ap₂ (λ (a b : Bool). a || b) (each due got turn) (answered_matches f each dues gots later)

last_of_both : (due got : InTurn Reply) (dues gots : List (InTurn Reply)) → got.what ≡ due.what → due.turn ≤ got.turn → AreAnsweredEach dues gots
    → (d : InTurn Reply) × (g : InTurn Reply) × (last_or (Some due) dues ≡ Some d) × (last_or (Some got) gots ≡ Some g) × (g.what ≡ d.what) × (d.turn ≤ g.turn)
last_of_both due got [] [] same turn h = (due, got, refl, refl, same, turn)
last_of_both due got [] (g ∷ gots) same turn h = absurd h
last_of_both due got (d ∷ dues) [] same turn h = absurd h
last_of_both due got (d ∷ dues) (g ∷ gots) same turn (next, after, later) = last_of_both d g dues gots next after later

pub answered_last : (dues gots : List (InTurn Reply)) → AreAnsweredEach dues gots → 0 < length dues → IsLastPong dues gots
answered_last [] gots h some = absurd (omega arith)
answered_last (due ∷ dues) [] h some = absurd h
answered_last (due ∷ dues) (got ∷ gots) (same, turn, later) some =
    let (d, g, is_due, is_got, what, after) = last_of_both due got dues gots same turn later in
    record { due = d; is_due = is_due; got = g; is_got = is_got; same = what; turn = after }

no_last_of_none : (dues gots : List (InTurn Reply)) → IsLastPong dues gots → 0 < length dues
no_last_of_none [] gots last = absurd (let wrong : None ≡ Some last.due = last.is_due in cc)
no_last_of_none (due ∷ dues) gots last = omega arith

-- ---- the common order

pub answered_in_order : (dues gots : List (InTurn Reply)) → AreAnsweredEach dues gots → IsWithSomeLeftOut (bare (answers_among gots)) (bare dues)
answered_in_order [] [] h = refl
answered_in_order [] (got ∷ gots) h = absurd h
answered_in_order (due ∷ dues) [] h = absurd h
answered_in_order (due ∷ dues) (got ∷ gots) (same, turn, later) = pick (is_answer got.what) refl (answered_in_order dues gots later)
  where
    pick : (b : Bool) → is_answer got.what ≡ b → IsWithSomeLeftOut (bare (answers_among gots)) (bare dues)
        → IsWithSomeLeftOut (bare (answers_among (got ∷ gots))) (bare (due ∷ dues))
    pick true is h = inr (
      bare (answers_among gots),
      ap (λ (b : Bool). bare (if b then got ∷ answers_among gots else answers_among gots)) is
          ∙ ap (λ (r : Reply). r ∷ bare (answers_among gots)) same,
      h,
    )
    pick false is h = inl (subst (λ (l : List Reply). IsWithSomeLeftOut l (bare dues))
        (sym (ap (λ (b : Bool). bare (if b then got ∷ answers_among gots else answers_among gots)) is)) h)

-- ---- what is found

module _ (x : Evidence) (owes : Bool) (each : AreAnsweredEach x.due.replies x.got.replies) (tells : (owes ≡ true) ↔ (0 < length (pong_replies x.due.replies))) where
  abbrev dues : List (InTurn Reply)
  dues = message_replies x.due.replies

  abbrev gots : List (InTurn Reply)
  gots = message_replies x.got.replies

  abbrev pongs_due : List (InTurn Reply)
  pongs_due = pong_replies x.due.replies

  abbrev pongs_got : List (InTurn Reply)
  pongs_got = pong_replies x.got.replies

  messages : gots ≡ message_replies (answers_among x.got.replies)
  messages = same_messages x.got.replies

  pongs : pongs_got ≡ pong_replies (answers_among x.got.replies)
  pongs = same_pongs x.got.replies

  by_message : AreAnsweredEach dues gots
  by_message = answered_of_kind is_message x.due.replies x.got.replies each

  by_pong : AreAnsweredEach pongs_due pongs_got
  by_pong = answered_of_kind is_pong x.due.replies x.got.replies each

  pub answered_findings : AreFindingsOf (without_pings x) (record {
    has_early_message = false;
    has_early_pong = false;
    has_unmatched_pong = false;
    begins = true;
    is_short_of_messages = false;
    is_short_of_pongs = false;
    owes_pongs = owes;
    has_last_pong = owes;
    keeps_order = true;
  })
  answered_findings = record {
    has_early_message = sym (ap (λ (l : List (InTurn Reply)). list_any is_before (zip l dues)) (sym messages) ∙ answered_late dues gots by_message);
    has_early_pong = sym (ap (λ (l : List (InTurn Reply)). list_any is_before_match (matches_of pongs_due l)) (sym pongs)
        ∙ answered_matches is_before_match (λ due got turn. in_turn due got turn) pongs_due pongs_got by_pong);
    has_unmatched_pong = sym (ap (λ (l : List (InTurn Reply)). list_any is_unmatched (matches_of pongs_due l)) (sym pongs)
        ∙ answered_matches is_unmatched (λ due got turn. refl) pongs_due pongs_got by_pong);
    begins = (λ e. subst (λ (l : List (InTurn Reply)). IsBeginningOf (bare l) (bare dues)) messages ([], sym (answered_same dues gots by_message) ∙ sym (append-nil (bare gots))), λ b. refl);
    is_short_of_messages = (λ e. absurd cc, λ short. absurd (omega (arith, short, ap (λ (l : List (InTurn Reply)). length l) messages, answered_count dues gots by_message)));
    is_short_of_pongs = (λ e. absurd cc, λ short. absurd (omega (arith, short, ap (λ (l : List (InTurn Reply)). length l) pongs, answered_count pongs_due pongs_got by_pong)));
    owes_pongs = tells;
    has_last_pong = (
      λ e. subst (λ (l : List (InTurn Reply)). IsLastPong pongs_due l) pongs (answered_last pongs_due pongs_got by_pong (tells.0 e)),
      λ last. tells.1 (no_last_of_none pongs_due (pong_replies (answers_among x.got.replies)) last),
    );
    keeps_order = (λ e. answered_in_order x.due.replies x.got.replies each, λ order. refl);
  }
