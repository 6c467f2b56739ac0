-- Evidence that grows: what is kept of the replies, and the turns with one turn or one piece more.
use Rattle.std.proofs.Common.{◌≡◌, ◌∙◌, ℕ, ◌+◌, ◌-◌, ◌^◌, ◌<◌, ◌≤◌, ◌↔◌, min, Bool, true, false, if◌then◌else◌, List, [], ◌∷◌, ◌++◌, get_or, length, take, Option, None, Some, inl, inr, ap, sym, refl, subst, arith, append_assoc, append-nil, length-append, ◌⊎◌}
use Rattle.std.proofs.lemmas.Bool.{cases_lt}
use Rattle.std.proofs.lemmas.List.{length-map, map-append, take_more}
use Rattle.std.proofs.lemmas.List.Elements.{filter-append}
use Rattle.std.specs.List.{AllByRecursion, filter, last_or}
use Rattle.ws_wire.specs.declared.role.Role.{Role}
use Rattle.ws_session.specs.Exchange.{SessionValue}
use Rattle.ws_scripts.specs.declared.transcript.Turn.{Turn}
use Rattle.ws_scripts.specs.declared.transcript.Ended.TheVariants.{Tester}
use Rattle.ws_suite.specs.declared.evidence.InTurn.{InTurn}
use Rattle.ws_suite.specs.declared.evidence.Reply.{Reply}
use Rattle.ws_suite.specs.declared.evidence.Reply.TheVariants as reply
use Rattle.ws_suite.specs.declared.evidence.Evidence.{Evidence}
use Rattle.ws_suite.specs.declared.evidence.collecting.Collected.{Collected}
use Rattle.ws_suite.specs.declared.evidence.keeping.ReplyTally.{ReplyTally}
use Rattle.ws_suite.specs.declared.evidence.keeping.RunReplies.{RunReplies}
use Rattle.ws_suite.specs.declared.evidence.pairing.Pairing.{Pairing}
use Rattle.ws_suite.specs.Evidence.{IsEvidenceOf, by_turn, due_for, got_in, got_turns, other_role, sent_turns}
use Rattle.ws_suite.specs.Growing.{AnswersTally, AreKeptSince, AreTurnsAnswered, EndInsideFrame, GrowingValue, HasGrown, HasTakenTurns, IsAnswered, IsAnsweredPong, IsTallyOf, new_turn, turn_with_got, turn_with_sent}
use Rattle.ws_suite.specs.LastPings.{AreOfTurn, IsLastPingOf}
use Rattle.ws_suite.specs.declared.evidence.last_ping.LastPing.{LastPing}
use Rattle.ws_session.specs.declared.event.Event.{Event}
use Rattle.ws_suite.specs.InnerCollecting.{EventLaws}
use Rattle.ws_suite.specs.Matching.{IsLastPong, is_message, is_pong, message_replies, pong_replies}
use Rattle.ws_suite.specs.Pairings.{IsPairingOf}
use Rattle.ws_suite.proofs.EvidenceLemmas.{last_joined}
use Rattle.ws_suite.proofs.JudgeLemmas.{last_same, last_turns}
use Rattle.ws_suite.proofs.LastPingLemmas.{all_handed_on, fresh_in_turn}
use Rattle.ws_suite.proofs.OneVerdict.{one_evidence}
use Rattle.ws_suite.proofs.TurnsCollected.{turn_begun}

-- ---- what is kept

pub pong_is_no_message : (r : Reply) → is_pong r ≡ true → is_message r ≡ false
pong_is_no_message (reply.Message message) e = absurd cc
pong_is_no_message (reply.Pong payload) e = refl
pong_is_no_message (reply.Ping payload) e = refl

one_left : (test : InTurn Reply → Bool) (r : InTurn Reply) → test r ≡ true → filter test (r ∷ []) ≡ r ∷ []
one_left test r e = ap (λ (b : Bool). if b then r ∷ [] else []) e

none_left : (test : InTurn Reply → Bool) (r : InTurn Reply) → test r ≡ false → filter test (r ∷ []) ≡ []
none_left test r e = ap (λ (b : Bool). if b then r ∷ [] else []) e

-- one pong more is the last
pub pong_kept : (tally : ReplyTally) (replies : List (InTurn Reply)) (r : InTurn Reply) → is_pong r.what ≡ true
    → IsTallyOf tally replies
    → IsTallyOf (record { messages = tally.messages; last_pong = Some r }) (replies ++ r ∷ [])
pong_kept tally replies r is h = record {
  messages =
      h.messages ∙ ap (λ (l : List (InTurn Reply)). length l)
      (sym (append-nil (message_replies replies)) ∙ ap (λ (l : List (InTurn Reply)). message_replies replies ++ l) (sym (none_left (λ x. is_message x.what) r (pong_is_no_message r.what is))) ∙ sym (filter-append (λ x. is_message x.what) replies (r ∷ [])));
  last_pong = sym (ap (λ (l : List (InTurn Reply)). last_or None l) pongs ∙ last_joined None (pong_replies replies) (r ∷ []));
}
  where
    pongs : pong_replies (replies ++ r ∷ []) ≡ pong_replies replies ++ r ∷ []
    pongs = filter-append (λ x. is_pong x.what) replies (r ∷ [])
        ∙ ap (λ (l : List (InTurn Reply)). pong_replies replies ++ l) (one_left (λ x. is_pong x.what) r is)

-- ---- what is kept tells whether what is due has come

never_none : {X : Type 0} (x : X) (xs : List X) → last_or (Some x) xs ≡ None → ⊥
never_none x [] e = absurd cc
never_none x (y ∷ xs) e = never_none y xs e

without_last : {X : Type 0} (xs : List X) → last_or None xs ≡ None → 0 < length xs → ⊥
without_last [] e some = omega arith
without_last (x ∷ xs) e some = never_none x xs e

with_last : {X : Type 0} (xs : List X) (x : X) → last_or None xs ≡ Some x → 0 < length xs
with_last [] x e = absurd cc
with_last (y ∷ xs) x e = omega arith

module _ (dues gots : List (InTurn Reply)) where
  pub pong_there : (o p : Option (InTurn Reply)) → last_or None dues ≡ o → last_or None gots ≡ p → IsAnsweredPong o p → 0 < length dues → IsLastPong dues gots
  pong_there None p is_due is_got h some = absurd (without_last dues is_due some)
  pong_there (Some due) None is_due is_got h some = absurd h
  pong_there (Some due) (Some got) is_due is_got h some = record { due = due; is_due = is_due; got = got; is_got = is_got; same = h.0; turn = h.1 }

  pub there_pong : (o p : Option (InTurn Reply)) → last_or None dues ≡ o → last_or None gots ≡ p → (0 < length dues → IsLastPong dues gots) → IsAnsweredPong o p
  there_pong None p is_due is_got h = tt
  there_pong (Some due) None is_due is_got h =
      let last = h (with_last dues due is_due) in
      absurd (let wrong : None ≡ Some last.got = sym is_got ∙ last.is_got in cc)
  there_pong (Some due) (Some got) is_due is_got h =
      let last = h (with_last dues due is_due) in
      (last_same dues gots due got is_due is_got last, last_turns dues gots due got is_due is_got last)

pub tallies_tell : (x : Evidence) (due got : ReplyTally) → IsTallyOf due x.due.replies → IsTallyOf got x.got.replies → AnswersTally due got ↔ IsAnswered x
tallies_tell x due got d g = (
  λ h. (
    λ short. omega (arith, short, h.0, d.messages, g.messages),
    λ some. pong_there (pong_replies x.due.replies) (pong_replies x.got.replies) due.last_pong got.last_pong (sym d.last_pong) (sym g.last_pong) h.1 some,
  ),
  λ h. (fewer (h.0), there_pong (pong_replies x.due.replies) (pong_replies x.got.replies) due.last_pong got.last_pong (sym d.last_pong) (sym g.last_pong) h.1),
)
  where
    fewer : (length (message_replies x.got.replies) < length (message_replies x.due.replies) → ⊥) → due.messages ≤ got.messages
    fewer not = elim (cases_lt got.messages due.messages) [
      | inl less ↦ absurd (not (omega (arith, less, d.messages, g.messages)))
      | inr most ↦ most
    ]

-- ---- what the turns show

pub tells_answered : EventLaws → (tested : Role) (turns : List Turn) (x v : GrowingValue) (r : Bool) → x ≡ v → ((r ≡ true) ↔ AnswersTally x.due.replies.tally x.got.replies.tally) → HasGrown tested turns v
    → ((r ≡ true) ↔ AreTurnsAnswered tested turns)
tells_answered laws tested turns x v r same tells grown =
    let h = subst (λ (y : GrowingValue). HasGrown tested turns y) (sym same) grown in
    let shown : Evidence = record { due = h.due.shown; got = h.got.shown; turns = length turns; ended = Tester; answers_doom = false } in
    let is : IsEvidenceOf tested (record { turns = turns; ended = Tester }) shown = record { due = h.due.is_shown; got = h.got.is_shown; turns = refl; ended = refl; uncounted = refl } in
    let both = tallies_tell shown x.due.replies.tally x.got.replies.tally h.due.replies.tally h.got.replies.tally in (
      λ e. record { evidence = shown; is_evidence = is; answered = both.0 (tells.0 e) },
      λ a. tells.1 (both.1 (subst (λ (v : Evidence). IsAnswered v) (one_evidence laws tested (record { turns = turns; ended = Tester }) a.evidence shown a.is_evidence is) a.answered)),
    )

pub tells_inside : EventLaws → (tested : Role) (turns : List Turn) (x v : GrowingValue) (r : Bool) → x ≡ v → r ≡ x.got.has_rest → HasGrown tested turns v → ((r ≡ true) ↔ EndInsideFrame tested turns)
tells_inside laws tested turns x v r same tells grown =
    let h = subst (λ (y : GrowingValue). HasGrown tested turns y) (sym same) grown in
    let shown : Evidence = record { due = h.due.shown; got = h.got.shown; turns = length turns; ended = Tester; answers_doom = false } in
    let is : IsEvidenceOf tested (record { turns = turns; ended = Tester }) shown = record { due = h.due.is_shown; got = h.got.is_shown; turns = refl; ended = refl; uncounted = refl } in (
      λ e. record { evidence = shown; is_evidence = is; inside = sym h.got.has_rest ∙ (sym tells ∙ e) },
      λ a. tells ∙ (h.got.has_rest ∙ (ap (λ (v : Evidence). v.got.has_rest) (one_evidence laws tested (record { turns = turns; ended = Tester }) shown a.evidence is a.is_evidence) ∙ a.inside)),
    )

-- ---- the turns with one turn or one piece more

sent_last : (turns : List Turn) (turn : Turn) → sent_turns (turns ++ turn ∷ []) ≡ sent_turns turns ++ turn.sent ∷ []
sent_last turns turn = map-append (λ (t : Turn). t.sent) turns (turn ∷ [])

got_last : (turns : List Turn) (turn : Turn) → got_turns (turns ++ turn ∷ []) ≡ got_turns turns ++ turn.got ∷ []
got_last turns turn = map-append (λ (t : Turn). t.got) turns (turn ∷ [])

-- nothing is kept of no turns
none_found : (found : Event → List Reply) (events : List (List Event)) → length events ≡ 0 → by_turn found 0 events ≡ []
none_found found [] e = refl
none_found found (x ∷ events) e = absurd (omega (arith, e))

pub none_fresh : (found : Event → List Reply) (role : Role) (session : SessionValue) (c : Collected RunReplies)
    → HasTakenTurns (AreKeptSince []) found role [] session c → c.replies.fresh ≡ []
none_fresh found role session c h =
    sym h.replies.fresh ∙ (h.is_shown.replies
    ∙ none_found found h.is_shown.events (omega (arith, h.is_shown.are_events.each)))

-- all that was told since is handed on
pub all_handed : (found : Event → List Reply) (role : Role) (turns : List (List ℕ)) (session : SessionValue)
    (c : Collected RunReplies) (handed : List (InTurn Reply)) (replies : RunReplies) → replies.tally ≡ c.replies.tally
    → replies.fresh ≡ [] → HasTakenTurns (AreKeptSince handed) found role turns session c
    → HasTakenTurns (AreKeptSince (handed ++ c.replies.fresh)) found role turns session
    (record { replies = replies; ending = c.ending; has_rest = c.has_rest })
all_handed found role turns session c handed replies tally fresh h = record {
  shown = h.shown;
  is_shown = h.is_shown;
  replies = record {
    tally = subst (λ (t : ReplyTally). IsTallyOf t h.shown.replies) (sym tally) h.replies.tally;
    fresh =
        h.replies.fresh ∙ (sym (append-nil (handed ++ c.replies.fresh))
        ∙ ap (λ (l : List (InTurn Reply)). (handed ++ c.replies.fresh) ++ l) (sym fresh));
  };
  ending = h.ending;
  has_rest = h.has_rest;
  sent = h.sent;
  exchanged = h.exchanged;
  same_role = h.same_role;
  limits = h.limits;
}

module _ (tested : Role) (x v : GrowingValue) (same : x ≡ v) where
  pub next_turn : (turns : List Turn) (n : ℕ) (last_ping : LastPing) → n ≡ min (x.turns + 1) (2 ^ 64 - 1)
      → ((turn next : ℕ) (dues gots : List (InTurn Reply)) → AllByRecursion (λ g. g.turn < next) gots
      → IsLastPingOf turn dues gots x.last_ping → IsLastPingOf next dues gots last_ping)
      → length turns + 1 < 2 ^ 64 → HasGrown tested turns v
      → HasGrown tested (turns ++ new_turn ∷ []) (record {
        due = x.due;
        got = x.got;
        pairing = x.pairing;
        last_ping = last_ping;
        tested = x.tested;
        tester = x.tester;
        turns = n;
        pings = x.pings;
      })
  next_turn turns n last_ping e begins room grown =
      let h = subst (λ (y : GrowingValue). HasGrown tested turns y) (sym same) grown in
      let next : length turns ≡ length (turns ++ new_turn ∷ []) - 1 = omega (arith, length-append turns (new_turn ∷ [])) in
      let all = all_handed_on got_in (other_role tested) (got_turns turns) x.tester x.got h.gots h.no_got h.got in
      let count : length (got_turns turns) ≡ length turns = length-map turns (λ (t : Turn). t.got) in
      record {
        dues = h.dues;
        gots = h.gots;
        due = subst (λ (l : List (List ℕ)). HasTakenTurns (AreKeptSince h.dues) due_for tested l x.tested x.due)
            (sym (sent_last turns new_turn)) (turn_begun due_for tested (sent_turns turns) x.tested x.due h.due);
        got = subst (λ (l : List (List ℕ)). HasTakenTurns (AreKeptSince h.gots) got_in (other_role tested) l x.tester x.got)
            (sym (got_last turns new_turn)) (turn_begun got_in (other_role tested) (got_turns turns) x.tester x.got h.got);
        no_due = h.no_due;
        no_got = h.no_got;
        pairing = h.pairing;
        last_ping = subst (λ (k : ℕ). IsLastPingOf k h.dues h.gots last_ping) next
            (begins (length turns - 1) (length turns) h.dues h.gots
            (subst (λ (k : ℕ). AllByRecursion (λ g. g.turn < k) h.gots) count all) h.last_ping);
        count = omega (arith, e, room, h.count, length-append turns (new_turn ∷ []));
      }

  module _ (before : List Turn) (turn : Turn) (grown : HasGrown tested (before ++ turn ∷ []) v) where
    pub so_far : HasGrown tested (before ++ turn ∷ []) x
    so_far = subst (λ (y : GrowingValue). HasGrown tested (before ++ turn ∷ []) y) (sym same) grown

    -- the number of the last turn
    pub last_number : (n : ℕ) → n ≡ x.turns - 1 → n ≡ length before
    last_number n e = omega (arith, e, so_far.count, length-append before (turn ∷ []))

    pub due_so_far : HasTakenTurns (AreKeptSince so_far.dues) due_for tested (sent_turns before ++ turn.sent ∷ []) x.tested x.due
    due_so_far = subst (λ (l : List (List ℕ)). HasTakenTurns (AreKeptSince so_far.dues) due_for tested l x.tested x.due)
        (sent_last before turn) so_far.due

    pub got_so_far : HasTakenTurns (AreKeptSince so_far.gots) got_in (other_role tested) (got_turns before ++ turn.got ∷ []) x.tester x.got
    got_so_far = subst (λ (l : List (List ℕ)). HasTakenTurns (AreKeptSince so_far.gots) got_in (other_role tested) l x.tester x.got)
        (got_last before turn) so_far.got

    same_count : (other : Turn) → x.turns ≡ length (before ++ other ∷ [])
    same_count other = omega (arith, so_far.count, length-append before (turn ∷ []), length-append before (other ∷ []))

    -- the turn that has begun last is behind those before it, whatever it is
    last_place : (other : Turn) → length before ≡ length (before ++ other ∷ []) - 1
    last_place other = omega (arith, length-append before (other ∷ []))

    ping_so_far : IsLastPingOf (length before) so_far.dues so_far.gots x.last_ping
    ping_so_far = subst (λ (k : ℕ). IsLastPingOf k so_far.dues so_far.gots x.last_ping) (sym (last_place turn))
        so_far.last_ping

    -- a piece more was sent, what is due for it was handed on, and what was got is kept as it was
    pub more_sent : EventLaws → (bytes : List ℕ) (session : SessionValue) (due : Collected RunReplies)
        (replies : RunReplies) (pairing : Pairing) (last_ping : LastPing) (pings : List (List ℕ))
        → HasTakenTurns (AreKeptSince so_far.dues) due_for tested (sent_turns before ++ (turn.sent ++ bytes) ∷ []) session due
        → replies.tally ≡ due.replies.tally → replies.fresh ≡ []
        → ((dues gots : List (InTurn Reply)) → IsPairingOf dues gots x.pairing
        → IsPairingOf (dues ++ due.replies.fresh) gots pairing)
        → ((n : ℕ) (dues gots : List (InTurn Reply)) → AreOfTurn n due.replies.fresh
        → IsLastPingOf n dues gots x.last_ping → IsLastPingOf n (dues ++ due.replies.fresh) gots last_ping)
        → HasGrown tested (before ++ turn_with_sent turn bytes ∷ []) (record {
          due = record { replies = replies; ending = due.ending; has_rest = due.has_rest };
          got = x.got;
          pairing = pairing;
          last_ping = last_ping;
          tested = session;
          tester = x.tester;
          turns = x.turns;
          pings = pings;
        })
    more_sent laws bytes session due replies pairing last_ping pings t same_tally fresh paired pinged =
        let dues = so_far.dues ++ due.replies.fresh in
        let new_due : Collected RunReplies = record { replies = replies; ending = due.ending; has_rest = due.has_rest } in
        let of_turn : AreOfTurn (length before) due.replies.fresh = fresh_in_turn laws due_for tested (sent_turns before)
        turn.sent bytes x.tested session x.due due so_far.dues so_far.no_due due_so_far t
        (length before) (length-map before (λ (t : Turn). t.sent)) in
        record {
          dues = dues;
          gots = so_far.gots;
          due = subst (λ (l : List (List ℕ)). HasTakenTurns (AreKeptSince dues) due_for tested l session new_due)
              (sym (sent_last before (turn_with_sent turn bytes)))
              (all_handed due_for tested _ session due so_far.dues replies same_tally fresh t);
          got = subst (λ (l : List (List ℕ)). HasTakenTurns (AreKeptSince so_far.gots) got_in (other_role tested) l x.tester x.got)
              (sym (got_last before (turn_with_sent turn bytes))) got_so_far;
          no_due = fresh;
          no_got = so_far.no_got;
          pairing = paired so_far.dues so_far.gots so_far.pairing;
          last_ping = subst (λ (k : ℕ). IsLastPingOf k dues so_far.gots last_ping) (last_place (turn_with_sent turn bytes))
              (pinged (length before) so_far.dues so_far.gots of_turn ping_so_far);
          count = same_count (turn_with_sent turn bytes);
        }

    -- a piece more was got, and what it says was handed on
    pub more_got : EventLaws → (bytes : List ℕ) (session : SessionValue) (got : Collected RunReplies)
        (replies : RunReplies) (pairing : Pairing) (last_ping : LastPing) (pings : List (List ℕ))
        → HasTakenTurns (AreKeptSince so_far.gots) got_in (other_role tested) (got_turns before ++ (turn.got ++ bytes) ∷ []) session got
        → replies.tally ≡ got.replies.tally → replies.fresh ≡ []
        → ((dues gots : List (InTurn Reply)) → IsPairingOf dues gots x.pairing
        → IsPairingOf dues (gots ++ got.replies.fresh) pairing)
        → ((n : ℕ) (dues gots : List (InTurn Reply)) → AreOfTurn n got.replies.fresh
        → IsLastPingOf n dues gots x.last_ping → IsLastPingOf n dues (gots ++ got.replies.fresh) last_ping)
        → HasGrown tested (before ++ turn_with_got turn bytes ∷ []) (record {
          due = x.due;
          got = record { replies = replies; ending = got.ending; has_rest = got.has_rest };
          pairing = pairing;
          last_ping = last_ping;
          tested = x.tested;
          tester = session;
          turns = x.turns;
          pings = pings;
        })
    more_got laws bytes session got replies pairing last_ping pings t same_tally fresh paired pinged =
        let gots = so_far.gots ++ got.replies.fresh in
        let of_turn : AreOfTurn (length before) got.replies.fresh = fresh_in_turn laws got_in (other_role tested)
        (got_turns before) turn.got bytes x.tester session x.got got so_far.gots so_far.no_got got_so_far t
        (length before) (length-map before (λ (t : Turn). t.got)) in
        let new_got : Collected RunReplies = record { replies = replies; ending = got.ending; has_rest = got.has_rest } in
        record {
          dues = so_far.dues;
          gots = gots;
          due = subst (λ (l : List (List ℕ)). HasTakenTurns (AreKeptSince so_far.dues) due_for tested l x.tested x.due)
              (sym (sent_last before (turn_with_got turn bytes))) due_so_far;
          got = subst (λ (l : List (List ℕ)). HasTakenTurns (AreKeptSince gots) got_in (other_role tested) l session new_got)
              (sym (got_last before (turn_with_got turn bytes)))
              (all_handed got_in (other_role tested) _ session got so_far.gots replies same_tally fresh t);
          no_due = so_far.no_due;
          no_got = fresh;
          pairing = paired so_far.dues so_far.gots so_far.pairing;
          last_ping = subst (λ (k : ℕ). IsLastPingOf k so_far.dues gots last_ping) (last_place (turn_with_got turn bytes))
              (pinged (length before) so_far.dues so_far.gots of_turn ping_so_far);
          count = same_count (turn_with_got turn bytes);
        }

-- a turn of the transcript was sent and got
pub turn_by_turn : (turns : List Turn) (i : ℕ) (turn : Turn) (sent got : List ℕ) (tested : Role) (x : GrowingValue) → i < length turns → turn ≡ get_or turns i turn
    → sent ≡ turn.sent → got ≡ turn.got → HasGrown tested (take i turns ++ turn_with_got (turn_with_sent new_turn sent) got ∷ []) x → HasGrown tested (take (i + 1) turns) x
turn_by_turn turns i turn sent got tested x less is s g h =
    subst (λ (l : List Turn). HasGrown tested l x) (sym (take_more turns i turn less ∙ ap (λ (t : Turn). take i turns ++ t ∷ []) (sym is)))
    (subst (λ (l : List ℕ). HasGrown tested (take i turns ++ record { sent = turn.sent; got = l } ∷ []) x) g
    (subst (λ (l : List ℕ). HasGrown tested (take i turns ++ record { sent = l; got = got } ∷ []) x) s h))
