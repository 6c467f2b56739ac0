-- What a run waits for by the protocol: where a pong that was got answers the last ping, the last ping for which a pong
-- is owed is answered too, or a later one is.
use Rattle.std.proofs.Common.{◌≡◌, ◌∙◌, ◌<◌, ◌↔◌, not, Bool, true, false, ◌||◌, List, [], ◌∷◌, ◌++◌}
use Rattle.std.proofs.Common.{length, filter, Option, None, Some, ◌⊎◌, inl, inr, ap, append-nil, sym, refl, subst, arith}
use Rattle.std.proofs.Math.Bool.{or-true}
use Rattle.std.specs.List.{last_or, list_any}
use Rattle.ws_wire.specs.declared.role.Role.{Role}
use Rattle.ws_scripts.specs.declared.expectation.Expectation.{Expectation}
use Rattle.ws_scripts.specs.declared.expectation.Expectation.TheVariants.{Echo, Protocol}
use Rattle.ws_scripts.specs.declared.transcript.Turn.{Turn}
use Rattle.ws_scripts.specs.declared.transcript.Ended.TheVariants.{Tester}
use Rattle.ws_suite.specs.declared.evidence.InTurn.{InTurn}
use Rattle.ws_suite.specs.declared.evidence.Reply.{Reply}
use Rattle.ws_suite.specs.declared.evidence.Evidence.{Evidence}
use Rattle.ws_suite.specs.declared.evidence.keeping.RunReplies.{RunReplies}
use Rattle.ws_suite.specs.Evidence.{IsEvidenceOf}
use Rattle.ws_suite.specs.Growing.{AreKeptSince, AreTurnsAnswered, GrowingValue, HasGrown}
use Rattle.ws_suite.specs.InnerCollecting.{EventLaws}
use Rattle.ws_suite.specs.LastPings.{is_due_among}
use Rattle.ws_suite.specs.Matching.{due_pongs, got_pongs, pong_replies}
use Rattle.ws_suite.specs.Protocol.{IsLastAnswered, OwesPongs, is_answered, is_owed, later_pongs, owed_pongs}
use Rattle.ws_suite.specs.Waiting.{AreTurnsAnsweredBy, AreTurnsSeenAnswered, IsLastPingAnswered, IsSeenAnswered}
use Rattle.ws_suite.specs.Waiting.{MeetsExpectation}
use Rattle.ws_suite.proofs.EvidenceLemmas.{last_joined}
use Rattle.ws_suite.proofs.OneVerdict.{one_evidence}
use Rattle.ws_suite.proofs.OwedLemmas.{all_but_last, any_or_last, is_later, last_passes, none_there, nothing_or_more}
use Rattle.ws_suite.proofs.OwedLemmas.{passed_more, some_passes, some_same}

-- ---- the last of a list

-- where it passes a test, one of the list does
any_by_last : {X : Type 0} (test : X → Bool) (xs : List X) (x : X) → last_or None xs ≡ Some x → test x ≡ true
    → list_any test xs ≡ true
any_by_last {X} test xs x is passes =
    let last : last_passes test xs ≡ true = ap (λ (o : Option X). some_passes test o) is ∙ passes in
    any_or_last test xs ∙ (ap (λ (b : Bool). list_any test (all_but_last xs) || b) last
    ∙ or-true (list_any test (all_but_last xs)))

-- where it passes a test, it is the last of those that pass
last_passed : {X : Type 0} (test : X → Bool) (xs : List X) (x : X) → last_or None xs ≡ Some x → test x ≡ true
    → last_or None (filter test xs) ≡ Some x
last_passed {X} test xs x is passes = pick (nothing_or_more xs)
  where
    IsLast : List X → Type 0
    IsLast l = last_or None (filter test l) ≡ Some x

    pick : (xs ≡ []) ⊎ ((ys : List X) × (y : X) × (xs ≡ ys ++ y ∷ [])) → IsLast xs
    pick (inl e) =
        absurd (let wrong : None ≡ Some x = sym (ap (λ (l : List X). last_or None l) e) ∙ is in cc)
    pick (inr (ys, y, e)) =
        let at : Some y ≡ Some x = sym (ap (λ (l : List X). last_or None l) e ∙ last_joined None ys (y ∷ [])) ∙ is in
        let same : y ≡ x = some_same y x at in
        subst IsLast (sym e) (subst (λ (z : X). IsLast (ys ++ z ∷ [])) (sym same)
        (ap (λ (l : List X). last_or None l) (passed_more test ys x passes)
        ∙ last_joined None (filter test ys) (x ∷ [])))

-- all that was handed on is all there is
all_there : (replies handed : List (InTurn Reply)) (kept : RunReplies) → AreKeptSince handed kept replies
    → kept.fresh ≡ [] → replies ≡ handed
all_there replies handed kept h none =
    h.fresh ∙ (ap (λ (l : List (InTurn Reply)). handed ++ l) none ∙ append-nil handed)

-- ---- the last ping for which a pong is owed

-- where the last ping that was sent is answered, so is the last one for which a pong is owed, or a later one
owed_answered : (x : Evidence) (due : InTurn Reply) → last_or None (due_pongs x) ≡ Some due
    → is_answered x due ≡ true → OwesPongs x → IsLastAnswered x
owed_answered x due is_due answered owes = pick (is_owed x due) refl
  where
    owed : (o : Option (InTurn Reply)) → last_or None (owed_pongs x) ≡ o
        → list_any (is_answered x) (later_pongs x) ≡ true → IsLastAnswered x
    owed None e later = absurd (none_there (owed_pongs x) e owes)
    owed (Some last) e later = record { last = last; is_last = e; answered = inr later }

    pick : (b : Bool) → is_owed x due ≡ b → IsLastAnswered x
    pick true e = record {
      last = due;
      is_last = last_passed (is_owed x) (due_pongs x) due is_due e;
      answered = inl answered;
    }
    pick false e = owed (last_or None (owed_pongs x)) refl
        (any_by_last (is_answered x) (later_pongs x) due
        (last_passed (is_later x) (due_pongs x) due is_due (ap not e)) answered)

-- where a pong is owed, some ping was sent
some_due : (x : Evidence) → OwesPongs x → 0 < length (due_pongs x)
some_due x owes = some (due_pongs x) owes
  where
    some : (l : List (InTurn Reply)) → 0 < length (filter (is_owed x) l) → 0 < length l
    some [] owes = owes
    some (first ∷ l) owes = omega arith

-- where the last ping that was sent is answered, what is waited for has come
last_meets : (x : Evidence) → IsLastPingAnswered x → MeetsExpectation Protocol x
last_meets x h = pick (last_or None (due_pongs x)) refl
  where
    pick : (o : Option (InTurn Reply)) → last_or None (due_pongs x) ≡ o → MeetsExpectation Protocol x
    pick None e = λ owes. absurd (none_there (due_pongs x) e (some_due x owes))
    pick (Some due) e = owed_answered x due e (h due e)

pub seen_meets : (expected : Expectation) (x : Evidence) → IsSeenAnswered expected x → MeetsExpectation expected x
seen_meets Echo x h = h
seen_meets Protocol x h = last_meets x h

pub seen_come : (expected : Expectation) (tested : Role) (turns : List Turn) → AreTurnsSeenAnswered expected tested turns
    → AreTurnsAnsweredBy expected tested turns
seen_come expected tested turns a =
    record { evidence = a.evidence; is_evidence = a.is_evidence; answered = seen_meets expected a.evidence a.answered }

-- ---- what is kept tells it

-- of an echo what is due has come
pub seen_of_echo : (tested : Role) (turns : List Turn) (r : Bool) → ((r ≡ true) ↔ AreTurnsAnswered tested turns)
    → ((r ≡ true) ↔ AreTurnsSeenAnswered Echo tested turns)
seen_of_echo tested turns r tells = (
  λ e. let a = tells.0 e in record { evidence = a.evidence; is_evidence = a.is_evidence; answered = a.answered },
  λ a. tells.1 (record { evidence = a.evidence; is_evidence = a.is_evidence; answered = a.answered }),
)

-- whether one of them answers the last that is due, if there is one
among_tells : (x : Evidence) (o : Option (InTurn Reply)) → last_or None (due_pongs x) ≡ o
    → ((is_due_among o (got_pongs x) ≡ true) ↔ IsLastPingAnswered x)
among_tells x None e = (
  λ b. λ last is. absurd (let wrong : None ≡ Some last = sym e ∙ is in cc),
  λ h. refl,
)
among_tells x (Some due) e = (
  λ b. λ last is. ap (λ (p : InTurn Reply). is_answered x p) (some_same last due (sym is ∙ e)) ∙ b,
  λ h. h due e,
)

-- by the protocol the last ping that was sent is answered
pub seen_of_last_ping : EventLaws → (tested : Role) (turns : List Turn) (x v : GrowingValue) (r : Bool) → x ≡ v
    → r ≡ x.last_ping.is_answered → HasGrown tested turns v
    → ((r ≡ true) ↔ AreTurnsSeenAnswered Protocol tested turns)
seen_of_last_ping laws tested turns x v r same tells grown =
    let h = subst (λ (y : GrowingValue). HasGrown tested turns y) (sym same) grown in
    let shown : Evidence = record {
      due = h.due.shown;
      got = h.got.shown;
      turns = length turns;
      ended = Tester;
      answers_doom = false;
    } in
    let is : IsEvidenceOf tested (record { turns = turns; ended = Tester }) shown = record {
      due = h.due.is_shown;
      got = h.got.is_shown;
      turns = refl;
      ended = refl;
      uncounted = refl;
    } in
    let dues : h.due.shown.replies ≡ h.dues = all_there h.due.shown.replies h.dues x.due.replies h.due.replies h.no_due in
    let gots : h.got.shown.replies ≡ h.gots = all_there h.got.shown.replies h.gots x.got.replies h.got.replies h.no_got in
    let due : last_or None (due_pongs shown) ≡ x.last_ping.due =
    ap (λ (l : List (InTurn Reply)). last_or None (pong_replies l)) dues ∙ sym h.last_ping.due in
    let told : r ≡ is_due_among x.last_ping.due (got_pongs shown) =
    tells ∙ (h.last_ping.is_answered
    ∙ ap (λ (l : List (InTurn Reply)). is_due_among x.last_ping.due (pong_replies l)) (sym gots)) in
    let both = among_tells shown x.last_ping.due due in (
      λ e. record { evidence = shown; is_evidence = is; answered = both.0 (sym told ∙ e) },
      λ a. told ∙ both.1 (subst (λ (y : Evidence). IsLastPingAnswered y)
          (one_evidence laws tested (record { turns = turns; ended = Tester }) a.evidence shown a.is_evidence is) a.answered),
    )
