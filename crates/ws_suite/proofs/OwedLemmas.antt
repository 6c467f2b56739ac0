-- What comes of the pings that had to be answered, one ping after the other.
use Rattle.std.proofs.Common.{◌≡◌, ◌↔◌, ◌∙◌, ℕ, ◌-◌, ◌<◌, not, Bool, true, false, ◌&&◌, ◌||◌, cond, List, [], ◌∷◌, ◌++◌}
use Rattle.std.proofs.Common.{length, take, filter, Option, None, Some, ◌⊎◌, inl, inr, ap, ap₂, sym, refl, subst, arith}
use Rattle.std.proofs.Common.{min, nat_lt}
use Rattle.std.proofs.Math.Bool.{or-false}
use Rattle.std.proofs.lemmas.Bool.{le-ltb, lt-ltb, ltb-false, ltb-true}
use Rattle.std.proofs.Math.Seq.{take-append_seam}
use Rattle.std.proofs.lemmas.List.{append-nil, length-append}
use Rattle.std.proofs.lemmas.List.Elements.{filter-append}
use Rattle.std.proofs.lemmas.List.Folds.{list_any-append}
use Rattle.std.specs.List.{AllByRecursion, last_or, list_any}
use Rattle.ws_suite.specs.declared.evidence.InTurn.{InTurn}
use Rattle.ws_suite.specs.declared.evidence.Reply.{Reply}
use Rattle.ws_suite.specs.declared.evidence.Evidence.{Evidence}
use Rattle.ws_suite.specs.declared.judging.owed.OwedPongs.{OwedPongs}
use Rattle.ws_suite.specs.InnerMarks.{AreMet, AreOwedFindings, is_pong_before, is_turn_before}
use Rattle.ws_suite.specs.Matching.{due_pongs, got_pongs, is_pong}
use Rattle.ws_suite.specs.Protocol.{IsLastAnswered, OwesPongs, is_answered, is_owed, later_pongs, owed_pongs}
use Rattle.ws_suite.proofs.EvidenceLemmas.{last_joined}
use Rattle.ws_suite.proofs.TestLemmas.{all_filtered, all_so, last_of_all, none_fails}

-- ---- one more behind a list

-- it passes the test
pub passed_more : {X : Type 0} (test : X → Bool) (xs : List X) (x : X) → test x ≡ true
    → filter test (xs ++ x ∷ []) ≡ filter test xs ++ x ∷ []
passed_more test xs x e = filter-append test xs (x ∷ [])
    ∙ ap (λ (b : Bool). filter test xs ++ cond b (x ∷ []) []) e

-- it doesn't
pub left_more : {X : Type 0} (test : X → Bool) (xs : List X) (x : X) → test x ≡ false
    → filter test (xs ++ x ∷ []) ≡ filter test xs
left_more test xs x e = filter-append test xs (x ∷ [])
    ∙ (ap (λ (b : Bool). filter test xs ++ cond b (x ∷ []) []) e ∙ append-nil (filter test xs))

-- ---- the last of a list, and the others

-- it is there and passes the test
abbrev pub some_passes : {X : Type 0} → (X → Bool) → Option X → Bool
some_passes test None = false
some_passes test (Some x) = test x

abbrev pub last_passes : {X : Type 0} → (X → Bool) → List X → Bool
last_passes test xs = some_passes test (last_or None xs)

abbrev pub all_but_last : {X : Type 0} → List X → List X
all_but_last xs = take (length xs - 1) xs

last_more : {X : Type 0} (test : X → Bool) (xs : List X) (x : X) → last_passes test (xs ++ x ∷ []) ≡ test x
last_more {X} test xs x = ap (λ (o : Option X). some_passes test o) (last_joined None xs (x ∷ []))

others_more : {X : Type 0} (xs : List X) (x : X) → all_but_last (xs ++ x ∷ []) ≡ xs
others_more xs x =
    let count : length (xs ++ x ∷ []) - 1 ≡ length xs = omega (arith, length-append xs (x ∷ [])) in
    ap (λ n. take n (xs ++ x ∷ [])) count ∙ take-append_seam xs (x ∷ [])

pub nothing_or_more : {X : Type 0} (xs : List X) → (xs ≡ []) ⊎ ((ys : List X) × (y : X) × (xs ≡ ys ++ y ∷ []))
nothing_or_more [] = inl refl
nothing_or_more {X} (x ∷ xs) = pick (nothing_or_more xs)
  where
    pick : (xs ≡ []) ⊎ ((ys : List X) × (y : X) × (xs ≡ ys ++ y ∷ []))
        → (x ∷ xs ≡ []) ⊎ ((ys : List X) × (y : X) × (x ∷ xs ≡ ys ++ y ∷ []))
    pick (inl e) = inr ([], x, ap (λ (l : List X). x ∷ l) e)
    pick (inr h) = inr (x ∷ h.0, h.1, ap (λ (l : List X). x ∷ l) h.2)

-- some one passes: one before the last, or the last
pub any_or_last : {X : Type 0} (test : X → Bool) (xs : List X)
    → list_any test xs ≡ (list_any test (all_but_last xs) || last_passes test xs)
any_or_last {X} test xs = pick (nothing_or_more xs)
  where
    Splits : List X → Type 0
    Splits l = list_any test l ≡ (list_any test (all_but_last l) || last_passes test l)

    more : (ys : List X) (y : X) → Splits (ys ++ y ∷ [])
    more ys y = list_any-append test ys (y ∷ [])
        ∙ (ap (λ (b : Bool). list_any test ys || b) (or-false (test y))
        ∙ ap₂ (λ (l : List X) (b : Bool). list_any test l || b) (sym (others_more ys y)) (sym (last_more test ys y)))

    pick : (xs ≡ []) ⊎ ((ys : List X) × (y : X) × (xs ≡ ys ++ y ∷ [])) → Splits xs
    pick (inl e) = subst Splits (sym e) refl
    pick (inr h) = subst Splits (sym h.2) (more h.0 h.1)

pub none_there : {X : Type 0} (xs : List X) → last_or None xs ≡ None → 0 < length xs → ⊥
none_there [] e some = absurd (omega (arith, some))
none_there {X} (x ∷ xs) e some = stays x xs e
  where
    stays : (y : X) (ys : List X) → last_or (Some y) ys ≡ None → ⊥
    stays y [] h = absurd cc
    stays y (z ∷ zs) h = stays z zs h

pub some_there : {X : Type 0} (xs : List X) (x : X) → last_or None xs ≡ Some x → 0 < length xs
some_there [] x e = absurd cc
some_there (y ∷ xs) x e = omega arith

-- ---- the pings so far

abbrev pub is_unanswered : Evidence → InTurn Reply → Bool
is_unanswered x due = not (is_answered x due)

abbrev pub is_later : Evidence → InTurn Reply → Bool
is_later x pong = not (is_owed x pong)

-- of these: whether the last one that is owed isn't answered, whether another that is owed isn't, and whether one that
-- isn't owed is
pub record AreSoFar (x : Evidence) (done : List (InTurn Reply)) (lacks skips later : Bool) : Type 0 where
  pub is_lacking : lacks ≡ last_passes (is_unanswered x) (filter (is_owed x) done)
  pub is_skipping : skips ≡ list_any (is_unanswered x) (all_but_last (filter (is_owed x) done))
  pub is_later : later ≡ list_any (is_answered x) (filter (is_later x) done)

pub none_so_far : (x : Evidence) → AreSoFar x [] false false false
none_so_far x = record { is_lacking = refl; is_skipping = refl; is_later = refl }

-- one more that is owed
pub owed_more : (x : Evidence) (done : List (InTurn Reply)) (ping : InTurn Reply)
    (lacks skips later answered both : Bool) → AreSoFar x done lacks skips later → is_owed x ping ≡ true
    → answered ≡ is_answered x ping → both ≡ (skips || lacks)
    → AreSoFar x (done ++ ping ∷ []) (not answered) both later
owed_more x done ping lacks skips later answered both i owed is b =
    let more = passed_more (is_owed x) done ping owed in
    let owing = filter (is_owed x) done in
    record {
      is_lacking = ap not is ∙ (sym (last_more (is_unanswered x) owing ping)
          ∙ ap (λ (l : List (InTurn Reply)). last_passes (is_unanswered x) l) (sym more));
      is_skipping = b ∙ (ap₂ (λ (a c : Bool). a || c) i.is_skipping i.is_lacking
          ∙ (sym (any_or_last (is_unanswered x) owing)
          ∙ ap (λ (l : List (InTurn Reply)). list_any (is_unanswered x) l)
          (sym (others_more owing ping) ∙ ap (λ (l : List (InTurn Reply)). all_but_last l) (sym more))));
      is_later = i.is_later ∙ ap (λ (l : List (InTurn Reply)). list_any (is_answered x) l)
          (sym (left_more (is_later x) done ping (ap not owed)));
    }

-- one more that isn't owed
pub later_more : (x : Evidence) (done : List (InTurn Reply)) (ping : InTurn Reply)
    (lacks skips later answered both : Bool) → AreSoFar x done lacks skips later → is_owed x ping ≡ false
    → answered ≡ is_answered x ping → both ≡ (later || answered)
    → AreSoFar x (done ++ ping ∷ []) lacks skips both
later_more x done ping lacks skips later answered both i owed is b =
    let same = sym (left_more (is_owed x) done ping owed) in
    let laters = filter (is_later x) done in
    record {
      is_lacking = i.is_lacking ∙ ap (λ (l : List (InTurn Reply)). last_passes (is_unanswered x) l) same;
      is_skipping = i.is_skipping
          ∙ ap (λ (l : List (InTurn Reply)). list_any (is_unanswered x) (all_but_last l)) same;
      is_later = b ∙ (ap₂ (λ (a c : Bool). a || c) i.is_later (is ∙ sym (or-false (is_answered x ping)))
          ∙ (sym (list_any-append (is_answered x) laters (ping ∷ []))
          ∙ ap (λ (l : List (InTurn Reply)). list_any (is_answered x) l)
          (sym (passed_more (is_later x) done ping (ap not owed)))));
    }

-- ---- all pings

pub some_same : {X : Type 0} (x y : X) → Some x ≡ Some y → x ≡ y
some_same x y e = cc

-- a last one is owed, and neither it nor a later one is answered
abbrev pub LacksLast : Evidence → Type 0
LacksLast x = OwesPongs x × ¬ (IsLastAnswered x)

-- an answered ping isn't an unanswered one
not_both : (b : Bool) → b ≡ true → b ≡ false → ⊥
not_both b e f = let wrong : true ≡ false = sym e ∙ f in absurd cc

not_answered : (x : Evidence) (last : InTurn Reply) → last_or None (owed_pongs x) ≡ Some last
    → is_answered x last ≡ false → list_any (is_answered x) (later_pongs x) ≡ false → IsLastAnswered x → ⊥
not_answered x last is unanswered none h = pick h.answered
  where
    pick : (is_answered x h.last ≡ true) ⊎ (list_any (is_answered x) (later_pongs x) ≡ true) → ⊥
    pick (inl e) = not_both (is_answered x last)
        (ap (λ (p : InTurn Reply). is_answered x p) (sym (some_same h.last last (sym h.is_last ∙ is))) ∙ e) unanswered
    pick (inr e) = not_both (list_any (is_answered x) (later_pongs x)) e none

last_lacks : (x : Evidence) (last : InTurn Reply) → last_or None (owed_pongs x) ≡ Some last → (a l : Bool)
    → is_answered x last ≡ a → list_any (is_answered x) (later_pongs x) ≡ l
    → ((not a && not l) ≡ true) ↔ LacksLast x
last_lacks x last is true l e f =
    (λ t. absurd cc, λ h. absurd (h.1 (record { last = last; is_last = is; answered = inl e })))
last_lacks x last is false true e f =
    (λ t. absurd cc, λ h. absurd (h.1 (record { last = last; is_last = is; answered = inr f })))
last_lacks x last is false false e f =
    (λ t. (some_there (owed_pongs x) last is, not_answered x last is e f), λ h. refl)

lacks_last : (x : Evidence) → ((last_passes (is_unanswered x) (owed_pongs x)
    && not (list_any (is_answered x) (later_pongs x))) ≡ true) ↔ LacksLast x
lacks_last x = pick (last_or None (owed_pongs x)) refl
  where
    pick : (o : Option (InTurn Reply)) → last_or None (owed_pongs x) ≡ o
        → ((some_passes (is_unanswered x) o && not (list_any (is_answered x) (later_pongs x))) ≡ true) ↔ LacksLast x
    pick None e = (λ t. absurd cc, λ h. absurd (none_there (owed_pongs x) e h.0))
    pick (Some last) e = last_lacks x last e (is_answered x last) (list_any (is_answered x) (later_pongs x)) refl refl

-- what was found over all pings
pub found_of_all : (x : Evidence) (lacks skips later : Bool) (found : OwedPongs)
    → AreSoFar x (due_pongs x) lacks skips later → found.lacks_last ≡ (lacks && not later) → found.skips_one ≡ skips
    → AreOwedFindings x found
found_of_all x lacks skips later found i lacking skipping =
    let both : found.lacks_last ≡ (last_passes (is_unanswered x) (owed_pongs x)
    && not (list_any (is_answered x) (later_pongs x))) =
    lacking ∙ ap₂ (λ (a b : Bool). a && not b) i.is_lacking i.is_later in
    let skipped = skipping ∙ i.is_skipping in
    record {
      lacks_last = (λ t. (lacks_last x).0 (sym both ∙ t), λ h. both ∙ (lacks_last x).1 h);
      skips_one = (λ t. sym skipped ∙ t, λ h. skipped ∙ h);
    }

-- where each ping is answered, neither is found
pub found_of_met : (x : Evidence) (found : OwedPongs) → AreMet (due_pongs x) (got_pongs x)
    → found.lacks_last ≡ false → found.skips_one ≡ false → AreOwedFindings x found
found_of_met x found all last one =
    let skipped = none_fails (is_answered x) (length (owed_pongs x) - 1) (owed_pongs x) owed in
    record {
      lacks_last = (λ t. absurd (not_both found.lacks_last t last), λ h. absurd (h.1 (answered h.0)));
      skips_one = (
        λ t. absurd (not_both found.skips_one t one),
        λ h. absurd (not_both (list_any (is_unanswered x) (all_but_last (owed_pongs x))) h skipped),
      );
    }
  where
    Answered : InTurn Reply → Type 0
    Answered due = is_answered x due ≡ true

    owed : AllByRecursion Answered (owed_pongs x)
    owed = all_filtered Answered (is_owed x) (due_pongs x)
        (all_so Answered (λ due. is_owed x due ≡ true → Answered due) (λ due e t. e) (due_pongs x) all)

    answered : OwesPongs x → IsLastAnswered x
    answered some =
        let h = last_of_all Answered (owed_pongs x) some owed in
        record { last = h.0; is_last = h.1; answered = inl h.2 }

-- ---- those that are owed, among all replies

-- the pongs before the turn from which on none is owed
pub owed_before : (x : Evidence) (end : Option ℕ) → ((pong : InTurn Reply) → is_turn_before end pong.turn ≡ is_owed x pong)
    → (replies : List (InTurn Reply)) → filter (is_pong_before end) replies
    ≡ filter (is_owed x) (filter (λ (r : InTurn Reply). is_pong r.what) replies)
owed_before x end same [] = refl
owed_before x end same (r ∷ replies) = pick (owed_before x end same replies) (is_pong r.what) refl
  where
    rest : List (InTurn Reply)
    rest = filter (λ (q : InTurn Reply). is_pong q.what) replies

    pick : filter (is_pong_before end) replies ≡ filter (is_owed x) rest → (b : Bool) → is_pong r.what ≡ b
        → cond (is_pong r.what && is_turn_before end r.turn) (r ∷ filter (is_pong_before end) replies)
        (filter (is_pong_before end) replies)
        ≡ filter (is_owed x) (cond (is_pong r.what) (r ∷ rest) rest)
    pick later true e =
        ap (λ (b : Bool). cond (b && is_turn_before end r.turn) (r ∷ filter (is_pong_before end) replies)
        (filter (is_pong_before end) replies)) e
        ∙ (ap₂ (λ (b : Bool) (l : List (InTurn Reply)). cond b (r ∷ l) l) (same r) later
        ∙ ap (λ (b : Bool). filter (is_owed x) (cond b (r ∷ rest) rest)) (sym e))
    pick later false e =
        ap (λ (b : Bool). cond (b && is_turn_before end r.turn) (r ∷ filter (is_pong_before end) replies)
        (filter (is_pong_before end) replies)) e
        ∙ (later ∙ ap (λ (b : Bool). filter (is_owed x) (cond b (r ∷ rest) rest)) (sym e))

-- what is before the lesser of two is before both
pub before_both : (turn a b : ℕ) → nat_lt turn (min a b) ≡ (nat_lt turn a && nat_lt turn b)
before_both turn a b = pick (nat_lt turn a) (nat_lt turn b) refl refl
  where
    pick : (x y : Bool) → nat_lt turn a ≡ x → nat_lt turn b ≡ y
        → nat_lt turn (min a b) ≡ (nat_lt turn a && nat_lt turn b)
    pick true true e f = lt-ltb turn (min a b) (omega (arith, ltb-true turn a e, ltb-true turn b f))
        ∙ sym (ap₂ (λ (x y : Bool). x && y) e f)
    pick true false e f = le-ltb turn (min a b) (omega (arith, ltb-false turn b f))
        ∙ sym (ap₂ (λ (x y : Bool). x && y) e f)
    pick false y e f = le-ltb turn (min a b) (omega (arith, ltb-false turn a e))
        ∙ sym (ap₂ (λ (x y : Bool). x && y) e f)
