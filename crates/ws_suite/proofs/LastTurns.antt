-- The last turn in which a pong of each payload was got tells which pings are answered.
use Rattle.std.proofs.Common.{◌≡◌, ◌↔◌, ◌∙◌, ℕ, ◌+◌, ◌<◌, ◌≤◌, nat_le, nat_lt, max, Bool, true, false, not, ◌&&◌, ◌||◌, cond}
use Rattle.std.proofs.Common.{List, [], ◌∷◌, ◌++◌, Decides, Option, None, Some, is_some, ap, sym, refl, subst, arith}
use Rattle.std.proofs.Math.Bool.{or-false}
use Rattle.std.proofs.lemmas.Bool.{leb-false, leb-true}
use Rattle.std.proofs.lemmas.Bool.Decides.{Decides-like, Decides-ltb, same_from_decides}
use Rattle.std.proofs.lemmas.List.Folds.{list_any-append}
use Rattle.std.proofs.lemmas.Slice.Eq.{bytes_eq-Decides}
use Rattle.std.specs.List.{list_any}
use Rattle.std.specs.Str.{bytes_eq}
use Rattle.ws_suite.specs.declared.evidence.InTurn.{InTurn}
use Rattle.ws_suite.specs.declared.evidence.Reply.{Reply}
use Rattle.ws_suite.specs.declared.judging.noted.Noted.{Noted}
use Rattle.ws_suite.specs.InnerMarks.{AreLastTurns, IsAnswerTold, is_answered_by}
use Rattle.ws_suite.specs.InnerNoted.{IsAskedFor, HoldsNothing, IsNotedIn, IsNothing, highest, noted_of, reaches, with_number}
use Rattle.ws_suite.specs.Matching.{has_payload_of, payload_of}

eq_turned : (xs ys : List ℕ) → bytes_eq xs ys ≡ bytes_eq ys xs
eq_turned xs ys = same_from_decides (bytes_eq xs ys) (bytes_eq ys xs) (bytes_eq-Decides xs ys)
    (Decides-like (bytes_eq ys xs) (λ (e : ys ≡ xs). sym e) (λ (e : xs ≡ ys). sym e) (bytes_eq-Decides ys xs))

-- ---- no pong

not_told : (has_all : Bool) (turn : ℕ) (known : Option ℕ) → IsNothing known → IsAnswerTold has_all false turn known
not_told has_all turn None is = λ all. refl
not_told has_all turn (Some end) is = (λ t. absurd cc, λ less. absurd (omega (arith, less, is)))

pub no_turns : (noted : Noted) → HoldsNothing noted → AreLastTurns [] noted
no_turns noted nothing = λ due.
    not_told noted.has_all due.turn (noted_of noted (payload_of due.what)) (nothing (payload_of due.what))

-- ---- one pong more

-- the pong answers the ping
abbrev pub answers : InTurn Reply → InTurn Reply → Bool
answers due got = has_payload_of got due && nat_le due.turn got.turn

later_told : (any : Bool) (turn n end : ℕ) → ((any ≡ true) ↔ (turn < end))
    → ((any || (nat_le turn n || false)) ≡ true) ↔ (turn < max (n + 1) end)
later_told true turn n end is = (λ t. omega (arith, is.0 refl), λ less. refl)
later_told false turn n end is = pick (nat_le turn n) refl
  where
    pick : (b : Bool) → nat_le turn n ≡ b
        → ((false || (nat_le turn n || false)) ≡ true) ↔ (turn < max (n + 1) end)
    pick true e = (λ t. omega (arith, leb-true turn n e), λ less. ap (λ (b : Bool). b || false) e)
    pick false e = (
      λ t. absurd (let wrong : false ≡ true = sym (ap (λ (b : Bool). b || false) e) ∙ t in cc),
      λ less. absurd (let wrong : false ≡ true = is.1 (omega (arith, less, leb-false turn n e)) in cc),
    )

first_told : (any : Bool) (turn n : ℕ) → any ≡ false
    → ((any || (nat_le turn n || false)) ≡ true) ↔ (turn < n + 1)
first_told true turn n none = absurd cc
first_told false turn n none = pick (nat_le turn n) refl
  where
    pick : (b : Bool) → nat_le turn n ≡ b → ((false || (nat_le turn n || false)) ≡ true) ↔ (turn < n + 1)
    pick true e = (λ t. omega (arith, leb-true turn n e), λ less. ap (λ (b : Bool). b || false) e)
    pick false e = (
      λ t. absurd (let wrong : false ≡ true = sym (ap (λ (b : Bool). b || false) e) ∙ t in cc),
      λ less. absurd (omega (arith, less, leb-false turn n e)),
    )

told_more : (has_all any : Bool) (turn n : ℕ) (known : Option ℕ) → IsAnswerTold has_all any turn known
    → IsAnswerTold has_all (any || (nat_le turn n || false)) turn (with_number has_all n known)
told_more true any turn n None is = first_told any turn n (is refl)
told_more false any turn n None is = λ all. absurd cc
told_more true any turn n (Some end) is = later_told any turn n end is
told_more false any turn n (Some end) is = later_told any turn n end is

-- a pong more, whose turn is noted
pub turns_more : (gots : List (InTurn Reply)) (pong : InTurn Reply) (old new : Noted) → AreLastTurns gots old
    → IsNotedIn (payload_of pong.what) pong.turn old new → AreLastTurns (gots ++ pong ∷ []) new
turns_more gots pong old new are noted = λ due. pick due (has_payload_of pong due) refl
  where
    -- what is known now, where it is known whether the ping has the payload of the new pong
    after : (due : InTurn Reply) (b : Bool) → has_payload_of pong due ≡ b
        → IsAnswerTold old.has_all (list_any (answers due) gots || ((b && nat_le due.turn pong.turn) || false)) due.turn
        (cond b (with_number old.has_all pong.turn (noted_of old (payload_of pong.what)))
        (noted_of old (payload_of due.what)))
        → IsAnswerTold new.has_all (is_answered_by (gots ++ pong ∷ []) due) due.turn (noted_of new (payload_of due.what))
    after due b e is =
        let known : noted_of new (payload_of due.what) ≡ cond b
        (with_number old.has_all pong.turn (noted_of old (payload_of pong.what))) (noted_of old (payload_of due.what)) =
        noted.moved (payload_of due.what) ∙ ap (λ (c : Bool). cond c
        (with_number old.has_all pong.turn (noted_of old (payload_of pong.what))) (noted_of old (payload_of due.what)))
        (eq_turned (payload_of pong.what) (payload_of due.what) ∙ e) in
        let any : is_answered_by (gots ++ pong ∷ []) due
        ≡ (list_any (answers due) gots || ((b && nat_le due.turn pong.turn) || false)) =
        list_any-append (answers due) gots (pong ∷ [])
        ∙ ap (λ (c : Bool). list_any (answers due) gots || ((c && nat_le due.turn pong.turn) || false)) e in
        subst (λ (all : Bool).
        IsAnswerTold all (is_answered_by (gots ++ pong ∷ []) due) due.turn (noted_of new (payload_of due.what)))
        (sym noted.has_all)
        (subst (λ (o : Option ℕ). IsAnswerTold old.has_all (is_answered_by (gots ++ pong ∷ []) due) due.turn o) (sym known)
        (subst (λ (c : Bool). IsAnswerTold old.has_all c due.turn (cond b
        (with_number old.has_all pong.turn (noted_of old (payload_of pong.what))) (noted_of old (payload_of due.what))))
        (sym any) is))

    pick : (due : InTurn Reply) (b : Bool) → has_payload_of pong due ≡ b
        → IsAnswerTold new.has_all (is_answered_by (gots ++ pong ∷ []) due) due.turn (noted_of new (payload_of due.what))
    pick due true e =
        let same : payload_of due.what ≡ payload_of pong.what =
        (bytes_eq-Decides (payload_of due.what) (payload_of pong.what)).0 e in
        after due true e (told_more old.has_all (list_any (answers due) gots) due.turn pong.turn
        (noted_of old (payload_of pong.what)) (subst (λ (payload : List ℕ).
        IsAnswerTold old.has_all (list_any (answers due) gots) due.turn (noted_of old payload)) same (are due)))
    pick due false e =
        after due false e (subst (λ (c : Bool).
        IsAnswerTold old.has_all c due.turn (noted_of old (payload_of due.what)))
        (sym (or-false (list_any (answers due) gots))) (are due))

-- ---- whether a ping is answered

told_by : (has_all any : Bool) (turn : ℕ) (known : Option ℕ) → IsAnswerTold has_all any turn known
    → (has_all ≡ false → is_some known ≡ true) → reaches has_all turn known ≡ any
told_by true any turn None is asked = sym (is refl)
told_by false any turn None is asked = absurd (let wrong : false ≡ true = asked refl in cc)
told_by has_all any turn (Some end) is asked =
    let told : Decides any (turn < end) = (is.0, is.1) in
    same_from_decides (nat_lt turn end) any (Decides-ltb turn end) told

pub answered_by : (gots : List (InTurn Reply)) (noted : Noted) (due : InTurn Reply) → AreLastTurns gots noted
    → IsAskedFor (due ∷ []) noted
    → reaches noted.has_all due.turn (noted_of noted (payload_of due.what)) ≡ is_answered_by gots due
answered_by gots noted due are asked =
    told_by noted.has_all (is_answered_by gots due) due.turn (noted_of noted (payload_of due.what)) (are due)
    (λ few. (asked few).0)
