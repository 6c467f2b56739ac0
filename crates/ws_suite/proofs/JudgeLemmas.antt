-- Lists of replies, walked from the front.
use Rattle.std.proofs.Common.{◌≡◌, ◌≢◌, ◌↔◌, ◌∙◌, ◌<◌, ◌≤◌, nat_lt, Bool, true, false, ◌||◌, cond, if◌then◌else◌, List, [], ◌∷◌, ◌++◌, length, find, is_some, Option, None, Some, MatchBool, ap, ap₂, sym, refl, subst, inl, inr, arith, append-nil}
use Rattle.std.proofs.lemmas.Bool.Decides.{nat_tests}
use Rattle.std.proofs.lemmas.List.{length-append, length-map}
use Rattle.std.specs.List.{last_or, list_any, zip}
use Rattle.ws_suite.specs.declared.evidence.InTurn.{InTurn}
use Rattle.ws_suite.specs.declared.evidence.Reply.{Reply}
use Rattle.ws_suite.specs.Matching.{IsBeginningOf, IsLastPong, IsWithSomeLeftOut, after_match, bare, due_after, has_payload_of, matches_of}
use Rattle.ws_suite.specs.Verdicts.{is_before}

-- ---- earlier turns

any_step : (gs ds gs2 ds2 : List (InTurn Reply)) (g d : InTurn Reply) → gs ≡ g ∷ gs2 → ds ≡ d ∷ ds2 → list_any is_before (zip gs ds) ≡ (nat_lt g.turn d.turn || list_any is_before (zip gs2 ds2))
any_step gs ds gs2 ds2 g d e f = ap₂ (λ (a b : List (InTurn Reply)). list_any is_before (zip a b)) e f

pub any_found : (gs ds gs2 ds2 : List (InTurn Reply)) (g d : InTurn Reply) (whole : Bool) → gs ≡ g ∷ gs2 → ds ≡ d ∷ ds2 → g.turn < d.turn → list_any is_before (zip gs ds) ≡ whole → true ≡ whole
any_found gs ds gs2 ds2 g d whole e f less h =
    let before : nat_lt g.turn d.turn ≡ true = grind (arith, nat_tests) in
    sym (any_step gs ds gs2 ds2 g d e f ∙ ap (λ (b : Bool). b || list_any is_before (zip gs2 ds2)) before) ∙ h

pub any_later : (gs ds gs2 ds2 : List (InTurn Reply)) (g d : InTurn Reply) (whole : Bool) → gs ≡ g ∷ gs2 → ds ≡ d ∷ ds2 → d.turn ≤ g.turn → list_any is_before (zip gs ds) ≡ whole → list_any is_before (zip gs2 ds2) ≡ whole
any_later gs ds gs2 ds2 g d whole e f less h =
    let before : nat_lt g.turn d.turn ≡ false = grind (arith, nat_tests) in
    sym (any_step gs ds gs2 ds2 g d e f ∙ ap (λ (b : Bool). b || list_any is_before (zip gs2 ds2)) before) ∙ h

zip_none : (gs : List (InTurn Reply)) → list_any is_before (zip gs []) ≡ false
zip_none [] = refl
zip_none (g ∷ gs) = refl

pub any_ended : (gs ds : List (InTurn Reply)) (whole : Bool) → ds ≡ [] → list_any is_before (zip gs ds) ≡ whole → false ≡ whole
any_ended gs ds whole e h = sym (ap (λ (l : List (InTurn Reply)). list_any is_before (zip gs l)) e ∙ zip_none gs) ∙ h

pub any_none : (gs ds : List (InTurn Reply)) (whole : Bool) → gs ≡ [] → list_any is_before (zip gs ds) ≡ whole → false ≡ whole
any_none gs ds whole e h = sym (ap (λ (l : List (InTurn Reply)). list_any is_before (zip l ds)) e) ∙ h

-- ---- beginnings

pub begins_head : (x y : Reply) (xs ys : List Reply) → IsBeginningOf (x ∷ xs) (y ∷ ys) → (x ≡ y) × IsBeginningOf xs ys
begins_head x y xs ys (more, e) =
    let head : x ≡ y = cc in
    let tail : ys ≡ xs ++ more = cc in
    (head, (more, tail))

pub begins_more : (x y : Reply) (xs ys : List Reply) → x ≡ y → IsBeginningOf xs ys → IsBeginningOf (x ∷ xs) (y ∷ ys)
begins_more x y xs ys same (more, e) = (more, ap₂ (λ (a : Reply) (b : List Reply). a ∷ b) (sym same) e)

pub nothing_begins : (xs ys : List Reply) → xs ≡ [] → IsBeginningOf xs ys
nothing_begins xs ys e = (ys, ap (λ (l : List Reply). l ++ ys) (sym e))

-- ---- some left out

front_left_out : (x : Reply) (xs all : List Reply) → IsWithSomeLeftOut (x ∷ xs) all → IsWithSomeLeftOut xs all
front_left_out x xs [] h = absurd cc
front_left_out x xs (y ∷ all) (inl h) = inl (front_left_out x xs all h)
front_left_out x xs (y ∷ all) (inr h) =
    let same : h.0 ≡ xs = let both = h.1 in cc in
    inl (subst (λ (l : List Reply). IsWithSomeLeftOut l all) same h.2)

pub left_same : (x y : Reply) (xs all : List Reply) → x ≡ y → (IsWithSomeLeftOut (x ∷ xs) (y ∷ all) → IsWithSomeLeftOut xs all) × (IsWithSomeLeftOut xs all → IsWithSomeLeftOut (x ∷ xs) (y ∷ all))
left_same x y xs all same = (on, λ h. inr (xs, ap (λ (z : Reply). z ∷ xs) same, h))
  where
    on : IsWithSomeLeftOut (x ∷ xs) (y ∷ all) → IsWithSomeLeftOut xs all
    on (inl h) = front_left_out x xs all h
    on (inr h) =
        let tail : h.0 ≡ xs = let both = h.1 in cc in
        subst (λ (l : List Reply). IsWithSomeLeftOut l all) tail h.2

pub left_other : (x y : Reply) (xs all : List Reply) → x ≢ y → (IsWithSomeLeftOut (x ∷ xs) (y ∷ all) → IsWithSomeLeftOut (x ∷ xs) all) × (IsWithSomeLeftOut (x ∷ xs) all → IsWithSomeLeftOut (x ∷ xs) (y ∷ all))
left_other x y xs all not = (on, λ h. inl h)
  where
    on : IsWithSomeLeftOut (x ∷ xs) (y ∷ all) → IsWithSomeLeftOut (x ∷ xs) all
    on (inl h) = h
    on (inr h) = let head : x ≡ y = let both = h.1 in cc in absurd (not head)

-- ---- pongs

-- the first has the payload, or the match stands after it
pub found_first : (pong d : InTurn Reply) (due rest : List (InTurn Reply)) → due ≡ d ∷ rest → has_payload_of pong d ≡ true → (find (has_payload_of pong) due ≡ Some d) × (after_match pong due ≡ rest)
found_first pong d due rest e is = (
  ap (λ (l : List (InTurn Reply)). find (has_payload_of pong) l) e ∙ ap (λ (b : Bool). cond b (Some d) (find (has_payload_of pong) rest)) is,
  ap (λ (l : List (InTurn Reply)). after_match pong l) e ∙ ap (λ (b : Bool). if b then rest else after_match pong rest) is,
)

pub found_later : (pong d : InTurn Reply) (due rest : List (InTurn Reply)) → due ≡ d ∷ rest → has_payload_of pong d ≡ false
    → (find (has_payload_of pong) due ≡ find (has_payload_of pong) rest) × (after_match pong due ≡ after_match pong rest)
found_later pong d due rest e is = (
  ap (λ (l : List (InTurn Reply)). find (has_payload_of pong) l) e ∙ ap (λ (b : Bool). cond b (Some d) (find (has_payload_of pong) rest)) is,
  ap (λ (l : List (InTurn Reply)). after_match pong l) e ∙ ap (λ (b : Bool). if b then rest else after_match pong rest) is,
)

-- what is left after a match, and without one
pub left_of_match : (pong d : InTurn Reply) (due rest : List (InTurn Reply)) → find (has_payload_of pong) due ≡ Some d → after_match pong due ≡ rest → rest ≡ due_after pong due
left_of_match pong d due rest found after = sym (ap (λ (o : Option (InTurn Reply)). if is_some o then after_match pong due else due) found ∙ after)

pub left_without : (pong : InTurn Reply) (due : List (InTurn Reply)) → find (has_payload_of pong) due ≡ None → due ≡ due_after pong due
left_without pong due none = sym (ap (λ (o : Option (InTurn Reply)). if is_some o then after_match pong due else due) none)

some_same : {X : Type 0} (x y : X) → Some x ≡ Some y → x ≡ y
some_same x y e = cc

pub last_turns : (dues gots : List (InTurn Reply)) (due got : InTurn Reply) → last_or None dues ≡ Some due → last_or None gots ≡ Some got → IsLastPong dues gots → due.turn ≤ got.turn
last_turns dues gots due got is_due is_got p =
    let d = ap (λ (x : InTurn Reply). x.turn) (some_same p.due due (sym p.is_due ∙ is_due)) in
    let g = ap (λ (x : InTurn Reply). x.turn) (some_same p.got got (sym p.is_got ∙ is_got)) in
    omega (arith, d, g, p.turn)

pub last_same : (dues gots : List (InTurn Reply)) (due got : InTurn Reply) → last_or None dues ≡ Some due → last_or None gots ≡ Some got → IsLastPong dues gots → got.what ≡ due.what
last_same dues gots due got is_due is_got p =
    let d = ap (λ (x : InTurn Reply). x.what) (some_same p.due due (sym p.is_due ∙ is_due)) in
    let g = ap (λ (x : InTurn Reply). x.what) (some_same p.got got (sym p.is_got ∙ is_got)) in
    sym g ∙ (p.same ∙ d)

-- where this tells of the last two whether the one answers the other, it tells whether the last due pong is there
pub last_pong_by : (dues gots : List (InTurn Reply)) (due got : InTurn Reply) (r : Bool) → last_or None dues ≡ Some due → last_or None gots ≡ Some got → ((r ≡ true) ↔ (got.what ≡ due.what) × (due.turn ≤ got.turn))
    → ((r ≡ true) ↔ IsLastPong dues gots)
last_pong_by dues gots due got r is_due is_got tells = (
  λ e. record { due = due; is_due = is_due; got = got; is_got = is_got; same = (tells.0 e).0; turn = (tells.0 e).1 },
  λ p. tells.1 (last_same dues gots due got is_due is_got p, last_turns dues gots due got is_due is_got p),
)

-- at the end nothing is left out of nothing but nothing
pub none_left : (xs alls : List Reply) → alls ≡ [] → IsWithSomeLeftOut xs alls → length xs ≡ 0
none_left xs [] e h = ap (λ (l : List Reply). length l) h
none_left xs (y ∷ alls) e h = absurd cc

pub empty_left : (xs alls : List Reply) → length xs ≡ 0 → IsWithSomeLeftOut xs alls
empty_left [] [] e = refl
empty_left [] (y ∷ alls) e = inl (empty_left [] alls refl)
empty_left (x ∷ xs) alls e = absurd (omega arith)

-- a beginning that is no shorter is all
pub begins_all : (xs ys : List Reply) → IsBeginningOf xs ys → length ys ≤ length xs → xs ≡ ys
begins_all xs ys (more, e) less = none more (omega (arith, ap (λ (l : List Reply). length l) e, length-append xs more)) e
  where
    none : (l : List Reply) → length l ≤ 0 → ys ≡ xs ++ l → xs ≡ ys
    none [] h f = sym (f ∙ append-nil xs)
    none (x ∷ l) h f = absurd (omega arith)

or_grouped : (a b d : Bool) → ((a || b) || d) ≡ (a || (b || d))
or_grouped true b d = refl
or_grouped false b d = refl

-- one got pong more, and what is left after its match
pub match_step : (f : InTurn Reply × Option (InTurn Reply) → Bool) (flag own both whole : Bool) (pong : InTurn Reply) (laters pongs due left : List (InTurn Reply)) → laters ≡ pong ∷ pongs
    → own ≡ f (pong, find (has_payload_of pong) due) → left ≡ due_after pong due → both ≡ (flag || own)
    → (flag || list_any f (matches_of due laters)) ≡ whole → (both || list_any f (matches_of left pongs)) ≡ whole
match_step f flag own both whole pong laters pongs due left e m l b h =
    let step : list_any f (matches_of due laters) ≡ (own || list_any f (matches_of left pongs)) =
    ap (λ (x : List (InTurn Reply)). list_any f (matches_of due x)) e
    ∙ ap₂ (λ (x : Bool) (y : List (InTurn Reply)). x || list_any f (matches_of y pongs)) (sym m) (sym l) in
    ap (λ (x : Bool). x || list_any f (matches_of left pongs)) b ∙ (or_grouped flag own (list_any f (matches_of left pongs)) ∙ (ap (λ (x : Bool). flag || x) (sym step) ∙ h))

-- ---- messages

pub other_by_start : (b : Bool) (xs ys : List Reply) → (IsBeginningOf xs ys → ⊥) → MatchBool b (¬ (IsBeginningOf xs ys)) (xs ≢ ys)
other_by_start true xs ys not = not
other_by_start false xs ys not = λ e. not ([], sym e ∙ sym (append-nil xs))

pub other_by_count : (b : Bool) (gs ds : List (InTurn Reply)) (r : Bool) → b ≡ false → IsBeginningOf (bare gs) (bare ds) → ((r ≡ true) ↔ (length gs < length ds))
    → ((r ≡ true) ↔ MatchBool b (¬ (IsBeginningOf (bare gs) (bare ds))) (bare gs ≢ bare ds))
other_by_count true gs ds r e start tells = absurd cc
other_by_count false gs ds r e start tells = (
  λ yes same.
      let short : length gs < length ds = tells.0 yes in
      omega (arith, ap (λ (l : List Reply). length l) same, length-map gs (λ (x : InTurn Reply). x.what), length-map ds (λ (x : InTurn Reply). x.what)),
  λ not. pick not r refl,
)
  where
    pick : (bare gs ≢ bare ds) → (b : Bool) → r ≡ b → b ≡ true
    pick not true h = refl
    pick not false h =
        let no : length gs < length ds → false ≡ true = λ less. sym h ∙ tells.1 less in
        let more : length ds ≤ length gs = grind (arith, nat_tests, no) in
        absurd (not (begins_all (bare gs) (bare ds) start (omega (arith, more, length-map gs (λ (x : InTurn Reply). x.what), length-map ds (λ (x : InTurn Reply). x.what)))))
