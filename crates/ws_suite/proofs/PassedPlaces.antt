-- A place among all bytes that were got goes on from turn to turn, and its last byte is in the turn under way.
use Rattle.std.proofs.Common.{◌≡◌, ◌∙◌, ℕ, zero, suc, ◌+◌, ◌-◌, ◌<◌, ◌≤◌, List, ◌∷◌, ap, arith, drop, inl, inr, length}
use Rattle.std.proofs.Common.{refl, subst, sym}
use Rattle.std.proofs.lemmas.Bool.{cases_lt}
use Rattle.std.proofs.lemmas.List.{length-drop}
use Rattle.std.specs.List.{concat}
use Rattle.ws_scripts.specs.declared.transcript.Turn.{Turn}
use Rattle.ws_scripts.proofs.WalkLemmas.{is_there, others_left, within}
use Rattle.ws_suite.specs.declared.evidence.behind.GotPlace.{GotPlace}
use Rattle.ws_suite.specs.Evidence.{HoldsByte, got_turns}
use Rattle.ws_suite.specs.InnerMarks.{IsPlaceIn}
use Rattle.ws_suite.proofs.TurnBytes.{bytes_before, bytes_of_all, length_more}

abbrev pub got_before : List Turn → ℕ → List ℕ
got_before turns count = bytes_before (λ (turn : Turn). turn.got) turns count

-- the place is on its way to this one, and so many bytes are still to be passed
pub record IsPassing (turns : List Turn) (aim : ℕ) (place : GotPlace) (to_pass : ℕ) : Type 0 where
  pub begun : ℕ
  pub most : begun ≤ length turns
  pub later : place.later ≡ drop begun turns
  pub count : place.count ≡ length turns
  pub left : aim + place.left ≡ length (got_before turns begun) + to_pass
  pub before : length (got_before turns (begun - 1)) + to_pass ≤ aim
  pub last : to_pass ≡ 0 → 0 < aim → HoldsByte (got_turns turns) (begun - 1) aim

pub passing_all : (turns : List Turn) (n passed : ℕ) (place : GotPlace) → IsPlaceIn turns n place
    → IsPassing turns (n + passed) place passed
passing_all turns n passed place is = record {
  begun = is.begun;
  most = is.most;
  later = is.later;
  count = is.count;
  left = omega (arith, is.left);
  before = omega (arith, is.before);
  last = λ none some.
      let same : n + passed ≡ n = omega (arith, none) in
      subst (λ (k : ℕ). HoldsByte (got_turns turns) (is.begun - 1) k) (sym same) (is.last (omega (arith, none, some)));
}

-- turns are left as long as the place isn't there
pub turns_left : (turns : List Turn) (aim to_pass : ℕ) (place : GotPlace) → IsPassing turns aim place to_pass
    → aim ≤ length (concat (got_turns turns)) → place.left < to_pass → 0 < length place.later
turns_left turns aim to_pass place is there less = elim (cases_lt is.begun (length turns)) [
  | inl some ↦ omega (arith, some, ap (λ (l : List Turn). length l) is.later, length-drop is.begun turns)
  | inr all ↦
      let whole = ap (λ (l : List ℕ). length l) (bytes_of_all (λ (turn : Turn). turn.got) turns is.begun all) in
      absurd (omega (arith, whole, is.left, there, less))
]

-- one turn more is under way
pub passing_more : (turns : List Turn) (aim to_pass : ℕ) (place new : GotPlace) (turn : Turn)
    → IsPassing turns aim place to_pass → place.left < to_pass → place.later ≡ turn ∷ new.later
    → new.count ≡ place.count → new.left ≡ length turn.got → IsPassing turns aim new (to_pass - place.left)
passing_more turns aim to_pass place new turn is less walk count left =
    let at = sym walk ∙ is.later in
    let there = within turns is.begun turn new.later at in
    let more = length_more (λ (t : Turn). t.got) turns is.begun turn there (is_there turns is.begun turn new.later at) in
    let here : is.begun + 1 - 1 ≡ is.begun = omega arith in
    record {
      begun = is.begun + 1;
      most = omega (arith, there);
      later = others_left turns is.begun turn new.later at;
      count = count ∙ is.count;
      left = omega (arith, is.left, more, left, less);
      before = subst (λ (k : ℕ). length (got_before turns k) + (to_pass - place.left) ≤ aim) (sym here)
          (omega (arith, is.left, less));
      last = λ none some. absurd (omega (arith, none, less));
    }

-- the place is in the turn under way
pub passed_all : (turns : List Turn) (aim to_pass : ℕ) (place new : GotPlace) → IsPassing turns aim place to_pass
    → to_pass ≤ place.left → new.later ≡ place.later → new.count ≡ place.count → new.left ≡ place.left - to_pass
    → IsPlaceIn turns aim new
passed_all turns aim to_pass place new is within later count left = record {
  begun = is.begun;
  most = is.most;
  later = later ∙ is.later;
  count = count ∙ is.count;
  left = omega (arith, is.left, left, within);
  before = omega (arith, is.before);
  last = λ some. holds (is.begun) refl to_pass refl some;
}
  where
    holds : (begun : ℕ) → begun ≡ is.begun → (k : ℕ) → k ≡ to_pass → 0 < aim
        → HoldsByte (got_turns turns) (is.begun - 1) aim
    holds begun e zero k some = is.last (sym k) some
    holds zero e (suc k) same some =
        let none : length (got_before turns is.begun) ≡ 0 = ap (λ (n : ℕ). length (got_before turns n)) (sym e) in
        absurd (omega (arith, is.left, none, within, some))
    holds (suc begun) e (suc k) same some =
        let whole : is.begun - 1 + 1 ≡ is.begun = omega (arith, e) in (
          omega (arith, is.before, same),
          subst (λ (n : ℕ). aim ≤ length (got_before turns n)) (sym whole) (omega (arith, is.left, within)),
        )
