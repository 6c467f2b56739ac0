-- The wanted ones among replies.
use Rattle.std.proofs.Common.{◌≡◌, ◌∙◌, ℕ, ◌+◌, ◌≤◌, Bool, true, false, if◌then◌else◌, List, [], ◌∷◌, length, Option}
use Rattle.std.proofs.Common.{None, Some, ap, drop, sym, refl, arith}
use Rattle.std.proofs.lemmas.List.{drop-drop}
use Rattle.ws_suite.specs.declared.evidence.InTurn.{InTurn}
use Rattle.ws_suite.specs.declared.evidence.Reply.{Reply}
use Rattle.ws_suite.specs.declared.evidence.kept.Kept.{Kept}
use Rattle.ws_suite.specs.declared.judging.chosen.Wanted.{Wanted}
use Rattle.ws_suite.specs.declared.judging.chosen.Wanted.TheVariants.{Messages, Pongs, Answers, All}
use Rattle.ws_suite.specs.InnerChosen.{IsThere, wanted_among, wants}
use Rattle.ws_suite.specs.Kept.{first_of, what_of}
use Rattle.ws_suite.specs.Matching.{IsWithSomeLeftOut, bare}
use Rattle.ws_suite.proofs.JudgeLemmas.{left_same}

-- the first is passed on, or it is not
pub wanted_step : (wanted : Wanted) (x : InTurn Reply) (replies : List (InTurn Reply))
    → wanted_among wanted (x ∷ replies)
    ≡ (if wants wanted x.what then x ∷ wanted_among wanted replies else wanted_among wanted replies)
wanted_step Messages x replies = refl
wanted_step Pongs x replies = refl
wanted_step Answers x replies = refl
wanted_step All x replies = refl

pub wanted_none : (wanted : Wanted) → wanted_among wanted [] ≡ []
wanted_none Messages = refl
wanted_none Pongs = refl
wanted_none Answers = refl
wanted_none All = refl

pub wanted_first : (wanted : Wanted) (x : InTurn Reply) (replies : List (InTurn Reply)) → wants wanted x.what ≡ true
    → wanted_among wanted (x ∷ replies) ≡ x ∷ wanted_among wanted replies
wanted_first wanted x replies is = wanted_step wanted x replies
    ∙ ap (λ (b : Bool). if b then x ∷ wanted_among wanted replies else wanted_among wanted replies) is

pub wanted_later : (wanted : Wanted) (x : InTurn Reply) (replies : List (InTurn Reply)) → wants wanted x.what ≡ false
    → wanted_among wanted (x ∷ replies) ≡ wanted_among wanted replies
wanted_later wanted x replies is = wanted_step wanted x replies
    ∙ ap (λ (b : Bool). if b then x ∷ wanted_among wanted replies else wanted_among wanted replies) is

pub no_more_wanted : (wanted : Wanted) (replies : List (InTurn Reply))
    → length (wanted_among wanted replies) ≤ length replies
no_more_wanted wanted [] = omega (arith, ap (λ (l : List (InTurn Reply)). length l) (wanted_none wanted))
no_more_wanted wanted (x ∷ replies) = pick (no_more_wanted wanted replies) (wants wanted x.what) refl
  where
    pick : length (wanted_among wanted replies) ≤ length replies → (b : Bool) → wants wanted x.what ≡ b
        → length (wanted_among wanted (x ∷ replies)) ≤ length (x ∷ replies)
    pick later true is =
        omega (arith, later, ap (λ (l : List (InTurn Reply)). length l) (wanted_first wanted x replies is))
    pick later false is =
        omega (arith, later, ap (λ (l : List (InTurn Reply)). length l) (wanted_later wanted x replies is))

-- one more is passed
pub drop_next : (all rest : List (InTurn Reply)) (n : ℕ) (x : InTurn Reply) → drop n all ≡ x ∷ rest
    → drop (n + 1) all ≡ rest
drop_next all rest n x e = sym (drop-drop 1 n all) ∙ ap (λ (l : List (InTurn Reply)). drop 1 l) e

-- one that is there is passed in both lists
pub left_there : (x : Kept) (first : Option Kept) (left alls : List (InTurn Reply)) → IsThere (what_of x) first
    → (IsWithSomeLeftOut (bare (first_of first left)) (what_of x ∷ bare alls)
    → IsWithSomeLeftOut (bare left) (bare alls))
    × (IsWithSomeLeftOut (bare left) (bare alls)
    → IsWithSomeLeftOut (bare (first_of first left)) (what_of x ∷ bare alls))
left_there x None left alls there = absurd there
left_there x (Some y) left alls there = left_same (what_of y) (what_of x) (bare left) (bare alls) (sym there)
