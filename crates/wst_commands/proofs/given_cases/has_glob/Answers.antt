-- A word that is no glob stands behind those that are none.
use Rattle.std.proofs.Common.{◌≡◌, ◌∙◌, false, ℕ, List, [], subst, sym, take_all}
use Rattle.std.proofs.lemmas.List.Elements.{All-more, All-nil}
use Rattle.std.specs.Borrow.{Bor}
use Rattle.wst_commands.specs.GivenCases.{HaveNoGlob, is_glob}
use Rattle.wst_commands.proofs.given_cases.has_glob.Goals as goal

pub loop-word-init : goal.loop-word-init
loop-word-init c = All-nil (λ (w : Bor (List ℕ)). is_glob w.now ≡ false)

pub loop-word-preserved : goal.loop-word-preserved
loop-word-preserved c =
    let none : Bor (List ℕ) = record { ref_ptr = (0, 0); now = [] } in
    All-more (λ (w : Bor (List ℕ)). is_glob w.now ≡ false) c.args.words.now c.loop-word.word-index none
    c.loop-word-test.true c.loop-word.invariant (sym c.is_glob.ensures ∙ c.if-is_glob.false)

pub returns : goal.returns
returns c =
    subst (λ (l : List (Bor (List ℕ))). HaveNoGlob l)
    (take_all c.loop-word.word-index c.args.words.now c.loop-word-test.false) c.loop-word.invariant
