-- The words are those of the options.
use Rattle.std.proofs.Common.{◌≡◌, ℕ, List, map, subst}
use Rattle.std.specs.Borrow.{Bor}
use Rattle.std.specs.Prelude.{MatchOption}
use Rattle.ws_connection.specs.RequestHeaders.{AreHeaderWords, headers_in}
use Rattle.ws_upgrade.specs.Members.{HeaderPairs}
use Rattle.wst_testing.proofs.run_plans.headers_given.Goals as goal

pub returns : goal.returns
returns c =
    subst (λ (words : List (Bor (List ℕ))). MatchOption c.in_ok-found.found (¬ (AreHeaderWords (map (λ word. word.now) words)))
    (λ (headers : HeaderPairs). (headers ≡ headers_in (map (λ word. word.now) words)) × AreHeaderWords (map (λ word. word.now) words)))
    c.as_slice.ensures.value c.in_ok-found.ensures
