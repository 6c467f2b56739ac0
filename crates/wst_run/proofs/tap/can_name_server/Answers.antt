-- A word names a server as a URL, or else as an address.
use Rattle.std.proofs.Common.{◌≡◌, ◌↔◌, ◌⊎◌, IsTrue, Bool, false, inl, inr, subst, List, ℕ}
use Rattle.ws_targets.specs.Places.{IsAddress}
use Rattle.wst_testing.specs.RunPlans.{IsUrl}
use Rattle.wst_run.proofs.tap.can_name_server.Goals as goal

-- where the first of two doesn't hold, either does exactly where the second does
by_second : (U A : Type 0) (first second : Bool) → first ≡ false → (IsTrue first ↔ U) → (IsTrue second ↔ A)
    → IsTrue second ↔ (U ⊎ A)
by_second U A first second none of_first of_second = (λ is. inr (of_second.0 is), either)
  where
    either : U ⊎ A → IsTrue second
    either (inl is) = let no : IsTrue false = subst (λ (b : Bool). IsTrue b) none (of_first.1 is) in absurd cc
    either (inr is) = of_second.1 is

pub returns-else-is_url : goal.returns-else-is_url
returns-else-is_url c = by_second (IsUrl c.args.word.now) (IsAddress c.args.word.now) c.is_url.result
    c.is_address.result c.if-is_url.false c.is_url.ensures
    (subst (λ (w : List ℕ). IsTrue c.is_address.result ↔ IsAddress w) c.as_bytes.ensures.value c.is_address.ensures)
