-- The bytes go on until there are so many.
use Rattle.std.proofs.Common.{◌≡◌, ◌∙◌, ◌-◌, ◌++◌, ℕ, List, ap, ap₂, arith, length, min, rules, sym, take}
use Rattle.ws_suite.proofs.FoundLemmas.{put_most, take_least}
use Rattle.ws_suite.proofs.evidence.found.put_most.Goals as goal

pub returns : goal.returns
returns c = λ before is.
    let most = c.args.most in
    let old = c.args.bytes.now.items in
    let more = c.args.more.now in
    let front : c.split_at.result.0.now ≡ take c.min.result more = search rules in
    let wanted : c.saturating_sub-wanted.result ≡ most - length old = search rules in
    let new : c.extend_from_slice.new.self.items ≡ old ++ c.split_at.result.0.now = search rules in
    let cut : c.split_at.result.0.now ≡ take (most - length (take most before)) more =
    front ∙ (take_least c.min.result c.saturating_sub-wanted.result more c.min.ensures
    ∙ ap (λ (n : ℕ). take n more) (wanted ∙ ap (λ (l : List ℕ). most - length l) is)) in
    new ∙ (ap₂ (λ (a b : List ℕ). a ++ b) is cut ∙ sym (put_most most before more))
