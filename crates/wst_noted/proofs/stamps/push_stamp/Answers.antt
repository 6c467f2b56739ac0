-- The seconds, the point and the decimals are a time.
use Rattle.std.proofs.Common.{◌∙◌, ◌++◌, List, ℕ, ap, rules}
use Rattle.wst_noted.proofs.TimedLemmas.{grows_time}
use Rattle.wst_noted.proofs.stamps.push_stamp.Goals as goal

pub returns : goal.returns
returns c = grows_time c.args.text.now.items c.extend_from_slice.new.self.items c.push.new.self.items
    c.push_decimals.new.text.items c.as_secs.result (search rules) (c.in_ok-extend_from_slice.ensures.items
    ∙ ap (λ (l : List ℕ). c.args.text.now.items ++ l) (c.as_bytes.ensures.value ∙ c.format.ensures.text))
    c.in_ok-push.ensures.items c.in_ok-push_decimals.ensures
