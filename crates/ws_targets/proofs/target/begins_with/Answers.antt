-- Bytes begin with a word, in any case of letters, where their front of its length is that word.
use Rattle.std.proofs.Common.{◌≡◌, ◌∙◌, ap, take, length, ℕ, rules, sym}
use Rattle.std.proofs.lemmas.List.{take_min}
use Rattle.ws_targets.proofs.target.begins_with.Goals as goal

pub returns : goal.returns
returns c =
    let cut : take c.min.result c.args.bytes.now ≡ take (length c.args.front.now) c.args.bytes.now =
    ap (λ (n : ℕ). take n c.args.bytes.now) c.min.ensures ∙ take_min (length c.args.front.now) c.args.bytes.now in
    search (rules, sym cut)
