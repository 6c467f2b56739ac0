-- The first that is the one is looked for.
use Rattle.std.proofs.Common.{◌∙◌, ℕ, List, ap, rules, sym}
use Rattle.std.specs.Str.{bytes_eq}
use Rattle.ws_runs.proofs.Following.{follows_later}
use Rattle.ws_runs.proofs.id_runs.follows.Goals as goal

pub loop-place-preserved : goal.loop-place-preserved
loop-place-preserved c =
    follows_later c.args.listed.now c.loop-place.place c.index-listed-place.result c.args.one.now c.args.other.now _
    (search rules) c.index-listed-place.is
    (sym (ap (λ (n : List ℕ). bytes_eq n c.args.one.now) c.as_bytes.ensures.value) ∙ sym c.eq.ensures ∙ c.if-eq.false)
    c.loop-place.invariant
