-- The name is there.
use Rattle.std.proofs.Common.{◌∙◌, sym}
use Rattle.ws_runs.proofs.RowLemmas.{name_there}
use Rattle.ws_runs.proofs.rows.is_among.Goals as goal

pub returns-then-eq : goal.returns-then-eq
returns-then-eq c =
    sym (name_there c.args.ids.now c.loop-id.id-index c.args.name.now c.loop-id-test.true
    (sym c.eq.ensures ∙ c.if-eq.true))
