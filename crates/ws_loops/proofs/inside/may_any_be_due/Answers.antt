-- Where no time has come, the soonest has not.
use Rattle.std.proofs.Common.{◌∙◌, sym}
use Rattle.std.proofs.lemmas.Bool.{false≢true}
use Rattle.ws_loops.proofs.LimitLemmas.{comes_later}
use Rattle.ws_loops.proofs.inside.may_any_be_due.Goals as goal

pub returns-then-inside : goal.returns-then-inside
returns-then-inside g c = λ e. absurd (false≢true (sym e))

pub returns : goal.returns
returns g c = λ e. (
  c.if-inside.false,
  comes_later c.args.inside.now.seats.agenda.limits.times.items c.soonest.result c.args.now c.soonest.ensures
      (sym c.has_come.ensures ∙ e),
)
