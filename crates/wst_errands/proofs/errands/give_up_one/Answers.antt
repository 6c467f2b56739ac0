-- What is over stays.
use Rattle.std.proofs.Common.{◌∙◌, refl, sym}
use Rattle.ws_loops.proofs.PlaceLemmas.{read_place}
use Rattle.wst_errands.proofs.GivingLemmas.{given_over}
use Rattle.wst_errands.proofs.errands.give_up_one.Goals as goal

pub returns-else-is_going_on : goal.returns-else-is_going_on
returns-else-is_going_on g c = given_over c.args.line.now.items c.args.line.now.items c.args.place c.index.result.now
    (read_place c.args.line.now.items c.args.place c.index.result.now c.index.result.now c.requires c.index.ensures
    refl)
    (sym c.is_going_on.ensures ∙ c.if-is_going_on.false) refl
