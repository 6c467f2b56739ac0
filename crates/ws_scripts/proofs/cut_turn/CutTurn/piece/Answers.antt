-- A piece stands between its start and its end.
use Rattle.std.proofs.Common.{◌∙◌}
use Rattle.ws_scripts.proofs.CutLemmas.{kept_piece}
use Rattle.ws_scripts.proofs.cut_turn.CutTurn.piece.Goals as goal

pub part-requires-clause-order : goal.part-requires-clause-order
part-requires-clause-order c =
    (kept_piece c.self.inside.cut c.self.inside.bytes.items c.as_slice.result.now c.args.self.now c.args.number c.start.result c.end.result
    c.as_slice.ensures.value c.self.invariant c.self.view_is c.start.ensures c.end.ensures).in_order

pub part-requires-clause-within : goal.part-requires-clause-within
part-requires-clause-within c =
    (kept_piece c.self.inside.cut c.self.inside.bytes.items c.as_slice.result.now c.args.self.now c.args.number c.start.result c.end.result
    c.as_slice.ensures.value c.self.invariant c.self.view_is c.start.ensures c.end.ensures).within

pub returns : goal.returns
returns c =
    c.part.ensures
    ∙ (kept_piece c.self.inside.cut c.self.inside.bytes.items c.as_slice.result.now c.args.self.now c.args.number c.start.result c.end.result
    c.as_slice.ensures.value c.self.invariant c.self.view_is c.start.ensures c.end.ensures).is
