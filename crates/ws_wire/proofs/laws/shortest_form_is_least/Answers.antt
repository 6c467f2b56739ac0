-- The shortest form of a length holds it, no shorter form does, and no other form is the shortest.
use Rattle.ws_wire.proofs.Frames.{shortest_is_least, shortest_is_one}
use Rattle.ws_wire.proofs.laws.shortest_form_is_least.Goals as goal

pub returns-clause-least : goal.returns-clause-least
returns-clause-least c = shortest_is_least

pub returns-clause-only : goal.returns-clause-only
returns-clause-only c = shortest_is_one
