-- Turn after turn is cut from the front of the script, and in the end each turn of it has its pieces.
use Rattle.std.proofs.Common.{◌≡◌, ◌≤◌, ◌++◌, ◌∷◌, [], List, rules, length, ap}
use Rattle.ws_scripts.specs.declared.script.Step.{Step}
use Rattle.ws_scripts.specs.Scripts.{ArePieces, turns_of}
use Rattle.ws_scripts.proofs.TurnLemmas.{no_items, zip_done, zip_more}
use Rattle.ws_scripts.proofs.cutting.turns_with.Goals as goal

pub returns : goal.returns
returns c =
    let none : length c.loop-rest.rest.now ≤ 0 = search rules in
    zip_done (ArePieces c.args.case.now.chop c.args.key) (turns_of c.args.case.now.steps) (turns_of c.loop-rest.rest.now) c.loop-rest.turns.items c.from_vec.result c.from_vec.ensures
    (ap (λ (l : List Step). turns_of l) (no_items c.loop-rest.rest.now none)) c.loop-rest.invariant.turns

pub loop-rest-preserved : goal.loop-rest-preserved
loop-rest-preserved c =
    let pushed : c.push.new.self.items ≡ c.loop-rest.turns.items ++ c.in_ok-pieces.pieces ∷ [] = search rules in
    record {
      frames = (c.first_turn.ensures.fit c.loop-rest.invariant.frames).1;
      turns = zip_more (ArePieces c.args.case.now.chop c.args.key) (turns_of c.args.case.now.steps) (turns_of c.loop-rest.rest.now) (turns_of c.first_turn.result.1.now) c.first_turn.result.0.now
          c.loop-rest.turns.items c.push.new.self.items c.in_ok-pieces.pieces pushed c.first_turn.ensures.turns c.in_ok-pieces.ensures c.loop-rest.invariant.turns;
    }
