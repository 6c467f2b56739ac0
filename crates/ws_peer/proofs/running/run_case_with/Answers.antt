-- Turn after turn the script is run until the peer ends or is finished, and the transcript is the record of that talk.
use Rattle.std.proofs.Common.{◌≡◌, ℕ, List, ◌∷◌, [], ◌++◌, ◌∙◌, ap, append-nil, refl, rules, sym}
use Rattle.ws_peer.specs.declared.peer.Going.TheVariants.{More, Ended}
use Rattle.ws_peer.proofs.RunLemmas.{HasRunTurn, run_ended, run_finished, run_first}
use Rattle.ws_peer.proofs.running.run_case_with.Goals as goal

pub returns-then-eq : goal.returns-then-eq
returns-then-eq g c =
    let ended : c.in_ok-turn.going ≡ Ended = search rules in
    let script = c.in_ok-script.script in
    let run = c.loop-pieces.invariant in
    let is_script : c.from-left.result.items ≡ script = search rules in
    let left : c.loop-pieces.left.items ≡ c.in-Some.pieces ∷ c.pop_front.new.self.items = search rules in
    let pushed : c.push.new.self.items ≡ c.loop-pieces.recorded.items ++ c.in_ok-turn.turn ∷ [] = search rules in
    let (part, is, talked) = c.in_ok-turn.ensures in
    let turn : HasRunTurn g.P.Peer.agrees c.loop-pieces.peer c.run_turn.new.peer c.in-Some.pieces c.in_ok-turn.turn
    c.in_ok-turn.going = record { part = part; run = is; talked = talked } in
    let all : script ≡ run.done ++ c.in-Some.pieces ∷ c.pop_front.new.self.items =
    sym is_script ∙ run.split ∙ ap (λ (l : List (List (List ℕ))). run.done ++ l) left in
    let r = run_ended g.P.Peer.agrees c.args.peer.now c.loop-pieces.peer c.run_turn.new.peer script run.done
    c.pop_front.new.self.items c.in-Some.pieces c.loop-pieces.recorded.items c.push.new.self.items
    c.in_ok-turn.turn c.in_ok-turn.going (record { turns = c.from_vec.result; ended = _ }) run.run turn ended pushed
    all c.from_vec.ensures refl in
    (script, c.in_ok-script.ensures, r.talk, r.run, r.talked)

pub loop-pieces-preserved : goal.loop-pieces-preserved
loop-pieces-preserved g c =
    let more : c.in_ok-turn.going ≡ More = search rules in
    let left : c.loop-pieces.left.items ≡ c.in-Some.pieces ∷ c.pop_front.new.self.items = search rules in
    let pushed : c.push.new.self.items ≡ c.loop-pieces.recorded.items ++ c.in_ok-turn.turn ∷ [] = search rules in
    let (part, is, talked) = c.in_ok-turn.ensures in
    let turn : HasRunTurn g.P.Peer.agrees c.loop-pieces.peer c.run_turn.new.peer c.in-Some.pieces c.in_ok-turn.turn
    c.in_ok-turn.going = record { part = part; run = is; talked = talked } in
    run_first g.P.Peer.agrees c.args.peer.now c.loop-pieces.peer c.run_turn.new.peer c.from-left.result.items
    c.loop-pieces.left.items c.pop_front.new.self.items c.in-Some.pieces
    c.loop-pieces.recorded.items c.push.new.self.items c.in_ok-turn.turn c.in_ok-turn.going c.loop-pieces.invariant
    left turn more pushed

pub returns : goal.returns
returns g c =
    let script = c.in_ok-script.script in
    let run = c.loop-pieces.invariant in
    let is_script : c.from-left.result.items ≡ script = search rules in
    let none : c.loop-pieces.left.items ≡ [] = search rules in
    let (left, written, finished) = c.in_ok-finish.ensures in
    let all : run.done ≡ script = sym (append-nil run.done)
    ∙ ap (λ (l : List (List (List ℕ))). run.done ++ l) (sym none) ∙ sym run.split ∙ is_script in
    let r = run_finished g.P.Peer.agrees c.args.peer.now c.loop-pieces.peer c.finish.new.peer run.done script left
    c.loop-pieces.recorded.items c.finish.new.turns.items
    (record { turns = c.from_vec-2.result; ended = _ }) run.run finished all written c.from_vec-2.ensures refl in
    (script, c.in_ok-script.ensures, r.talk, r.run, r.talked)
