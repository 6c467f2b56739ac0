-- A turn begins, and gets all of what it has got.
use Rattle.ws_shown.proofs.ShowingLemmas.{whole_turn}
use Rattle.ws_shown.proofs.whole_text.show_whole.Goals as goal

pub returns-clause-shown : goal.returns-clause-shown
returns-clause-shown c = λ turns. whole_turn turns c.args.turn.now c.as_slice.result.now c.as_slice-2.result.now
    c.args.room.now c.begin_turn.new.self c.got.new.self c.as_slice.ensures c.as_slice-2.ensures
    c.in_ok-begin_turn.ensures.1 c.in_ok-got.ensures.1
