-- The turns are shown one after the other, and then the end.
use Rattle.std.proofs.Common.{◌≡◌, ◌∙◌, ◌+◌, ◌∷◌, ◌++◌, List, [], take, arith, ap, subst, sym}
use Rattle.std.proofs.lemmas.List.{take_all, take_more}
use Rattle.ws_scripts.specs.declared.transcript.Turn.{Turn}
use Rattle.ws_shown.specs.LineRooms.{HasLinesOf}
use Rattle.ws_shown.proofs.ShowingLemmas.{all_shown}
use Rattle.ws_shown.proofs.whole_text.lines_of.Goals as goal

pub turns-init : goal.turns-init
turns-init c = record { showing = c.new-room.ensures.showing; shown = c.new-room.ensures.none }

pub turns-preserved : goal.turns-preserved
turns-preserved c =
    let i = c.turns.turn-index in
    let turns = c.as_slice-turns.result.now in
    let next : take (i + 1) turns ≡ take i turns ++ c.turn-item.result ∷ [] = take_more turns i c.turn-item.result
    c.turns-test.true ∙ ap (λ (t : Turn). take i turns ++ t ∷ []) (sym c.turn-item.is) in
    record {
      showing = c.in_ok-show_whole.ensures.showing ∙ c.turns.invariant.showing;
      shown = subst (λ (l : List Turn). HasLinesOf c.show_whole.new.room l []) (sym next)
          (c.in_ok-show_whole.ensures.shown (take i turns) [] c.turns.invariant.shown);
    }

pub returns : goal.returns
returns c = all_shown c.args.showing c.turns.room c.args.transcript.now (take c.turns.turn-index c.as_slice-turns.result.now)
    c.in_ok-text.text.items
    (take_all c.turns.turn-index c.as_slice-turns.result.now (omega (arith, c.turns-test.false)) ∙ c.as_slice-turns.ensures)
    c.turns.invariant.showing c.turns.invariant.shown c.in_ok-text.ensures
