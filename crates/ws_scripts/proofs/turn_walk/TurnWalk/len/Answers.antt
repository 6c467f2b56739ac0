-- A turn is a pair; and one of the two is empty.
use Rattle.std.proofs.Common.{◌≡◌, List, ap, arith, length, length-append}
use Rattle.std.proofs.lemmas.Bool.Decides.{nat_tests}
use Rattle.ws_scripts.specs.declared.transcript.Turn.{Turn}
use Rattle.ws_scripts.specs.Pieces.{turns_of_pairs}
use Rattle.ws_scripts.proofs.PieceLemmas.{pair_count}
use Rattle.ws_scripts.proofs.turn_walk.TurnWalk.len.Goals as goal

pub returns-then-is_empty : goal.returns-then-is_empty
returns-then-is_empty c =
    let x = c.self.inside in
    let none : length x.listed.now ≡ 0 = grind (arith, nat_tests, c.if-is_empty.true, c.is_empty.ensures) in
    omega (
      arith,
      c.len.ensures,
      none,
      pair_count x.pairs c.self.invariant.0,
      length-append x.listed.now (turns_of_pairs x.pairs),
      ap (λ (l : List Turn). length l) c.self.view_is,
    )
