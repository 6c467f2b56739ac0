-- None is one where none of those that were looked at is.
use Rattle.std.proofs.Common.{◌∙◌, ap, arith, is_some, sym}
use Rattle.ws_clients.specs.Numbers.{client_number}
use Rattle.ws_clients.proofs.NumberLemmas.{is_not_some, none_further}
use Rattle.ws_clients.proofs.clients.are_unnumbered.Goals as goal

pub loop-next-init : goal.loop-next-init
loop-next-init c = record {
  within = omega (arith);
  none = λ i below. absurd (omega (arith, below));
}

pub loop-next-preserved : goal.loop-next-preserved
loop-next-preserved c = record {
  within = omega (arith, c.loop-next-test.true);
  none = none_further c.args.numbers.now c.loop-next.next c.loop-next.invariant.none
      (is_not_some (client_number c.args.numbers.now c.loop-next.next)
      (ap (λ o. is_some o) (sym c.number_of.ensures) ∙ (sym c.is_some.ensures ∙ c.if-is_some.false)));
}
