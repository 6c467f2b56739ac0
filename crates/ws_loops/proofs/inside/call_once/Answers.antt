-- It is called, where it wasn't.
use Rattle.std.proofs.Common.{◌∙◌, None, Option, Some, ap, arith, false, inl, inr, is_some, refl, sym}
use Rattle.std.proofs.lemmas.Bool.{false≢true}
use Rattle.std.specs.List.{slice_get}
use Rattle.std.proofs.lemmas.Option.{same_Some, slice_get_within}
use Rattle.ws_loops.specs.declared.poller.Readiness.{Readiness}
use Rattle.ws_loops.proofs.PlaceLemmas.{none_of}
use Rattle.ws_loops.proofs.inside.call_once.Goals as goal

pub returns-then-at-len : goal.returns-then-at-len
returns-then-at-len c = inr (
  refl,
  λ e. omega (arith, c.if-at-len.true, c.len.ensures, slice_get_within c.args.calls.now.items c.args.at None e),
)

pub returns-then-is_some : goal.returns-then-is_some
returns-then-is_some c =
    let call = ap (λ l. slice_get l c.args.at) (sym c.as_slice.ensures.value) ∙ c.call_at.ensures in
    inr (
      refl,
      λ e. false≢true (ap (λ (o : Option Readiness). is_some o) (same_Some None c.call_at.result (sym e ∙ call))
          ∙ (sym c.is_some.ensures ∙ c.if-is_some.true)),
    )

pub returns : goal.returns
returns c =
    let call = ap (λ l. slice_get l c.args.at) (sym c.as_slice.ensures.value) ∙ c.call_at.ensures in
    inl (
      record { read = false; write = false },
      call ∙ ap (λ (o : Option Readiness). Some o)
          (none_of c.call_at.result (sym c.is_some.ensures ∙ c.if-is_some.false)),
      refl,
    )
