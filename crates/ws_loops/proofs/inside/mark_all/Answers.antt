-- One wake more is marked.
use Rattle.std.proofs.Common.{◌≡◌, ◌∙◌, ℕ, ap, arith, subst, sym, take}
use Rattle.std.specs.List.{slice_get}
use Rattle.ws_loops.proofs.InsideLemmas.{marks_next, marks_none}
use Rattle.ws_loops.specs.Inside.{HasMarkedTo}
use Rattle.ws_loops.proofs.PlaceLemmas.{front_len, get_take}
use Rattle.ws_loops.proofs.inside.mark_all.Goals as goal

pub loop-next-init : goal.loop-next-init
loop-next-init g c = record {
  next = omega arith;
  marked = marks_none (take c.args.count c.args.inside.now.found.items) c.args.inside.now;
}

pub loop-next-preserved : goal.loop-next-preserved
loop-next-preserved g c =
    let before = c.loop-next.invariant in
    let one = c.mark_one.ensures.marked in
    record {
      next = omega (arith, c.loop-next-test.true);
      marked = marks_next (take c.args.count c.args.inside.now.found.items) c.loop-next.next c.args.inside.now
          c.loop-next.inside c.mark_one.new.inside c.wake_at-wake.result
          (get_take c.args.count c.loop-next.next c.args.inside.now.found.items (omega (arith, c.loop-next-test.true))
          ∙ (ap (λ l. slice_get l c.loop-next.next) (sym before.marked.0.found)
          ∙ (ap (λ l. slice_get l c.loop-next.next) (sym c.as_slice.ensures.value) ∙ c.wake_at-wake.ensures)))
          before.marked one.0 one.1;
    }

pub returns : goal.returns
returns g c =
    let found = c.args.inside.now.found.items in
    let all : c.loop-next.next ≡ c.args.count = omega (arith, c.loop-next-test.false, c.loop-next.invariant.next) in
    record {
      marked = subst (λ (n : ℕ). HasMarkedTo (take c.args.count found) n c.args.inside.now c.loop-next.inside)
          (all ∙ sym (front_len c.args.count found c.requires.count)) c.loop-next.invariant.marked;
    }
