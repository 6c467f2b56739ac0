-- The leaf is set, and then each node above it; at the first one all is in order.
use Rattle.std.proofs.Common.{◌≡◌, ◌∙◌, ◌+◌, ◌*◌, ◌/◌, ℕ, List, Option, Some, arith, ap, length, refl, slice_set, subst}
use Rattle.std.proofs.Common.{sym}
use Rattle.std.specs.List.{slice_get}
use Rattle.ws_loops.proofs.LimitLemmas.{IsInOrder, IsInOrderBut, below_half, leaf_set, leaves_kept, leaves_set}
use Rattle.ws_loops.proofs.LimitLemmas.{node_set}
use Rattle.ws_loops.proofs.LimitLemmas.{order_stopped, order_whole}
use Rattle.ws_loops.specs.Paces.{sooner}
use Rattle.ws_loops.proofs.PlaceLemmas.{length_set, place_of}
use Rattle.ws_loops.proofs.limits.set_limit.Goals as goal

pub loop-node-init : goal.loop-node-init
loop-node-init c =
    let limits = c.args.limits.now in
    let times = limits.times.items in
    let at = c.args.at in
    let time = c.args.time in
    let tree = c.requires.tree in
    let node = c.len.result + at in
    let here : node ≡ length times + at = omega (arith, c.len.ensures, length_set times at time) in
    record {
      node = omega (arith, c.requires.at, here);
      within = omega (arith, c.requires.at, tree.len, here, length_set limits.tree.items node time);
      set = refl;
      len = length_set limits.tree.items node time ∙ (tree.len ∙ ap (λ (n : ℕ). n + n) (sym
          (length_set times at time)));
      leaf = λ i x is. subst (λ (n : ℕ). slice_get (slice_set limits.tree.items node time) (n + i) ≡ Some x)
          (sym (length_set times at time))
          (subst (λ (n : ℕ). slice_get (slice_set limits.tree.items n time) (length times + i) ≡ Some x) (sym here)
          (leaves_set times limits.tree.items at time c.requires.at tree.len tree.leaf i x is));
      order = leaf_set limits.tree.items node time tree.order (omega (arith, tree.len, here));
    }

pub loop-node-preserved : goal.loop-node-preserved
loop-node-preserved c =
    let before = c.loop-node.invariant in
    let limits = c.loop-node.limits in
    let tree = limits.tree.items in
    let half = c.loop-node.node / 2 in
    let (one, one_is) = place_of tree (2 * half) (omega (arith, before.within, before.len, c.loop-node-test.true)) in
    let (other, other_is) = place_of tree (2 * half + 1)
    (omega (arith, before.within, before.len, c.loop-node-test.true)) in
    let set : c.raise.new.tree.items ≡ slice_set tree half (sooner one other) = c.raise.ensures.raised one other one_is
    other_is in
    record {
      node = omega (arith, c.loop-node-test.true);
      within = omega (
        arith,
        before.within,
        c.loop-node-test.true,
        length_set tree half (sooner one other),
        ap (λ (l : List (Option ℕ)). length l) set,
      );
      set = before.set;
      len = ap (λ (l : List (Option ℕ)). length l) set ∙ (length_set tree half (sooner one other) ∙ before.len);
      leaf = λ i x is. subst (λ (l : List (Option ℕ)). slice_get l (length limits.times.items + i) ≡ Some x) (sym set)
          (leaves_kept limits.times.items tree half (sooner one other)
          (omega (arith, before.within, before.len, c.loop-node-test.true)) before.leaf i x is);
      order = subst (λ (l : List (Option ℕ)). IsInOrderBut l half) (sym set)
          (node_set tree half c.loop-node.node one other (omega (arith, c.loop-node-test.true))
          (below_half c.loop-node.node (omega (arith, c.loop-node-test.true))) before.order one_is other_is);
    }

pub returns-clause-tree : goal.returns-clause-tree
returns-clause-tree c = record {
  len = c.loop-node.invariant.len;
  leaf = c.loop-node.invariant.leaf;
  order = order_whole c.loop-node.limits.tree.items c.loop-node.node (omega (arith, c.loop-node-test.false))
      c.loop-node.invariant.order;
}

pub returns-clause-set : goal.returns-clause-set
returns-clause-set c = c.loop-node.invariant.set

pub raise-requires : goal.raise-requires
raise-requires c =
    let before = c.loop-node.invariant in
    omega (arith, before.within, before.len, c.loop-node-test.true)

pub returns-then-not-raise-clause-set : goal.returns-then-not-raise-clause-set
returns-then-not-raise-clause-set c = c.loop-node.invariant.set

pub returns-then-not-raise-clause-tree : goal.returns-then-not-raise-clause-tree
returns-then-not-raise-clause-tree c =
    let before = c.loop-node.invariant in
    let tree = c.loop-node.limits.tree.items in
    let times = c.loop-node.limits.times.items in
    let half = c.loop-node.node / 2 in
    let (one, one_is) = place_of tree (2 * half) (omega (arith, before.within, before.len, c.loop-node-test.true)) in
    let (other, other_is) = place_of tree (2 * half + 1)
    (omega (arith, before.within, before.len, c.loop-node-test.true)) in
    let kept : c.raise.new.tree.items ≡ tree = c.raise.ensures.kept c.if-not-raise.true in
    let set : slice_set tree half (sooner one other) ≡ tree = sym (c.raise.ensures.raised one other one_is other_is)
    ∙ kept in
    record {
      len = ap (λ (l : List (Option ℕ)). length l) kept ∙ before.len;
      leaf = λ i x is. subst (λ (l : List (Option ℕ)). slice_get l (length times + i) ≡ Some x) (sym kept)
          (before.leaf i x is);
      order = subst (λ (l : List (Option ℕ)). IsInOrder l) (sym kept)
          (order_stopped tree half c.loop-node.node one other (omega (arith, c.loop-node-test.true))
          (below_half c.loop-node.node (omega (arith, c.loop-node-test.true))) before.order one_is other_is set);
    }
