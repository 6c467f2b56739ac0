-- Nobody has come.
use Rattle.std.proofs.Common.{◌≡◌, ◌∙◌, ◌+◌, ◌∷◌, ◌^◌, ◌<◌, [], List, Some, ap, arith, length, refl, rules, slice_get}
use Rattle.std.proofs.Common.{subst, sym, ℕ}
use Rattle.std.proofs.lemmas.List.{length-append}
use Rattle.std.proofs.lemmas.Option.{none-some}
use Rattle.ws_relays.specs.EndPlaces.{EndThere, FreePlace}
use Rattle.ws_relays.specs.declared.relays.Pair.{Pair}
use Rattle.ws_relays.specs.declared.relays.Pair.TheVariants as pair
use Rattle.ws_relays.proofs.RelayBegins.{AreKeptTo, free_more, keep_more, new_stands, none_kept}
use Rattle.ws_relays.proofs.relays.Relays.new.Goals as goal

pub loop-next-init : goal.loop-next-init
loop-next-init g c =
    let len = c.args.tapping.now.at_once in
    let places : c.in-Some.places ≡ len + len = search rules in
    let free = c.in_ok-ends.ensures.free in record {
      within = omega arith;
      pairs = ap (λ (l : List (Pair g.row.A.Denot g.row.S.Denot g.row.W.Denot)). length l) c.new-pairs.ensures.items;
      free = λ i x get. absurd (none-some x (sym (ap (λ (l : List (Pair g.row.A.Denot g.row.S.Denot g.row.W.Denot)).
          slice_get l i) c.new-pairs.ensures.items) ∙ get));
      kept = none_kept len c.in_ok-ends.ends (free.0 ∙ places) (λ i lt. free.1 i
          (subst (λ (k : ℕ). i < k) (sym places) lt));
    }

pub keep-requires : goal.keep-requires
keep-requires g c = record {
  none = (
    FreePlace,
    c.loop-next.invariant.kept.rest c.loop-next.next (omega arith) (omega (arith, c.loop-next-test.true)),
    refl,
  );
}

pub loop-next-preserved : goal.loop-next-preserved
loop-next-preserved g c =
    let len = c.args.tapping.now.at_once in
    let next = c.loop-next.next in record {
      within = omega (arith, c.loop-next-test.true);
      pairs = omega (
        arith,
        ap (λ (l : List (Pair g.row.A.Denot g.row.S.Denot g.row.W.Denot)). length l)
            c.in_ok-push.ensures.items,
        length-append c.loop-next.pairs.items (pair.Free ∷ []),
        c.loop-next.invariant.pairs,
      );
      free = subst (λ (l : List (Pair g.row.A.Denot g.row.S.Denot g.row.W.Denot)). (i : ℕ) (x : _)
          → slice_get l i ≡ Some x → x ≡ pair.Free) (sym c.in_ok-push.ensures.items)
          (free_more c.loop-next.pairs.items pair.Free c.loop-next.invariant.free);
      kept = subst (λ (l : List (EndThere g.row.S.Denot)). AreKeptTo len (next + 1) l) (sym c.keep.ensures.kept)
          (keep_more len next c.loop-next.ends c.loop-next-test.true c.loop-next.invariant.kept);
    }

pub returns-clause-nobody : goal.returns-clause-nobody
returns-clause-nobody g c =
    let len = c.args.tapping.now.at_once in
    let all : c.loop-next.next ≡ len = omega (arith, c.loop-next.invariant.within, c.loop-next-test.false) in
    let room : len + len < 2 ^ 64 = search rules in
    new_stands g.S.NonBlocking.did c.args.tapping.now _ len c.loop-next.next refl all refl refl refl refl
    (c.loop-next.invariant.pairs ∙ all) c.loop-next.invariant.free room c.loop-next.invariant.kept
