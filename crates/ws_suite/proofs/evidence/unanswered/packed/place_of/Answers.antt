-- One payload more isn't this one.
use Rattle.std.proofs.Common.{◌≡◌, ◌∙◌, ◌||◌, ◌<◌, ◌≤◌, ◌+◌, ◌-◌, [], List, ℕ, Bool, true, false, bytes_eq, drop}
use Rattle.std.proofs.Common.{length, take, ap, ap₂, sym, rules}
use Rattle.std.proofs.Common.{arith, slice_index_or}
use Rattle.std.proofs.lemmas.List.{take_all}
use Rattle.std.proofs.lemmas.List.Folds.{list_any_more}
use Rattle.std.proofs.lemmas.List.Sums.{sum_by_more}
use Rattle.ws_suite.specs.InnerUnanswered.{payloads_by}
use Rattle.ws_suite.specs.Progress.{is_pong_owed}
use Rattle.ws_suite.proofs.PackedLemmas.{cut_count, own_payload}
use Rattle.ws_suite.proofs.evidence.unanswered.packed.place_of.Goals as goal

pub returns-then-are_same-clause-first : goal.returns-then-are_same-clause-first
returns-then-are_same-clause-first c =
    let lens = c.args.lens.now.items in
    let bytes = c.args.bytes.now in
    let number = c.loop-number.number in
    let there : number < length lens = search rules in
    let same : bytes_eq c.args.payload.now (take ((c.loop-number.start + c.index.result.now) - c.loop-number.start)
    (drop c.loop-number.start bytes)) ≡ true = sym c.are_same.ensures ∙ c.if-are_same.true in
    record {
      there = there;
      start = c.loop-number.invariant.start;
      first = c.loop-number.invariant.none;
      same = λ other. ap (λ (l : List ℕ). bytes_eq c.args.payload.now l) (own_payload lens bytes number
          c.index.result.now c.loop-number.start other there c.loop-number.invariant.start c.index.ensures) ∙ same;
    }

pub loop-number-preserved : goal.loop-number-preserved
loop-number-preserved c =
    let lens = c.args.lens.now.items in
    let bytes = c.args.bytes.now in
    let number = c.loop-number.number in
    let len = c.index.result.now in
    let there : number < length lens = search rules in
    let other : bytes_eq c.args.payload.now (slice_index_or (payloads_by lens bytes) number []) ≡ false =
    ap (λ (l : List ℕ). bytes_eq c.args.payload.now l) (own_payload lens bytes number len c.loop-number.start []
    there c.loop-number.invariant.start c.index.ensures) ∙ (sym c.are_same.ensures ∙ c.if-are_same.false) in
    record {
      start = omega (arith, c.loop-number.invariant.start, c.index.ensures, sum_by_more (λ n. n) lens number len there);
      none =
          list_any_more (bytes_eq c.args.payload.now) (payloads_by lens bytes) number [] (omega (
            arith,
            there,
            cut_count lens bytes,
          ))
          ∙ ap₂ (λ (a b : Bool). a || b) c.loop-number.invariant.none other;
    }

pub returns-clause-none : goal.returns-clause-none
returns-clause-none c =
    let lens = c.args.lens.now.items in
    let bytes = c.args.bytes.now in
    let all : length lens ≤ c.loop-number.number = search rules in
    ap (λ (l : List (List ℕ)). is_pong_owed c.args.payload.now l) (sym (take_all c.loop-number.number
    (payloads_by lens bytes) (omega (arith, all, cut_count lens bytes))))
    ∙ c.loop-number.invariant.none
