-- One turn more, of which the bytes before the place are left out.
use Rattle.std.proofs.Common.{rules, ◌≡◌, ◌∙◌, ◌-◌, ◌++◌, [], ℕ, List, ap, ap₂, arith, drop, length, sym, take}
use Rattle.std.proofs.Math.Seq.{drop-nil}
use Rattle.std.proofs.lemmas.List.{length-drop, take_all}
use Rattle.ws_scripts.specs.declared.transcript.Turn.{Turn}
use Rattle.ws_scripts.specs.Pieces.{lent_turn}
use Rattle.ws_scripts.proofs.WalkLemmas.{is_there, others_left, within}
use Rattle.ws_suite.specs.InnerCollecting.{way_bytes}
use Rattle.ws_suite.proofs.TurnBytes.{bytes_before, bytes_more, drop_least, drop_more, length_more}
use Rattle.ws_suite.proofs.evidence.marks.bytes_from.Goals as goal

pub loop-number-init : goal.loop-number-init
loop-number-init c =
    let empty : c.new-bytes.result.items ≡ [] = search rules in record {
      bytes = empty ∙ sym (drop-nil c.args.place);
      left = omega arith;
      walk = c.turns-walk.ensures;
      count = c.len-number-end.ensures ∙ ap (λ (l : List Turn). length l) c.turns-walk.ensures;
    }

pub loop-number-preserved : goal.loop-number-preserved
loop-number-preserved c =
    let get = way_bytes c.args.way in
    let turns = c.args.transcript.now.turns in
    let i = c.loop-number._number in
    let turn = lent_turn c.take_first.result in
    let others = c.take_first.new.self in
    let at = sym c.take_first.ensures ∙ c.loop-number.invariant.walk in
    let less = within turns i turn others at in
    let is = is_there turns i turn others at in
    let before = bytes_before get turns i in
    let more = bytes_more get turns i turn less is in
    let size = length_more get turns i turn less is in
    let piece = c.bytes_of-piece.result.now in
    let same : piece ≡ get turn = c.bytes_of-piece.ensures in
    let len = ap (λ (l : List ℕ). length l) same in
    let left = c.loop-number.left in
    let old = c.loop-number.invariant in
    let passed = c.min-passed.result in
    let cut : drop passed piece ≡ drop (c.args.place - length before) (get turn) =
    drop_least passed left piece c.min-passed.ensures ∙ ap₂ (λ (n : ℕ) (l : List ℕ). drop n l) old.left same in
    let whole : take (length piece - passed) (drop passed piece) ≡ drop passed piece =
    take_all (length piece - passed) (drop passed piece) (omega (arith, length-drop passed piece)) in
    record {
      bytes = c.in_ok-extend_from_slice.ensures.items ∙ ap₂ (λ (a b : List ℕ). a ++ b) old.bytes (whole ∙ cut)
          ∙ sym (drop_more c.args.place before (get turn))
          ∙ sym (ap (λ (l : List ℕ). drop c.args.place l) more);
      left = omega (arith, old.left, size, len);
      walk = others_left turns i turn others at;
      count = old.count;
    }
