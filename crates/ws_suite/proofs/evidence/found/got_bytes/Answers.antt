-- One turn more, of which the bytes before the place are left out.
use Rattle.std.proofs.Common.{rules, ◌≡◌, ◌∙◌, ◌-◌, ◌≤◌, ◌++◌, [], ℕ, List, ap, ap₂, arith, drop, length, sym, take}
use Rattle.std.proofs.Math.Seq.{drop-nil}
use Rattle.std.proofs.lemmas.List.{length-drop, take_all}
use Rattle.ws_scripts.specs.declared.transcript.Turn.{Turn}
use Rattle.ws_scripts.specs.Pieces.{lent_turn}
use Rattle.ws_scripts.proofs.WalkLemmas.{is_there, others_left, within}
use Rattle.ws_suite.proofs.TurnBytes.{bytes_before, bytes_more, bytes_of_all, drop_least, drop_more, length_more}
use Rattle.ws_suite.proofs.evidence.found.got_bytes.Goals as goal

pub loop-number-init : goal.loop-number-init
loop-number-init c =
    let empty : c.new-bytes.result.items ≡ [] = search rules in record {
      bytes = empty ∙ sym (ap (λ (l : List ℕ). take c.args.most l) (drop-nil c.args.place) ∙ take_nil c.args.most);
      left = omega arith;
      walk = c.turns-walk.ensures;
      count = c.len-number-end.ensures ∙ ap (λ (l : List Turn). length l) c.turns-walk.ensures;
    }
  where
    take_nil : (n : ℕ) → take {A = ℕ} n [] ≡ []
    take_nil n = take_all n [] (omega arith)

pub loop-number-preserved : goal.loop-number-preserved
loop-number-preserved c =
    let get = λ (turn : Turn). turn.got in
    let turns = c.args.transcript.now.turns in
    let i = c.loop-number._number in
    let turn = lent_turn c.take_first.result in
    let others = c.take_first.new.self in
    let at = sym c.take_first.ensures ∙ c.loop-number.invariant.walk in
    let less = within turns i turn others at in
    let is = is_there turns i turn others at in
    let before = bytes_before get turns i in
    let more = bytes_more get turns i turn less is in
    let size = length_more get turns i turn less is in
    let piece = c.take_first.result.got.now in
    let left = c.loop-number.left in
    let old = c.loop-number.invariant in
    let passed = c.min-passed.result in
    let cut : drop passed piece ≡ drop (c.args.place - length before) piece =
    drop_least passed left piece c.min-passed.ensures ∙ ap (λ (n : ℕ). drop n piece) old.left in
    let whole : take (length piece - passed) (drop passed piece) ≡ drop passed piece =
    take_all (length piece - passed) (drop passed piece) (omega (arith, length-drop passed piece)) in
    record {
      bytes = c.in_ok-put_most.ensures (drop c.args.place before) old.bytes
          ∙ ap (λ (l : List ℕ). take c.args.most l) (ap (λ (l : List ℕ). drop c.args.place before ++ l) (whole ∙ cut)
          ∙ sym (drop_more c.args.place before piece) ∙ sym (ap (λ (l : List ℕ). drop c.args.place l) more));
      left = omega (arith, old.left, size);
      walk = others_left turns i turn others at;
      count = old.count;
    }

pub returns : goal.returns
returns c =
    let get = λ (turn : Turn). turn.got in
    let turns = c.args.transcript.now.turns in
    let i = c.loop-number._number in
    let all : length turns ≤ i = search rules in
    c.loop-number.invariant.bytes
    ∙ ap (λ (l : List ℕ). take c.args.most (drop c.args.place l)) (bytes_of_all get turns i all)
