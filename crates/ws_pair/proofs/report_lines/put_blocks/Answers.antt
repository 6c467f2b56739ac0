-- One block more: its digits are put behind those of the bytes before it.
use Rattle.std.proofs.Common.{◌≡◌, ℕ, ◌+◌, ◌-◌, ◌++◌, ◌∙◌, List, ap, arith, drop, length, rules, sym, take, true}
use Rattle.std.proofs.lemmas.List.{take_all}
use Rattle.ws_formats.specs.Words.{hex}
use Rattle.ws_frame.specs.Watching.{has_failed}
use Rattle.ws_formats.proofs.HexByBlocks.{hex_more}
use Rattle.ws_pair.proofs.Putting.{both_put, none_put, same_put, stopped_put}
use Rattle.ws_pair.proofs.report_lines.put_blocks.Goals as goal

pub loop-at-init : goal.loop-at-init
loop-at-init g c = record { within = omega arith; put = none_put g.W.Write.contents c.args.room.now c.args.writer.now }

pub loop-at-preserved : goal.loop-at-preserved
loop-at-preserved g c =
    let bytes = c.args.bytes.now in
    let at = c.loop-at.at in
    let n = c.min.result in
    let back : at + n - at ≡ n = omega arith in
    record {
      within = omega arith;
      put = same_put g.W.Write.contents _ _ _ _ _ _
          (ap (λ (k : ℕ). hex (take at bytes) ++ hex (take k (drop at bytes))) back ∙ sym (hex_more bytes at n))
          (both_put g.W.Write.contents _ _ _ _ _ _ _ _ c.loop-at.invariant.put c.put_block.ensures);
    }

pub returns : goal.returns
returns g c =
    same_put g.W.Write.contents _ _ _ _ _ _
    (ap (λ (l : List ℕ). hex l) (take_all c.loop-at.at c.args.bytes.now (omega (arith, c.loop-at-test.false))))
    c.loop-at.invariant.put

pub returns-then-failed : goal.returns-then-failed
returns-then-failed g c =
    let bytes = c.args.bytes.now in
    let at = c.loop-at.at in
    let n = length bytes - at in
    let failed : has_failed c.loop-at.writer ≡ true = search rules in
    let within = c.loop-at.invariant.within in
    same_put g.W.Write.contents _ _ _ _ _ _
    (sym (hex_more bytes at n) ∙ ap (λ (l : List ℕ). hex l) (take_all (at + n) bytes (omega (arith, within))))
    (stopped_put g.W.Write.contents (hex (take at bytes)) (hex (take n (drop at bytes))) _ _ _ _ failed
    c.loop-at.invariant.put)
