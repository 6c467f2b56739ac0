-- One block more: its digits are put behind those of the bytes before it.
use Rattle.std.proofs.Common.{◌≡◌, ℕ, List, ◌+◌, ◌-◌, ◌++◌, ◌∙◌, ap, append-nil, append_assoc, arith, drop, sym, take}
use Rattle.ws_formats.specs.Words.{hex}
use Rattle.ws_formats.proofs.HexByBlocks.{hex_more}
use Rattle.ws_frame.proofs.payload_word.put_hex.Goals as goal

pub loop-at-init : goal.loop-at-init
loop-at-init c = record { within = omega arith; put = sym (append-nil c.args.line.now.items) }

pub loop-at-preserved : goal.loop-at-preserved
loop-at-preserved c =
    let bytes = c.args.bytes.now in
    let at = c.loop-at.at in
    let n = c.min.result in
    let line = c.args.line.now.items in
    let back : at + n - at ≡ n = omega arith in
    record {
      within = omega arith;
      put = c.in_ok-put_block.ensures
          ∙ ap (λ (t : List ℕ). t ++ hex (take (at + n - at) (drop at bytes))) c.loop-at.invariant.put
          ∙ append_assoc line (hex (take at bytes)) (hex (take (at + n - at) (drop at bytes)))
          ∙ ap (λ (k : ℕ). line ++ (hex (take at bytes) ++ hex (take k (drop at bytes)))) back
          ∙ ap (λ (t : List ℕ). line ++ t) (sym (hex_more bytes at n));
    }
