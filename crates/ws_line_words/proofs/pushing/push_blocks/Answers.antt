-- One block more: its digits stand behind those of the bytes before it.
use Rattle.std.proofs.Common.{rules, ◌≡◌, ℕ, ◌+◌, ◌-◌, ◌++◌, ◌∙◌, List, ap, append_assoc, arith, drop, string_bytes, sym, take}
use Rattle.ws_formats.specs.Words.{hex}
use Rattle.ws_formats.proofs.HexByBlocks.{hex_more}
use Rattle.ws_line_words.proofs.pushing.push_blocks.Goals as goal

pub loop-at-preserved : goal.loop-at-preserved
loop-at-preserved c =
    let bytes = c.args.bytes.now in
    let at = c.loop-at.at in
    let n = c.min.result in
    let back : at + n - at ≡ n = omega arith in
    let before : List ℕ = string_bytes c.args.text.now in
    let put : string_bytes c.push_block.new.text ≡ string_bytes c.loop-at.text ++ hex (take (at + n - at) (drop at bytes)) = search rules in
    record {
      within = omega arith;
      put = put ∙ ap (λ (l : List ℕ). l ++ hex (take (at + n - at) (drop at bytes))) c.loop-at.invariant.put
          ∙ append_assoc before (hex (take at bytes)) (hex (take (at + n - at) (drop at bytes)))
          ∙ ap (λ (l : List ℕ). before ++ l)
          (ap (λ (k : ℕ). hex (take at bytes) ++ hex (take k (drop at bytes))) back ∙ sym (hex_more bytes at n));
    }
