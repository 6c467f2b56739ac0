-- One block more: its digits are written after those of the bytes before it.
use Rattle.std.proofs.Common.{rules, ◌≡◌, ℕ, ◌+◌, ◌-◌, ◌++◌, ◌∙◌, ap, arith, drop, sym, take}
use Rattle.std.proofs.lemmas.Grind.{put_two}
use Rattle.ws_formats.specs.Words.{hex}
use Rattle.ws_formats.proofs.HexByBlocks.{hex_more}
use Rattle.ws_formats.proofs.showing_hex.HexDigitsDisplay.fmt.Goals as goal

pub loop-at-preserved : goal.loop-at-preserved
loop-at-preserved g c =
    let bytes = c.args.self.now.0.now in
    let at = c.loop-at.at in
    let n = c.min.result in
    let back : at + n - at ≡ n = omega arith in
    record {
      within = omega arith;
      written = λ plain.
          let before = c.loop-at.invariant.written plain in
          put_two g.W.Write.write_str_gives c.args.f.now c.loop-at.f c.write_block.new.f
          (hex (take at bytes)) (hex (take (at + n - at) (drop at bytes))) (hex (take (at + n) bytes))
          before (c.write_block.ensures before.plain (search rules))
          (ap (λ (k : ℕ). hex (take at bytes) ++ hex (take k (drop at bytes))) back ∙ sym (hex_more bytes at n));
    }
