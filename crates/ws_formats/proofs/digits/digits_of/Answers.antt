-- The high and the low digits by turns are the digits of the bytes.
use Rattle.std.proofs.Common.{◌∙◌, ◌+◌, ◌++◌, List, ℕ, false, get_or, replicate, bit_and, ap, arith}
use Rattle.std.specs.Fmt.{digit_glyph}
use Rattle.std.proofs.lemmas.List.{take_all, get_or_append_left, get_or-append_right}
use Rattle.std.proofs.lemmas.Simd.{length-zip2}
use Rattle.ws_formats.specs.Words.{hex}
use Rattle.ws_formats.proofs.DigitLanes.{all_bytes, shifted_by, high_at, low_at, woven}
use Rattle.ws_formats.proofs.digits.digits_of.Goals as goal

pub look_up-high-requires-clause-len : goal.look_up-high-requires-clause-len
look_up-high-requires-clause-len c = length-zip2 shifted_by c.args.bytes (replicate 16 4) c.requires ∙ c.requires

pub look_up-high-requires-clause-small : goal.look_up-high-requires-clause-small
look_up-high-requires-clause-small c = λ i lt. omega (arith, high_at c.args.bytes i c.requires lt, all_bytes c.args.bytes c.fits-bytes.1 i)

pub look_up-low-requires-clause-len : goal.look_up-low-requires-clause-len
look_up-low-requires-clause-len c = length-zip2 bit_and c.args.bytes (replicate 16 15) c.requires ∙ c.requires

pub look_up-low-requires-clause-small : goal.look_up-low-requires-clause-small
look_up-low-requires-clause-small c = λ i lt. omega (arith, low_at c.args.bytes i c.requires lt)

pub returns-clause-pairs : goal.returns-clause-pairs
returns-clause-pairs c =
    let bytes = c.args.bytes in
    let highs = c.look_up-high.result in
    let lows = c.look_up-low.result in
    let whole = take_all 16 bytes (omega (arith, c.requires)) in (
      all_bytes bytes c.fits-bytes.1,
      woven 0 16 (highs ++ lows) bytes (omega (arith, c.requires)) (all_bytes bytes c.fits-bytes.1)
          (λ i lt.
          get_or_append_left highs lows 0 i (omega (arith, c.requires, c.look_up-high.ensures.len)) ∙ c.look_up-high.ensures.digits i (omega (arith, c.requires))
          ∙ ap (λ h. digit_glyph false h) (high_at bytes i c.requires (omega (arith, c.requires))))
          (λ i lt.
          get_or-append_right highs lows 16 (i + 16) 0 c.look_up-high.ensures.len (omega arith) ∙ ap (λ k. get_or lows k 0) (omega arith)
          ∙ c.look_up-low.ensures.digits i (omega (arith, c.requires)) ∙ ap (λ h. digit_glyph false h) (low_at bytes i c.requires (omega (arith, c.requires))))
          ∙ ap (λ (t : List ℕ). hex t) whole,
    )
