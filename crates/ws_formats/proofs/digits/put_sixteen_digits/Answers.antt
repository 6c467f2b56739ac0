-- Sixteen bytes are a vector, and their digits fill the room.
use Rattle.std.proofs.Common.{◌∙◌, List, ℕ, arith, subst, sym}
use Rattle.std.proofs.lemmas.List.{take_all}
use Rattle.std.proofs.lemmas.Simd.{put_chunk_whole}
use Rattle.ws_formats.specs.Reading.{ArePairs}
use Rattle.ws_formats.proofs.digits.put_sixteen_digits.Goals as goal

pub returns : goal.returns
returns c =
    let bytes = c.args.bytes.now in
    let digits = c.digits_of.result in
    subst (λ (l : List ℕ). ArePairs bytes l) (sym (put_chunk_whole c.args.digits.now digits (c.requires.room ∙ sym c.digits_of.ensures.len)))
    (subst (λ (l : List ℕ). ArePairs l digits) (take_all 16 bytes (omega (arith, c.requires.sixteen))) c.digits_of.ensures.pairs)
