-- The digits that a block is read from stand where nothing was put yet.
use Rattle.std.proofs.Common.{◌≡◌, ◌∙◌, ℕ, ◌+◌, ◌*◌, ◌-◌, ◌/◌, ◌≤◌, List, length, take, drop, sym, subst, arith}
use Rattle.std.proofs.lemmas.Simd.{length-chunk}
use Rattle.std.proofs.lemmas.Slice.{drop-put_mid}
use Rattle.ws_formats.specs.Reading.{AreDigits, ArePairs}
use Rattle.ws_formats.proofs.HexLanes.{left_further, pairs_step}
use Rattle.ws_formats.proofs.HexReads.{block_of_digits, pairs_even}
use Rattle.ws_formats.proofs.hexadecimal.put_pairs_in_front.Goals as goal

pub put_pairs-requires-clause-digits : goal.put_pairs-requires-clause-digits
put_pairs-requires-clause-digits c =
    let at = c.loop-at.at in
    let m = 2 * (at + c.min-count.result) - 2 * at in
    subst (λ (l : List ℕ). AreDigits (take m l)) (sym c.loop-at.invariant.left)
    (block_of_digits c.args.digits.now (2 * at) m (omega (arith, c.min-count.ensures)) c.requires.digits)

pub loop-at-preserved : goal.loop-at-preserved
loop-at-preserved c =
    let at = c.loop-at.at in
    let count = c.min-count.result in
    let digits = c.loop-at.digits in
    let word = c.args.digits.now in
    let m = 2 * (at + count) - 2 * at in
    let k = at + count - at in
    let new = c.copy_from_slice.new.self in
    let within : at + count ≤ length word / 2 = omega (arith, c.min-count.ensures) in
    let spelled : ArePairs new (take m (drop (2 * at) word)) =
    subst (λ (l : List ℕ). ArePairs new (take m l)) c.loop-at.invariant.left
    (subst (λ (l : List ℕ). ArePairs l (take m (drop (2 * at) digits))) (sym c.copy_from_slice.ensures.after) c.put_pairs.ensures) in
    let size : length new ≡ k = omega (arith, within, pairs_even new (take m (drop (2 * at) word)) spelled, length-chunk (2 * at) m word (omega arith)) in
    record {
      within = within;
      long = omega arith;
      pairs = pairs_step count at k m digits new word (omega arith) (omega arith) (omega arith) (omega arith)
          c.loop-at.invariant.pairs spelled;
      left = drop-put_mid at k digits new (2 * (at + count)) (omega arith) (omega arith) size
          ∙ left_further (2 * at) (2 * (at + count)) digits word (omega arith) c.loop-at.invariant.left;
    }
