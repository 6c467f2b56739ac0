-- A word of eight digits spells a masking key of four bytes; one of another length, or with another byte than digits,
-- spells none.
use Rattle.std.proofs.Common.{◌≡◌, arith, true}
use Rattle.std.proofs.lemmas.Bool.Decides.{nat_tests}
use Rattle.ws_formats.proofs.HexReads.{pairs_are_digits}
use Rattle.ws_formats.proofs.HexWords.{key_length}
use Rattle.ws_formats.proofs.hexadecimal.read_key.Goals as goal
use Rattle.ws_formats.proofs.hexadecimal.read_key.Goals.{then-word-ne-KEY_DIGITS-via-then-word-ne-KEY_DIGITS, then-word-ne-KEY_DIGITS-via-else-word-ne-KEY_DIGITS+then-not-are_digits}

pub returns-then-word-ne-KEY_DIGITS : goal.returns-then-word-ne-KEY_DIGITS
returns-then-word-ne-KEY_DIGITS c = λ key h.
    let long = key_length key c.args.word.now h in
    let digits = pairs_are_digits key c.args.word.now (h.0.1, h.1) in
    elim c.then-word-ne-KEY_DIGITS.branch [
      | then-word-ne-KEY_DIGITS-via-then-word-ne-KEY_DIGITS w ↦ grind (arith, nat_tests, w.if-word-ne-KEY_DIGITS, long)
      | then-word-ne-KEY_DIGITS-via-else-word-ne-KEY_DIGITS+then-not-are_digits w ↦
          let yes : w.are_digits.result ≡ true = w.are_digits.ensures.1 digits in
          grind (arith, nat_tests, yes)
    ]
