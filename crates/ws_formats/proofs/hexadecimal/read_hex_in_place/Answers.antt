-- A word that is no dash and no pairs of digits spells no bytes.
use Rattle.std.proofs.Common.{rules, ◌≡◌, ◌≢◌, ◌<◌, ◌%◌, ◌∙◌, ℕ, List, codes, length, subst, sym, true}
use Rattle.ws_formats.specs.Reading.{AreDigits}
use Rattle.ws_formats.proofs.HexReads.{spelled_by_pairs}
use Rattle.ws_formats.proofs.hexadecimal.read_hex_in_place.Goals as goal

pub returns-then-not-are_pairs : goal.returns-then-not-are_pairs
returns-then-not-are_pairs c = λ e bytes h.
    let dash : c.args.word.now.items ≢ codes "-" = search rules in
    let pairs = subst (λ (l : List ℕ). (0 < length l) × (length l % 2 ≡ 0) × AreDigits l) (sym c.as_slice-3.ensures.value)
    (spelled_by_pairs bytes c.args.word.now.items h dash) in
    absurd (let yes = c.are_pairs.ensures.1 pairs in cc)

pub put_pairs_in_front-requires-clause-digits : goal.put_pairs_in_front-requires-clause-digits
put_pairs_in_front-requires-clause-digits c =
    let yes : c.are_pairs.result ≡ true = search rules in
    subst AreDigits (c.as_slice-3.ensures.value ∙ sym c.as_mut_slice.ensures.value) (c.are_pairs.ensures.0 yes).2
