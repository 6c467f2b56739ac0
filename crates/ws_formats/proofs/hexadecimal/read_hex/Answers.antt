-- A word that is no dash and no pairs of digits spells no bytes.
use Rattle.std.proofs.Common.{rules, ◌≢◌, codes}
use Rattle.ws_formats.proofs.HexReads.{spelled_by_pairs}
use Rattle.ws_formats.proofs.hexadecimal.read_hex.Goals as goal

pub returns-then-not-are_pairs : goal.returns-then-not-are_pairs
returns-then-not-are_pairs c = λ e bytes h.
    let dash : c.args.word.now ≢ codes "-" = search rules in
    absurd (let yes = c.are_pairs.ensures.1 (spelled_by_pairs bytes c.args.word.now h dash) in cc)
