-- The digits of the block are ASCII.
use Rattle.std.proofs.Common.{subst, sym}
use Rattle.std.proofs.lemmas.Str.{IsUtf8-from_ascii}
use Rattle.std.specs.Str.{IsUtf8}
use Rattle.ws_formats.specs.Words.{hex}
use Rattle.ws_formats.proofs.HexByBlocks.{hex_ascii}
use Rattle.ws_line_words.proofs.pushing.push_block.Goals as goal

pub from_utf8_unchecked-added-requires : goal.from_utf8_unchecked-added-requires
from_utf8_unchecked-added-requires c =
    let bytes = c.args.bytes.now in
    let pairs = c.put_digits.ensures in
    subst IsUtf8 (sym pairs.1) (IsUtf8-from_ascii (hex bytes) (hex_ascii bytes pairs.0))
