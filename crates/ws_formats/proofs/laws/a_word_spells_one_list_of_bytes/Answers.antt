-- A word spells one list of bytes.
use Rattle.ws_formats.proofs.HexWords.{hex_one}
use Rattle.ws_formats.proofs.laws.a_word_spells_one_list_of_bytes.Goals as goal

pub returns : goal.returns
returns c = hex_one
