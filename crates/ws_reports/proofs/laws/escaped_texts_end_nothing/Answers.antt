-- Byte by byte.
use Rattle.ws_reports.proofs.Escapes.{escaped_characters, escaped_in_text, quoted_characters, quoted_in_text, quoted_one_line}
use Rattle.ws_reports.proofs.laws.escaped_texts_end_nothing.Goals as goal

pub returns : goal.returns
returns c = record {
  between_tags = escaped_in_text;
  in_attributes = quoted_in_text;
  one_line = quoted_one_line;
  characters = escaped_characters;
  quoted_characters = quoted_characters;
}
