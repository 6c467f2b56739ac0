-- The parts of a line, and the decimals in it, as they are made. A reader may skip this file: no public contract speaks
-- of it.
use Rattle.std.specs.Prelude.{ℕ, ◌+◌, ◌/◌, ◌%◌, Bool, List, [], ◌∷◌, ◌++◌, codes}
use Rattle.std.specs.List.{concat}
use Rattle.std.specs.Fmt.{decimal}
use Rattle.ws_wire.specs.Header.{HeaderFields, form_word}
use Rattle.ws_formats.specs.Words.{opcode_word, bit_word}
use Rattle.ws_frame.specs.declared.frame_line.FrameLine.{FrameLine}
use Rattle.ws_frame.specs.declared.source.Mark.{Mark}
use Rattle.ws_frame.specs.declared.source.Source.{Source}
use Rattle.ws_frame.specs.Lines.{fault_mark, key_word, mark_word, mask_mark, form_mark, line_of}

-- FIN and the reserved bits, up to the word for the masking key
abbrev pub bits_words : Bool → ℕ → List ℕ
bits_words fin rsv = concat (codes " fin=" ∷ bit_word fin ∷ codes " rsv=" ∷ decimal rsv ∷ codes " key=" ∷ [])

-- where a frame begins, and what its first byte says
abbrev pub place_words : ℕ → HeaderFields → List ℕ
place_words offset header = concat (
    decimal offset ∷ codes " " ∷ opcode_word header.opcode ∷ bits_words header.fin header.rsv ∷ [])

-- the masking key, and the payload length with its form
abbrev pub layout_words : HeaderFields → List ℕ
layout_words header = concat (
    key_word header.key ∷ codes " len=" ∷ decimal header.len ∷ codes " " ∷ form_word header.form ∷ codes " " ∷ [])

-- the remarks, and the end of the line
abbrev pub end_words : Source → ℕ → HeaderFields → List ℕ
end_words source offset header = concat (
    mask_mark source.from header.key ∷ form_mark header.form header.len
    ∷ fault_mark source.fault offset header.opcode ∷ codes "\n" ∷ [])

-- what stands before a payload
abbrev pub front_words : Mark → ℕ → HeaderFields → List ℕ
front_words mark offset header = concat (
    mark_word mark ∷ place_words offset header ∷ layout_words header ∷ [])

-- the line of a frame whose payload is at hand
abbrev pub line_printed : FrameLine → List ℕ
line_printed line =
    line_of line.source line.offset (record { header = line.header; payload = line.payload.now })

-- two decimal digits, those of a number below a hundred
abbrev pub pair_digits : ℕ → List ℕ
pair_digits n = (48 + n / 10) ∷ (48 + n % 10) ∷ []

-- four of them, those of a number below ten thousand
abbrev pub four_digits : ℕ → List ℕ
four_digits n = pair_digits (n / 100) ++ pair_digits (n % 100)
