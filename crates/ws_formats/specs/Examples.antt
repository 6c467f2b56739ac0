-- Worked examples of words, lines and damaged texts, each a theorem.
use Rattle.std.specs.Prelude.{◌≡◌, ⊤, ℕ, List, [], ◌∷◌, ◌++◌, codes, refl, replicate}
use Rattle.std.specs.Char.{encode_utf8}
use Rattle.std.specs.Fmt.{digits}
use Rattle.ws_formats.specs.Words.{hex_word, words_of}
use Rattle.ws_formats.specs.Lines.{ended}
use Rattle.ws_formats.specs.QuotedText.{quoted_word}

-- what is computed at numbers that are written out
unfoldable on_numbers : ⊤
unfolding digits
on_numbers = tt

-- bytes are spelled in lower-case pairs, and none by a dash
pub hello_word : hex_word (72 ∷ 101 ∷ 108 ∷ 108 ∷ 111 ∷ []) ≡ codes "48656c6c6f"
unfolding on_numbers
hello_word = refl

pub no_bytes_word : hex_word [] ≡ codes "-"
no_bytes_word = refl

-- two spaces have an empty word between them
pub three_words : words_of (codes "cut  client") ≡ codes "cut" ∷ [] ∷ codes "client" ∷ []
three_words = refl

pub two_lines : ended (codes "a" ∷ codes "b" ∷ []) ≡ codes "a\nb\n"
two_lines = refl

-- a format of texts: each line is `a`
abbrev pub IsLetter : ℕ → List ℕ → Type 0
IsLetter letter line = (letter ≡ 97) × (line ≡ codes "a")

-- ---- text between quotation marks

-- what is computed at characters that are written out
unfoldable on_characters : ⊤
unfolding digits encode_utf8 quoted_word
on_characters = tt

-- a mark, a backslash, a line end and a NUL are escaped, and `ü` is as it is
pub escaped_text : quoted_word (34 ∷ 92 ∷ 10 ∷ 0 ∷ 0xfc ∷ []) ≡ codes "\"\\\"\\\\\\n\\u0000" ++ (195 ∷ 188 ∷ codes "\"")
unfolding on_characters
escaped_text = refl

-- what turns the order of others is escaped, and a character above U+FFFF by a pair; an emoji is as it is
pub hidden_text : quoted_word (0x202e ∷ 0xe0001 ∷ 0x1f600 ∷ [])
    ≡ codes "\"\\u202e\\udb40\\udc01" ++ (240 ∷ 159 ∷ 152 ∷ 128 ∷ codes "\"")
unfolding on_characters
hidden_text = refl

-- of 64 characters all are shown, and of 65 the first 64
pub sixty_four : quoted_word (replicate 64 97) ≡ codes "\"" ++ (replicate 64 97 ++ codes "\"")
unfolding on_characters
sixty_four = refl

pub sixty_five : quoted_word (replicate 65 97) ≡ codes "\"" ++ (replicate 64 97 ++ codes "\"..")
unfolding on_characters
sixty_five = refl
