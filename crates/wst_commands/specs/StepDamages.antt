-- What is wrong with a line that is no step, where that is known to be typed often, and what is told of it.
use Rattle.std.specs.Prelude.{◌≡◌, ℕ, zero, suc, ◌+◌, ◌-◌, ◌==◌, nat_eq, Bool, false, not, ◌||◌, ◌&&◌, if◌then◌else◌}
use Rattle.std.specs.Prelude.{List, [], ◌∷◌, ◌++◌, drop, take, position, codes, Option, Some, None, MatchOption}
use Rattle.std.specs.Borrow.{Bor}
use Rattle.std.specs.List.{ends_with, list_all, list_any, starts_with}
use Rattle.std.specs.Str.{bytes_eq}
use Rattle.ws_formats.specs.Words.{words_of}
use Rattle.wst_commands.specs.StepTexts.{text_damage}
use Rattle.wst_commands.specs.StepWords.{descend, is_disordered, named_damage, word_damage_words}
use Rattle.wst_commands.specs.declared.step_damages.StepDamage.{StepDamage}
use Rattle.wst_commands.specs.declared.step_damages.StepDamage.TheVariants.{AfterText, Chop, Comment, EndsInCr, Order}
use Rattle.wst_commands.specs.declared.step_damages.StepDamage.TheVariants.{Other, Quotes, Spaces, Unended, Wait}
use Rattle.wst_commands.specs.declared.step_damages.StepDamage.TheVariants.{InText, InWords}
use Rattle.wst_commands.specs.declared.step_texts.TextDamage.{TextDamage}
use Rattle.wst_commands.specs.declared.step_texts.TextDamage.TheVariants.{Escape, Half, Unprintable}
use Rattle.wst_commands.specs.declared.step_words.WordDamage.{WordDamage}

-- ---- cutting

-- what stands before the byte at a place, and behind it
abbrev pub cut_by : Option ℕ → List ℕ → Option (List ℕ × List ℕ)
cut_by None bytes = None
cut_by (Some at) bytes = Some (take at bytes, drop (at + 1) bytes)

-- the same of the first such byte, if there is one
abbrev pub cut_of : ℕ → List ℕ → Option (List ℕ × List ℕ)
cut_of mark bytes = cut_by (position (λ byte. byte == mark) bytes) bytes

-- the bytes are cut so
abbrev pub CutsAtMark : ℕ → List ℕ → Option (Bor (List ℕ) × Bor (List ℕ)) → Type 0
CutsAtMark mark bytes result = MatchOption result (cut_of mark bytes ≡ None)
    (λ parts. cut_of mark bytes ≡ Some (parts.0.now, parts.1.now))

-- what stands behind the cut, nothing where there is none
abbrev pub behind_cut : Option (List ℕ × List ℕ) → List ℕ
behind_cut None = []
behind_cut (Some parts) = parts.1

-- what stands behind so many lines
abbrev pub behind_lines : ℕ → List ℕ → List ℕ
behind_lines zero text = text
behind_lines (suc count) text = behind_cut (cut_of 10 (behind_lines count text))

-- ---- how the words stand

-- a comment behind a step
abbrev pub is_comment : List ℕ → Bool
is_comment word = starts_with nat_eq word (codes "#")

abbrev pub has_tab : List ℕ → Bool
has_tab word = list_any (λ (byte : ℕ). byte == 9) word

-- nothing between two spaces, or at an end; or a tab
abbrev pub is_misspaced : List ℕ → Bool
is_misspaced word = bytes_eq word [] || has_tab word

-- a line by its first word and the others: `wait` and `chop` take no fields, and the others of a frame have their order
abbrev pub order_damage : List (List ℕ) → Option StepDamage
order_damage [] = None
order_damage (name ∷ fields) =
    if bytes_eq name (codes "wait") then Some Wait
    else (if bytes_eq name (codes "chop") then Some Chop
    else (if is_disordered fields then Some Order else None))

-- how the words of a line stand: a comment behind a step; a space too many, or a tab; or another order
abbrev pub layout_damage : List (List ℕ) → Option StepDamage
layout_damage words =
    if list_any is_comment words then Some Comment
    else (if list_any is_misspaced words then Some Spaces else order_damage words)

-- ---- a line without quotes

abbrev pub found_in_words : Option WordDamage → StepDamage
found_in_words None = Other
found_in_words (Some damage) = InWords damage

-- a line by its words, which stand as they should
abbrev pub words_damage : List (List ℕ) → StepDamage
words_damage [] = Other
words_damage (name ∷ fields) = found_in_words (named_damage name fields)

-- this, or else that
abbrev pub damage_or : Option StepDamage → StepDamage → StepDamage
damage_or (Some damage) second = damage
damage_or None second = second

abbrev pub plain_damage : List (List ℕ) → StepDamage
plain_damage words = damage_or (layout_damage words) (words_damage words)

-- ---- a line with quotes

-- the bytes in front of a quote end without a space
abbrev pub is_glued : List ℕ → Bool
is_glued [] = false
is_glued (byte ∷ bytes) = not (ends_with nat_eq (byte ∷ bytes) (32 ∷ []))

abbrev pub text_or : Option TextDamage → StepDamage → StepDamage
text_or (Some damage) second = InText damage
text_or None second = second

-- a line that ends with this text, by its words with a dash in the place of the text: how they stand comes first, and
-- the text before each word alone
abbrev pub texts_damage : List ℕ → List (List ℕ) → StepDamage
texts_damage text words = damage_or (layout_damage words) (text_or (text_damage text) (words_damage words))

abbrev pub text_line_damage : List ℕ → List ℕ → StepDamage
text_line_damage front text = if is_glued front then Spaces else texts_damage text (words_of (front ++ codes "-"))

-- nothing but tabs
abbrev pub is_blank_word : List ℕ → Bool
is_blank_word word = list_all (λ (byte : ℕ). byte == 9) word

-- what stands behind the second quote of a text: a comment; spaces; a field, which is to stand before the text; or more
abbrev pub behind_damage : List (List ℕ) → StepDamage
behind_damage words =
    if list_any is_comment words then Comment
    else (if list_all is_blank_word words then Spaces
    else (if descend 5 words then Order else AfterText))

-- a byte, which a backslash escapes or none, escapes the next one
abbrev pub escapes : Bool → ℕ → Bool
escapes escaped byte = not escaped && byte == 92

-- where a text ends, from this place on, behind a backslash that escapes or none: at the first quote that none escapes
abbrev pub closing_from : Bool → ℕ → List ℕ → Option ℕ
closing_from escaped at [] = None
closing_from escaped at (byte ∷ rest) =
    if not escaped && byte == 34 then Some at else closing_from (escapes escaped byte) (at + 1) rest

abbrev pub closing_quote : List ℕ → Option ℕ
closing_quote bytes = closing_from false 0 bytes

-- the bytes are cut so at that quote
abbrev pub CutsAtQuote : List ℕ → Option (Bor (List ℕ) × Bor (List ℕ)) → Type 0
CutsAtQuote bytes result = MatchOption result (cut_by (closing_quote bytes) bytes ≡ None)
    (λ parts. cut_by (closing_quote bytes) bytes ≡ Some (parts.0.now, parts.1.now))

-- what stands behind the second quote: no quote, and nothing else
abbrev pub cut_text_damage : List ℕ → Option (List ℕ × List ℕ) → StepDamage
cut_text_damage front None = Quotes
cut_text_damage front (Some (text, [])) = text_line_damage front text
cut_text_damage front (Some (_, byte ∷ behind)) =
    if list_any (λ other. other == 34) (byte ∷ behind) then Quotes else behind_damage (words_of (byte ∷ behind))

-- a line of which this stands before its first quote, and this behind it
abbrev pub quoted_damage : List ℕ → List ℕ → StepDamage
quoted_damage front rest = cut_text_damage front (cut_by (closing_quote rest) rest)

-- ---- a line

-- a line that is cut so at its first quote
abbrev pub cut_damage : List ℕ → Option (List ℕ × List ℕ) → StepDamage
cut_damage line None = plain_damage (words_of line)
cut_damage line (Some parts) = quoted_damage parts.0 parts.1

-- a line that has an LF: it ends in CR; or else it has quotes, but not two that no backslash escapes; or else its words
-- don't stand as they should; or else its text stands for no bytes; or else one of its words is wrong
abbrev pub line_damage : List ℕ → StepDamage
line_damage line = if ends_with nat_eq line (13 ∷ []) then EndsInCr else cut_damage line (cut_of 34 line)

-- a line that is cut so at its LF
abbrev pub ended_damage : Option (List ℕ × List ℕ) → StepDamage
ended_damage None = Unended
ended_damage (Some parts) = line_damage parts.0

-- the line of this number, counted from 1, of a script that is damaged there: it has no LF, or what is wrong before it
abbrev pub step_damage : List ℕ → ℕ → StepDamage
step_damage text number = ended_damage (cut_of 10 (behind_lines (number - 1) text))

-- ---- what is told

abbrev pub text_damage_words : TextDamage → List ℕ
text_damage_words Unprintable =
    codes "not a step\n  a text is UTF-8 without control characters, other bytes are hex: text ff"
text_damage_words Escape =
    codes "not a step\n  an escape is \\\" \\\\ \\/ \\b \\f \\n \\r \\t or \\uXXXX: text \"C:\\\\temp\""
text_damage_words Half = codes "not a step\n  half of a pair has no other half: text \"\\ud83d\\ude00\""

abbrev pub damage_words : StepDamage → List ℕ
damage_words Unended = codes "not a step\n  end the last line with a line feed too"
damage_words EndsInCr = codes "not a step\n  end lines with LF alone, not with CR LF: tr -d '\\r'"
damage_words Quotes = codes "not a step\n  a text has a quote at each end, and \\\" between: text \"say \\\"hi\\\"\""
damage_words AfterText = codes "not a step\n  the second quote ends the line: text \"hi\""
damage_words Comment = codes "not a step\n  a comment has a line of its own, from its first byte on"
damage_words Spaces = codes "not a step\n  one space between words and before a quote, none at the ends, no tab"
damage_words Wait = codes "not a step\n  wait stands alone, --timeout says how long"
damage_words Chop = codes "not a step\n  chop whole, chop frames or chop octets N, once, before all steps"
damage_words Order = codes "not a step\n  the order is KIND fin= rsv= key= form= DATA"
damage_words (InText damage) = text_damage_words damage
damage_words (InWords damage) = word_damage_words damage
damage_words Other = codes "not a step"
