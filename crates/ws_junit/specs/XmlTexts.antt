-- Texts between the quotation marks of an attribute, as XML 1.0 writes them (sections 2.2 and 2.4).
use Rattle.std.specs.Prelude.{ℕ, ◌==◌, Bool, ◌||◌, List, codes, if◌then◌else◌}
use Rattle.std.specs.Char.{encode_utf8, is_control}
use Rattle.std.specs.List.{flat_map}
use Rattle.std.specs.Str.{chars}

-- a control character, or one of the two that are no characters of XML
abbrev pub is_no_xml : ℕ → Bool
is_no_xml c = is_control c || (c == 0xfffe || c == 0xffff)

-- a character; our choice: what isn't one of XML, or controls something, is the replacement character
abbrev pub character_in_attribute : ℕ → List ℕ
character_in_attribute c =
    if c == 38 then codes "&amp;"
    else (if c == 60 then codes "&lt;"
    else (if c == 62 then codes "&gt;"
    else (if c == 34 then codes "&quot;"
    else (if is_no_xml c then codes "&#xFFFD;"
    else encode_utf8 c))))

abbrev pub quoted_text : List ℕ → List ℕ
quoted_text text = flat_map character_in_attribute (chars text)
