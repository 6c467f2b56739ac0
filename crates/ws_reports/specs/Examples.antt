-- Worked examples of what is told of cases, each a theorem.
use Rattle.std.specs.Prelude.{◌≡◌, [], ◌∷◌, ◌++◌, true, false, codes, refl, Some, None}
use Rattle.ws_reports.specs.Remarks.{is_otherwise, remark_beside}
use Rattle.ws_reports.specs.Escaping.{escaped, quoted}

pub escaped_marks : quoted (codes "a<b & \"c\">") ≡ codes "a&lt;b &amp; &quot;c&quot;&gt;"
escaped_marks = refl

-- what a reader of XML would change or refuse is told by its number or as the replacement character: a tab, a carriage
-- return, a character that XML has none of, and a byte that isn't ASCII; a DEL is one of its characters
pub control_characters : escaped (9 ∷ 10 ∷ 13 ∷ 0 ∷ 31 ∷ 32 ∷ 127 ∷ 200 ∷ [])
    ≡ codes "&#9;\n&#13;&#xFFFD;&#xFFFD; " ++ 127 ∷ codes "&#xFFFD;"
control_characters = refl

-- in an attribute a line feed too
pub control_characters_in_an_attribute : quoted (9 ∷ 10 ∷ 13 ∷ 0 ∷ 127 ∷ 200 ∷ [])
    ≡ codes "&#9;&#10;&#13;&#xFFFD;" ++ 127 ∷ codes "&#xFFFD;"
control_characters_in_an_attribute = refl

pub other_loose : is_otherwise (Some (codes "PASS")) (codes "LOOSE LateEnd") ≡ false
other_loose = refl

pub same_fail : is_otherwise (Some (codes "FAIL Close")) (codes "FAIL Close") ≡ false
same_fail = refl

pub other_fail : is_otherwise (Some (codes "FAIL Close")) (codes "FAIL End") ≡ true
other_fail = refl

pub fixed : is_otherwise (Some (codes "FAIL Close")) (codes "PASS") ≡ true
fixed = refl

pub new_case : remark_beside None (codes "PASS") ≡ codes " (new)"
new_case = refl

pub was : remark_beside (Some (codes "LOOSE LateEnd")) (codes "PASS") ≡ codes " (was LOOSE LateEnd)"
was = refl
