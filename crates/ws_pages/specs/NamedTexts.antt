-- Texts by their names.
use Rattle.std.specs.Prelude.{ℕ, List, [], ◌∷◌, if◌then◌else◌}
use Rattle.std.specs.Str.{bytes_eq}
use Rattle.ws_pages.specs.declared.named_text.NamedText.{NamedText}

-- the first text of a name; empty if there is none
abbrev pub text_named : List NamedText → List ℕ → List ℕ
text_named [] name = []
text_named (text ∷ texts) name = if bytes_eq text.name name then text.text else text_named texts name
