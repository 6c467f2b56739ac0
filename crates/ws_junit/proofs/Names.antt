-- A name and a text of two parts, escaped part by part.
use Rattle.std.proofs.Common.{◌≡◌, ◌∙◌, ℕ, List, [], ◌∷◌, ◌++◌, ap, codes, append-nil}
use Rattle.std.proofs.lemmas.Grind.{flat_map-append}
use Rattle.ws_reports.specs.Escaping.{content_byte, escaped, quoted, quoted_byte}
use Rattle.ws_reports.specs.Junit.{full_name, noted_text}
use Rattle.ws_junit.specs.Documents.{name_with}

pub quoted_name : (id title : List ℕ) → quoted (full_name id title) ≡ quoted id ++ (codes " " ++ quoted title)
quoted_name id title =
    flat_map-append quoted_byte id (codes " " ++ (title ++ []))
    ∙ ap (λ (l : List ℕ). quoted id ++ l)
    (flat_map-append quoted_byte (codes " ") (title ++ [])
    ∙ ap (λ (l : List ℕ). codes " " ++ quoted l) (append-nil title))

pub escaped_note : (words below : List ℕ)
    → escaped (noted_text words below) ≡ escaped words ++ (codes "\n" ++ escaped below)
escaped_note words below =
    flat_map-append content_byte words (codes "\n" ++ (below ++ []))
    ∙ ap (λ (l : List ℕ). escaped words ++ l)
    (flat_map-append content_byte (codes "\n") (below ++ [])
    ∙ ap (λ (l : List ℕ). codes "\n" ++ escaped l) (append-nil below))
