-- The verdicts of an earlier run.
use Rattle.std.specs.Prelude.{◌≡◌, ℕ, List, [], ◌∷◌, Option, Some, None, if◌then◌else◌, string_bytes}
use Rattle.std.specs.Str.{bytes_eq}
use Rattle.std.specs.Borrow.{Bor}
use Rattle.ws_formats.specs.Lines.{HasLineForEach}
use Rattle.ws_reports.specs.KnownLines.{IsKnownLine}
use Rattle.ws_reports.specs.declared.known_line.KnownLine.{KnownLine}
use Rattle.ws_reports.specs.declared.known_line.KnownLine.TheVariants.{Other, Verdict}

-- the text has these lines
abbrev pub AreKnownLines : List KnownLine → List ℕ → Type 0
AreKnownLines lines text = HasLineForEach IsKnownLine lines text

-- what is known of a case, where this line comes and this is known before it
abbrev pub known_with : List ℕ → KnownLine → Option (List ℕ) → Option (List ℕ)
known_with id (Verdict name words) before = if bytes_eq name id then Some (string_bytes words) else before
known_with id Other before = before

-- behind what is known before these lines, the words of the last of them that is of the case
abbrev pub known_after : List ℕ → Option (List ℕ) → List KnownLine → Option (List ℕ)
known_after id before [] = before
known_after id before (line ∷ lines) = known_after id (known_with id line before) lines

-- the words of the verdict of a case: those of the last line that is of it
abbrev pub known_verdict : List ℕ → List KnownLine → Option (List ℕ)
known_verdict id lines = known_after id None lines

-- these are the words, where there are any
abbrev pub IsKnownAs : Option (List ℕ) → Option (Bor (List ℕ)) → Type 0
IsKnownAs known None = known ≡ None
IsKnownAs known (Some words) = known ≡ Some words.now
