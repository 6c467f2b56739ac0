-- The lines of runs over cases, one run after the other, each after the name of the tested peer.
use Rattle.std.specs.Prelude.{◌≡◌, ℕ, List, ◌++◌, codes}
use Rattle.std.specs.Str.{IsUtf8}
use Rattle.ws_formats.specs.Lines.{HasLineForEach}
use Rattle.ws_reports.specs.KnownLines.{IsBesideCases, IsCaseLine, IsTotal, StandsFirst}

-- What a line means: the lines after it are of this peer; it says more of the peer; it is the verdict of a case, with
-- the case's name, the words of the verdict and the whole line; it is below the line of a case, whole; it is a total;
-- or it is any other line of a run.
pub data RunLine : Type 0 where
  Peer : List ℕ → RunLine
  Note : List ℕ → RunLine
  Verdict : List ℕ → List ℕ → List ℕ → RunLine
  Below : List ℕ → RunLine
  Total : RunLine
  Other : RunLine

-- a line that neither names a peer, nor says more of one, nor is below the line of a case
abbrev pub IsBare : List ℕ → Type 0
IsBare line = (StandsFirst (codes "# ") line → ⊥) × (StandsFirst (codes "#: ") line → ⊥)
    × (StandsFirst (codes " ") line → ⊥)

-- the line means this; the lines of cases, and the others that are allowed, are those of an earlier run
abbrev pub IsRunLine : RunLine → List ℕ → Type 0
IsRunLine (Peer name) line = (line ≡ codes "# " ++ name) × IsUtf8 name
IsRunLine (Note text) line = (line ≡ codes "#: " ++ text) × IsUtf8 text
IsRunLine (Below text) line = StandsFirst (codes " ") line × (text ≡ line)
IsRunLine (Verdict id words text) line =
    IsBare line × (IsBesideCases line → ⊥) × IsCaseLine id words line × (text ≡ line)
IsRunLine Total line = IsBare line × IsTotal line
IsRunLine Other line = IsBare line × (IsTotal line → ⊥) × IsBesideCases line

-- the text has these lines
abbrev pub AreRunLines : List RunLine → List ℕ → Type 0
AreRunLines lines text = HasLineForEach IsRunLine lines text
