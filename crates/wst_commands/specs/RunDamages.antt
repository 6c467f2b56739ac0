-- What is wrong with a line that `report` or `test --known` can't read, where that is known to happen often, and what
-- is told of it.
use Rattle.std.specs.Prelude.{ℕ, ◌-◌, ◌==◌, nat_eq, if◌then◌else◌, List, [], ◌∷◌, codes, Option, Some, None}
use Rattle.std.specs.List.{ends_with}
use Rattle.wst_commands.specs.StepDamages.{behind_lines, cut_of}
use Rattle.wst_commands.specs.declared.run_damages.RunDamage.{RunDamage}
use Rattle.wst_commands.specs.declared.run_damages.RunDamage.TheVariants.{CutLine, Document, LineWithCr, Name, Unknown}

-- by its first byte: a document of XML, or a name without its space
abbrev pub begun_damage : List ℕ → RunDamage
begun_damage [] = Unknown
begun_damage (byte ∷ bytes) = if byte == 60 then Document else (if byte == 35 then Name else Unknown)

-- a line that has an LF: it ends in CR, or else by its first byte
abbrev pub run_line_damage : List ℕ → RunDamage
run_line_damage line = if ends_with nat_eq line (13 ∷ []) then LineWithCr else begun_damage line

-- a line that is cut so at its LF
abbrev pub ended_run_damage : Option (List ℕ × List ℕ) → RunDamage
ended_run_damage None = CutLine
ended_run_damage (Some parts) = run_line_damage parts.0

-- the line of this number, counted from 1, of runs that are damaged there
abbrev pub run_damage : List ℕ → ℕ → RunDamage
run_damage text number = ended_run_damage (cut_of 10 (behind_lines (number - 1) text))

-- ---- what is told

abbrev pub run_damage_words : RunDamage → List ℕ
run_damage_words CutLine = codes "not a verdict\n  end the last line with a line feed too"
run_damage_words LineWithCr = codes "not a verdict\n  end lines with LF alone, not with CR LF: tr -d '\\r'"
run_damage_words Document = codes "not a verdict\n  report reads the lines of wst test, not its JUnit document"
run_damage_words Name = codes "not a verdict\n  a peer is # NAME, with a space, and more of it is #: TEXT"
run_damage_words Unknown = codes "not a verdict"

-- of a line of an earlier run
abbrev pub known_damage_words : RunDamage → List ℕ
known_damage_words Document = codes "not a verdict\n  --known reads the lines of wst test, not its JUnit document"
known_damage_words Name = codes "not a verdict\n  --known reads one run: leave out the lines that begin with #"
known_damage_words CutLine = run_damage_words CutLine
known_damage_words LineWithCr = run_damage_words LineWithCr
known_damage_words Unknown = run_damage_words Unknown
