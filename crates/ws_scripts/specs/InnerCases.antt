-- Inside the crate: the table of cases, for contracts of private functions. A reader may skip this file.
use Rattle.std.specs.Prelude.{◌≡◌, ◌<◌, ℕ, nat_le, nat_lt, Bool, true, ◌&&◌, List, [], ◌∷◌, ◌++◌}
use Rattle.std.specs.Prelude.{flat_map, get_or, length, map}
use Rattle.std.specs.List.{list_all}
use Rattle.ws_scripts.specs.declared.script.Chop.{Chop}
use Rattle.ws_scripts.specs.declared.script.Chop.TheVariants.{Whole, PerFrame, Octets}
use Rattle.ws_scripts.specs.declared.cases.row.Act.{Act}
use Rattle.ws_scripts.specs.declared.cases.row.Act.TheVariants.{Fin, Part, Reserved, ByteByByte, Bare, Pause}
use Rattle.ws_scripts.specs.declared.cases.row.Row.{Row}
use Rattle.ws_scripts.specs.declared.cases.row.Section.{Section}
use Rattle.ws_scripts.specs.declared.cases.row.Section.TheVariants.{Rows, Texts, Joined, Fronts, NonCharacters, Codes}
use Rattle.ws_scripts.specs.CaseNames.{hostile_names, listed_by_group, numbered}

abbrev pub act_fits : Act → Bool
act_fits (Fin opcode payload) = nat_lt opcode 16
act_fits (Part opcode payload) = nat_lt opcode 16
act_fits (Reserved rsv opcode payload) = nat_lt rsv 8 && nat_lt opcode 16
act_fits (ByteByByte bytes) = true
act_fits (Bare bytes) = true
act_fits Pause = true

abbrev pub chop_fits : Chop → Bool
chop_fits Whole = true
chop_fits PerFrame = true
chop_fits (Octets n) = nat_lt 0 n

abbrev pub row_fits : Row → Bool
row_fits row = chop_fits row.1 && list_all act_fits row.3.now

abbrev pub section_fits : Section → Bool
section_fits (Rows rows) = list_all row_fits rows.now
section_fits (Texts name texts) = nat_le (length texts.now) 65535
section_fits (Joined name texts) = true
section_fits (Fronts name text) = nat_le (length text.now) 65535
section_fits (NonCharacters name) = true
section_fits (Codes name codes) = nat_le (length codes.now) 65535

-- how many cases there are
abbrev pub section_count : Section → ℕ
section_count (Rows rows) = length rows.now
section_count (Texts name texts) = length texts.now
section_count (Joined name texts) = 1
section_count (Fronts name text) = length text.now
section_count (NonCharacters name) = 34
section_count (Codes name codes) = length codes.now

-- ---- names

abbrev pub row_name : Row → List ℕ
row_name row = row.0.now

-- the names of a section's cases, in order
abbrev pub section_names : Section → List (List ℕ)
section_names (Rows rows) = map row_name rows.now
section_names (Texts front texts) = numbered front.now (length texts.now)
section_names (Joined front texts) = numbered front.now 1
section_names (Fronts front text) = numbered front.now (length text.now)
section_names (NonCharacters front) = numbered front.now 34
section_names (Codes front codes) = numbered front.now (length codes.now)

abbrev pub section_names_of : List Section → List (List ℕ)
section_names_of sections = flat_map section_names sections

-- the case at this place of a section has this name
pub record IsNamedAt (section : Section) (place : ℕ) (name : List ℕ) : Type 0 where
  pub within : place < section_count section
  pub named : get_or (section_names section) place [] ≡ name

-- the names of each part of the table
abbrev pub names_by_part : List (List (List ℕ))
names_by_part = listed_by_group ++ hostile_names ∷ []
