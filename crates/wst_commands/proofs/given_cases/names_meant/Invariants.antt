-- Name after name: the ids are the names so far that are meant.
use Rattle.std.proofs.Common.{◌≡◌, filter, map, string_bytes, take}
use Rattle.wst_commands.specs.GivenCases.{is_meant, names_of}
use Rattle.wst_commands.proofs.given_cases.names_meant.Given as goal

-- the names so far that are meant
abbrev pub invariant-loop-name : goal.invariant-loop-name
invariant-loop-name l = names_of l.ids.items ≡ filter (is_meant l.front) (map string_bytes (take l.name-index l.names))
