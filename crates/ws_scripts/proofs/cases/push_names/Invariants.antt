-- The names of the places so far stand behind those that were there.
use Rattle.std.proofs.Common.{◌≡◌, ◌++◌, map, take, string_bytes}
use Rattle.ws_scripts.specs.InnerCases.{section_names}
use Rattle.ws_scripts.proofs.cases.push_names.Given as goal

abbrev pub invariant-loop-place : goal.invariant-loop-place
invariant-loop-place l = map string_bytes l.names.items ≡ map string_bytes l.fn.names.items ++ take l.place
    (section_names l.section)
