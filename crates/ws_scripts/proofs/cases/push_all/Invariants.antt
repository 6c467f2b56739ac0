-- The names of the sections so far stand behind those that were there.
use Rattle.std.proofs.Common.{◌≡◌, ◌++◌, map, take, string_bytes}
use Rattle.ws_scripts.specs.InnerCases.{section_names_of}
use Rattle.ws_scripts.proofs.cases.push_all.Given as goal

abbrev pub invariant-loop-section : goal.invariant-loop-section
invariant-loop-section l = map string_bytes l.names.items ≡ map string_bytes l.fn.names.items ++ section_names_of
    (take l.section-index l.sections)
