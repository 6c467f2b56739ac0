-- The texts that a client under test is told, as Autobahn's fuzzing server has them.
use Rattle.std.specs.Prelude.{ℕ, List, [], ◌∷◌, ◌++◌, codes}
use Rattle.std.specs.List.{concat}
use Rattle.std.specs.Fmt.{decimal}
use Rattle.ws_paths.specs.declared.behavior.Behavior.{Behavior}
use Rattle.ws_paths.specs.declared.behavior.Behavior.TheVariants.{Failed, NonStrict, Unimplemented}
use Rattle.ws_paths.specs.declared.behavior.Behavior.TheVariants as behavior

abbrev pub behavior_word : Behavior → List ℕ
behavior_word behavior.Ok = codes "OK"
behavior_word NonStrict = codes "NON-STRICT"
behavior_word Failed = codes "FAILED"
behavior_word Unimplemented = codes "UNIMPLEMENTED"

-- how many cases there are
abbrev pub count_text : ℕ → List ℕ
count_text count = decimal count

-- the name of a case, and how many turns it has
abbrev pub info_text : List ℕ → ℕ → List ℕ
info_text id turns =
    concat (codes "{\"id\":\"" ∷ id ∷ codes "\",\"description\":\"" ∷ decimal turns ∷ codes " turns\"}" ∷ [])

-- what came of a case
abbrev pub status_text : Behavior → List ℕ
status_text behavior = codes "{\"behavior\":\"" ++ behavior_word behavior ++ codes "\"}"
