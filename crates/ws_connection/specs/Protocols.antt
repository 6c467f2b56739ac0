-- The subprotocols that words name (RFC 6455 section 1.9).
use Rattle.std.specs.Prelude.{ℕ, ◌==◌, List, [], Option, None, Some}
use Rattle.std.specs.Borrow.{Bor}
use Rattle.std.specs.List.{slice_split}
use Rattle.ws_upgrade.specs.Members.{comma}

-- the names that stand in a list, which are joined by commas
abbrev pub names_in : List ℕ → List (List ℕ)
names_in list = slice_split (λ byte. byte == comma) list

-- the names of the list that is given, none where there is no list
abbrev pub protocols_given : Option (Bor (List ℕ)) → List (List ℕ)
protocols_given None = []
protocols_given (Some list) = names_in list.now
