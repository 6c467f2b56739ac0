-- Inside the crate: a part of a payload under its key. A reader may skip this file.
use Rattle.std.specs.Prelude.{ℕ, List, Option, Some, None}
use Rattle.ws_wire.specs.Masking.{masked}

-- a part of a payload, from this place on, masked where there is a key
abbrev pub masked_from : Option (List ℕ) → ℕ → List ℕ → List ℕ
masked_from None phase payload = payload
masked_from (Some key) phase payload = masked key phase payload
