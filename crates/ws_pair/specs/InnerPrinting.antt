-- The parts of an end's lines, for contracts of private functions. A reader may skip this file: no public contract
-- speaks of it.
use Rattle.std.specs.Prelude.{◌≡◌, ℕ, ◌⊎◌, true, false, List, [], ◌∷◌, ◌++◌, Option, codes}
use Rattle.std.specs.List.{concat, flat_map}
use Rattle.std.specs.Fmt.{decimal}
use Rattle.ws_formats.specs.Words.{hex_word}
use Rattle.ws_frame.specs.Devices.{Device, HasBegun, HasWritten, watched}
use Rattle.ws_frame.specs.declared.watching.Watched.{Watched}
use Rattle.ws_session.specs.declared.status.Status.{Status}
use Rattle.ws_session.specs.Words.{status_words}
use Rattle.ws_pair.specs.declared.moves.End.{End}
use Rattle.ws_pair.specs.declared.report.EndReport.{EndReport}
use Rattle.ws_pair.specs.ReportLines.{message_line}
use Rattle.ws_pair.specs.Script.{end_word}

-- the bytes that an end wrote
abbrev pub put_line : End → List ℕ → List ℕ
put_line side put = concat (end_word side ∷ codes " put " ∷ hex_word put ∷ codes "\n" ∷ [])

-- how many bytes reached it
abbrev pub reached_line : End → ℕ → List ℕ
reached_line side reached = concat (end_word side ∷ codes " reached " ∷ decimal reached ∷ codes "\n" ∷ [])

-- how it stands
abbrev pub standing_line : End → Status → List ℕ
standing_line side status = concat (end_word side ∷ codes " status " ∷ status_words status ∷ codes "\n" ∷ [])

-- the lines of an end, of which the last is this
abbrev pub end_with_last : End → EndReport → List ℕ → List ℕ
end_with_last side end last = put_line side end.put.items
    ++ (reached_line side end.reached ++ (flat_map (message_line side) end.delivered.items ++ last))

-- of the bytes that are due some were written and the others wait; or a write has failed, and a beginning was written
abbrev pub IsDue : List ℕ → List ℕ → Device → Type 0
IsDue due waiting output =
    ((output.failed ≡ false) × (written : List ℕ) × HasWritten written output × (due ≡ written ++ waiting))
    ⊎ ((output.failed ≡ true) × HasBegun due output)

-- whatever was due before, these bytes are due behind it
abbrev pub PutsBehind : {W : Type 0} → (W → Option (List ℕ)) → List ℕ → List ℕ → List ℕ → Watched W → Watched W → Type 0
PutsBehind {W} contents bytes waiting left old new = (first : Watched W) (due : List ℕ)
    → IsDue due waiting (watched contents first old) → IsDue (due ++ bytes) left (watched contents first new)
