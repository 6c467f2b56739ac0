-- A case is found among those that were run, and a text by its bytes.
use Rattle.std.proofs.Common.{◌≡◌, ◌∙◌, ℕ, zero, suc, ◌<◌, Bool, true, false, ◌||◌, List, [], ◌∷◌, length, get_or, ap, arith, refl}
use Rattle.std.proofs.lemmas.Str.{IsUtf8-from_is_utf8}
use Rattle.std.specs.Str.{IsUtf8, bytes_eq, is_utf8}
use Rattle.ws_junit.specs.Documents.{has_cell}
use Rattle.ws_runs.specs.Views.{result_values}
use Rattle.ws_runs.specs.declared.result.CaseResult.{CaseResult}

-- a result that is none, for a place where there is none
abbrev pub no_cell : CaseResult
no_cell = record {
  id = record { ref_ptr = (0, 0); now = [] };
  words = record { ref_ptr = (0, 0); now = [] };
  line = record { ref_ptr = (0, 0); now = [] };
  below = record { ref_ptr = (0, 0); now = [] };
}

or_true : (b : Bool) → (b || true) ≡ true
or_true true = refl
or_true false = refl

-- the cell at a place is that of its case
pub found_cell : (cells : List CaseResult) (i : ℕ) (id : List ℕ) → i < length cells
    → bytes_eq (get_or cells i no_cell).id.now id ≡ true → has_cell (result_values cells) id ≡ true
found_cell [] i id less same = absurd (omega (arith, less))
found_cell (cell ∷ cells) zero id less same = ap (λ (b : Bool). b || has_cell (result_values cells) id) same
found_cell (cell ∷ cells) (suc i) id less same =
    ap (λ (b : Bool). bytes_eq cell.id.now id || b) (found_cell cells i id (omega (arith, less)) same)
    ∙ or_true (bytes_eq cell.id.now id)

-- bytes that are no text
pub no_text : (bytes : List ℕ) → (IsUtf8 bytes → ⊥) → is_utf8 bytes ≡ false
no_text bytes none = by (is_utf8 bytes) (λ e. none (IsUtf8-from_is_utf8 bytes e))
  where
    by : (b : Bool) → (b ≡ true → ⊥) → b ≡ false
    by true denied = absurd (denied refl)
    by false denied = refl
