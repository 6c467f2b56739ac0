-- A text on a page, where it is UTF-8 and where it isn't; and the rows of a page, one after the other.
use Rattle.std.proofs.Common.{◌≡◌, ◌∙◌, ◌+◌, ◌<◌, ℕ, Bool, true, false, List, [], ◌∷◌, ◌++◌, ap, arith}
use Rattle.std.proofs.Common.{drop, flat_map, get_or, length, refl, sym, if◌then◌else◌}
use Rattle.std.proofs.lemmas.List.{drop_more}
use Rattle.std.proofs.lemmas.Str.{IsUtf8-from_is_utf8, chars-nil, is_utf8-from_IsUtf8}
use Rattle.std.specs.Borrow.{Bor}
use Rattle.std.specs.Fmt.{HasWritten}
use Rattle.std.specs.declared.fmt.Formatter.{Formatter}
use Rattle.ws_runs.specs.Views.{texts_now}
use Rattle.ws_pages.specs.Page.{TableValue, group_of, row_in_group, rows_from}
use Rattle.ws_pages.proofs.Marked.{Goes, text_step}
use Rattle.std.specs.Str.{IsUtf8, chars, is_utf8}
use Rattle.ws_pages.specs.PageText.{byte_on_page, character_on_page, on_page}

by_test : (bytes : List ℕ) (b : Bool) → is_utf8 bytes ≡ b
    → (if b then flat_map character_on_page (chars bytes) else flat_map byte_on_page bytes) ≡ on_page bytes
unfolding on_page
by_test bytes b is = sym (ap (λ (t : Bool).
    if t then flat_map character_on_page (chars bytes) else flat_map byte_on_page bytes) is)

pub text_on_page_is : (bytes text : List ℕ) → IsUtf8 bytes → text ≡ bytes
    → flat_map character_on_page (chars text) ≡ on_page bytes
text_on_page_is bytes text utf8 same =
    ap (λ (t : List ℕ). flat_map character_on_page (chars t)) same
    ∙ by_test bytes true (is_utf8-from_IsUtf8 bytes utf8)

pub bytes_on_page_are : (bytes : List ℕ) → (IsUtf8 bytes → ⊥) → flat_map byte_on_page bytes ≡ on_page bytes
bytes_on_page_are bytes other = cases (is_utf8 bytes) refl
  where
    cases : (b : Bool) → is_utf8 bytes ≡ b → flat_map byte_on_page bytes ≡ on_page bytes
    cases true is = absurd (other (IsUtf8-from_is_utf8 bytes is))
    cases false is = by_test bytes false is

-- nothing left has no characters
pub no_characters : (bytes : List ℕ) → length bytes ≡ 0 → chars bytes ≡ []
no_characters [] none = chars-nil
no_characters (byte ∷ bytes) none = absurd (omega (arith, none))

-- what stands where a list has no element
abbrev pub no_text : Bor (List ℕ)
no_text = record { ref_ptr = (0, 0); now = [] }

-- one row more is written
pub rows_step : {W : Type 0} (took : W → List ℕ → W → Type 0) (f g h : Formatter W) (table : TableValue)
    (ids : List (Bor (List ℕ))) (i : ℕ) (last group whole : List ℕ) → i < length ids
    → group ≡ group_of (get_or ids i no_text).now
    → Goes took f g (rows_from table (texts_now (drop i ids)) last) whole
    → HasWritten took g (row_in_group table last (get_or ids i no_text).now) h
    → Goes took f h (rows_from table (texts_now (drop (i + 1) ids)) group) whole
rows_step took f g h table ids i last group whole less is before now =
    let id = (get_or ids i no_text).now in
    let rest = texts_now (drop (i + 1) ids) in
    text_step took f g h (rows_from table (texts_now (drop i ids)) last) (row_in_group table last id)
    (rows_from table rest group) whole before
    (ap (λ (l : List (Bor (List ℕ))). rows_from table (texts_now l) last) (drop_more ids i no_text less)
    ∙ ap (λ (l : List ℕ). row_in_group table last id ++ rows_from table rest l) (sym is)) now
