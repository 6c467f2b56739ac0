-- A title that is looked for: the first row, and the first part, of what is left decides, or what is left behind it.
use Rattle.std.proofs.Common.{◌≡◌, ◌∙◌, ℕ, ◌+◌, ◌<◌, ◌==◌, Bool, true, false, List, [], ◌∷◌, length, drop, get_or, map}
use Rattle.std.proofs.Common.{ap, arith, refl, sym, if◌then◌else◌}
use Rattle.std.proofs.lemmas.Bool.Decides.{nat_tests}
use Rattle.std.proofs.lemmas.List.{drop_more}
use Rattle.std.specs.Str.{bytes_eq}
use Rattle.ws_titles.specs.Titles.{title_among, title_in, title_or, title_pair}
use Rattle.ws_titles.specs.declared.table.Title.{Title}

-- what is left begins with the next row
rows_left : (rows : List Title) (i : ℕ) (row : Title) → i < length rows → row ≡ get_or rows i row
    → map title_pair (drop i rows) ≡ title_pair row ∷ map title_pair (drop (i + 1) rows)
rows_left rows i row less is =
    ap (map title_pair) (drop_more rows i row less)
    ∙ ap (λ (y : Title). title_pair y ∷ map title_pair (drop (i + 1) rows)) (sym is)

pub title_here : (rows : List Title) (i : ℕ) (row : Title) (id whole : List ℕ) → i < length rows
    → row ≡ get_or rows i row → bytes_eq row.0.now id ≡ true → title_among (map title_pair (drop i rows)) id ≡ whole
    → row.1.now ≡ whole
title_here rows i row id whole less is same e =
    let rest = title_among (map title_pair (drop (i + 1) rows)) id in
    sym (ap (λ (b : Bool). if b then row.1.now else rest) same)
    ∙ sym (ap (λ (l : List (List ℕ × List ℕ)). title_among l id) (rows_left rows i row less is)) ∙ e

pub title_later : (rows : List Title) (i : ℕ) (row : Title) (id whole : List ℕ) → i < length rows
    → row ≡ get_or rows i row → bytes_eq row.0.now id ≡ false → title_among (map title_pair (drop i rows)) id ≡ whole
    → title_among (map title_pair (drop (i + 1) rows)) id ≡ whole
title_later rows i row id whole less is differs e =
    let rest = title_among (map title_pair (drop (i + 1) rows)) id in
    sym (ap (λ (b : Bool). if b then row.1.now else rest) differs)
    ∙ sym (ap (λ (l : List (List ℕ × List ℕ)). title_among l id) (rows_left rows i row less is)) ∙ e

-- a title that is not empty stands for itself, and for an empty one the other
found_or : (title other : List ℕ) → (length title == 0) ≡ false → title_or title other ≡ title
found_or [] other some = absurd (cc)
found_or (byte ∷ bytes) other some = refl

empty_or : (title other : List ℕ) → (length title == 0) ≡ true → title_or title other ≡ other
empty_or [] other none = refl
empty_or (byte ∷ bytes) other none =
    let zero : length (byte ∷ bytes) ≡ 0 = grind (arith, nat_tests, none) in absurd (omega (arith, zero))

-- what is left begins with the next part, in which this is the title
parts_left : (parts : List (List (List ℕ × List ℕ))) (i : ℕ) (id title : List ℕ) → i < length parts
    → title ≡ title_among (get_or parts i []) id
    → title_in (drop i parts) id ≡ title_or title (title_in (drop (i + 1) parts) id)
parts_left parts i id title less is =
    ap (λ (l : List (List (List ℕ × List ℕ))). title_in l id) (drop_more parts i [] less)
    ∙ ap (λ (t : List ℕ). title_or t (title_in (drop (i + 1) parts) id)) (sym is)

pub part_found : (parts : List (List (List ℕ × List ℕ))) (i : ℕ) (id title whole : List ℕ) → i < length parts
    → title ≡ title_among (get_or parts i []) id → (length title == 0) ≡ false → title_in (drop i parts) id ≡ whole
    → title ≡ whole
part_found parts i id title whole less is some e =
    sym (parts_left parts i id title less is ∙ found_or title (title_in (drop (i + 1) parts) id) some) ∙ e

pub part_passed : (parts : List (List (List ℕ × List ℕ))) (i : ℕ) (id title whole : List ℕ) → i < length parts
    → title ≡ title_among (get_or parts i []) id → (length title == 0) ≡ true → title_in (drop i parts) id ≡ whole
    → title_in (drop (i + 1) parts) id ≡ whole
part_passed parts i id title whole less is none e =
    sym (parts_left parts i id title less is ∙ empty_or title (title_in (drop (i + 1) parts) id) none) ∙ e
