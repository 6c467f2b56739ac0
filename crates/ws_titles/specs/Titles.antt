-- The title of a case: in a few words, what it tries.
use Rattle.std.specs.Prelude.{ℕ, nat_le, nat_lt, Bool, ◌&&◌, List, [], ◌∷◌, flat_map, length, map, if◌then◌else◌}
use Rattle.std.specs.Int.{is_in_range}
use Rattle.std.specs.List.{list_all}
use Rattle.std.specs.Str.{bytes_eq}
use Rattle.ws_titles.specs.TitleTable.{title_parts}
use Rattle.ws_titles.specs.declared.table.Title.{Title}

-- the first title among these that stands beside this name; empty if none does
abbrev pub title_among : List (List ℕ × List ℕ) → List ℕ → List ℕ
title_among [] id = []
title_among ((name, title) ∷ others) id = if bytes_eq name id then title else title_among others id

-- a title; if it is empty, the other one
abbrev pub title_or : List ℕ → List ℕ → List ℕ
title_or [] other = other
title_or (byte ∷ bytes) other = byte ∷ bytes

-- the first title in these parts that stands beside this name; empty if none does
abbrev pub title_in : List (List (List ℕ × List ℕ)) → List ℕ → List ℕ
title_in [] id = []
title_in (part ∷ parts) id = title_or (title_among part id) (title_in parts id)

-- the title of the case with this name; empty if there is no such case
unfoldable pub title_of : List ℕ → List ℕ
title_of id = title_in title_parts id

-- ---- what the table has

-- the names in some parts
abbrev pub titled_names : List (List (List ℕ × List ℕ)) → List (List ℕ)
titled_names parts = flat_map (λ (part : List (List ℕ × List ℕ)). map (λ (row : List ℕ × List ℕ). row.0) part) parts

-- a line of 1 to 60 characters of ASCII that can be printed
abbrev pub is_title : List ℕ → Bool
is_title title = nat_lt 0 (length title) && (nat_le (length title) 60 && list_all (is_in_range 32 126) title)

-- each row of some parts has such a title
abbrev pub have_titles : List (List (List ℕ × List ℕ)) → Bool
have_titles parts =
    list_all (λ (part : List (List ℕ × List ℕ)). list_all (λ (row : List ℕ × List ℕ). is_title row.1) part) parts

-- ---- inside the crate

-- a row of the program's own table
abbrev pub title_pair : Title → List ℕ × List ℕ
title_pair row = (row.0.now, row.1.now)
