-- The name of a peer where there is little room.
use Rattle.std.specs.Prelude.{ℕ, ◌/◌, ◌==◌, ◌+◌, Bool, not, nat_lt, List, [], ◌∷◌, ◌++◌, length, codes, if◌then◌else◌}
use Rattle.std.specs.List.{concat}
use Rattle.ws_pages.specs.PageText.{on_page}

-- the byte begins a character of UTF-8
abbrev pub begins_character : ℕ → Bool
begins_character byte = not (byte / 64 == 2)

-- the bytes up to where one character too many begins, if so many began before them
abbrev pub front_after : ℕ → List ℕ → List ℕ
front_after begun [] = []
front_after begun (byte ∷ bytes) =
    if begins_character byte
    then (if nat_lt begun 24 then byte ∷ front_after (begun + 1) bytes else [])
    else byte ∷ front_after begun bytes

-- the first 24 characters
abbrev pub short_front : List ℕ → List ℕ
short_front name = front_after 0 name

-- the name has more than these
abbrev pub is_cut_short : List ℕ → Bool
is_cut_short name = nat_lt (length (short_front name)) (length name)

-- the name on a page; of a long one its first characters, and two dots
abbrev pub short_name : List ℕ → List ℕ
short_name name = on_page (short_front name) ++ (if is_cut_short name then codes ".." else [])

-- an attribute with the whole name, if that is cut short
abbrev pub title_attribute : List ℕ → List ℕ
title_attribute name =
    if is_cut_short name then concat (codes " title=\"" ∷ on_page name ∷ codes "\"" ∷ []) else []
