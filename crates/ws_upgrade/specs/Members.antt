-- The headers of a head by name, and the members of their values: RFC 6455 sections 4.1 and 4.2.1. A value that is a
-- list has its members between commas (RFC 9110 section 5.6.1).
use Rattle.std.specs.Prelude.{◌≡◌, ℕ, ◌==◌, Bool, not, List, [], ◌∷◌, length, map, filter}
use Rattle.std.specs.List.{flat_map, list_any, slice_split}
use Rattle.std.specs.Str.{str_eq_ignore_ascii_case}
use Rattle.httparse.specs.Grammar.{trim_ows}

-- the headers of a head in their order: of each its name, and its value without the spaces and tabs around it
abbrev pub HeaderPairs : Type 0
HeaderPairs = List (List ℕ × List ℕ)

-- the values of the headers of this name, which is compared without regard to ASCII case
abbrev pub values_of : List ℕ → HeaderPairs → List (List ℕ)
values_of name headers = map (λ header. header.1) (filter (λ header. str_eq_ignore_ascii_case header.0 name) headers)

-- exactly one header has this name, and this is its value
abbrev pub IsOnlyValue : List ℕ → HeaderPairs → List ℕ → Type 0
IsOnlyValue name headers value = values_of name headers ≡ value ∷ []

abbrev pub comma : ℕ
comma = 44

-- the members of a value: what stands between its commas, without the spaces and tabs around it, unless that is empty
abbrev pub members_in : List ℕ → List (List ℕ)
members_in value =
    filter (λ member. not (length member == 0)) (map trim_ows (slice_split (λ byte. byte == comma) value))

-- the members of all headers of this name
abbrev pub members_of : List ℕ → HeaderPairs → List (List ℕ)
members_of name headers = flat_map members_in (values_of name headers)

-- one of these is the word, without regard to ASCII case
abbrev pub has_word : List ℕ → List (List ℕ) → Bool
has_word word members = list_any (λ member. str_eq_ignore_ascii_case member word) members

-- one of the members of all headers of this name is the word
abbrev pub has_member : List ℕ → List ℕ → HeaderPairs → Bool
has_member name word headers = has_word word (members_of name headers)
