-- What is wrong with the words of a line that is no step, from its first word on. A dash stands in the place of the
-- line's text, if it ends with one.
use Rattle.std.specs.Prelude.{ℕ, ◌+◌, ◌%◌, ◌==◌, nat_eq, nat_lt, Bool, true, false, not, ◌||◌, ◌&&◌}
use Rattle.std.specs.Prelude.{if◌then◌else◌, List, [], ◌∷◌, codes, drop, length, Option, Some, None}
use Rattle.std.specs.List.{list_all, list_any, starts_with}
use Rattle.std.specs.Char.{is_ascii_digit, is_ascii_hexdigit, is_ascii_uppercase}
use Rattle.std.specs.Str.{bytes_eq}
use Rattle.wst_commands.specs.declared.step_words.WordDamage.{WordDamage}
use Rattle.wst_commands.specs.declared.step_words.WordDamage.TheVariants.{Capitals, Code, Count, Field, Fin, Form}
use Rattle.wst_commands.specs.declared.step_words.WordDamage.TheVariants.{FormLength, Key, Kind, NoPayload, Pairs, Raw}
use Rattle.wst_commands.specs.declared.step_words.WordDamage.TheVariants.{Reserved, Unquoted}

-- ---- the first word

-- the names of frames of which the payload is written: all but those of reserved opcodes
abbrev pub is_frame_name : List ℕ → Bool
is_frame_name name = bytes_eq name (codes "text") || (bytes_eq name (codes "binary")
    || (bytes_eq name (codes "cont") || (bytes_eq name (codes "close")
    || (bytes_eq name (codes "ping") || bytes_eq name (codes "pong")))))

-- the names of reserved opcodes
abbrev pub is_reserved_name : List ℕ → Bool
is_reserved_name name = bytes_eq name (codes "op3") || (bytes_eq name (codes "op4") || (bytes_eq name (codes "op5")
    || (bytes_eq name (codes "op6") || (bytes_eq name (codes "op7") || (bytes_eq name (codes "op11")
    || (bytes_eq name (codes "op12") || (bytes_eq name (codes "op13") || (bytes_eq name (codes "op14")
    || bytes_eq name (codes "op15")))))))))

-- a payload stands behind these
abbrev pub takes_payload : List ℕ → Bool
takes_payload name = is_frame_name name || (is_reserved_name name || bytes_eq name (codes "raw"))

-- a line that is no comment begins with one of these words
abbrev pub is_first_word : List ℕ → Bool
is_first_word word = takes_payload word || (starts_with nat_eq word (codes "close=")
    || (bytes_eq word (codes "wait") || bytes_eq word (codes "chop")))

-- ---- numbers

-- decimal digits without leading zeros
abbrev pub is_plain_number : List ℕ → Bool
is_plain_number [] = false
is_plain_number (first ∷ []) = is_ascii_digit first
is_plain_number (first ∷ next ∷ rest) =
    not (first == 48) && list_all is_ascii_digit (first ∷ next ∷ rest)

-- of two words of one length, the first is not above the second: it is lower in the first byte that differs
abbrev pub is_not_above : List ℕ → List ℕ → Bool
is_not_above [] most = true
is_not_above (byte ∷ bytes) [] = true
is_not_above (byte ∷ bytes) (most ∷ rest) = nat_lt byte most || (byte == most && is_not_above bytes rest)

-- a number that is no larger than the one that this word tells
abbrev pub is_number_to : List ℕ → List ℕ → Bool
is_number_to most word = is_plain_number word
    && (nat_lt (length word) (length most) || (length word == length most && is_not_above word most))

-- a word that begins `close=` has another number behind that than a code of 0 to 65535
abbrev pub is_wrong_close : List ℕ → Bool
is_wrong_close name = starts_with nat_eq name (codes "close=") && not (is_number_to (codes "65535") (drop 6 name))

-- ---- fields

-- where a word stands among those behind the name of a frame: its fields in their order, and then its data
abbrev pub field_rank : List ℕ → ℕ
field_rank word =
    if starts_with nat_eq word (codes "fin=") then 1
    else (if starts_with nat_eq word (codes "rsv=") then 2
    else (if starts_with nat_eq word (codes "key=") then 3
    else (if starts_with nat_eq word (codes "form=") then 4 else 5)))

-- all words behind the name are fields, and none is a payload
abbrev pub are_fields : List (List ℕ) → Bool
are_fields words = list_all (λ word. nat_lt (field_rank word) 5) words

-- one of them is
abbrev pub has_field : List (List ℕ) → Bool
has_field words = list_any (λ word. nat_lt (field_rank word) 5) words

-- a word with an equals sign is none of these fields
abbrev pub is_no_field : List ℕ → Bool
is_no_field word = list_any (λ (byte : ℕ). byte == 61) word && field_rank word == 5

abbrev pub has_no_field : List (List ℕ) → Bool
has_no_field words = list_any is_no_field words

-- behind a word of this rank, one of at least this rank may stand: each field stands once
abbrev pub rank_behind : ℕ → ℕ
rank_behind rank = if nat_lt rank 5 then rank + 1 else 5

-- one of the words stands behind one that is to follow it, or a field stands twice; the first has at least this rank
abbrev pub descend : ℕ → List (List ℕ) → Bool
descend least [] = false
descend least (word ∷ words) = nat_lt (field_rank word) least || descend (rank_behind (field_rank word)) words

-- so the fields and the data of a frame stand in another order: each of the words is a field or data
abbrev pub is_disordered : List (List ℕ) → Bool
is_disordered words = not (has_no_field words) && descend 0 words

abbrev pub is_right_fin : List ℕ → Bool
is_right_fin word = bytes_eq word (codes "fin=0") || bytes_eq word (codes "fin=1")

abbrev pub is_right_rsv : List ℕ → Bool
is_right_rsv word = bytes_eq word (codes "rsv=0") || (bytes_eq word (codes "rsv=1") || (bytes_eq word (codes "rsv=2")
    || (bytes_eq word (codes "rsv=3") || (bytes_eq word (codes "rsv=4") || (bytes_eq word (codes "rsv=5")
    || (bytes_eq word (codes "rsv=6") || bytes_eq word (codes "rsv=7")))))))

-- a lower-case hexadecimal digit
abbrev pub is_small_digit : ℕ → Bool
is_small_digit byte = is_ascii_hexdigit byte && not (is_ascii_uppercase byte)

-- a masking key, or none: eight lower-case digits behind `key=`, or a dash
abbrev pub is_right_key : List ℕ → Bool
is_right_key word = bytes_eq word (codes "key=-") || (length word == 12 && list_all is_small_digit (drop 4 word))

abbrev pub is_right_form : List ℕ → Bool
is_right_form word = bytes_eq word (codes "form=short")
    || (bytes_eq word (codes "form=two") || bytes_eq word (codes "form=eight"))

-- ---- a payload

-- hexadecimal digits, or a star, of which some are capital
abbrev pub is_digit_or_star : ℕ → Bool
is_digit_or_star byte = is_ascii_hexdigit byte || byte == 42

abbrev pub has_capitals : List ℕ → Bool
has_capitals word = list_all is_digit_or_star word && list_any is_ascii_uppercase word

-- a byte of no data without quotes, which are digits, a star, or a dash
abbrev pub is_no_data : ℕ → Bool
is_no_data byte = not (is_ascii_hexdigit byte || (byte == 42 || byte == 45))

abbrev pub has_star : List ℕ → Bool
has_star word = list_any (λ (byte : ℕ). byte == 42) word

-- two digits, a star, and a count of 1 to 16777216
abbrev pub is_repeated_pair : List ℕ → Bool
is_repeated_pair (a ∷ b ∷ star ∷ count) = is_ascii_hexdigit a && (is_ascii_hexdigit b && (star == 42
    && (not (bytes_eq count (codes "0")) && is_number_to (codes "16777216") count)))
is_repeated_pair _ = false

-- hexadecimal digits, two and two
abbrev pub are_pairs : List ℕ → Bool
are_pairs word = list_all is_ascii_hexdigit word && length word % 2 == 0

-- what is wrong with a word of data: capital digits; a byte that only a text has; a count; or digits that are no pairs
abbrev pub data_damage : List ℕ → Option WordDamage
data_damage word =
    if bytes_eq word (codes "-") then None
    else (if has_capitals word then Some Capitals
    else (if list_any is_no_data word then Some Unquoted
    else (if has_star word then (if is_repeated_pair word then None else Some Count)
    else (if are_pairs word then None else Some Pairs))))

-- ---- the words behind the first one

-- none, where the word is right
abbrev pub unless_right : Bool → WordDamage → Option WordDamage
unless_right true damage = None
unless_right false damage = Some damage

-- what is wrong with a word by its rank
abbrev pub ranked_damage : ℕ → List ℕ → Option WordDamage
ranked_damage rank word =
    if rank == 1 then unless_right (is_right_fin word) Fin
    else (if rank == 2 then unless_right (is_right_rsv word) Reserved
    else (if rank == 3 then unless_right (is_right_key word) Key
    else (if rank == 4 then unless_right (is_right_form word) Form else data_damage word)))

-- this, or else that
abbrev pub or_else : Option WordDamage → Option WordDamage → Option WordDamage
or_else (Some damage) second = Some damage
or_else None second = second

-- what is wrong with the first word that is wrong
abbrev pub first_damage : List (List ℕ) → Option WordDamage
first_damage [] = None
first_damage (word ∷ words) = or_else (ranked_damage (field_rank word) word) (first_damage words)

-- a word stands behind one of data; the first one does, or doesn't
abbrev pub has_word_behind : Bool → List (List ℕ) → Bool
has_word_behind behind [] = false
has_word_behind behind (word ∷ words) = behind || has_word_behind (field_rank word == 5) words

abbrev pub has_two_payloads : List (List ℕ) → Bool
has_two_payloads words = has_word_behind false words

abbrev pub has_rank : ℕ → List (List ℕ) → Bool
has_rank rank words = list_any (λ word. field_rank word == rank) words

-- what is wrong with words of which each is right: two of data; a form without a key; or else the form, if there is
-- one, holds no payload of this length
abbrev pub whole_damage : List (List ℕ) → Option WordDamage
whole_damage words =
    if has_two_payloads words then Some Pairs
    else (if not (has_rank 4 words) then None
    else (if has_rank 3 words then Some FormLength else Some Form))

-- ---- a line

-- What is wrong with a line of this first word and these others, in the order that is asked for: only fields stand
-- behind a word that takes a payload; the line begins with no word that a line begins with; a field is none; a field
-- stands behind `raw`; the code behind `close=` is none; a word is wrong; or all of them are.
abbrev pub named_damage : List ℕ → List (List ℕ) → Option WordDamage
named_damage name fields =
    if takes_payload name && are_fields fields then Some NoPayload
    else (if not (is_first_word name) then Some Kind
    else (if has_no_field fields then Some Field
    else (if bytes_eq name (codes "raw") && has_field fields then Some Raw
    else (if is_wrong_close name then Some Code
    else or_else (first_damage fields) (whole_damage fields)))))

-- ---- what is told

abbrev pub word_damage_words : WordDamage → List ℕ
word_damage_words NoPayload = codes "not a step\n  the payload stands last, - is an empty one: ping -"
word_damage_words Kind =
    codes "not a step\n  a step begins with text, binary, cont, ping, pong, close, raw, wait or opN"
word_damage_words Field =
    codes "not a step\n  the fields are fin=, rsv=, key= and form=, and a text is quoted: text \"a=b\""
word_damage_words Raw = codes "not a step\n  raw takes no fields: raw 8100"
word_damage_words Code = codes "not a step\n  a code is 0 to 65535, without leading zeros: close=1000 \"bye\""
word_damage_words Fin = codes "not a step\n  fin is 0 or 1: text fin=0 \"a\""
word_damage_words Reserved = codes "not a step\n  rsv is 0 to 7, as 4*RSV1 + 2*RSV2 + RSV3: text rsv=4 -"
word_damage_words Key = codes "not a step\n  key is eight lower-case digits, or - for no mask: text key=- \"a\""
word_damage_words Form = codes "not a step\n  form is short, two or eight, after key=: text key=- form=two \"a\""
word_damage_words FormLength = codes "not a step\n  form=short holds up to 125 bytes, and form=two up to 65535"
word_damage_words Capitals = codes "not a step\n  hexadecimal digits are lower-case: text c3a9"
word_damage_words Unquoted = codes "not a step\n  a text is quoted, and bytes are hex: text \"hi\" or text 6869"
word_damage_words Count = codes "not a step\n  one pair, and how often it is sent, 1 to 16777216: binary 00*16"
word_damage_words Pairs = codes "not a step\n  the payload is one word, of pairs of digits: binary 00ff"
