-- What the words give the arguments of a command.
use Rattle.std.specs.Prelude.{◌≡◌, ℕ, ◌^◌, ◌<◌, ◌⊎◌, if◌then◌else◌, Bool, true, false, List, [], ◌∷◌}
use Rattle.std.specs.Prelude.{Option, Some, None, codes, option_map, unwrap_or}
use Rattle.std.specs.Borrow.{Bor}
use Rattle.std.specs.Str.{bytes_eq}
use Rattle.std.specs.Str.Parse.{IsNumeral, digits_value, without_leading_plus}
use Rattle.clap.specs.Words.{Row, Text, all_of, first_of, one_of}
use Rattle.ws_wire.specs.declared.role.Role.{Role}
use Rattle.ws_wire.specs.declared.role.Role.TheVariants.{Client, Server}
use Rattle.wst_words.specs.Arguments.{ArgumentRow}
use Rattle.wst_words.specs.declared.arguments.ArgumentKind.{ArgumentKind}
use Rattle.ws_frame.specs.declared.source.DataStyle.{DataStyle}
use Rattle.ws_frame.specs.declared.source.DataStyle.TheVariants as style
use Rattle.ws_scripts.specs.declared.expectation.Expectation.{Expectation}
use Rattle.ws_scripts.specs.declared.expectation.Expectation.TheVariants.{Echo, Protocol}
use Rattle.wst_words.specs.declared.arguments.ArgumentKind.TheVariants.{EachWord, End, Expected, Flag, FreeWord}
use Rattle.wst_words.specs.declared.arguments.ArgumentKind.TheVariants.{FreeCount}
use Rattle.wst_words.specs.declared.arguments.ArgumentKind.TheVariants.{NeededWord, Number, Style, Word, Words}

-- ---- an end of the connection

-- the end that a word names
abbrev pub role_named : Text → Role
role_named word = if bytes_eq word (codes "client") then Client else Server

-- the option of this name gives this end
pub record GivesEnd (rows : List Row) (name : Text) (role : Role) : Type 0 where
  pub word : Text
  pub has_word : first_of name rows ≡ Some word
  pub value : role ≡ role_named word

-- the option of this name gives this end, or it is left out and there is none
abbrev pub GivesEndIfAny : List Row → Text → Option Role → Type 0
GivesEndIfAny rows name role = role ≡ option_map role_named (first_of name rows)

-- and it gives none
abbrev pub GivesNoEnd : List Row → Text → Type 0
GivesNoEnd rows name = (role : Role) → GivesEnd rows name role → ⊥

-- ---- what is expected of the tested end

-- what a word names
abbrev pub expectation_named : Text → Expectation
expectation_named word = if bytes_eq word (codes "protocol") then Protocol else Echo

-- the option of this name says that this is expected
pub record GivesExpectation (rows : List Row) (name : Text) (expected : Expectation) : Type 0 where
  pub word : Text
  pub has_word : first_of name rows ≡ Some word
  pub value : expected ≡ expectation_named word

-- and it says nothing
abbrev pub GivesNoExpectation : List Row → Text → Type 0
GivesNoExpectation rows name = (expected : Expectation) → GivesExpectation rows name expected → ⊥

-- ---- how payloads are shown

-- the style that a word names
abbrev pub style_named : Text → DataStyle
style_named word =
    if bytes_eq word (codes "text") then style.Text
    else (if bytes_eq word (codes "all") then style.All else style.Hex)

-- the option of this name gives this style
pub record GivesStyle (rows : List Row) (name : Text) (shown : DataStyle) : Type 0 where
  pub word : Text
  pub has_word : first_of name rows ≡ Some word
  pub value : shown ≡ style_named word

-- and it gives none
abbrev pub GivesNoStyle : List Row → Text → Type 0
GivesNoStyle rows name = (shown : DataStyle) → GivesStyle rows name shown → ⊥

-- ---- a word

-- the option of this name gives this word, or none
abbrev pub GivesWord : List Row → Text → Option (Bor Text) → Type 0
GivesWord rows name word = first_of name rows ≡ option_map (λ w. w.now) word

-- the option for subprotocols gives this list, or none
abbrev pub GivesProtocols : List Row → Option (Bor Text) → Type 0
GivesProtocols rows list = GivesWord rows (codes "protocols") list

-- the words of this argument, none where it isn't given
abbrev pub given_words : Text → List Row → List Text
given_words name rows = unwrap_or (all_of name rows) []

-- ---- a number

-- the word of this name gives this number of so many bits
pub record GivesNumberOf (bits : ℕ) (rows : List Row) (name : Text) (number : ℕ) : Type 0 where
  pub word : Text
  pub has_word : one_of name rows ≡ Some word
  pub numeral : IsNumeral 10 (without_leading_plus word)
  pub value : number ≡ digits_value 10 (without_leading_plus word)
  pub fits : number < 2 ^ bits

abbrev pub GivesNumber : List Row → Text → ℕ → Type 0
GivesNumber rows name number = GivesNumberOf 64 rows name number

-- the option of this name gives this number, or it is left out and the number is this other one
abbrev pub GivesNumberOr : ℕ → List Row → Text → ℕ → Type 0
GivesNumberOr other rows name number =
    GivesNumber rows name number ⊎ ((first_of name rows ≡ None) × (number ≡ other))

-- the option of this name gives this number, or it is left out and there is none
abbrev pub GivesNumberIfAny : List Row → Text → Option ℕ → Type 0
GivesNumberIfAny rows name None = first_of name rows ≡ None
GivesNumberIfAny rows name (Some number) = GivesNumber rows name number

abbrev pub GivesCount : List Row → Text → ℕ → Type 0
GivesCount rows name number = GivesNumberOf 32 rows name number

-- the word of this name gives this count, or it is left out and there is none
abbrev pub GivesCountIfAny : List Row → Text → Option ℕ → Type 0
GivesCountIfAny rows name None = first_of name rows ≡ None
GivesCountIfAny rows name (Some count) = GivesCount rows name count

-- and it gives none
abbrev pub GivesNoNumber : List Row → Text → Type 0
GivesNoNumber rows name = (number : ℕ) → GivesNumber rows name number → ⊥

-- nor another one
abbrev pub GivesNoNumberOr : List Row → Text → Type 0
GivesNoNumberOr rows name = (other number : ℕ) → GivesNumberOr other rows name number → ⊥

abbrev pub GivesNoCount : List Row → Text → Type 0
GivesNoCount rows name = (number : ℕ) → GivesCount rows name number → ⊥

-- nor is it left out
abbrev pub GivesNoCountIfAny : List Row → Text → Type 0
GivesNoCountIfAny rows name = (count : Option ℕ) → GivesCountIfAny rows name count → ⊥

-- ---- a flag

-- the flag of this name is set, or it isn't
abbrev pub GivesFlag : List Row → Text → Bool → Type 0
GivesFlag rows name true = one_of name rows ≡ Some (codes "true")
GivesFlag rows name false = one_of name rows ≡ Some (codes "false")

-- and it is neither
abbrev pub GivesNoFlag : List Row → Text → Type 0
GivesNoFlag rows name = (set : Bool) → GivesFlag rows name set → ⊥

-- ---- nothing

-- the argument of this name, kind and default gives nothing that its kind asks for
abbrev pub LacksValueOf : List Row → Text → ArgumentKind → Option Text → Type 0
LacksValueOf rows name End None = ⊥
LacksValueOf rows name End (Some end) = GivesNoEnd rows name
LacksValueOf rows name Expected None = ⊥
LacksValueOf rows name Expected (Some expected) = GivesNoExpectation rows name
LacksValueOf rows name Style None = ⊥
LacksValueOf rows name Style (Some shown) = GivesNoStyle rows name
LacksValueOf rows name Number None = GivesNoNumberOr rows name
LacksValueOf rows name Number (Some number) = GivesNoNumber rows name
LacksValueOf rows name Word None = ⊥
LacksValueOf rows name Word (Some word) = first_of name rows ≡ None
LacksValueOf rows name EachWord default = ⊥
LacksValueOf rows name Flag default = GivesNoFlag rows name
LacksValueOf rows name NeededWord default = first_of name rows ≡ None
LacksValueOf rows name FreeWord default = ⊥
LacksValueOf rows name FreeCount default = GivesNoCountIfAny rows name
LacksValueOf rows name Words default = ⊥

-- one of the arguments does
abbrev pub LacksOneOf : List Row → List ArgumentRow → Type 0
LacksOneOf rows [] = ⊥
LacksOneOf rows (a ∷ rest) = LacksValueOf rows a.name a.kind a.default ⊎ LacksOneOf rows rest
