-- What a client under test asks for by the path of its request. RFC 6455 leaves to a server what a resource name means
-- (section 3); these paths are those of Autobahn's fuzzing server.
use Rattle.std.specs.Prelude.{◌≡◌, ◌⊎◌, ℕ, ◌+◌, ◌≤◌, ◌==◌, nat_eq, nat_lt, Bool, List, [], ◌∷◌, ◌++◌, ⊤}
use Rattle.std.specs.Prelude.{IsTrue, codes, filter, if◌then◌else◌, Option, Some, None}
use Rattle.std.specs.List.{after_first, before_first, ends_with, slice_split, starts_with}
use Rattle.ws_formats.specs.Words.{IsNumberWord}
use Rattle.ws_paths.specs.declared.purpose.Purpose.{Purpose}
use Rattle.ws_paths.specs.declared.purpose.Purpose.TheVariants.{CaseCount, CaseInfo, CaseStatus, NextCase, NoCase}
use Rattle.ws_paths.specs.declared.purpose.Purpose.TheVariants.{RunCase, UpdateReports}
use Rattle.ws_paths.specs.declared.purpose.Wanted.{Wanted}
use Rattle.ws_paths.specs.declared.purpose.Wanted.TheVariants.{Info, Run, Status}

-- ---- a path and its parts

abbrev pub is_question_mark : ℕ → Bool
is_question_mark byte = byte == 63

abbrev pub is_ampersand : ℕ → Bool
is_ampersand byte = byte == 38

-- what stands before the first ? of a path
abbrev pub place_of : List ℕ → List ℕ
place_of path = before_first is_question_mark path

-- the parts of what stands behind it, which & parts
abbrev pub parts_of : List ℕ → List (List ℕ)
parts_of path = slice_split is_ampersand (after_first is_question_mark path)

-- The place has this name: it ends so. The names below begin with a slash and have no other, so they are the
-- last part of the place, and what stands before that, as what a proxy puts there, says nothing.
abbrev pub IsPlaceNamed : List ℕ → List ℕ → Type 0
IsPlaceNamed name place = IsTrue (ends_with nat_eq place name)

-- ---- the case that is named

-- a part that names a case
abbrev pub names_case : List ℕ → Bool
names_case part = starts_with nat_eq part (codes "case=")

-- one of the parts names a case, and names it by this word
abbrev pub NameCaseOnce : List (List ℕ) → List ℕ → Type 0
NameCaseOnce parts word = filter names_case parts ≡ (codes "case=" ++ word) ∷ []

-- of so many cases, counted from 1, these parts name the one of this number
abbrev pub NamesCase : ℕ → List (List ℕ) → ℕ → Type 0
NamesCase count parts number =
    (1 ≤ number) × ((word : List ℕ) × NameCaseOnce parts word × IsNumberWord count number word)

abbrev pub NamesNone : ℕ → List (List ℕ) → Type 0
NamesNone count parts = (number : ℕ) → NamesCase count parts number → ⊥

-- ---- what a connection is for

-- the places at which a case is asked for by its number
abbrev pub TakesNumber : List ℕ → Type 0
TakesNumber place = IsPlaceNamed (codes "/runCase") place
    ⊎ (IsPlaceNamed (codes "/getCaseInfo") place ⊎ IsPlaceNamed (codes "/getCaseStatus") place)

-- no place with a meaning of its own
abbrev pub IsOther : List ℕ → Type 0
IsOther place = ¬ (TakesNumber place) × ¬ (IsPlaceNamed (codes "/getCaseCount") place)
    × ¬ (IsPlaceNamed (codes "/updateReports") place)

-- What a connection with this path is for, where there are so many cases, and so many of them were run for other paths.
abbrev pub IsPurpose : ℕ → ℕ → List ℕ → Purpose → Type 0
IsPurpose count asked path CaseCount = IsPlaceNamed (codes "/getCaseCount") (place_of path)
IsPurpose count asked path (RunCase number) =
    IsPlaceNamed (codes "/runCase") (place_of path) × NamesCase count (parts_of path) number
IsPurpose count asked path (CaseInfo number) =
    IsPlaceNamed (codes "/getCaseInfo") (place_of path) × NamesCase count (parts_of path) number
IsPurpose count asked path (CaseStatus number) =
    IsPlaceNamed (codes "/getCaseStatus") (place_of path) × NamesCase count (parts_of path) number
IsPurpose count asked path UpdateReports = IsPlaceNamed (codes "/updateReports") (place_of path)
IsPurpose count asked path (NextCase number) =
    IsOther (place_of path) × (number ≡ asked + 1) × (number ≤ count)
IsPurpose count asked path NoCase = (TakesNumber (place_of path) × NamesNone count (parts_of path))
    ⊎ (IsOther (place_of path) × (count ≤ asked))

-- the case that is run, if one is
abbrev pub number_to_run : Purpose → Option ℕ
number_to_run (RunCase number) = Some number
number_to_run (NextCase number) = Some number
number_to_run CaseCount = None
number_to_run (CaseInfo number) = None
number_to_run (CaseStatus number) = None
number_to_run UpdateReports = None
number_to_run NoCase = None

-- there are so many cases, and the one that a connection is for is one of them
abbrev pub AsksWithin : ℕ → Purpose → Type 0
AsksWithin count (RunCase number) = (1 ≤ number) × (number ≤ count)
AsksWithin count (CaseInfo number) = (1 ≤ number) × (number ≤ count)
AsksWithin count (CaseStatus number) = (1 ≤ number) × (number ≤ count)
AsksWithin count (NextCase number) = (1 ≤ number) × (number ≤ count)
AsksWithin count CaseCount = ⊤
AsksWithin count UpdateReports = ⊤
AsksWithin count NoCase = ⊤

-- ---- inside the crate

-- the place at which a case is asked for so
abbrev pub place_for : Wanted → List ℕ
place_for Run = codes "/runCase"
place_for Info = codes "/getCaseInfo"
place_for Status = codes "/getCaseStatus"

-- and what is asked for there of the case of this number
abbrev pub purpose_for : Wanted → ℕ → Purpose
purpose_for Run number = RunCase number
purpose_for Info number = CaseInfo number
purpose_for Status number = CaseStatus number

abbrev pub next_purpose : ℕ → ℕ → Purpose
next_purpose count asked = if nat_lt asked count then NextCase (asked + 1) else NoCase
