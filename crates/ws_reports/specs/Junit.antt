-- The parts of a JUnit document.
use Rattle.std.specs.Prelude.{ℕ, ◌==◌, List, [], ◌∷◌, codes, if◌then◌else◌}
use Rattle.std.specs.List.{concat}
use Rattle.ws_reports.specs.Escaping.{escaped, quoted}

-- what begins a document about a target
abbrev pub junit_start : List ℕ → List ℕ
junit_start target = concat (codes "<?xml version=\"1.0\" encoding=\"UTF-8\"?>\n"
    ∷ codes "<testsuites><testsuite name=\"wst " ∷ quoted target ∷ codes "\">\n" ∷ [])

-- the name of a case in a document: its ID, and behind a space its title
abbrev pub full_name : List ℕ → List ℕ → List ℕ
full_name id title = concat (id ∷ codes " " ∷ title ∷ [])

-- a case of which nothing is told
abbrev pub passed_case : List ℕ → List ℕ
passed_case name = concat (codes "<testcase classname=\"wst\" name=\"" ∷ quoted name ∷ codes "\"/>\n" ∷ [])

-- a text up to its first space
abbrev pub front_word : List ℕ → List ℕ
front_word [] = []
front_word (byte ∷ bytes) = if byte == 32 then [] else byte ∷ front_word bytes

-- a text up to its second space
abbrev pub first_two_words : List ℕ → List ℕ
first_two_words [] = []
first_two_words (byte ∷ bytes) = if byte == 32 then byte ∷ front_word bytes else byte ∷ first_two_words bytes

-- a case that failed by this verdict, with these words and lines
abbrev pub failed_case : List ℕ → List ℕ → List ℕ → List ℕ → List ℕ
failed_case name verdict words below = concat (codes "<testcase classname=\"wst\" name=\"" ∷ quoted name
    ∷ codes "\"><failure type=\"" ∷ quoted (first_two_words verdict) ∷ codes "\" message=\"" ∷ quoted words
    ∷ codes "\">\n" ∷ escaped below ∷ codes "</failure></testcase>\n" ∷ [])

-- a case that failed as it is known to, with these words
abbrev pub skipped_case : List ℕ → List ℕ → List ℕ
skipped_case name words = concat (codes "<testcase classname=\"wst\" name=\"" ∷ quoted name
    ∷ codes "\"><skipped message=\"" ∷ quoted words ∷ codes "\"/></testcase>\n" ∷ [])

-- words, and the lines below them
abbrev pub noted_text : List ℕ → List ℕ → List ℕ
noted_text words below = concat (words ∷ codes "\n" ∷ below ∷ [])

-- a case that did not, and of which this text is told
abbrev pub noted_case : List ℕ → List ℕ → List ℕ
noted_case name text = concat (codes "<testcase classname=\"wst\" name=\"" ∷ quoted name ∷ codes "\"><system-out>"
    ∷ escaped text ∷ codes "</system-out></testcase>\n" ∷ [])

-- what ends a document
abbrev pub junit_end : List ℕ
junit_end = codes "</testsuite></testsuites>\n"
