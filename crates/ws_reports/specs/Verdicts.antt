-- The words of a verdict, as the line of a case has them, and which of them count as the same.
use Rattle.std.specs.Prelude.{◌≡◌, ◌≢◌, ◌⊎◌, ◌≤◌, ℕ, nat_eq, Bool, ◌||◌, not, IsTrue, All, List, ◌++◌, length, codes}
use Rattle.std.specs.Char.{is_ascii_alphabetic}
use Rattle.std.specs.List.{starts_with}
use Rattle.std.specs.Str.{bytes_eq}

-- a name, as of a rule: ASCII letters, one at least
abbrev pub IsName : List ℕ → Type 0
IsName word = (1 ≤ length word) × All (λ byte. IsTrue (is_ascii_alphabetic byte)) word

-- the words are these and then a name
abbrev pub HasName : List ℕ → List ℕ → Type 0
HasName front words = (name : List ℕ) × IsName name × (words ≡ front ++ name)

-- a name as of a rule, but for `Head`: behind that stands the name of a refusal of the answer
abbrev pub IsRuleName : List ℕ → Type 0
IsRuleName word = IsName word × (word ≢ codes "Head")

-- the words are these and then such a name
abbrev pub HasRule : List ℕ → List ℕ → Type 0
HasRule front words = (name : List ℕ) × IsRuleName name × (words ≡ front ++ name)

-- a Loose, of a connection or of one of two hops: the near one or the far one
abbrev pub NamesLoose : List ℕ → Type 0
NamesLoose words = HasName (codes "LOOSE ") words ⊎ HasName (codes "LOOSE near ") words
    ⊎ HasName (codes "LOOSE far ") words

pub record IsNamedLoose (words : List ℕ) : Type 0 where
  pub names : NamesLoose words

-- so a Fail with the name of a rule
abbrev pub NamesFail : List ℕ → Type 0
NamesFail words = HasRule (codes "FAIL ") words ⊎ HasRule (codes "FAIL near ") words ⊎ HasRule (codes "FAIL far ") words

pub record IsPlainFail (words : List ℕ) : Type 0 where
  pub names : NamesFail words

-- and one with that of a refusal, of a connection or of the far hop
abbrev pub NamesRefusal : List ℕ → Type 0
NamesRefusal words = HasName (codes "FAIL Head ") words ⊎ HasName (codes "FAIL far Head ") words

pub record IsHeadFail (words : List ℕ) : Type 0 where
  pub names : NamesRefusal words

-- the words tell a verdict. Which names there are isn't asked: a list may be of an earlier or a later version
abbrev pub IsVerdict : List ℕ → Type 0
IsVerdict words = (words ≡ codes "PASS") ⊎ (words ≡ codes "no connection") ⊎ IsNamedLoose words ⊎ IsPlainFail words
    ⊎ IsHeadFail words

-- the words tell a Fail; a case without a connection counts as one
abbrev pub tells_fail : List ℕ → Bool
tells_fail words = starts_with nat_eq words (codes "FAIL ") || bytes_eq words (codes "no connection")

-- two verdicts count as the same: they are, or neither is a Fail
abbrev pub is_same_verdict : List ℕ → List ℕ → Bool
is_same_verdict known now = bytes_eq known now || not (tells_fail known || tells_fail now)
