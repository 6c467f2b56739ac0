-- What is wrong with a word that names no target, where that is known to be typed often.
use Rattle.std.specs.Prelude.{◌≡◌, ◌≢◌, ◌⊎◌, ℕ, ◌≤◌, ◌||◌, Bool, IsTrue, List, [], ◌∷◌, take, drop, codes, length, All}
use Rattle.std.specs.Char.{is_ascii_digit, is_ascii_graphic}
use Rattle.std.specs.Str.{str_eq_ignore_ascii_case}
use Rattle.ws_formats.specs.Words.{IsNumberWord}
use Rattle.ws_targets.specs.Places.{IsCutAtLastColon, at_sign, has_byte}
use Rattle.ws_targets.specs.Targets.{HasScheme, authority_of, begins_with_wss}
use Rattle.ws_targets.specs.declared.advice.Advice.{Advice}
use Rattle.ws_targets.specs.declared.advice.Advice.TheVariants.{Encrypted, Fragment, Nothing, Port}
use Rattle.ws_targets.specs.declared.advice.Advice.TheVariants.{Unencoded, Url, User, Web}

-- a word that begins as the URL of a page
abbrev pub begins_as_web : List ℕ → Bool
begins_as_web word = str_eq_ignore_ascii_case (take 5 word) (codes "http:")
    || str_eq_ignore_ascii_case (take 6 word) (codes "https:")

-- digits that begin with no zero, and are no number up to 65535
pub record IsLargeNumber (word : List ℕ) : Type 0 where
  pub some : 1 ≤ length word
  pub digits : All (λ byte. IsTrue (is_ascii_digit byte)) word
  pub no_zero : (rest : List ℕ) → word ≢ 48 ∷ rest
  pub large : (number : ℕ) → ¬ (IsNumberWord 65535 number word)

-- nothing where a port is to stand, or a number that is too large
abbrev pub IsNoPort : List ℕ → Type 0
IsNoPort word = (word ≡ []) ⊎ IsLargeNumber word

-- so it is behind the last colon
abbrev pub HasBadPort : List ℕ → Type 0
HasBadPort authority = (front word : List ℕ) × IsCutAtLastColon authority front word × IsNoPort word

-- there is an @ before the host, or a bad port behind it, or none of both
abbrev pub AdvisesAuthority : List ℕ → Advice → Type 0
AdvisesAuthority authority User = IsTrue (has_byte at_sign authority)
AdvisesAuthority authority Port = ¬ (IsTrue (has_byte at_sign authority)) × HasBadPort authority
AdvisesAuthority authority Nothing = ¬ (IsTrue (has_byte at_sign authority)) × ¬ (HasBadPort authority)
AdvisesAuthority authority _ = ⊥

-- all bytes are visible ASCII characters
abbrev pub IsVisible : List ℕ → Type 0
IsVisible bytes = All (λ byte. IsTrue (is_ascii_graphic byte)) bytes

-- one of them is none, or one is a #, which begins a fragment
abbrev pub AdvisesBytes : List ℕ → Advice → Type 0
AdvisesBytes url Unencoded = ¬ (IsVisible url)
AdvisesBytes url Fragment = IsVisible url × IsTrue (has_byte 35 url)
AdvisesBytes url Nothing = IsVisible url × ¬ (IsTrue (has_byte 35 url))
AdvisesBytes url _ = ⊥

-- something is wrong with the authority; or nothing is, and with the bytes of the URL
abbrev pub AdvisesUrl : List ℕ → List ℕ → Advice → Type 0
AdvisesUrl url authority User = AdvisesAuthority authority User
AdvisesUrl url authority Port = AdvisesAuthority authority Port
AdvisesUrl url authority advice = AdvisesAuthority authority Nothing × AdvisesBytes url advice

-- What is wrong with a word that names no server: it begins with wss: or as the URL of a page; or it is a URL that
-- begins with ws:// and has a user, or, without one, a bad port, or else a byte or a fragment that a URL here hasn't.
-- Or it is none of these.
abbrev pub Advises : List ℕ → Advice → Type 0
Advises word Encrypted = IsTrue (begins_with_wss word)
Advises word Web = IsTrue (begins_as_web word)
Advises word Url = ⊥
Advises word Nothing = ¬ (IsTrue (begins_with_wss word)) × ¬ (IsTrue (begins_as_web word))
    × (HasScheme word → AdvisesUrl word (authority_of (drop 5 word)) Nothing)
Advises word advice = HasScheme word × AdvisesUrl word (authority_of (drop 5 word)) advice
