-- A word is read as one target.
use Rattle.std.proofs.Common.{◌≡◌, ◌∙◌, ℕ, ◌<◌, ◌≤◌, inl, inr, false, List, [], ◌∷◌, codes, drop}
use Rattle.std.proofs.Common.{Result, Ok, Err, IfOk, MatchResult, ap, sym, refl, subst, arith}
use Rattle.std.proofs.lemmas.List.Elements.{All-cons, All-nil, All-weaker}
use Rattle.std.proofs.lemmas.Str.Ascii.{IsAscii-from_all}
use Rattle.std.specs.Str.{IsAscii}
use Rattle.std.specs.Str.Iter.{HasSubslice}
use Rattle.ws_upgrade.specs.Texts.{IsHost, IsPath, IsPathByte, slash}
use Rattle.ws_targets.specs.Places.{IsPlace}
use Rattle.ws_targets.specs.Reading.{IsPlaceAsked, HasParts, IsUrlRead, LacksPlaceAsked, RefusesResource, RefusesUrl, address_at}
use Rattle.ws_targets.specs.Targets.{HasScheme, IsTargetText, IsOfItsKind, IsUrlOf, NamesNoTarget, TargetValue, authority_of, path_of, resource_of}
use Rattle.ws_targets.specs.declared.place.Place.{Place}
use Rattle.ws_targets.specs.declared.target.TargetFault.{TargetFault}
use Rattle.ws_targets.specs.declared.target.TargetFault.TheVariants.{Bad, NoMemory}
use Rattle.ws_targets.proofs.Cuts.{one_place}

pub host_is_ascii : (host : List ℕ) → IsHost host → IsAscii host
host_is_ascii host h =
    IsAscii-from_all host (All-weaker (λ byte. (0x21 ≤ byte) × (byte ≤ 0x7e)) (λ byte. byte < 128) (λ byte is. omega (arith, is.1)) host h.2)

abbrev authority_in : List ℕ → List ℕ
authority_in url = authority_of (drop 5 url)

-- no place is read of the authority, or of a URL with one nothing that can be asked for
pub url_lacks_place : (url authority : List ℕ) → authority ≡ authority_in url → LacksPlaceAsked authority
    → (target : TargetValue) → IsUrlRead url target → ⊥
url_lacks_place url authority e lacks target (is, _, _) =
    subst (λ (l : List ℕ). LacksPlaceAsked l) e lacks is.no_user target.host target.address is.place

url_place : (url authority : List ℕ) (place : Place) (target : TargetValue) → authority ≡ authority_in url
    → IsPlaceAsked authority place → IsUrlOf url target
    → (target.host ≡ place.host.now) × (target.address ≡ address_at place.at_default place.host.now)
url_place url authority place target e read is =
    one_place (authority_in url) target.host target.address place.host.now (address_at place.at_default place.host.now)
    is.place (subst (λ (l : List ℕ). IsPlaceAsked l place) e read).1

pub url_lacks_host : (url authority : List ℕ) (place : Place) → authority ≡ authority_in url → IsPlaceAsked authority place
    → ¬ (IsHost place.host.now) → (target : TargetValue) → IsUrlRead url target → ⊥
url_lacks_host url authority place e read bad target (is, host, _) =
    bad (subst (λ (l : List ℕ). IsHost l) (url_place url authority place target e read is).0 host)

-- the target of a URL whose authority, host and resource were read
pub url_read : (url authority resource host : List ℕ) (place : Place) (result : Result TargetValue TargetFault)
    → HasScheme url → authority ≡ authority_in url
    → resource ≡ resource_of (drop 5 url) → IsPlaceAsked authority place → host ≡ place.host.now → IsHost host
    → IfOk result (λ target. IsHost target.host × IsPath target.path)
    → MatchResult result (HasParts host place.at_default resource) (RefusesResource resource)
    → MatchResult result (IsUrlRead url) (RefusesUrl url)
url_read url authority resource host place (Ok target) scheme e r read h is fits (address, name, path) =
    let own = subst (λ (l : List ℕ). IsPlaceAsked l place) e read in
    let placed : IsPlace (authority_in url) target.host target.address =
    subst (λ (l : List ℕ). IsPlace (authority_in url) l target.address) (sym (name ∙ h))
    (subst (λ (l : List ℕ). IsPlace (authority_in url) place.host.now l)
    (sym (address ∙ ap (λ (l : List ℕ). address_at place.at_default l) h)) own.1) in
    (record { scheme = scheme; no_user = own.0; place = placed; path = path ∙ ap (λ (l : List ℕ). path_of l) r }, fits.0, fits.1)
url_read url authority resource host place (Err Bad) scheme e r read h is fits bad = λ target (url_is, _, path).
    bad (subst (λ (l : List ℕ). IsPath l) (url_is.path ∙ sym (ap (λ (l : List ℕ). path_of l) r)) path)
url_read url authority resource host place (Err NoMemory) scheme e r read h is fits bad = tt

root_is_path : IsPath (slash ∷ [])
root_is_path = (refl, omega arith, All-cons IsPathByte slash [] (omega arith, omega arith, refl) (All-nil IsPathByte))

-- a word without :// is a host and a port
pub plain_read : (text : List ℕ) (result : Result TargetValue TargetFault) → ¬ (HasSubslice text (codes "://")) → IsHost text
    → IfOk result (λ target. IsHost target.host × IsPath target.path)
    → MatchResult result (HasParts text false []) (RefusesResource [])
    → MatchResult result (IsTargetText text) (NamesNoTarget text)
plain_read text (Ok target) plain host fits is = record { kind = inr (plain, is); host = fits.0; path = fits.1 }
plain_read text (Err Bad) plain host fits bad = λ target h. bad root_is_path
plain_read text (Err NoMemory) plain host fits bad = tt

-- a URL is a target with its scheme alone
pub url_is_target : (text : List ℕ) (result : Result TargetValue TargetFault) → HasSubslice text (codes "://")
    → MatchResult result (IsUrlRead text) (RefusesUrl text) → MatchResult result (IsTargetText text) (NamesNoTarget text)
url_is_target text (Ok target) holds is = record { kind = inl (holds, is.0); host = is.1; path = is.2 }
url_is_target text (Err Bad) holds none = λ target h. none target (url_only h.kind, h.host, h.path)
  where
    url_only : {target : TargetValue} → IsOfItsKind text target → IsUrlOf text target
    url_only (inl is) = is.1
    url_only (inr plain) = absurd (plain.0 holds)
url_is_target text (Err NoMemory) holds none = tt

-- a word without :// that is no host names no target
pub plain_lacks : (text : List ℕ) → ¬ (HasSubslice text (codes "://")) → ¬ (IsHost text) → (target : TargetValue)
    → IsTargetText text target → ⊥
plain_lacks text plain bad target h = either h.kind
  where
    either : IsOfItsKind text target → ⊥
    either (inl is) = plain is.0
    either (inr is) = bad (subst (λ (l : List ℕ). IsHost l) is.1.1 h.host)

pub url_lacks_scheme : (url : List ℕ) → ¬ (HasScheme url) → (target : TargetValue) → IsUrlRead url target → ⊥
url_lacks_scheme url bad target (is, _, _) = bad is.scheme
