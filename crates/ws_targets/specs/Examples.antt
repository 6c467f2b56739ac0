-- Worked examples of what a word names, each a theorem.
use Rattle.std.specs.Prelude.{◌≡◌, ◌≢◌, ⊤, ℕ, List, [], ◌∷◌, ◌++◌, true, false, All, IsTrue, codes, drop, refl}
use Rattle.std.specs.Prelude.{slice_index_or}
use Rattle.std.proofs.Common.{ap, arith, inl, inr, subst, sym}
use Rattle.std.specs.Fmt.{digits}
use Rattle.ws_targets.specs.Places.{EndsInPort, IsAddress, IsCutAtLastColon, IsPlace, at_sign, closing_bracket, colon}
use Rattle.ws_targets.specs.Places.{has_byte}
use Rattle.ws_targets.specs.Targets.{TargetValue, HasScheme, IsOfItsKind, IsTargetText, authority_of}
use Rattle.ws_targets.specs.Targets.{begins_with_wss, connected_at, path_of, resource_of}
use Rattle.ws_targets.specs.Advice.{Advises}
use Rattle.ws_targets.specs.declared.advice.Advice.TheVariants.{Port, User, Web}

-- what is computed at numbers that are written out
unfoldable on_numbers : ⊤
unfolding digits
on_numbers = tt

-- ---- places

-- the byte at a place of a list, or 0
abbrev at : ℕ → List ℕ → ℕ
at place bytes = slice_index_or bytes place 0

no_colon_in_a : (front back : List ℕ) → codes "a" ≡ front ++ colon ∷ back → ⊥
no_colon_in_a [] back wrong = omega (arith, ap (at 0) wrong)
no_colon_in_a (x ∷ front) back wrong = no_end front (ap (drop 1) wrong)
  where
    no_end : (front : List ℕ) → [] ≡ front ++ colon ∷ back → ⊥
    no_end [] wrong = cc
    no_end (x ∷ front) wrong = cc

-- the port 80 where none is named
pub no_port : IsPlace (codes "a") (codes "a") (codes "a:80")
no_port = inl ((λ front back cut. absurd (no_colon_in_a front back cut.0)), refl, refl)

abbrev NoColons : List ℕ → Type 0
NoColons bytes = All (λ byte. byte ≢ colon) bytes

cut_in_brackets : (front back : List ℕ) → IsCutAtLastColon (codes "[::1]") front back
    → IsTrue (has_byte closing_bracket back)
cut_in_brackets [] back cut = absurd (omega (arith, ap (at 0) cut.0))
cut_in_brackets (a ∷ []) back cut =
    absurd (subst NoColons (sym (ap (drop 2) cut.0)) cut.1 0 0 (omega arith) refl)
cut_in_brackets (a ∷ b ∷ []) back cut =
    subst (λ (l : List ℕ). IsTrue (has_byte closing_bracket l)) (ap (drop 3) cut.0) refl
cut_in_brackets (a ∷ b ∷ c ∷ []) back cut = absurd (omega (arith, ap (at 3) cut.0))
cut_in_brackets (a ∷ b ∷ c ∷ d ∷ []) back cut = absurd (omega (arith, ap (at 4) cut.0))
cut_in_brackets (a ∷ b ∷ c ∷ d ∷ e ∷ front) back cut = absurd (no_end front (ap (drop 5) cut.0))
  where
    no_end : (front : List ℕ) → [] ≡ front ++ colon ∷ back → ⊥
    no_end [] wrong = cc
    no_end (x ∷ front) wrong = cc

-- and so behind the brackets of an address of version 6, whose own colons name no port
pub no_port_of_version_6 : IsPlace (codes "[::1]") (codes "[::1]") (codes "[::1]:80")
no_port_of_version_6 = inl (cut_in_brackets, refl, refl)

-- the port 80 is connected to, and isn't told to the server
pub default_port : IsPlace (codes "a:80") (codes "a") (codes "a:80")
unfolding on_numbers
default_port = inr (inl ((omega arith, (codes "80", refl, (omega arith, refl))), refl))

-- another port is told
pub other_port : IsPlace (codes "a:8080") (codes "a:8080") (codes "a:8080")
unfolding on_numbers
other_port =
    let at_8080 : EndsInPort (codes "a:8080") (codes "a") 8080 =
    (omega arith, (codes "8080", refl, (omega arith, refl))) in
    inr (inr (codes "a", 8080, at_8080, (λ e. omega (arith, e)), refl, refl))

-- an address of version 6 with a port can be connected to
pub address_of_version_6 : IsAddress (codes "[::1]:9001")
unfolding on_numbers
address_of_version_6 = (
  (omega arith, omega arith, λ k d below. (grind arith, grind arith)),
  (codes "[::1]", 9001, (omega arith, (codes "9001", refl, (omega arith, refl)))),
)

-- ---- URLs

-- the scheme in any case, and nothing that only begins or ends so
pub scheme_in_both_cases : HasScheme (codes "wS://a")
scheme_in_both_cases = refl

pub no_scheme_that_ends_so : ¬ (HasScheme (codes "xws://a"))
no_scheme_that_ends_so wrong = cc

-- the authority ends at the first of / ? #
pub authority : authority_of (drop 5 (codes "WS://a:1/b:2")) ≡ codes "a:1"
authority = refl

-- a user stands in the authority, an @ behind it is one of the path
pub user : IsTrue (has_byte at_sign (authority_of (drop 5 (codes "ws://me@a/"))))
user = refl

pub at_sign_in_a_path : has_byte at_sign (authority_of (drop 5 (codes "ws://a/b@c"))) ≡ false
at_sign_in_a_path = refl

-- a query alone is asked for behind a slash, and nothing as a slash
pub query_alone : path_of (resource_of (drop 5 (codes "ws://a?b=c/d"))) ≡ codes "/?b=c/d"
query_alone = refl

pub no_path : path_of (resource_of (drop 5 (codes "ws://a"))) ≡ codes "/"
no_path = refl

-- a fragment stays where it is, and no path has one
pub fragment : path_of (resource_of (drop 5 (codes "ws://a/b#c"))) ≡ codes "/b#c"
fragment = refl

-- ---- words

-- what is connected to, and what is asked for, of a URL with a URL in its query
abbrev of_a_query : TargetValue
of_a_query = record { address = codes "a:80"; host = codes "a"; path = codes "/?://b@c" }

pub url_in_a_query : IsTargetText (codes "ws://a?://b@c") of_a_query
url_in_a_query = record {
  kind = inl (
    (codes "ws", codes "a?://b@c", refl),
    record {
      scheme = refl;
      no_user = λ wrong. cc;
      place = no_port;
      path = refl;
    },
  );
  host = (omega arith, omega arith, λ k d below. (grind arith, grind arith));
  path = (refl, omega arith, λ k d below. grind arith);
}

lacks_scheme : ¬ (HasScheme (codes "a:1/?to=ws://b"))
lacks_scheme wrong = cc

-- a word whose :// stands in a query alone is a URL too, and one that lacks the scheme
pub no_target_before_a_query : (target : TargetValue) → ¬ (IsTargetText (codes "a:1/?to=ws://b") target)
no_target_before_a_query target wrong = of_kind wrong.kind
  where
    of_kind : ¬ (IsOfItsKind (codes "a:1/?to=ws://b") target)
    of_kind (inl (_, url)) = lacks_scheme url.scheme
    of_kind (inr (none, _)) = none (codes "a:1/?to=ws", codes "b", refl)

-- a connection is made elsewhere, and what is asked for stays
pub elsewhere : connected_at (codes "b:9001") of_a_query
    ≡ record { address = codes "b:9001"; host = codes "a"; path = codes "/?://b@c" }
elsewhere = refl

-- a URL whose connection is encrypted, in any case, and one that isn't
pub encrypted : begins_with_wss (codes "WsS://a") ≡ true
encrypted = refl

pub not_encrypted : begins_with_wss (codes "ws://wss:") ≡ false
not_encrypted = refl

-- ---- what is wrong with a word

-- the URL of a page, in any case
pub page : Advises (codes "HTTPs://me@a:/") Web
page = refl

-- a user is told before a port that is left out
pub user_before_port : Advises (codes "ws://me@a:/") User
user_before_port = (refl, refl)

-- a port that is left out behind its colon, though a colon stands in the path too
pub port_left_out : Advises (codes "ws://a:/b:1") Port
port_left_out =
    (refl, (λ wrong. cc, (codes "a", [], (refl, λ k d below. absurd (omega (arith, below))), inl refl)))
