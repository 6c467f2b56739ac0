-- What is wrong with a URL is what is wrong with its authority, and that is looked for behind its last colon.
use Rattle.std.proofs.Common.{◌≡◌, ℕ, List, All, IsTrue, drop, subst, sym}
use Rattle.ws_targets.specs.Advice.{Advises, AdvisesUrl, HasBadPort, IsNoPort, begins_as_web}
use Rattle.ws_targets.specs.Places.{IsCutAtLastColon}
use Rattle.ws_targets.specs.Targets.{HasScheme, authority_of, begins_with_wss}
use Rattle.ws_targets.specs.declared.advice.Advice.{Advice}
use Rattle.ws_targets.specs.declared.advice.Advice.TheVariants.{Encrypted, Fragment, Nothing, Port}
use Rattle.ws_targets.specs.declared.advice.Advice.TheVariants.{Unencoded, Url, User, Web}
use Rattle.ws_targets.proofs.Cuts.{NoColon, lacks_cut, one_cut}

-- what is wrong with a URL is wrong with the word
pub advised_url : (word url authority : List ℕ) (given : Advice) → ¬ (IsTrue (begins_with_wss word))
    → ¬ (IsTrue (begins_as_web word)) → HasScheme word → url ≡ word → authority ≡ authority_of (drop 5 word)
    → AdvisesUrl url authority given → Advises word given
advised_url word url authority given no_tls no_page scheme same e is =
    by given (subst (λ (l : List ℕ). AdvisesUrl word l given) e
    (subst (λ (l : List ℕ). AdvisesUrl l authority given) same is))
  where
    by : (given : Advice) → AdvisesUrl word (authority_of (drop 5 word)) given → Advises word given
    by Encrypted wrong = absurd wrong.1
    by Web wrong = absurd wrong.1
    by Url wrong = wrong.1
    by User is = (scheme, is)
    by Port is = (scheme, is)
    by Unencoded is = (scheme, is)
    by Fragment is = (scheme, is)
    by Nothing is = (no_tls, no_page, λ _. is)

-- a word without the scheme has no authority with which something could be wrong
pub advised_word : (word : List ℕ) → ¬ (IsTrue (begins_with_wss word)) → ¬ (IsTrue (begins_as_web word))
    → ¬ (HasScheme word) → Advises word Nothing
advised_word word no_tls no_page none = (no_tls, no_page, λ scheme. absurd (none scheme))

-- there is one last colon, behind which the port is bad or isn't
pub bad_port_at : (authority front word : List ℕ) → IsCutAtLastColon authority front word
    → (IsNoPort word → HasBadPort authority) × (HasBadPort authority → IsNoPort word)
bad_port_at authority front word cut = (
  (λ bad. (front, word, cut, bad)),
  λ (other, port, is, bad). subst (λ (l : List ℕ). IsNoPort l) (sym (one_cut authority front word other port cut is).1) bad,
)

pub no_bad_port : (authority : List ℕ) → All NoColon authority → ¬ (HasBadPort authority)
no_bad_port authority none (front, word, cut, bad) = lacks_cut authority front word none cut
