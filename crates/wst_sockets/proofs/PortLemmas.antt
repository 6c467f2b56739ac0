-- An address is cut at its last colon in one way, and so it has at most one host at the port 0. One that can't be told is
-- not listened at.
use Rattle.std.proofs.Common.{◌≡◌, ◌≢◌, ◌∙◌, ℕ, inl, inr, List, [], ◌∷◌, ◌++◌, All, ap, refl, subst, sym, arith, Result, Ok}
use Rattle.std.proofs.Common.{Err, IsErrAnd}
use Rattle.std.specs.Prelude.{MatchResult}
use Rattle.std.proofs.lemmas.List.Elements.{All-cons, All-head, All-same, All-tail}
use Rattle.wst_commands.specs.declared.fault.Fault.{Fault}
use Rattle.wst_commands.specs.declared.fault.ListenFault.TheVariants as listen
use Rattle.wst_sockets.specs.Listening.{AreZeros, CanNotListen, CanNotTell, IsCutAtPort, LacksPort0, SpellsPort0, plus}
use Rattle.wst_sockets.specs.Listening.{port_colon}

abbrev pub NoColon : ℕ → Type 0
NoColon byte = byte ≢ port_colon

none_behind : (front back : List ℕ) → All NoColon (front ++ port_colon ∷ back) → ⊥
none_behind [] back h = All-head NoColon port_colon back h refl
none_behind (x ∷ front) back h = none_behind front back (All-tail NoColon x (front ++ port_colon ∷ back) h)

abbrev rest_of : List ℕ → List ℕ
rest_of [] = []
rest_of (x ∷ xs) = xs

-- what stands behind the last colon is one word
one_word : (front back front' back' : List ℕ) → All NoColon back → All NoColon back'
    → front ++ port_colon ∷ back ≡ front' ++ port_colon ∷ back' → back ≡ back'
one_word [] back [] back' a b e = ap rest_of e
one_word [] back (y ∷ front') back' a b e =
    absurd (none_behind front' back' (All-same NoColon (front' ++ port_colon ∷ back') back (sym (ap rest_of e)) a))
one_word (x ∷ front) back [] back' a b e =
    absurd (none_behind front back (All-same NoColon (front ++ port_colon ∷ back) back' (ap rest_of e) b))
one_word (x ∷ front) back (y ∷ front') back' a b e = one_word front back front' back' a b (ap rest_of e)

zeros_lack_colons : (zeros : List ℕ) → AreZeros zeros → All NoColon zeros
zeros_lack_colons zeros (some, are) k d below wrong = omega (arith, are k d below, wrong)

port_0_lacks_colons : (word : List ℕ) → SpellsPort0 word → All NoColon word
port_0_lacks_colons word (inl zeros) = zeros_lack_colons word zeros
port_0_lacks_colons word (inr (zeros, e, are)) = subst (λ (l : List ℕ). All NoColon l) (sym e)
    (All-cons NoColon plus zeros (λ wrong. omega (arith, wrong)) (zeros_lack_colons zeros are))

-- what stands behind its last colon is not the port 0
pub lacks_port_0 : (address host word : List ℕ) → IsCutAtPort address host word → (SpellsPort0 word → ⊥)
    → LacksPort0 address
lacks_port_0 address host word (e, lacks) other at (zeros, f, is) =
    let same = one_word host word at zeros lacks (port_0_lacks_colons zeros is) (sym e ∙ f) in
    other (subst (λ (l : List ℕ). SpellsPort0 l) (sym same) is)

-- no colon stands in it
pub lacks_ports : (address : List ℕ) → All NoColon address → LacksPort0 address
lacks_ports address lacks at (zeros, f, is) =
    none_behind at zeros (All-same NoColon (at ++ port_colon ∷ zeros) address (sym f) lacks)

-- an address that can't be told is not listened at
pub untold_unheard : {A : Type 0} (P : A → Type 0) (ended : Result A Fault) → IsErrAnd ended CanNotTell
    → MatchResult ended P CanNotListen
untold_unheard P (Ok heard) is = absurd is
untold_unheard P (Err fault) (inl lacks) = inr lacks
untold_unheard P (Err fault) (inr is) = inl (listen.Failed, is)
