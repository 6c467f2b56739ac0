-- What was got in turns, one after the other: with one turn more, and from a place on.
use Rattle.std.proofs.Common.{◌≡◌, ◌∙◌, ◌-◌, ◌↔◌, ℕ, List, [], ◌∷◌, ◌++◌, length, drop, Bool, false, true, Option, sym, ap, append_assoc, append-nil}
use Rattle.std.specs.Prelude.{IsTrue, MatchOption, None, Some, is_some}
use Rattle.std.specs.List.{concat}
use Rattle.ws_scripts.specs.declared.transcript.Turn.{Turn}
use Rattle.ws_suite.specs.Evidence.{got_turns}
use Rattle.ws_suite.proofs.TurnBytes.{drop_more}

-- one turn more of those that are left
pub got_more : (bytes : List ℕ) (rest later all : List Turn) (turn : Turn) → rest ≡ turn ∷ later
    → bytes ++ concat (got_turns rest) ≡ concat (got_turns all)
    → (bytes ++ turn.got) ++ concat (got_turns later) ≡ concat (got_turns all)
got_more bytes rest later all turn parts is = append_assoc bytes turn.got (concat (got_turns later))
    ∙ (ap (λ (l : List Turn). bytes ++ concat (got_turns l)) (sym parts) ∙ is)

-- none is left
pub got_all : (bytes : List ℕ) (rest all : List Turn) → length rest ≡ 0
    → bytes ++ concat (got_turns rest) ≡ concat (got_turns all) → bytes ≡ concat (got_turns all)
got_all bytes [] all none is = sym (append-nil bytes) ∙ is
got_all bytes (turn ∷ later) all none is = absurd cc

-- what is put behind the bytes from a place on
pub put_more : (place left : ℕ) (before piece more old new : List ℕ) → old ≡ drop place before
    → left ≡ place - length before → piece ≡ more → new ≡ old ++ drop left piece → new ≡ drop place (before ++ more)
put_more place left before piece more old new was is same put = put
    ∙ (ap (λ (l : List ℕ). l ++ drop left piece) was
    ∙ (ap (λ (n : ℕ). drop place before ++ drop n piece) is
    ∙ (ap (λ (l : List ℕ). drop place before ++ drop (place - length before) l) same
    ∙ sym (drop_more place before more))))

-- whether there is a code
pub some_code : (code : Option ℕ) (Fails : ℕ → Type 0) (answer : Bool) → answer ≡ is_some code
    → MatchOption code ((n : ℕ) → Fails n → ⊥) Fails → (IsTrue answer ↔ ((n : ℕ) × Fails n))
some_code None Fails answer e none = (
  λ so. absurd (let wrong : false ≡ true = sym e ∙ so in cc),
  λ h. absurd (none h.0 h.1),
)
some_code (Some n) Fails answer e fails = (λ so. (n, fails), λ h. e)
