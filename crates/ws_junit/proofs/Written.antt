-- What is written, where what is left follows.
use Rattle.std.proofs.Common.{◌≡◌, ◌∙◌, ℕ, ◌+◌, ◌<◌, List, [], ◌∷◌, ◌++◌, length, take, get_or, ap, arith, refl, subst, sym}
use Rattle.std.proofs.Common.{append-nil, append_assoc}
use Rattle.std.proofs.lemmas.Grind.{flat_map-append, put_two}
use Rattle.std.proofs.lemmas.List.{take_more}
use Rattle.std.proofs.lemmas.Str.{chars-nil}
use Rattle.std.specs.Fmt.{HasWritten}
use Rattle.std.specs.List.{flat_map}
use Rattle.std.specs.Str.{chars}
use Rattle.std.specs.declared.fmt.Formatter.{Formatter}

-- what is written, with what is left after it, is the whole
abbrev pub Goes : {W : Type 0} → (W → List ℕ → W → Type 0) → Formatter W → Formatter W → List ℕ → List ℕ → Type 0
Goes took f h left whole = (done : List ℕ) × (done ++ left ≡ whole) × HasWritten took f done h

-- one text more
pub text_step : {W : Type 0} (took : W → List ℕ → W → Type 0) (f g h : Formatter W) (left text rest whole : List ℕ)
    → Goes took f g left whole → left ≡ text ++ rest → HasWritten took g text h → Goes took f h rest whole
text_step took f g h left text rest whole before is now = (
  before.0 ++ text,
  append_assoc before.0 text rest ∙ ap (λ (l : List ℕ). before.0 ++ l) (sym is) ∙ before.1,
  put_two took f g h before.0 text (before.0 ++ text) before.2 now refl,
)

-- no text more
pub text_end : {W : Type 0} (took : W → List ℕ → W → Type 0) (f g : Formatter W) (left whole : List ℕ)
    → Goes took f g left whole → left ≡ [] → HasWritten took f whole g
text_end took f g left whole before none =
    subst (λ (l : List ℕ). HasWritten took f l g)
    (sym (append-nil before.0) ∙ sym (ap (λ (l : List ℕ). before.0 ++ l) none) ∙ before.1) before.2

-- nothing left has no characters
pub no_characters : (bytes : List ℕ) → length bytes ≡ 0 → chars bytes ≡ []
no_characters [] none = chars-nil
no_characters (byte ∷ bytes) none = absurd (omega (arith, none))

-- the texts of the elements so far, and one more
pub written_more : {A W : Type 0} (took : W → List ℕ → W → Type 0) (f g h : Formatter W) (show : A → List ℕ)
    (xs : List A) (i : ℕ) (x : A) → i < length xs → x ≡ get_or xs i x
    → HasWritten took f (flat_map show (take i xs)) g → HasWritten took g (show x) h
    → HasWritten took f (flat_map show (take (i + 1) xs)) h
written_more {A} took f g h show xs i x less is before now =
    put_two took f g h (flat_map show (take i xs)) (show x) (flat_map show (take (i + 1) xs)) before now
    (ap (λ (l : List ℕ). flat_map show (take i xs) ++ l) (sym (append-nil (show x)))
    ∙ sym (flat_map-append show (take i xs) (x ∷ []))
    ∙ ap (flat_map show) (ap (λ (y : A). take i xs ++ y ∷ []) is ∙ sym (take_more xs i x less)))
