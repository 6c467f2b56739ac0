-- Texts of which one more is written, where those that are left follow.
use Rattle.std.proofs.Common.{◌≡◌, ◌∙◌, ℕ, ◌+◌, ◌<◌, List, [], ◌∷◌, ◌++◌, length, drop, get_or, ap, refl, subst, sym}
use Rattle.std.proofs.Common.{append-nil, append_assoc}
use Rattle.std.proofs.lemmas.Grind.{put_two}
use Rattle.std.specs.Fmt.{HasWritten}
use Rattle.std.specs.declared.fmt.Formatter.{Formatter}
use Rattle.ws_runs.proofs.Walks.{rest_first}

-- what is written, with what is left after it, is the whole
abbrev pub Goes : {W : Type 0} → (W → List ℕ → W → Type 0) → Formatter W → Formatter W → List ℕ → List ℕ → Type 0
Goes took f h left whole = (done : List ℕ) × (done ++ left ≡ whole) × HasWritten took f done h

-- one text more
pub text_step : {W : Type 0} (took : W → List ℕ → W → Type 0) (f g h : Formatter W) (left text rest whole : List ℕ)
    → Goes took f g left whole → left ≡ text ++ rest → HasWritten took g text h → Goes took f h rest whole
text_step took f g h left text rest whole before is now = (
  before.0 ++ text,
  append_assoc before.0 text rest ∙ ap (λ (l : List ℕ). before.0 ++ l) (sym is) ∙ before.1,
  put_two took f g h before.0 text (before.0 ++ text) before.2 now refl,
)

-- no text more
pub text_end : {W : Type 0} (took : W → List ℕ → W → Type 0) (f g : Formatter W) (left whole : List ℕ)
    → Goes took f g left whole → left ≡ [] → HasWritten took f whole g
text_end took f g left whole before none =
    subst (λ (l : List ℕ). HasWritten took f l g)
    (sym (append-nil before.0) ∙ sym (ap (λ (l : List ℕ). before.0 ++ l) none) ∙ before.1) before.2

-- one more of texts with a mark between them
pub marked_step : {A W : Type 0} (took : W → List ℕ → W → Type 0) (f g h : Formatter W) (part : A → List ℕ)
    (left : List A → List ℕ → List ℕ) (comma : List ℕ)
    → ((x : A) (xs : List A) (mark : List ℕ) → left (x ∷ xs) mark ≡ mark ++ (part x ++ left xs comma)) → (xs : List A)
    (i : ℕ) (x : A) (mark whole : List ℕ) → i < length xs → x ≡ get_or xs i x
    → Goes took f g (left (drop i xs) mark) whole → HasWritten took g (mark ++ part x) h
    → Goes took f h (left (drop (i + 1) xs) comma) whole
marked_step {A} took f g h part left comma one xs i x mark whole less is before now =
    text_step took f g h (left (drop i xs) mark) (mark ++ part x) (left (drop (i + 1) xs) comma) whole before
    (ap (λ (l : List A). left l mark) (rest_first xs i x less is) ∙ one x (drop (i + 1) xs) mark
    ∙ sym (append_assoc mark (part x) (left (drop (i + 1) xs) comma))) now
