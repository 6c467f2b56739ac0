-- A front of ASCII and the valid bytes behind it are a text; a longer one would be one without that front, too.
use Rattle.std.proofs.Common.{◌≡◌, ◌+◌, ◌-◌, ◌≤◌, ℕ, List, take, drop, arith, inl, inr, sym, subst, take-add}
use Rattle.std.proofs.lemmas.Bool.{cases_lt}
use Rattle.std.proofs.lemmas.List.{length-drop, take_rest}
use Rattle.std.proofs.lemmas.Str.{IsUtf8-from_ascii}
use Rattle.ws_text.specs.Text.{IsText}
use Rattle.ws_text.proofs.Texts.{text_append, text_from_utf8, text_rest}
use Rattle.ws_text.proofs.whole.valid_behind.Goals as goal

pub returns-then-rest-le-HANDFUL-clause-text : goal.returns-then-rest-le-HANDFUL-clause-text
returns-then-rest-le-HANDFUL-clause-text c = text_from_utf8 _ (IsUtf8-from_ascii _ c.requires.front)

pub returns-clause-text : goal.returns-clause-text
returns-clause-text c =
    let bytes = c.args.bytes.now in
    let ascii = c.args.ascii in
    let valid = c.few_valid.result in
    let behind : IsText (take valid (drop ascii bytes)) = subst (λ (l : List ℕ). IsText (take valid l)) (take_rest bytes ascii) c.few_valid.ensures.text in
    subst (λ (l : List ℕ). IsText l) (sym (take-add ascii valid bytes)) (text_append (take ascii bytes) (take valid (drop ascii bytes)) (text_from_utf8 _ (IsUtf8-from_ascii _ c.requires.front)) behind)

-- a text that begins with whole characters is one without them
text_behind : (l : List ℕ) (front len : ℕ) → front ≤ len → IsText (take front l) → IsText (take len l) → IsText (take (len - front) (drop front l))
text_behind l front len within first all =
    let same : front + (len - front) ≡ len = omega (arith, within) in
    text_rest (take front l) (take (len - front) (drop front l)) first
    (subst (λ (m : List ℕ). IsText m) (take-add front (len - front) l) (subst (λ (n : ℕ). IsText (take n l)) (sym same) all))

pub returns-clause-longest : goal.returns-clause-longest
returns-clause-longest c = λ _ len within text.
    let bytes = c.args.bytes.now in
    let ascii = c.args.ascii in
    elim (cases_lt len ascii) [
      | inl shorter ↦ omega (arith, shorter)
      | inr longer ↦
          let rest : len - ascii ≤ c.few_valid.result = c.few_valid.ensures.longest (len - ascii)
          (omega (arith, within, length-drop ascii bytes))
          (subst (λ (l : List ℕ). IsText (take (len - ascii) l)) (sym (take_rest bytes ascii))
          (text_behind bytes ascii len longer (text_from_utf8 _ (IsUtf8-from_ascii _ c.requires.front)) text)) in
          omega (arith, rest, longer)
    ]
