-- The parts of the word are those of one byte and its number, or there is no such word.
use Rattle.std.proofs.Common.{◌≡◌, ◌∙◌, ◌∷◌, [], List, ℕ, ap, arith, codes, length, subst, sym}
use Rattle.std.proofs.lemmas.List.{append_cancel_left}
use Rattle.std.specs.Fmt.{decimal}
use Rattle.ws_formats.specs.Words.{IsHexWord}
use Rattle.ws_formats.proofs.HexWords.{hex_one}
use Rattle.ws_formats.proofs.NumberWords.{number_one}
use Rattle.ws_formats.proofs.PassedUp.{passed_up}
use Rattle.ws_scripts.proofs.ScriptData.{repeated_pair, repeated_rest, repeated_word}
use Rattle.ws_scripts.proofs.script_text.data.read_repeated.Goals as goal

pub returns-then-word-lt2 : goal.returns-then-word-lt2
returns-then-word-lt2 c = λ e bytes h.
    omega (arith, c.if-word-lt2.true, ap (λ (l : List ℕ). length l) (repeated_word bytes c.args.word.now h))

pub returns-in_default : goal.returns-in_default
returns-in_default c = λ e bytes h.
    c.in_default.ensures (decimal h.times) (c.split_at.ensures.back ∙ repeated_rest bytes c.args.word.now h)

pub returns-in_default-read_number : goal.returns-in_default-read_number
returns-in_default-read_number c = λ e bytes h.
    let same : c.in-Some.digits.now ≡ decimal h.times =
    append_cancel_left (codes "*") c.in-Some.digits.now (decimal h.times)
    (sym c.in-Some.ensures ∙ (c.split_at.ensures.back ∙ repeated_rest bytes c.args.word.now h)) in
    c.in_default-read_number.ensures h.times (h.most, same)

pub returns-then-times-eq0 : goal.returns-then-times-eq0
returns-then-times-eq0 c = λ e bytes h.
    let same : c.in-Some.digits.now ≡ decimal h.times =
    append_cancel_left (codes "*") c.in-Some.digits.now (decimal h.times)
    (sym c.in-Some.ensures ∙ (c.split_at.ensures.back ∙ repeated_rest bytes c.args.word.now h)) in
    let number : h.times ≡ c.in-Some-read_number.times =
    number_one 16777216 16777216 h.times c.in-Some-read_number.times c.in-Some.digits.now (omega arith) (omega arith)
    (h.most, same) c.in-Some-read_number.ensures in
    omega (arith, h.some, number, c.if-times-eq0.true)

pub returns-in_err-one : goal.returns-in_err-one
returns-in_err-one c =
    let word = c.args.word.now in
    passed_up (λ (bytes : List ℕ). IsHexWord bytes c.split_at.result.0.now) _ c.from_residual.result
    c.in_err-one.field-0.0 c.from_residual.ensures.1 c.in_err-one.ensures
    (λ bytes h. (
      h.byte ∷ [],
      subst (λ (l : List ℕ). IsHexWord (h.byte ∷ []) l) (sym c.split_at.ensures.front) (repeated_pair bytes word h),
    ))

pub returns-in_default-only_byte : goal.returns-in_default-only_byte
returns-in_default-only_byte c = λ e bytes h.
    let pair = c.split_at.result.0.now in
    let own : IsHexWord (h.byte ∷ []) pair =
    subst (λ (l : List ℕ). IsHexWord (h.byte ∷ []) l) (sym c.split_at.ensures.front)
    (repeated_pair bytes c.args.word.now h) in
    c.in_default-only_byte.ensures h.byte
    (c.as_slice.ensures ∙ hex_one c.in_ok-one.one (h.byte ∷ []) pair c.in_ok-one.ensures own)
