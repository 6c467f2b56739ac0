-- A number is read of decimal digits alone: none behind a plus sign or a leading zero, and none above 32 bits.
use Rattle.std.proofs.Common.{rules, ℕ, arith, ◌≡◌, ◌∙◌}
use Rattle.std.proofs.lemmas.Fmt.{parse-decimal}
use Rattle.ws_formats.specs.Reading.{BeginsOddly}
use Rattle.ws_formats.proofs.NumberWords.{number_is_text, number_not_odd, number_read}
use Rattle.ws_formats.proofs.numbers.read_u32.Goals as goal

pub returns-then-begins_oddly : goal.returns-then-begins_oddly
returns-then-begins_oddly c = λ number h. number_not_odd 4294967295 number c.args.word.now (omega arith) h (c.begins_oddly.ensures.0 c.if-begins_oddly.true)

pub returns-in_default : goal.returns-in_default
returns-in_default c = λ number h. c.in_default.ensures.cases.0 (number_is_text 4294967295 number c.args.word.now (omega arith) h)

pub returns-in-Ok-parse : goal.returns-in-Ok-parse
returns-in-Ok-parse c =
    let even : BeginsOddly c.args.word.now → ⊥ = λ odd. search rules in
    number_read ℕ c.args.word.now c.in-Ok.digits.now c.in-Ok-parse.number c.in-Ok.ensures.cases.0 even c.in-Ok-parse.ensures.value.0

pub returns-in-Err : goal.returns-in-Err
returns-in-Err c = λ number h.
    let read : c.parse.result ≡ _ = parse-decimal 32 number c.in-Ok.digits.now c.parse.result (omega (arith, h.0)) (omega (arith, h.0)) (c.in-Ok.ensures.cases.0 ∙ h.1) c.parse.ensures.value.0 in
    let is = c.in-Err.is in
    absurd cc
