-- Each character is taken off the front, and stands for itself in the payload.
use Rattle.std.proofs.Common.{◌≡◌, ◌++◌, ◌∷◌, [], ◌∙◌, IsUtf8, None, Some, chars, encode_utf8, length, rules, string_bytes}
use Rattle.ws_scripts.specs.InnerQuoting.{front_character}
use Rattle.ws_scripts.proofs.QuotedLemmas.{encoded_more, read_all, read_more, read_stop}
use Rattle.ws_scripts.proofs.script_text.quoted.unescape.Goals as goal

pub returns-in_default : goal.returns-in_default
returns-in_default c = λ e bytes is.
    let i = c.loop-rest.invariant in
    let rest = c.loop-rest.rest.now in
    let none : front_character (chars rest) ≡ None = search rules in
    let some : length rest ≡ 0 → ⊥ = search rules in
    read_stop i.1 (chars c.args.text.now) rest is.0 i.3 i.0 none some is.1

pub loop-rest-preserved : goal.loop-rest-preserved
loop-rest-preserved c =
    let i = c.loop-rest.invariant in
    let after = c.in-Some.after.now in
    let character = c.in-Some.character in
    let front : front_character (chars c.loop-rest.rest.now) ≡ Some (character, chars after) = search rules in
    let pushed : string_bytes c.push.new.self ≡ string_bytes c.loop-rest.payload ++ encode_utf8 character =
    search rules in
    let utf8 : IsUtf8 after = search rules in (
      utf8,
      i.1 ++ character ∷ [],
      encoded_more i.1 character (string_bytes c.loop-rest.payload) (string_bytes c.push.new.self) i.2 pushed,
      read_more i.1 (chars c.args.text.now) (chars c.loop-rest.rest.now) character (chars after) i.3 front,
    )

pub returns : goal.returns
returns c =
    let i = c.loop-rest.invariant in
    let none : length c.loop-rest.rest.now ≡ 0 = search rules in
    let bytes : c.from_vec.result ≡ string_bytes c.loop-rest.payload = search rules in
    (i.1, read_all i.1 (chars c.args.text.now) c.loop-rest.rest.now i.3 none, bytes ∙ i.2)
