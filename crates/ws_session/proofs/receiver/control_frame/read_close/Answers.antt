-- The payload, unmasked in one step or in two bytes, is what is read.
use Rattle.std.proofs.Common.{◌≡◌, ◌∙◌, ◌+◌, ◌++◌, ◌∷◌, [], length, List, ℕ, Option, MatchResult, ap, sym, subst, arith}
use Rattle.std.proofs.lemmas.Bool.Decides.{nat_tests}
use Rattle.std.specs.Prelude.{slice_index}
use Rattle.std.proofs.lemmas.List.{length-append}
use Rattle.ws_session.specs.Events.{close_in}
use Rattle.ws_session.specs.InnerChecking.{IsFirstInPayload, NoneInPayload}
use Rattle.ws_session.specs.InnerMasked.{masked_from}
use Rattle.ws_session.proofs.MaskedParts.{length-masked_from, list_of_none, list_of_two, masked_from_pair}
use Rattle.ws_session.proofs.receiver.control_frame.read_close.Goals as goal

pub returns-in-len2 : goal.returns-in-len2
returns-in-len2 c = λ opened payload is.
    let h = c.args.header.now in
    let more = c.args.more.now in
    let first = c.unmasked.result in
    let second = c.unmasked-in-len2.result in
    let none : length c.args.before.now ≡ 0 = grind (arith, nat_tests, c.if-is_empty.true, c.is_empty.ensures) in
    let empty : c.args.before.now ≡ [] = list_of_none c.args.before.now none in
    let two : more ≡ slice_index more 0 ∷ slice_index more 1 ∷ [] = list_of_two more c.in-len2.len_at_least c.in-len2.len_below in
    let both : first ∷ second ∷ [] ≡ masked_from c.key-key.result 0 more =
    ap (λ (l : List ℕ). l ++ (second ∷ [])) c.unmasked.ensures
    ∙ ap (λ (l : List ℕ). masked_from c.key-key.result 0 (slice_index more 0 ∷ []) ++ l) c.unmasked-in-len2.ensures
    ∙ sym (masked_from_pair c.key-key.result 0 (slice_index more 0) (slice_index more 1))
    ∙ ap (λ (l : List ℕ). masked_from c.key-key.result 0 l) (sym two) in
    let read : payload ≡ first ∷ second ∷ [] =
    is ∙ ap (λ (l : List ℕ). l ++ masked_from h.key (length l) more) empty
    ∙ ap (λ (k : Option (List ℕ)). masked_from k 0 more) (sym c.key-key.ensures.value)
    ∙ sym both in
    let count : length more ≡ 2 = ap (λ (l : List ℕ). length l) two in
    let size : 2 ≡ h.len = omega (arith, none, count, c.requires.whole) in
    subst (λ (l : List ℕ). MatchResult c.close_of.result (λ close. (close ≡ close_in l) × NoneInPayload opened h l) (λ reason. IsFirstInPayload opened h l (length l) reason)) (sym read)
    (c.close_of.ensures opened h c.requires.opcode size)

pub returns : goal.returns
returns c = λ opened payload is.
    let h = c.args.header.now in
    let before = c.args.before.now in
    let more = c.args.more.now in
    let read : payload ≡ c.as_slice.result.now = is ∙ ap (λ (k : Option (List ℕ)). before ++ masked_from k (length before) more) (sym c.key.ensures.value) ∙ sym (c.as_slice.ensures.bytes ∙ c.whole-payload.ensures) in
    let size : length c.as_slice.result.now ≡ h.len = ap (λ (l : List ℕ). length l) (sym read ∙ is) ∙ length-append before (masked_from h.key (length before) more) ∙ ap (λ n. length before + n) (length-masked_from h.key (length before) more) ∙ c.requires.whole in
    subst (λ (l : List ℕ). MatchResult c.close_of-2.result (λ close. (close ≡ close_in l) × NoneInPayload opened h l) (λ reason. IsFirstInPayload opened h l (length l) reason)) (sym read)
    (c.close_of-2.ensures opened h c.requires.opcode size)
