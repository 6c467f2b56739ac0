-- Of at most sixteen bytes all are shown.
use Rattle.std.proofs.Common.{◌≡◌, ◌≤◌, ◌∙◌, ◌++◌, List, [], ℕ, Bool, ap, append-nil, arith, codes, false, length, nat_lt, sym, take}
use Rattle.std.specs.Prelude.{◌==◌, if◌then◌else◌}
use Rattle.std.proofs.lemmas.Bool.Decides.{nat_tests}
use Rattle.std.proofs.lemmas.List.{take_all}
use Rattle.std.proofs.lemmas.Result.{on_ok_weaker}
use Rattle.ws_formats.specs.Words.{hex}
use Rattle.ws_frame.specs.Lines.{first_word}
use Rattle.ws_frame.proofs.payload_word.put_first.Goals as goal

few_first : (payload : List ℕ) → (length payload == 0) ≡ false → length payload ≤ 16 → first_word payload ≡ hex payload
few_first payload some few =
    let all = hex (take 16 payload) in
    let dots : Bool → List ℕ = λ b. if b then codes ".." else [] in
    let none : nat_lt 16 (length payload) ≡ false = grind (few, arith, nat_tests) in
    ap (λ (b : Bool). if b then codes "-" else all ++ dots (nat_lt 16 (length payload))) some
    ∙ ap (λ (b : Bool). all ++ dots b) none ∙ append-nil all ∙ ap hex (take_all 16 payload few)

pub returns : goal.returns
returns c =
    let payload = c.args.payload.now in
    let line = c.args.line.now.items in
    on_ok_weaker c.put_block-2.result (λ put. put
    ∙ ap (λ (t : List ℕ). line ++ t) (sym (few_first payload (sym c.if-is_empty.ensures)
    (omega (arith, c.if-payload-gt-SHOWN.false))))) c.put_block-2.ensures
