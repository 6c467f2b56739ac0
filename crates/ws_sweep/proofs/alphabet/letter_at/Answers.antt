-- The shared steps stand before the last one.
use Rattle.std.proofs.Common.{◌≡◌, ◌∙◌, ◌++◌, ◌∷◌, List, [], ap, sym, length, map, false, get_or, arith}
use Rattle.std.proofs.Math.ListN.{get_or-append}
use Rattle.std.proofs.lemmas.List.{get_or-map, length-map}
use Rattle.std.proofs.lemmas.Option.{unwrap_or-slice_get}
use Rattle.ws_sweep.specs.declared.alphabet.Letter.{Letter}
use Rattle.ws_sweep.specs.declared.alphabet.Sends.TheVariants as sends
use Rattle.ws_sweep.specs.Alphabet.{AlphabetStep, alphabet, letter_row, no_step, shared_steps, wrong_mask}
use Rattle.ws_sweep.proofs.alphabet.letter_at.Goals as goal

-- what the proof's list gives where there is none
nothing : Letter
nothing = record {
  line = record { ref_ptr = (0, 0); now = [] };
  sends = sends.Frame false 0 0 (record { ref_ptr = (0, 0); now = [] });
}

pub returns-then-place-shared : goal.returns-then-place-shared
unfolding nothing
returns-then-place-shared c =
    let letters = c.shared-shared.result.now in
    let steps : List AlphabetStep = map letter_row letters in
    let is : steps ≡ shared_steps = c.shared-shared.ensures in
    let within = c.if-place-shared.true in
    let long : length steps ≡ length letters = length-map letters letter_row in
    sym (get_or-map letter_row letters c.args.place nothing no_step within)
    ∙ (sym (get_or-append steps (wrong_mask c.args.tested ∷ []) no_step c.args.place (omega (arith, within, long)))
    ∙ (ap (λ (l : List AlphabetStep). get_or (l ++ wrong_mask c.args.tested ∷ []) c.args.place no_step) is
    ∙ sym (unwrap_or-slice_get (alphabet c.args.tested) c.args.place no_step)))
