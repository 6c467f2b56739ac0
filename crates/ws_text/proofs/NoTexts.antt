-- Worked examples of what is no text, beside those of specs/Examples.antt.
use Rattle.std.proofs.Common.{◌≤◌, [], ◌∷◌, refl, arith, inl, lit≤}
use Rattle.ws_text.specs.Text.{BeginsText}
use Rattle.ws_text.specs.Stream.{BreaksTextAt}
use Rattle.ws_text.proofs.Characters.{is_second, not_first}
use Rattle.ws_text.proofs.UnfinishedCharacters.{one_unfinished}
use Rattle.ws_text.proofs.Texts.{no_text, unfinished_alone, begins_of_unfinished, unfinished_of_text}
use Rattle.ws_text.proofs.Pieces.{stops}

-- nothing goes on with the first half of a surrogate
no_surrogate : ¬ BeginsText (0xed ∷ 0xa0 ∷ [])
no_surrogate = stops (0xed ∷ []) (0xed ∷ []) 0xa0 (unfinished_alone (0xed ∷ []) (one_unfinished 0xed (lit≤ tt) (lit≤ tt)))
    (λ begun. let past : 0xa0 ≤ 0x9f = (is_second 0xed 0xa0 (lit≤ tt) begun).ed refl in omega arith)

-- a slash in two bytes begins nothing
no_long_slash : ¬ BeginsText (0xc0 ∷ [])
no_long_slash = stops [] [] 0xc0 (unfinished_of_text [] no_text) (not_first 0xc0 (lit≤ tt) (inl (lit≤ tt)))

-- behind f4 the byte 90 would be past the last character, and the fault stands there
past_the_last : BreaksTextAt [] (0xf4 ∷ 0x90 ∷ 0x80 ∷ []) 1
past_the_last =
    let first = unfinished_alone (0xf4 ∷ []) (one_unfinished 0xf4 (lit≤ tt) (lit≤ tt)) in
    record {
      within = lit≤ tt;
      before = begins_of_unfinished (0xf4 ∷ []) (0xf4 ∷ []) first;
      after = stops (0xf4 ∷ []) (0xf4 ∷ []) 0x90 first (λ begun. let past : 0x90 ≤ 0x8f = (is_second 0xf4 0x90 (lit≤ tt) begun).f4 refl in omega arith);
    }
