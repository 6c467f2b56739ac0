-- Word after word: those so far, and those of the rest, are the words of the line.
use Rattle.std.proofs.Common.{◌≡◌, ◌++◌, length, map}
use Rattle.ws_formats.specs.Words.{words_of}
use Rattle.ws_formats.proofs.words.words_of.Given as goal

-- the words so far, and then those of the rest, are the words of the line
abbrev pub invariant-loop-word : goal.invariant-loop-word
invariant-loop-word l = map (λ w. w.now) l.words.items ++ words_of l.rest ≡ words_of l.fn.line

abbrev pub decreases-loop-word : goal.decreases-loop-word
decreases-loop-word l = length l.rest
