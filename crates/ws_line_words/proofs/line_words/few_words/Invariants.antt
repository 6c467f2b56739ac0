-- Word after word: those so far, and those of the rest, are the words of the line.
use Rattle.std.proofs.Common.{◌≡◌, ◌≤◌, ◌++◌, length, map, take}
use Rattle.ws_formats.specs.Words.{words_of}
use Rattle.ws_line_words.proofs.line_words.few_words.Given as goal

-- the words so far stand at the front of the room, and those of the rest behind them are the words of the line
abbrev pub invariant-loop-word : goal.invariant-loop-word
invariant-loop-word l = record {
  few : l.len ≤ 5;
  room : length l.words ≡ 6;
  words : map (λ w. w.now) (take l.len l.words) ++ words_of l.rest ≡ words_of l.fn.line;
}

abbrev pub decreases-loop-word : goal.decreases-loop-word
decreases-loop-word l = length l.rest
