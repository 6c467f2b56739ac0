-- The words that are cut off one after the other are those of the line, in its order.
use Rattle.std.proofs.Common.{rules, ◌≡◌, ◌++◌, ◌∷◌, []}
use Rattle.ws_formats.proofs.LineWords.{words_further, words_whole}
use Rattle.ws_formats.proofs.words.words_of.Goals as goal

pub loop-word-preserved : goal.loop-word-preserved
loop-word-preserved c =
    let pushed : c.push.new.self.items ≡ c.loop-word.words.items ++ c.in-Some.word ∷ [] = search rules in
    rw pushed (words_further c.loop-word.words.items c.in-Some.word c.in-Some.after.now c.loop-word.rest.now _
    c.loop-word.invariant c.in-Some.ensures.0 c.in-Some.ensures.1)

pub returns : goal.returns
returns c =
    let pushed : c.push-2.new.self.items ≡ c.loop-word.words.items ++ c.loop-word.rest ∷ [] = search rules in
    rw pushed (words_whole c.loop-word.words.items c.loop-word.rest _ c.loop-word.invariant c.in_default.ensures)
