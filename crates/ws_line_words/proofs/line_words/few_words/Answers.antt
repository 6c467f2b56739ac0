-- The words that are cut off one after the other are those of the line, in its order; a line of more than six is told.
use Rattle.std.proofs.Common.{rules, ◌≡◌, ◌∙◌, ◌++◌, List, ℕ, ap, arith, map, take}
use Rattle.std.proofs.lemmas.List.{length-set, length-take-le, take_more_set}
use Rattle.std.specs.Borrow.{Bor}
use Rattle.ws_formats.specs.Words.{words_of}
use Rattle.ws_formats.proofs.LineWords.{words_further, words_whole}
use Rattle.ws_line_words.proofs.ManyWords.{too_many}
use Rattle.ws_line_words.proofs.line_words.few_words.Goals as goal

pub returns-then-len : goal.returns-then-len
returns-then-len c =
    let words = c.loop-word.words in
    let room = c.loop-word.invariant.room in
    let five : c.loop-word.len ≡ 5 = search (rules, arith) in
    too_many (take c.loop-word.len words) c.in-Some.word c.in-Some.after.now c.loop-word.rest.now _
    c.loop-word.invariant.words (length-take-le c.loop-word.len words (omega (arith, room, five)) ∙ five)
    c.in-Some.ensures.0 c.in-Some.ensures.1

pub loop-word-preserved : goal.loop-word-preserved
loop-word-preserved c =
    let words = c.loop-word.words in
    let len = c.loop-word.len in
    let invariant = c.loop-word.invariant in
    let further = words_further (take len words) c.in-Some.word c.in-Some.after.now c.loop-word.rest.now _
    invariant.words c.in-Some.ensures.0 c.in-Some.ensures.1 in
    record {
      few = search (rules, arith);
      room = length-set words len c.in-Some.word ∙ invariant.room;
      words = ap (λ (l : List (Bor (List ℕ))). map (λ w. w.now) l ++ words_of c.in-Some.after.now)
          (take_more_set words len c.in-Some.word (omega (arith, invariant.room, invariant.few))) ∙ further;
    }

pub returns : goal.returns
returns c =
    let words = c.loop-word.words in
    let len = c.loop-word.len in
    let invariant = c.loop-word.invariant in
    ap (λ (l : List (Bor (List ℕ))). map (λ w. w.now) l)
    (take_more_set words len c.loop-word.rest (omega (arith, invariant.room, invariant.few)))
    ∙ words_whole (take len words) c.loop-word.rest _ invariant.words c.in_default.ensures
