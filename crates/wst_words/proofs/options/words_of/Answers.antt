-- The words by `clap` are those of the rows, and none where the argument was not met.
use Rattle.std.proofs.Common.{◌≡◌, ◌∙◌, ap, map, sym, List, [], Option, Some, None, unwrap_or}
use Rattle.std.specs.Borrow.{Bor}
use Rattle.clap.proofs.WalkLemmas.{raw_values-rows}
use Rattle.clap.specs.Words.{Text, all_of, found_of, rows_of}
use Rattle.wst_words.proofs.options.words_of.Goals as goal

pub returns-in_ok-words-in-Some : goal.returns-in_ok-words-in-Some
returns-in_ok-words-in-Some c =
    let found = found_of c.args.options.now in
    let there : all_of c.args.name.now (rows_of found) ≡
    Some (map (λ (word : Bor Text). word.now) c.in-Some.words.now) =
    sym (raw_values-rows found c.args.name.now) ∙ sym c.in-Some.ensures in
    let copied : c.in_ok-words-in-Some.words.items ≡ c.in-Some.words.now =
    c.in_ok-words-in-Some.ensures.items_if_clones_equal (λ x y same. same) in
    ap (λ (l : List (Bor Text)). map (λ word. word.now) l) copied
    ∙ sym (ap (λ (o : Option (List Text)). unwrap_or o []) there)

pub returns-in-None : goal.returns-in-None
returns-in-None c =
    let found = found_of c.args.options.now in
    let nothing : all_of c.args.name.now (rows_of found) ≡ None =
    sym (raw_values-rows found c.args.name.now) ∙ sym c.in-None.ensures in
    ap (λ (l : List (Bor Text)). map (λ word. word.now) l) c.new.ensures.items
    ∙ sym (ap (λ (o : Option (List Text)). unwrap_or o []) nothing)
