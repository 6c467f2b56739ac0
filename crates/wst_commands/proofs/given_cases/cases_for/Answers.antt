-- Word after word the cases that it stands for are added, and a word that stands for none is the one that is lacking.
use Rattle.std.proofs.Common.{◌∙◌, ap, Bool, true, false, ℕ, List, [], ◌+◌, drop, map, string_bytes, subst}
use Rattle.std.proofs.Common.{take, slice_index_or}
use Rattle.std.specs.Borrow.{Bor}
use Rattle.std.specs.declared.alloc.Global.{Global}
use Rattle.std.specs.declared.string.String.{String}
use Rattle.wst_commands.specs.GivenCases.{GrowsByCases, ids_for, names_of}
use Rattle.wst_commands.proofs.CaseLemmas.{ids_by, lacking, next_cases}
use Rattle.wst_commands.proofs.given_cases.cases_for.Goals as goal

pub returns-then-not-there : goal.returns-then-not-there
returns-then-not-there c =
    let words = c.args.words.now in
    let none : Bor (List ℕ) = record { ref_ptr = (0, 0); now = [] } in
    let i = c.loop-word.word-index in
    let names = c.in_ok-names.names.items in
    let word = slice_index_or words i none in
    let old = c.loop-word.cases.items in
    let new = c.push_cases.new.cases.items in
    let ids = ap (λ (l : List (String Global)). ids_for (map string_bytes l) word.now) c.as_slice.ensures.value
    ∙ ids_by words (map string_bytes names) i none c.loop-word-test.true c.in_ok-names.ensures in
    let not = subst (λ (b : Bool). GrowsByCases (ids_for (map string_bytes c.as_slice.result.now) word.now) b old new)
    c.if-not-there.true c.in_ok-there.ensures in
    record {
      before = names_of (take i words);
      after = names_of (drop (i + 1) words);
      split = lacking words i none c.loop-word-test.true;
      cases = old;
      have = c.loop-word.invariant;
      none = subst (λ (l : List (List ℕ)). GrowsByCases l false old new) ids not;
    }

pub loop-word-preserved : goal.loop-word-preserved
loop-word-preserved c =
    let words = c.args.words.now in
    let none : Bor (List ℕ) = record { ref_ptr = (0, 0); now = [] } in
    let i = c.loop-word.word-index in
    let names = c.in_ok-names.names.items in
    let word = slice_index_or words i none in
    let old = c.loop-word.cases.items in
    let new = c.push_cases.new.cases.items in
    let ids = ap (λ (l : List (String Global)). ids_for (map string_bytes l) word.now) c.as_slice.ensures.value
    ∙ ids_by words (map string_bytes names) i none c.loop-word-test.true c.in_ok-names.ensures in
    let grown = subst (λ (b : Bool). GrowsByCases (ids_for (map string_bytes c.as_slice.result.now) word.now) b old new)
    c.if-not-there.false c.in_ok-there.ensures in
    next_cases words i none old new c.loop-word-test.true c.loop-word.invariant
    (subst (λ (l : List (List ℕ)). GrowsByCases l true old new) ids grown)
