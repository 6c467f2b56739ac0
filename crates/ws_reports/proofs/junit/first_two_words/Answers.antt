-- There are two spaces or more, one, or none.
use Rattle.std.proofs.Common.{◌≡◌, ◌+◌, length, refl, sym}
use Rattle.ws_reports.proofs.FirstWords.{words_of_one_cut, words_of_two_cuts, words_whole}
use Rattle.ws_reports.proofs.junit.first_two_words.Goals as goal

pub returns-in_default : goal.returns-in_default
returns-in_default c = sym (words_whole c.args.text.now c.in_default.ensures)

pub returns-in-None : goal.returns-in-None
returns-in-None c =
    words_of_one_cut c.args.text.now c.in-Some.first.now c.in-Some.rest.now c.in-Some.ensures c.in-None.ensures

pub returns-in-Some-cut_at : goal.returns-in-Some-cut_at
returns-in-Some-cut_at c =
    words_of_two_cuts c.args.text.now c.in-Some.first.now c.in-Some.rest.now c.in-Some-cut_at.second.now
    c.in-Some-cut_at.field-0-1.now (length c.in-Some.first.now + 1 + length c.in-Some-cut_at.second.now)
    c.in-Some.ensures c.in-Some-cut_at.ensures refl
