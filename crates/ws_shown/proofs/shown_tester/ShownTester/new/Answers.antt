-- What is certain of a tester that begins is shown.
use Rattle.ws_shown.proofs.ShownLemmas.{shown_anew}
use Rattle.ws_shown.proofs.shown_tester.ShownTester.new.Goals as goal

pub returns-clause-shown : goal.returns-clause-shown
returns-clause-shown c = shown_anew c.args.tester c.none-told.result c.show_run.new.told c.args.room
    c.show_run.new.room c.none-told.ensures.whole c.none-told.ensures.sent c.requires.fresh
    c.in_ok-show_run.ensures.shows
