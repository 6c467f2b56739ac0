-- What the event makes certain is shown.
use Rattle.ws_tester.proofs.RecordsEnd.{one_standing_is}
use Rattle.ws_tester.specs.RunStates.{is_nothing, run_left}
use Rattle.ws_shown.proofs.ShownLemmas.{hears_shown, nearer}
use Rattle.ws_shown.proofs.shown_tester.ShownTester.tell.Goals as goal

pub returns-clause-told : goal.returns-clause-told
returns-clause-told c = hears_shown (one_standing_is c.one_list_of_events.ensures) c.args.self.now _ _
    c.in_ok-on_event.ensures.told c.in_ok-show_run.ensures.shows

pub returns-clause-nears : goal.returns-clause-nears
returns-clause-nears c = λ running. nearer (run_left c.on_event.new.self.run) (run_left c.args.self.now.tester.run)
    (is_nothing c.show_run.new.room.parts.bytes.items) (is_nothing c.args.self.now.room.parts.bytes.items)
    (c.in_ok-on_event.ensures.nears running)
