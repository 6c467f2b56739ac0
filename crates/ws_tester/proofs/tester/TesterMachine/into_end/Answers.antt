-- What comes of a machine that is done is what is recorded.
use Rattle.ws_tester.proofs.RecordsEnd.{end_recorded}
use Rattle.ws_tester.proofs.tester.TesterMachine.into_end.Goals as goal

pub returns : goal.returns
returns c = λ start told h. end_recorded c.one_list_of_events.ensures start.run c.args.self.run told
    c.in_ok-transcript.transcript c.requires c.in_ok-transcript.ensures.turns c.in_ok-transcript.ensures.ended h.0
