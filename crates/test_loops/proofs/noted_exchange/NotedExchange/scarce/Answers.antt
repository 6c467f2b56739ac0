-- An exchange that has just begun is able to go on.
use Rattle.test_loops.proofs.NotedLemmas.{able}
use Rattle.test_loops.proofs.noted_exchange.NotedExchange.scarce.Goals as goal

pub returns : goal.returns
returns c = record {
  able = able (record { exchange = c.new-exchange.result; told = c.new.result; memory = c.args.memory })
      c.new-exchange.ensures.begins;
  untold = c.new-exchange.ensures.begins;
}
