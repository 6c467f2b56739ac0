-- An exchange that notes what it is told: it is told what the exchange is, and wants what that wants.
use Rattle.std.specs.Prelude.{List}
use Rattle.ws_machines.specs.Told.{Told}
use Rattle.ws_machines.specs.Machines.{Wants}
use Rattle.ws_machines.specs.Exchanges.{IsExchanged, wanted_by}
use Rattle.ws_loops.specs.Slots.{IsAble}
use Rattle.test_loops.specs.declared.noted_exchange.NotedExchange.{NotedExchange}

abbrev pub noted_agrees : NotedExchange → NotedExchange → List Told → Type 0
noted_agrees start now told = IsExchanged start.exchange now.exchange told

abbrev pub noted_wants : NotedExchange → Wants
noted_wants now = wanted_by now.exchange

-- it is able to go on
abbrev pub IsAbleNoted : NotedExchange → Type 0
IsAbleNoted now = IsAble noted_agrees noted_wants now
