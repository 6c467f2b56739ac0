-- An exchange is able to go on: it is done, or is to be read.
use Rattle.std.proofs.Common.{ℕ, zero, suc, Bool, true, false, List, [], refl, inl, inr, arith}
use Rattle.ws_machines.specs.Machines.{HasNext}
use Rattle.ws_machines.specs.Exchanges.{IsExchanged, wanted_by}
use Rattle.test_loops.specs.Noted.{IsAbleNoted}
use Rattle.test_loops.specs.declared.noted_exchange.NotedExchange.{NotedExchange}

has_next : (rest got : List ℕ) (left : ℕ) (over : Bool)
    → HasNext (wanted_by (record { rest = rest; got = got; left = left; over = over }))
has_next rest got left true = inl refl
has_next rest got zero false = inl refl
has_next rest got (suc left) false = inr (inr (inr (inr (omega arith))))

pub able : (x : NotedExchange) → IsExchanged x.exchange x.exchange [] → IsAbleNoted x
able x begins = record {
  running = (x, [], begins);
  goes_on = has_next x.exchange.rest x.exchange.got x.exchange.left x.exchange.over;
}
