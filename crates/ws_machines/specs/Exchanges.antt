-- An exchange: bytes are written, and what comes is read to the end of the stream.
use Rattle.std.specs.Prelude.{◌≡◌, ℕ, ◌+◌, ◌||◌, Bool, true, false, if◌then◌else◌, nat_eq, List, [], ◌++◌, length}
use Rattle.ws_machines.specs.Told.{Told, all_came, all_taken}
use Rattle.ws_machines.specs.Machines.{Wants}

-- what is still to be written, what came, how many bytes may still be read, and whether the stream has ended or failed
pub record ExchangeValue : Type 0 where
  pub rest : List ℕ
  pub got : List ℕ
  pub left : ℕ
  pub over : Bool

-- it is done where it is over, or nothing more may be read; until then it writes, and reads as much as it may, and
-- waits anew for each thing that happens
abbrev pub wanted_by : ExchangeValue → Wants
wanted_by x = record {
  write = x.rest;
  report = [];
  room = x.left;
  end = false;
  waits_anew = true;
  done = x.over || nat_eq x.left 0;
}

-- each byte that is written or read lowers it, and so does its end
abbrev pub left_in : ExchangeValue → ℕ
left_in x = length x.rest + (x.left + (if x.over then 0 else 1))

-- all that was taken was to be written, in its order, and all that came was got
pub record IsExchanged (start now : ExchangeValue) (told : List Told) : Type 0 where
  pub sent : start.rest ≡ all_taken told ++ now.rest
  pub got : now.got ≡ start.got ++ all_came told

-- of an exchange comes what came
abbrev pub exchange_gives : ExchangeValue → List Told → List ℕ → Type 0
exchange_gives start told end = end ≡ start.got ++ all_came told
