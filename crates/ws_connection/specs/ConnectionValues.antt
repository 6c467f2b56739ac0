-- A connection as a tester holds it, as contracts see it.
use Rattle.std.specs.Prelude.{ℕ, Bool, List, Option}
use Rattle.ws_connection.specs.declared.incoming.Incoming.{Incoming}

-- the direction that is read: what the reader has left, where that is known; how its reads stand; whether some read has
-- waited in vain; what its timer has said last of whether it was waited long enough; how many bytes may be read behind
-- the head; and how many calls the reader has got, counted modulo 2^64
pub record InputValue : Type 0 where
  pub left : Option (List ℕ)
  pub state : Incoming
  pub waited : Bool
  pub enough : Bool
  pub allowance : ℕ
  pub calls : ℕ

-- the direction that is written: what the writer holds, where that is known; whether a write has failed; whether the
-- deadline had passed by the last one; whether the direction was ended (a half-close); and how many calls the writer
-- has got, counted modulo 2^64
pub record OutputValue : Type 0 where
  pub held : Option (List ℕ)
  pub failed : Bool
  pub late : Bool
  pub ended : Bool
  pub calls : ℕ

pub record ConnectionValue : Type 0 where
  pub input : InputValue
  pub output : OutputValue

-- a connection before a run and after it
pub record ConnectionRun : Type 0 where
  pub old : ConnectionValue
  pub new : ConnectionValue
