-- An exchange and a call by their parts.
use Rattle.std.proofs.Common.{ℕ, Bool, List}
use Rattle.ws_wire.specs.Frame.{Frame}
use Rattle.ws_session.specs.Exchange.{Exchange}
use Rattle.ws_session.specs.Taking.{TakeCall}

abbrev pub exchange_of : List Frame → List ℕ → Bool → Exchange
exchange_of sent taken ended = record { sent = sent; taken = taken; ended = ended }

abbrev pub call_of : List ℕ → List ℕ → List ℕ → List ℕ → TakeCall
call_of piece key before after = record { piece = piece; key = key; before = before; after = after }
