-- Nobody has come.
use Rattle.ws_serving.proofs.guests.Guests.new.Goals as goal

pub returns-clause-clients : goal.returns-clause-clients
returns-clause-clients g c =
    let made = c.in_ok-clients.ensures in record {
      taken = made.taken;
      numbers = made.numbers;
      len = made.len;
      known = made.known;
      plays = made.plays;
    }
