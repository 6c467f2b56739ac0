-- The parts of the request are those that are given.
use Rattle.ws_connection.proofs.probing.request_text.Goals as goal

pub returns : goal.returns
returns c = rw (c.proved-host.ensures, c.proved-path.ensures, c.proved-offers.ensures, c.proved-added.ensures) at c.in_ok-text.ensures
