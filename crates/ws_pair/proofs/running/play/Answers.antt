-- A move at the client or at the server is answered as the link asks, and the two ends stand joined as before.
use Rattle.std.proofs.Common.{sym, ◌∙◌}
use Rattle.ws_pair.proofs.Joined.{client_moves, server_moves, acts_at_client, acts_at_server}
use Rattle.ws_pair.proofs.running.play.Goals as goal

pub returns-in_ok-answer-in-Client : goal.returns-in_ok-answer-in-Client
returns-in_ok-answer-in-Client c = λ limits link j.
    let at = sym c.side.ensures ∙ c.in-Client.is in
    client_moves c.session_laws.ensures limits link c.args.next.now c.in_ok-answer-in-Client.answer c.args.client.now c.act.new.self c.args.server.now at j
    (acts_at_client c.args.client.now c.act.new.self _ c.in_ok-answer-in-Client.answer c.args.next.now at c.in_ok-answer-in-Client.ensures.moved limits link c.args.server.now j c.deref.ensures.value)

pub returns-in_ok-answer-in-Server : goal.returns-in_ok-answer-in-Server
returns-in_ok-answer-in-Server c = λ limits link j.
    let at = sym c.side.ensures ∙ c.in-Server.is in
    server_moves c.session_laws.ensures limits link c.args.next.now c.in_ok-answer-in-Server.answer c.args.client.now c.args.server.now c.act-in-Server.new.self at j
    (acts_at_server c.args.server.now c.act-in-Server.new.self _ c.in_ok-answer-in-Server.answer c.args.next.now at c.in_ok-answer-in-Server.ensures.moved limits link c.args.client.now j c.deref-in-Server.ensures.value)
