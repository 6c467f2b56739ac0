-- Nobody has come at first, and then clients are served.
use Rattle.std.proofs.Common.{◌≡◌, ◌∙◌, ap, subst, sym}
use Rattle.ws_serving.specs.InnerGuests.{IsUnserved}
use Rattle.ws_serving.specs.Serving.{ServesAll}
use Rattle.ws_serving.specs.declared.guests.Service.{Service}
use Rattle.ws_serving.proofs.serving.serve_clients.Goals as goal

pub serve_all-end-requires-clause-ready : goal.serve_all-end-requires-clause-ready
serve_all-end-requires-clause-ready g c =
    let made = c.in_ok-guests in record {
      counted = made.ensures.listener.1 ∙ ap (λ (s : Service). s.count) (sym made.ensures.service);
      clients = subst (λ (s : Service). IsUnserved s made.guests.clients) (sym made.ensures.service)
          made.ensures.clients;
    }

pub returns-clause-serves : goal.returns-clause-serves
returns-clause-serves g c =
    let made = c.in_ok-guests in
    subst (λ (l : g.row.L.Denot). ServesAll g.L.Client.NonBlocking.did g.L.Listener.did g.E.NewsSink.heard
    g.E.NewsSink.refused c.args.service.now l c.args.sink.now c.serve_all-end.new.sink c.serve_all-end.result)
    made.ensures.listener.0
    (subst (λ (s : Service). ServesAll g.L.Client.NonBlocking.did g.L.Listener.did g.E.NewsSink.heard
    g.E.NewsSink.refused s made.guests.listener.listener c.args.sink.now c.serve_all-end.new.sink
    c.serve_all-end.result) made.ensures.service c.serve_all-end.ensures.serves)
