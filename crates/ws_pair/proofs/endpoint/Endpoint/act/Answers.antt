-- Whichever move is made at an end of a link, its answer and the end after it are those of the move.
use Rattle.std.proofs.Common.{ℕ, List, ap, sym, subst}
use Rattle.ws_session.specs.Sends as send
use Rattle.ws_pair.specs.declared.moves.Move.{Move}
use Rattle.ws_pair.specs.declared.moves.Move.TheVariants.{Begin, More, Ping, Pong, Close}
use Rattle.ws_pair.specs.declared.report.Answer.TheVariants as outcome
use Rattle.ws_pair.specs.Link.{other, role_at, end_of, limits_at}
use Rattle.ws_pair.proofs.Acting.{Acts, ActsIfOk, sends_act, arrive_acts, cut_acts}
use Rattle.ws_pair.proofs.endpoint.Endpoint.act.Goals as goal

pub returns-in-Begin : goal.returns-in-Begin
returns-in-Begin c = record {
  moved = subst (λ (m : Move). ActsIfOk c.args.self.now c.send.new.self c.args.others.now c.send.result m) (sym c.in-Begin.is)
      (sends_act c.args.self.now c.send.new.self c.args.others.now c.send.result (Begin c.in-Begin.side c.in-Begin.kind c.in-Begin.payload c.in-Begin.fin c.in-Begin.key) (send.Begin c.in-Begin.kind c.in-Begin.payload c.in-Begin.fin) _ c.in-Begin.key (ap (λ (l : List ℕ). send.Begin c.in-Begin.kind l c.in-Begin.fin) c.as_slice.ensures) (λ limits link after answer h. h) c.send.ensures);
}

pub returns-in-More : goal.returns-in-More
returns-in-More c = record {
  moved = subst (λ (m : Move). ActsIfOk c.args.self.now c.send-in-More.new.self c.args.others.now c.send-in-More.result m) (sym c.in-More.is)
      (sends_act c.args.self.now c.send-in-More.new.self c.args.others.now c.send-in-More.result (More c.in-More.side c.in-More.payload c.in-More.fin c.in-More.key) (send.More c.in-More.payload c.in-More.fin) _ c.in-More.key (ap (λ (l : List ℕ). send.More l c.in-More.fin) c.as_slice-in-More.ensures) (λ limits link after answer h. h) c.send-in-More.ensures);
}

pub returns-in-Ping : goal.returns-in-Ping
returns-in-Ping c = record {
  moved = subst (λ (m : Move). ActsIfOk c.args.self.now c.send-in-Ping.new.self c.args.others.now c.send-in-Ping.result m) (sym c.in-Ping.is)
      (sends_act c.args.self.now c.send-in-Ping.new.self c.args.others.now c.send-in-Ping.result (Ping c.in-Ping.side c.in-Ping.payload c.in-Ping.key) (send.Ping c.in-Ping.payload) _ c.in-Ping.key (ap (λ (l : List ℕ). send.Ping l) c.as_slice-in-Ping.ensures) (λ limits link after answer h. h) c.send-in-Ping.ensures);
}

pub returns-in-Pong : goal.returns-in-Pong
returns-in-Pong c = record {
  moved = subst (λ (m : Move). ActsIfOk c.args.self.now c.send-in-Pong.new.self c.args.others.now c.send-in-Pong.result m) (sym c.in-Pong.is)
      (sends_act c.args.self.now c.send-in-Pong.new.self c.args.others.now c.send-in-Pong.result (Pong c.in-Pong.side c.in-Pong.payload c.in-Pong.key) (send.Pong c.in-Pong.payload) _ c.in-Pong.key (ap (λ (l : List ℕ). send.Pong l) c.as_slice-in-Pong.ensures) (λ limits link after answer h. h) c.send-in-Pong.ensures);
}

pub returns-in-Close : goal.returns-in-Close
returns-in-Close c = record {
  moved = subst (λ (m : Move). ActsIfOk c.args.self.now c.send-in-Close.new.self c.args.others.now c.send-in-Close.result m) (sym c.in-Close.is)
      (sends_act c.args.self.now c.send-in-Close.new.self c.args.others.now c.send-in-Close.result (Close c.in-Close.side c.in-Close.given c.in-Close.key) (send.Close (send.close_owned c.in-Close.given)) _ c.in-Close.key (c.close.ensures) (λ limits link after answer h. h) c.send-in-Close.ensures);
}

pub returns-in_ok-count-in-Arrive : goal.returns-in_ok-count-in-Arrive
returns-in_ok-count-in-Arrive c = record {
  moved = subst (λ (m : Move). Acts c.args.self.now c.arrive.new.self c.args.others.now (outcome.Arrived c.in_ok-count-in-Arrive.count) m) (sym c.in-Arrive.is)
      (arrive_acts c.args.self.now c.arrive.new.self c.args.others.now c.in-Arrive.side c.in-Arrive.bytes c.in_ok-count-in-Arrive.count c.in-Arrive.key c.in_ok-count-in-Arrive.ensures.count
      (λ limits link is peers all. c.in_ok-count-in-Arrive.ensures.arrived (role_at c.in-Arrive.side) (limits_at limits c.in-Arrive.side) (end_of link c.in-Arrive.side) (end_of link (other c.in-Arrive.side)).sent is peers all));
}

pub returns-in-Cut : goal.returns-in-Cut
returns-in-Cut c = record {
  moved = subst (λ (m : Move). Acts c.args.self.now c.cut.new.self c.args.others.now _ m) (sym c.in-Cut.is)
      (cut_acts c.args.self.now c.cut.new.self c.args.others.now c.in-Cut.side (λ limits link is. c.cut.ensures (role_at c.in-Cut.side) (limits_at limits c.in-Cut.side) (end_of link c.in-Cut.side) (end_of link (other c.in-Cut.side)).sent is));
}
