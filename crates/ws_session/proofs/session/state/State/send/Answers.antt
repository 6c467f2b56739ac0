-- Each frame is sent as its kind asks, or refused for the first reason that applies, or at last for want of memory.
use Rattle.std.proofs.Common.{◌∙◌, ap, refl, List, ℕ}
use Rattle.ws_session.specs.declared.outgoing.Outgoing.{Outgoing}
use Rattle.ws_session.specs.Exchange.{SessionValue}
use Rattle.ws_session.specs.Replies.{control_frame}
use Rattle.ws_session.specs.Sends.{Begin, More, Ping, Pong, Close, close_given, send_of}
use Rattle.ws_session.proofs.SendCalls.{first_refusal, last_refusal, frame_sent, begin_frame, ping_fine, pong_fine}
use Rattle.ws_session.proofs.session.state.State.send.Goals as goal

pub returns-in_err-sending-in-Begin-clause-refused : goal.returns-in_err-sending-in-Begin-clause-refused
returns-in_err-sending-in-Begin-clause-refused c =
    first_refusal _ c.args.self.now c.self.view_is c.in_ok-may_send.ensures c.args.frame.now
    (Begin c.in-Begin.kind c.in-Begin.payload.now c.in-Begin.fin) (ap (λ (f : Outgoing). send_of f) c.in-Begin.is)
    c.in_err-sending-in-Begin.field-0.0 c.from_residual-in_err-sending-in-Begin.result
    c.from_residual-in_err-sending-in-Begin.ensures.1 c.in_err-sending-in-Begin.ensures.checked

pub returns-in_err-put-in-Begin-clause-refused : goal.returns-in_err-put-in-Begin-clause-refused
returns-in_err-put-in-Begin-clause-refused c =
    last_refusal _ c.args.self.now c.self.view_is c.in_ok-may_send.ensures c.args.frame.now
    (Begin c.in-Begin.kind c.in-Begin.payload.now c.in-Begin.fin) (ap (λ (f : Outgoing). send_of f) c.in-Begin.is)
    c.in_err-put-in-Begin.field-0.0 c.from_residual-in_err-put-in-Begin.result
    c.from_residual-in_err-put-in-Begin.ensures.1
    (λ opened kept. (c.in_ok-sending-in-Begin.ensures.checked opened kept).fine) c.in_err-put-in-Begin.ensures.kept.0

pub returns-in_ok-put-in-Begin-clause-sent : goal.returns-in_ok-put-in-Begin-clause-sent
returns-in_ok-put-in-Begin-clause-sent c =
    frame_sent _ c.args.self.now c.self.view_is c.in_ok-may_send.ensures c.args.frame.now
    (Begin c.in-Begin.kind c.in-Begin.payload.now c.in-Begin.fin) (ap (λ (f : Outgoing). send_of f) c.in-Begin.is)
    _ _ c.args.key c.args.out.now.items c.put.new.out.items c.in_ok-sending-in-Begin.ensures.checked
    (begin_frame c.in-Begin.kind c.in-Begin.payload.now c.in-Begin.fin c.opcode.result c.opcode.ensures.value)
    c.in_ok-put-in-Begin.ensures.put refl refl refl refl
    (ap (λ (x : SessionValue). x.status) c.self.view_is ∙ c.in_ok-may_send.ensures)

pub returns-in_err-sending-in-More-clause-refused : goal.returns-in_err-sending-in-More-clause-refused
returns-in_err-sending-in-More-clause-refused c =
    first_refusal _ c.args.self.now c.self.view_is c.in_ok-may_send.ensures c.args.frame.now
    (More c.in-More.payload.now c.in-More.fin) (ap (λ (f : Outgoing). send_of f) c.in-More.is)
    c.in_err-sending-in-More.field-0.0 c.from_residual-in_err-sending-in-More.result
    c.from_residual-in_err-sending-in-More.ensures.1 c.in_err-sending-in-More.ensures.checked

pub returns-in_err-put-in-More-clause-refused : goal.returns-in_err-put-in-More-clause-refused
returns-in_err-put-in-More-clause-refused c =
    last_refusal _ c.args.self.now c.self.view_is c.in_ok-may_send.ensures c.args.frame.now
    (More c.in-More.payload.now c.in-More.fin) (ap (λ (f : Outgoing). send_of f) c.in-More.is)
    c.in_err-put-in-More.field-0.0 c.from_residual-in_err-put-in-More.result
    c.from_residual-in_err-put-in-More.ensures.1
    (λ opened kept. (c.in_ok-sending-in-More.ensures.checked opened kept).fine) c.in_err-put-in-More.ensures.kept.0

pub returns-in_ok-put-in-More-clause-sent : goal.returns-in_ok-put-in-More-clause-sent
returns-in_ok-put-in-More-clause-sent c =
    frame_sent _ c.args.self.now c.self.view_is c.in_ok-may_send.ensures c.args.frame.now
    (More c.in-More.payload.now c.in-More.fin) (ap (λ (f : Outgoing). send_of f) c.in-More.is)
    _ _ c.args.key c.args.out.now.items c.put-in-More.new.out.items c.in_ok-sending-in-More.ensures.checked refl
    c.in_ok-put-in-More.ensures.put refl refl refl refl
    (ap (λ (x : SessionValue). x.status) c.self.view_is ∙ c.in_ok-may_send.ensures)

pub returns-in_ok-put-in-Ping-clause-sent : goal.returns-in_ok-put-in-Ping-clause-sent
returns-in_ok-put-in-Ping-clause-sent c =
    frame_sent c.args.self.now c.args.self.now refl c.in_ok-may_send.ensures c.args.frame.now
    (Ping c.in-Ping.payload.now) (ap (λ (f : Outgoing). send_of f) c.in-Ping.is)
    c.args.self.now _ c.args.key c.args.out.now.items c.put-in-Ping.new.out.items
    (λ opened kept. record {
      fine = ping_fine opened c.in-Ping.payload.now c.in_ok-fits_control-in-Ping.ensures;
      sending = kept;
    }) refl c.in_ok-put-in-Ping.ensures.put refl refl refl refl c.in_ok-may_send.ensures

pub returns-in_ok-put-in-Pong-clause-sent : goal.returns-in_ok-put-in-Pong-clause-sent
returns-in_ok-put-in-Pong-clause-sent c =
    frame_sent c.args.self.now c.args.self.now refl c.in_ok-may_send.ensures c.args.frame.now
    (Pong c.in-Pong.payload.now) (ap (λ (f : Outgoing). send_of f) c.in-Pong.is)
    c.args.self.now _ c.args.key c.args.out.now.items c.put-in-Pong.new.out.items
    (λ opened kept. record {
      fine = pong_fine opened c.in-Pong.payload.now c.in_ok-fits_control-in-Pong.ensures;
      sending = kept;
    }) refl c.in_ok-put-in-Pong.ensures.put refl refl refl refl c.in_ok-may_send.ensures

pub returns-in_err-payload-in-Close-clause-refused : goal.returns-in_err-payload-in-Close-clause-refused
returns-in_err-payload-in-Close-clause-refused c =
    first_refusal _ c.args.self.now c.self.view_is c.in_ok-may_send.ensures c.args.frame.now
    (Close (close_given c.in-Close.given)) (ap (λ (f : Outgoing). send_of f) c.in-Close.is)
    c.in_err-payload-in-Close.field-0.0 c.from_residual-in_err-payload-in-Close.result
    c.from_residual-in_err-payload-in-Close.ensures.1
    (λ opened kept. c.in_err-payload-in-Close.ensures.checked opened)

pub returns-in_err-put-in-Close-clause-refused : goal.returns-in_err-put-in-Close-clause-refused
returns-in_err-put-in-Close-clause-refused c =
    last_refusal _ c.args.self.now c.self.view_is c.in_ok-may_send.ensures c.args.frame.now
    (Close (close_given c.in-Close.given)) (ap (λ (f : Outgoing). send_of f) c.in-Close.is)
    c.in_err-put-in-Close.field-0.0 c.from_residual-in_err-put-in-Close.result
    c.from_residual-in_err-put-in-Close.ensures.1
    (λ opened kept. c.in_ok-payload-in-Close.ensures.checked opened) c.in_err-put-in-Close.ensures.kept.0

pub returns-in_ok-put-in-Close-clause-sent : goal.returns-in_ok-put-in-Close-clause-sent
returns-in_ok-put-in-Close-clause-sent c =
    frame_sent _ c.args.self.now c.self.view_is c.in_ok-may_send.ensures c.args.frame.now
    (Close (close_given c.in-Close.given)) (ap (λ (f : Outgoing). send_of f) c.in-Close.is)
    _ _ c.args.key c.args.out.now.items c.put-in-Close.new.out.items
    (λ opened kept. record { fine = c.in_ok-payload-in-Close.ensures.checked opened; sending = kept })
    (ap (λ (l : List ℕ). control_frame 8 l) (c.as_slice.ensures.bytes ∙ c.in_ok-payload-in-Close.ensures.payload))
    c.in_ok-put-in-Close.ensures.put refl refl refl refl refl
