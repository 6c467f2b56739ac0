-- Pieces fed one after the other to a new session give the events, the replies and the status of the joined bytes.
use Rattle.std.proofs.Common.{◌∙◌, ◌++◌, List, [], ℕ, ap, sym, subst, arith, take, Vec, Global}
use Rattle.std.proofs.lemmas.List.{take_all}
use Rattle.ws_session.specs.declared.event.PlacedEvent.{PlacedEvent}
use Rattle.ws_session.specs.Taking.{events_in}
use Rattle.ws_session.specs.Exchange.{joined_pieces}
use Rattle.ws_session.proofs.FedPieces.{HasFed, fed_nothing, fed_more, joined_more, fed_events, fed_put, fed_status}
use Rattle.ws_session.proofs.feeding.feed_all.Goals as goal

pub loop-piece-init : goal.loop-piece-init
loop-piece-init c =
    subst (λ (told : List PlacedEvent). HasFed c.args.role c.args.limits c.args.key c.new-session.result (events_in told) c.new-put.result.items []) (sym c.new-told.ensures.items)
    (subst (λ (l : List ℕ). HasFed c.args.role c.args.limits c.args.key c.new-session.result [] l []) (sym c.new-put.ensures.items)
    (fed_nothing c.args.role c.args.limits c.args.key c.new-session.result c.new-session.ensures.role c.new-session.ensures.limits c.new-session.ensures.exchanged))

pub loop-piece-preserved : goal.loop-piece-preserved
loop-piece-preserved c =
    let i = c.loop-piece.piece-index in
    let pieces = c.args.pieces.now in
    let item = c.deref.ensures.value ∙ ap (λ (p : Vec ℕ Global). p.items) c.piece-item.is in
    let all = joined_more pieces i c.piece-item.result c.loop-piece-test.true in
    subst (λ (l : List ℕ). HasFed c.args.role c.args.limits c.args.key c.take_all.new.self (events_in c.take_all.new.events.items) c.take_all.new.out.items l) (ap (λ (l : List ℕ). joined_pieces (take i pieces) ++ l) item ∙ sym all)
    (fed_more c.args.role c.args.limits c.args.key c.loop-piece.session c.take_all.new.self c.loop-piece.put.items c.take_all.new.out.items (joined_pieces (take i pieces)) c.deref.result.now c.loop-piece.told.items c.take_all.new.events.items c.loop-piece.invariant
    c.in_ok-take_all.ensures.taken)

pub returns : goal.returns
returns c =
    let l = c.loop-piece in
    let all = ap (λ (p : List (Vec ℕ Global)). joined_pieces p) (take_all l.piece-index c.args.pieces.now (omega (arith, c.loop-piece-test.false))) in
    let events = c.from_vec.ensures ∙ c.in_ok-events.ensures in
    record {
      events = fed_events c.args.role c.args.limits c.args.key l.session (events_in l.told.items) l.put.items _ (joined_pieces c.args.pieces.now) c.from_vec.result l.invariant all events;
      put = fed_put c.args.role c.args.limits c.args.key l.session (events_in l.told.items) l.put.items _ c.from_vec-2.result c.from_vec.result l.invariant events c.from_vec-2.ensures;
      status = c.status.ensures ∙ fed_status c.args.role c.args.limits c.args.key l.session (events_in l.told.items) l.put.items _ c.from_vec.result l.invariant events;
    }
