-- Where the bytes that wait can't be written, a beginning of all was; else those behind them wait, or are written too.
use Rattle.std.proofs.Common.{◌++◌, refl}
use Rattle.ws_rooms.proofs.Waiting.{begun_more, stands, stops, whole_behind}
use Rattle.ws_rooms.proofs.room.put_behind.Goals as goal

pub returns-in_err-flush : goal.returns-in_err-flush
returns-in_err-flush g c =
    let old = c.args.room.now in
    let bytes = c.args.bytes.now in
    stops (old ++ bytes) _ _ _ _ c.from_residual.result c.in_err-flush.field-0.0 c.from_residual.ensures.1
    (begun_more old bytes (old ++ bytes) _ _ refl c.in_err-flush.ensures.written.0) c.in_err-flush.ensures.written.1

pub returns : goal.returns
returns g c =
    let flushed = c.in_ok-flush.ensures.written in
    whole_behind c.args.room.now c.flush.new.room c.args.bytes.now _ _ _ _ _ c.write_whole.result
    (stands c.args.room.now c.flush.new.room _ _ _ flushed) c.in_ok-flush.ensures.empty c.write_whole.ensures.written
    c.write_whole.ensures.begun c.write_whole.ensures.failed flushed.2
