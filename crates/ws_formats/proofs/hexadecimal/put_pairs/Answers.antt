-- Each part is spelled by its pairs, and so is what they make together.
use Rattle.std.proofs.Common.{arith}
use Rattle.ws_formats.proofs.HexLanes.{pairs_done, pairs_none, pairs_step, rest_room}
use Rattle.ws_formats.proofs.HexReads.{block_of_digits}
use Rattle.ws_formats.proofs.hexadecimal.put_pairs.Goals as goal

pub put_sixteen-requires-clause-digits : goal.put_sixteen-requires-clause-digits
put_sixteen-requires-clause-digits c = block_of_digits c.args.word.now _ _ (omega arith) c.requires.digits

pub loop-bytes-init : goal.loop-bytes-init
loop-bytes-init c = record { within = omega arith; long = c.requires.room; pairs = pairs_none }

pub loop-bytes-preserved : goal.loop-bytes-preserved
loop-bytes-preserved c = record {
  within = omega arith;
  long = omega arith;
  pairs = pairs_step 16 c.loop-bytes.at _ _ c.loop-bytes.bytes c.put_sixteen.new.bytes c.args.word.now (omega arith) (omega (arith, c.loop-bytes.invariant.long)) (omega arith) (omega arith)
      c.loop-bytes.invariant.pairs c.put_sixteen.ensures;
}

pub put_few_pairs-requires-clause-digits : goal.put_few_pairs-requires-clause-digits
put_few_pairs-requires-clause-digits c =
    block_of_digits c.args.word.now _ _ (omega (arith, c.loop-bytes.invariant.within, c.loop-bytes.invariant.long)) c.requires.digits

pub put_few_pairs-requires-clause-room : goal.put_few_pairs-requires-clause-room
put_few_pairs-requires-clause-room c = rest_room c.loop-bytes.at _ _ c.loop-bytes.bytes c.args.word.now c.loop-bytes.invariant.within (omega arith) (omega arith) c.loop-bytes.invariant.long

pub returns : goal.returns
returns c = pairs_done c.loop-bytes.at _ _ c.loop-bytes.bytes c.put_few_pairs.new.bytes c.args.word.now c.loop-bytes.invariant.within (omega arith) (omega arith)
    c.loop-bytes.invariant.pairs c.put_few_pairs.ensures
