-- The two parts of a turn's number make it up.
use Rattle.std.proofs.Common.{rules, arith}
use Rattle.std.proofs.lemmas.Nat.{div-add-mod'}
use Rattle.ws_suite.specs.Kept.{turn_in}
use Rattle.ws_suite.proofs.evidence.kept.Head.of.Goals as goal

pub returns : goal.returns
unfolding turn_in
returns c = record {
  turn = omega (arith, div-add-mod' c.args.reply.now.turn 4294967296, c.in-Ok-try_from.ensures);
  len = search rules;
  kind = search rules;
}
