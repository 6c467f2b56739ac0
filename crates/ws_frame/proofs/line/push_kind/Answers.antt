-- The front of the opcode's entry is its name.
use Rattle.std.proofs.Common.{◌≡◌, ◌∙◌, ◌+◌, ◌-◌, ◌*◌, ◌++◌, List, ℕ, ap, take, drop, arith}
use Rattle.ws_frame.specs.declared.line.TheConstants.{KINDS}
use Rattle.ws_frame.proofs.KindTable.{named, entry}
use Rattle.ws_frame.proofs.line.push_kind.Goals as goal

word_is : (opcode : ℕ) → take ((opcode * 8 + 8) - opcode * 8) (drop (opcode * 8) KINDS) ≡ entry opcode
word_is opcode =
    let eight : (opcode * 8 + 8) - opcode * 8 ≡ 8 = omega arith in
    ap (λ k. take k (drop (opcode * 8) KINDS)) eight

pub push_front-requires-clause-front : goal.push_front-requires-clause-front
push_front-requires-clause-front c = (named c.args.opcode _ c.requires.known (c.copy_from_slice.ensures.after ∙ word_is c.args.opcode)).0

pub returns-clause-pushed : goal.returns-clause-pushed
returns-clause-pushed c = c.push_front.ensures.pushed ∙ ap (λ (t : List ℕ). c.args.room.now ++ t) (named c.args.opcode _ c.requires.known (c.copy_from_slice.ensures.after ∙ word_is c.args.opcode)).2

pub returns-clause-len : goal.returns-clause-len
returns-clause-len c = omega (arith, c.push_front.ensures.len, (named c.args.opcode _ c.requires.known (c.copy_from_slice.ensures.after ∙ word_is c.args.opcode)).1)
