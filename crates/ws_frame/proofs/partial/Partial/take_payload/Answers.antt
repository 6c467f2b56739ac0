-- Bytes taken of a payload: more of it is kept and fewer are to come, or the frame is whole and none is under way.
use Rattle.std.proofs.Common.{arith, rules, ◌≡◌, ◌∙◌, ◌-◌, List, [], ℕ, sym, subst, length, take}
use Rattle.std.proofs.lemmas.List.{length-take-le}
use Rattle.ws_wire.specs.Reading.{BeginsNoHeader}
use Rattle.ws_wire.proofs.Numbers.{front_bytes}
use Rattle.ws_frame.proofs.Partials.{more_of_payload, payload_ends, nothing_is_no_header}
use Rattle.ws_frame.proofs.partial.Partial.take_payload.Goals as goal

pub returns-then-self-gt0-clause-taken : goal.returns-then-self-gt0-clause-taken
returns-then-self-gt0-clause-taken c = λ rest are kept.
    let self = c.args.self.now in
    let used = c.min-used.result in
    let count : length (take used c.args.piece.now) ≡ used = length-take-le used c.args.piece.now (omega (arith, c.min-used.ensures)) in
    more_of_payload rest (take used c.args.piece.now) self.first c.push.new.self self.header c.args.header self.to_come (self.to_come - used) kept c.requires.header c.push.ensures (omega (arith, count, c.min-used.ensures))
    (omega (arith, c.if-self-gt0.true))

pub returns-clause-taken : goal.returns-clause-taken
returns-clause-taken c = λ rest are kept.
    let self = c.args.self.now in
    let used = c.min-used.result in
    let count : length (take used c.args.piece.now) ≡ used = length-take-le used c.args.piece.now (omega (arith, c.min-used.ensures)) in
    let none : c.replace-first.new.dest ≡ [] = search rules in (
      payload_ends rest (take used c.args.piece.now) self.first c.replace-first.result self.header c.args.header self.to_come kept c.requires.header are (front_bytes used c.args.piece.now (λ i. omega (arith, c.type_inv.piece i)))
          (c.replace-first.ensures.value ∙ c.push.ensures) (omega (arith, count, c.min-used.ensures, c.if-self-gt0.false)),
      (sym none, subst (λ (t : List ℕ). BeginsNoHeader t) (sym none) nothing_is_no_header),
    )
