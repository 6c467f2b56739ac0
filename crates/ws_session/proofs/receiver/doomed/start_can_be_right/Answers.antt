-- First bytes of a header can become right where their least header breaks no rule and leaves its text and code room.
use Rattle.std.proofs.Common.{not, ap, arith, eq-eqb, eqb-true}
use Rattle.ws_session.proofs.DoomedNow.{start_can, least_is_fine, half_is_open}
use Rattle.ws_session.proofs.receiver.doomed.start_can_be_right.Goals as goal

pub returns-in-Some : goal.returns-in-Some
returns-in-Some c =
    let opened = c.args.assembly.now.opened in
    let fine = least_is_fine c.args.role c.args.limits opened c.args.start.now c.requires.begun c.requires.unfinished
    c.args.assembly.now.text c.requires.read c.least_header-first.result
    (c.least_header-first.ensures c.args.limits opened)
    c.wanted_at_end-wanted.result c.wanted_at_end-wanted.ensures.wanted c.wanted_at_end-wanted.ensures.other
    c.least_header-header.result (c.least_header-header.ensures c.args.limits opened) in
    (λ e. absurd cc, λ can. absurd ((fine can).none c.in-Some.field-0 c.in-Some.ensures.wrong))

pub returns-then-payload_len-wanted : goal.returns-then-payload_len-wanted
returns-then-payload_len-wanted c =
    let opened = c.args.assembly.now.opened in
    let fine = least_is_fine c.args.role c.args.limits opened c.args.start.now c.requires.begun c.requires.unfinished
    c.args.assembly.now.text c.requires.read c.least_header-first.result
    (c.least_header-first.ensures c.args.limits opened)
    c.wanted_at_end-wanted.result c.wanted_at_end-wanted.ensures.wanted c.wanted_at_end-wanted.ensures.other
    c.least_header-header.result (c.least_header-header.ensures c.args.limits opened) in (
      λ e. absurd cc,
      λ can. absurd (omega (
        arith,
        (fine can).long,
        c.payload_len.ensures.value,
        c.if-payload_len-wanted.true,
      )),
    )

pub returns-then-not-is_half_code : goal.returns-then-not-is_half_code
returns-then-not-is_half_code c =
    let opened = c.args.assembly.now.opened in
    let can = start_can c.args.role c.args.limits opened c.args.start.now c.requires.begun c.requires.unfinished
    c.args.assembly.now.text c.requires.read c.least_header-first.result
    (c.least_header-first.ensures c.args.limits opened)
    c.wanted_at_end-wanted.result c.wanted_at_end-wanted.ensures.wanted c.wanted_at_end-wanted.ensures.other
    c.least_header-header.result (c.least_header-header.ensures c.args.limits opened) c.in_default.ensures
    (omega (arith, c.payload_len.ensures.value, c.if-payload_len-wanted.false))
    (λ close one. let half = c.is_half_code.ensures.1 (close, one) in absurd cc) in
    (λ _. can, λ _. ap (λ b. not b) c.if-not-is_half_code.true)

pub returns-else-not-is_half_code : goal.returns-else-not-is_half_code
returns-else-not-is_half_code c =
    let opened = c.args.assembly.now.opened in
    let half = c.is_half_code.ensures.0 c.if-not-is_half_code.false in (
      λ e. start_can c.args.role c.args.limits opened c.args.start.now c.requires.begun c.requires.unfinished
          c.args.assembly.now.text c.requires.read c.least_header-first.result
          (c.least_header-first.ensures c.args.limits opened)
          c.wanted_at_end-wanted.result c.wanted_at_end-wanted.ensures.wanted c.wanted_at_end-wanted.ensures.other
          c.least_header-header.result (c.least_header-header.ensures c.args.limits opened) c.in_default.ensures
          (omega (arith, c.payload_len.ensures.value, c.if-payload_len-wanted.false)) (λ close one. eqb-true _ _ e),
      λ can. eq-eqb _ _ (half_is_open c.args.role c.args.limits opened c.args.start.now c.requires.begun
          c.requires.unfinished c.args.assembly.now.text c.requires.read c.least_header-first.result
          (c.least_header-first.ensures c.args.limits opened)
          c.wanted_at_end-wanted.result c.wanted_at_end-wanted.ensures.wanted c.wanted_at_end-wanted.ensures.other
          c.least_header-header.result (c.least_header-header.ensures c.args.limits opened) can half.0 half.1),
    )
