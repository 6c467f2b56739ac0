-- A port is looked for behind the last colon, and there is none without a colon.
use Rattle.std.proofs.Common.{rules, All}
use Rattle.ws_targets.specs.Places.{IsCutAtLastColon}
use Rattle.ws_targets.proofs.Advising.{bad_port_at, no_bad_port}
use Rattle.ws_targets.proofs.Cuts.{NoColon}
use Rattle.ws_targets.proofs.advice.has_bad_port.Goals as goal

pub returns-in-Some : goal.returns-in-Some
returns-in-Some c =
    let cut : IsCutAtLastColon c.args.authority.now c.in-Some._name.now c.in-Some.word.now = search rules in
    let at = bad_port_at c.args.authority.now c.in-Some._name.now c.in-Some.word.now cut in
    (λ h. at.0 (c.is_no_port.ensures.0 h), λ h. c.is_no_port.ensures.1 (at.1 h))

pub returns-in-None : goal.returns-in-None
returns-in-None c =
    let none : All NoColon c.args.authority.now = search rules in
    (λ wrong. absurd cc, λ h. absurd (no_bad_port c.args.authority.now none h))
