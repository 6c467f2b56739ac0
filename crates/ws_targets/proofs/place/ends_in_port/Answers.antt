-- Bytes end in a port exactly where a number of 16 bits stands behind their last colon, and something before it.
use Rattle.std.proofs.Common.{rules, ◌≡◌, ℕ, ◌≤◌, length, List, All, subst, sym, arith}
use Rattle.ws_targets.specs.Places.{IsCutAtLastColon}
use Rattle.ws_targets.specs.Reading.{EndsSoInPort}
use Rattle.ws_targets.proofs.Cuts.{NoColon, no_port_without_colon, port_of_cut, told_port}
use Rattle.ws_targets.proofs.place.ends_in_port.Goals as goal

pub returns-then-not-is_empty : goal.returns-then-not-is_empty
returns-then-not-is_empty c =
    let cut : IsCutAtLastColon c.args.bytes.now c.in-Some.name.now c.in-Some.word.now = search rules in
    let some : 1 ≤ length c.in-Some.name.now = search rules in
    let told = told_port c.args.bytes.now c.in-Some.name.now c.in-Some.word.now c.read_u16.result cut some c.read_u16.ensures in
    (λ h. told.0 (search (rules, h)), λ h. search (rules, told.1 h))

pub returns-else-not-is_empty : goal.returns-else-not-is_empty
returns-else-not-is_empty c =
    let cut : IsCutAtLastColon c.args.bytes.now c.in-Some.name.now c.in-Some.word.now = search rules in
    let none : length c.in-Some.name.now ≡ 0 = search rules in
    let nameless : EndsSoInPort c.args.bytes.now → ⊥ = λ (name, port, h).
    let same = port_of_cut c.args.bytes.now c.in-Some.name.now c.in-Some.word.now name port cut h in
    let some : 1 ≤ length c.in-Some.name.now = subst (λ (l : List ℕ). 1 ≤ length l) (sym same.0) h.0 in
    omega (arith, some, none) in
    (λ h. absurd cc, λ h. absurd (nameless h))

pub returns-in-None : goal.returns-in-None
returns-in-None c =
    let none : All NoColon c.args.bytes.now = search rules in
    (λ h. absurd cc, λ (name, port, h). absurd (no_port_without_colon c.args.bytes.now name port none h))
