-- An authority is cut at its last colon: it names a host alone, or with a port, or no place where the port is none.
use Rattle.std.proofs.Common.{rules, ◌≡◌, ℕ, ◌≤◌, length, All, IsTrue, inl, inr, refl, sym, arith}
use Rattle.ws_formats.specs.Words.{IsNumberWord}
use Rattle.ws_targets.specs.Places.{IsCutAtLastColon, closing_bracket, has_byte}
use Rattle.ws_targets.specs.Reading.{LacksPlace}
use Rattle.ws_targets.proofs.Cuts.{NoColon, at_port_80, bracket_no_port, lacks_place, no_colon_no_port}
use Rattle.ws_targets.proofs.place.place_of.Goals as goal

pub returns-in_default : goal.returns-in_default
returns-in_default c =
    let none : All NoColon c.args.authority.now = search rules in
    inl (no_colon_no_port c.args.authority.now none, refl, refl)

pub returns-then-contains : goal.returns-then-contains
returns-then-contains c =
    let cut : IsCutAtLastColon c.args.authority.now c.in-Some.name.now c.in-Some.word.now = search rules in
    let bracket : IsTrue (has_byte closing_bracket c.in-Some.word.now) = search rules in
    inl (bracket_no_port c.args.authority.now c.in-Some.name.now c.in-Some.word.now cut bracket, refl, refl)

pub returns-in_err-port : goal.returns-in_err-port
returns-in_err-port c =
    let cut : IsCutAtLastColon c.args.authority.now c.in-Some.name.now c.in-Some.word.now = search rules in
    let bare : ¬ (IsTrue (has_byte closing_bracket c.in-Some.word.now)) = search rules in
    let none : (number : ℕ) → IsNumberWord 65535 number c.in-Some.word.now → ⊥ = search rules in
    let lacks : LacksPlace c.args.authority.now =
    lacks_place c.args.authority.now c.in-Some.name.now c.in-Some.word.now cut bare (λ number spells some. none number spells) in
    search (rules, lacks)

pub returns-then-is_empty : goal.returns-then-is_empty
returns-then-is_empty c =
    let cut : IsCutAtLastColon c.args.authority.now c.in-Some.name.now c.in-Some.word.now = search rules in
    let bare : ¬ (IsTrue (has_byte closing_bracket c.in-Some.word.now)) = search rules in
    let none : length c.in-Some.name.now ≡ 0 = search rules in
    lacks_place c.args.authority.now c.in-Some.name.now c.in-Some.word.now cut bare (λ number spells some. omega (arith, none, some))

pub returns-then-port-eq-DEFAULT_PORT : goal.returns-then-port-eq-DEFAULT_PORT
returns-then-port-eq-DEFAULT_PORT c =
    let cut : IsCutAtLastColon c.args.authority.now c.in-Some.name.now c.in-Some.word.now = search rules in
    let some : 1 ≤ length c.in-Some.name.now = search rules in
    let spells : IsNumberWord 65535 80 c.in-Some.word.now = search rules in
    let whole = at_port_80 c.args.authority.now c.in-Some.name.now c.in-Some.word.now 80 cut spells refl in
    inr (inl ((some, (c.in-Some.word.now, cut.0, spells)), sym whole))
