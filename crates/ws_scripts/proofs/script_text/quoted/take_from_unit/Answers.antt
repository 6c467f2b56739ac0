-- A number that is no character is half of a pair.
use Rattle.std.proofs.Common.{◌≡◌, Some, chars, rules}
use Rattle.std.specs.Char.{OutOfScalarRange}
use Rattle.ws_scripts.specs.InnerQuoting.{unit_digits}
use Rattle.ws_scripts.proofs.QuotedFronts.{half_ahead}
use Rattle.ws_scripts.proofs.script_text.quoted.take_from_unit.Goals as goal

pub returns-in-None-clause-taken : goal.returns-in-None-clause-taken
returns-in-None-clause-taken c =
    let rest = chars c.in_ok-unit.rest.now in
    let unit : unit_digits (chars c.args.text.now) ≡ Some (c.in_ok-unit.unit, rest) = search rules in
    let out : OutOfScalarRange c.in_ok-unit.unit = search rules in
    half_ahead (chars c.args.text.now) c.in_ok-unit.unit rest c.take_low.result unit out c.take_low.ensures.taken
