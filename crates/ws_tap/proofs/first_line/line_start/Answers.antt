-- The first byte of a line, or the end of them.
use Rattle.std.proofs.Common.{ℕ, rules, tests, not}
use Rattle.std.proofs.lemmas.Iterator.{YieldsList-from_slice}
use Rattle.std.proofs.lemmas.Iterator.Search.{position_from_yields_List}
use Rattle.ws_tap.specs.Texts.{is_line_end}
use Rattle.ws_tap.proofs.FirstLines.{place_of}
use Rattle.ws_tap.proofs.first_line.line_start.Goals as goal

pub returns-clause-place : goal.returns-clause-place
returns-clause-place c =
    let bytes = c.args.bytes.now in
    let at = position_from_yields_List (λ (byte : ℕ). not (is_line_end byte)) _ _ c.position.result
    c.position.ensures.ran (YieldsList-from_slice bytes cc) (λ x b q k. search (rules, tests)) in
    place_of (λ (byte : ℕ). not (is_line_end byte)) bytes c.position.result c.unwrap_or.result at c.unwrap_or.ensures
