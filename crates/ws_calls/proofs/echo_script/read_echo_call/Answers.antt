-- The call that is read of an echo's line is the one that its words tell; where none is read they tell none.
use Rattle.std.proofs.Common.{◌≡◌, ◌∙◌, ap, sym, subst, map, List, ℕ}
use Rattle.std.specs.Borrow.{Bor}
use Rattle.ws_formats.specs.Words.{words_of}
use Rattle.ws_calls.specs.Script.{AreEchoCallWords}
use Rattle.ws_calls.proofs.PassedUp.{passed_up}
use Rattle.ws_calls.proofs.echo_script.read_echo_call.Goals as goal

pub returns-in_err-found : goal.returns-in_err-found
returns-in_err-found c =
    let same : map (λ w. w.now) c.as_slice.result.now ≡ words_of c.args.line.now = ap (λ (ws : List (Bor (List ℕ))). map (λ w. w.now) ws) c.as_slice.ensures ∙ c.in-Some.ensures in
    passed_up (λ found. AreEchoCallWords found (map (λ w. w.now) c.as_slice.result.now)) _ c.from_residual.result c.in_err-found.field-0.0 c.from_residual.ensures.1 c.in_err-found.ensures (λ found h. (found, subst (AreEchoCallWords found) (sym same) h))

pub returns : goal.returns
returns c =
    let same : map (λ w. w.now) c.as_slice.result.now ≡ words_of c.args.line.now = ap (λ (ws : List (Bor (List ℕ))). map (λ w. w.now) ws) c.as_slice.ensures ∙ c.in-Some.ensures in
    subst (AreEchoCallWords c.in_ok-found.found) same c.in_ok-found.ensures
