-- The turns that aren't to come are those before the one under way, and that.
use Rattle.std.proofs.Common.{◌≡◌, ◌∙◌, ◌-◌, ℕ, List, ap, arith, length, subst, sym}
use Rattle.std.proofs.lemmas.List.{length-drop}
use Rattle.ws_scripts.specs.declared.transcript.Turn.{Turn}
use Rattle.ws_suite.specs.Evidence.{HoldsByte, got_turns}
use Rattle.ws_suite.proofs.evidence.behind.GotPlace.turn.Goals as goal

pub returns : goal.returns
returns c = λ turns n is some.
    let left = ap (λ (l : List Turn). length l) is.later in
    let same : c.saturating_sub-2.result ≡ is.begun - 1 =
    omega (
      arith,
      c.saturating_sub-2.ensures,
      c.saturating_sub.ensures,
      c.len.ensures,
      left,
      length-drop is.begun turns,
      is.count,
      is.most,
    ) in
    subst (λ (k : ℕ). HoldsByte (got_turns turns) k n) (sym same) (is.last some)
