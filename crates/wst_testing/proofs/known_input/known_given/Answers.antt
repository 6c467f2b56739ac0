-- What was read whole, and tells no run.
use Rattle.std.proofs.Common.{rules, ◌≡◌, ◌∙◌, ℕ, List, true, ap, inr, subst}
use Rattle.ws_formats.specs.Lines.{Damages}
use Rattle.ws_reports.specs.Known.{AreKnownLines}
use Rattle.wst_testing.specs.KnownInput.{known_stop}
use Rattle.wst_testing.proofs.known_input.known_given.Goals as goal

pub returns : goal.returns
returns g c =
    let asked : c.args.is_asked ≡ true = search rules in
    let why = c.in-Err-read_known.why in
    let damages = subst (λ (l : List ℕ). Damages AreKnownLines why l) c.as_slice-bytes.ensures.value
    c.in-Err-read_known.ensures in
    let is = c.known_stop.ensures ∙ ap (λ (l : List ℕ). known_stop l why) c.as_slice-bytes.ensures.value in
    (asked, inr (c.in-Ok.text.items, why, c.in-Ok.ensures, damages, is))
