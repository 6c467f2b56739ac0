-- What an output holds whose lines stand behind times or heads.
use Rattle.std.proofs.Common.{◌≡◌, ◌∙◌, ℕ, Bool, true, false, List, [], Option, Some, ap, refl, subst, sym}
use Rattle.ws_frame.specs.Devices.{Device}
use Rattle.wst_noted.specs.HeadWriting.{EndWith}
use Rattle.wst_noted.specs.TimedLines.{AreTimed, InTime}
use Rattle.wst_run.specs.SendNoted.{IsShownBehind}

-- lines behind times alone
pub shown_alone : (timed heads : Bool) (shown output : Device) → timed ≡ true → heads ≡ false
    → (output.old ≡ Some [] → shown.old ≡ Some [])
    → ((lines : List ℕ) → shown.new ≡ Some lines → (bytes : List ℕ) × (output.new ≡ Some bytes) × AreTimed InTime bytes lines)
    → IsShownBehind timed heads shown output
shown_alone timed heads shown output time head first last =
    subst (λ (b : Bool). IsShownBehind b heads shown output) (sym time)
    (subst (λ (b : Bool). IsShownBehind true b shown output) (sym head)
    (λ held is free. (first (is ∙ ap (λ (l : List ℕ). Some l) (free refl)), last)))

-- lines behind times, and heads before them
pub shown_both : (timed heads : Bool) (shown output : Device) → timed ≡ true → heads ≡ true
    → ((held : List ℕ) → output.old ≡ Some held → shown.old ≡ Some [])
    → ((lines : List ℕ) → shown.new ≡ Some lines → (bytes : List ℕ) × AreTimed InTime bytes lines × EndWith bytes output.new)
    → IsShownBehind timed heads shown output
shown_both timed heads shown output time head first last =
    subst (λ (b : Bool). IsShownBehind b heads shown output) (sym time)
    (subst (λ (b : Bool). IsShownBehind true b shown output) (sym head) (λ held is free. (first held is, last)))

-- lines with heads before them
pub shown_headed : (timed heads : Bool) (shown output : Device) → timed ≡ false
    → ((held : List ℕ) → output.old ≡ Some held → shown.old ≡ Some [])
    → ((lines : List ℕ) → shown.new ≡ Some lines → EndWith lines output.new) → IsShownBehind timed heads shown output
shown_headed timed heads shown output time first last =
    subst (λ (b : Bool). IsShownBehind b heads shown output) (sym time) (λ held is free. (first held is, last))
