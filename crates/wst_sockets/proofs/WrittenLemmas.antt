-- Whether a text that was to be written was written.
use Rattle.std.proofs.Common.{◌≡◌, ◌∙◌, ℕ, List, inl, inr, sym, true, false}
use Rattle.ws_frame.specs.Devices.{Device, HasBegun, HasWritten}
use Rattle.wst_commands.specs.Devices.{Delivers}
use Rattle.wst_commands.specs.declared.exit.Exit.{Exit}
use Rattle.wst_commands.specs.declared.exit.Exit.TheVariants.{Failed}

pub was_written : (done exit : Exit) (bytes : List ℕ) (d : Device) → Delivers done bytes exit d → d.failed ≡ false → HasWritten bytes d
was_written by exit bytes d (inl (is, works, written)) same = written
was_written by exit bytes d (inr (is, fails, begun)) works =
    let bad : true ≡ false = sym fails ∙ works in
    absurd (cc)

pub was_begun : (done exit : Exit) (bytes : List ℕ) (d : Device) → Delivers done bytes exit d → d.failed ≡ true → (exit ≡ Failed) × HasBegun bytes d
was_begun by exit bytes d (inl (is, works, written)) fails =
    let bad : false ≡ true = sym works ∙ fails in
    absurd (cc)
was_begun by exit bytes d (inr (is, fails, begun)) same = (is, begun)
