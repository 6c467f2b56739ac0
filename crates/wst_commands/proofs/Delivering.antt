-- What is delivered, said in other words.
use Rattle.std.proofs.Common.{◌≡◌, subst, List, ℕ}
use Rattle.ws_frame.specs.Devices.{Device}
use Rattle.wst_commands.specs.Devices.{Delivers}
use Rattle.wst_commands.specs.declared.exit.Exit.{Exit}

-- the same bytes and the same exit are delivered
pub delivers_same : (done other : Exit) (a b : List ℕ) (exit : Exit) (d : Device) → done ≡ other → a ≡ b → Delivers done a exit d → Delivers other b exit d
delivers_same done other a b exit d same e h =
    subst (λ (x : Exit). Delivers x b exit d) same (subst (λ (x : List ℕ). Delivers done x exit d) e h)
