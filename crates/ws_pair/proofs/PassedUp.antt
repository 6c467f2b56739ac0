-- What is told where a part was not found.
use Rattle.std.proofs.Common.{◌≡◌, Result, Ok, Err, IsErrAnd, sym, ◌∙◌}
use Rattle.ws_formats.specs.Reading.{Reads}
use Rattle.ws_base.specs.declared.text_fault.LineFault.{LineFault}
use Rattle.ws_base.specs.declared.text_fault.LineFault.TheVariants.{Damaged}

-- where one part is spelled by no value, the whole is spelled by none
pub passed_up : {T U : Type 0} (P : T → Type 0) (Q : U → Type 0) (r : Result U LineFault) (cause : LineFault)
    → IsErrAnd r (λ y. y ≡ cause) → (cause ≡ Damaged → (x : T) → P x → ⊥) → ((u : U) → Q u → (x : T) × P x) → Reads r Q
passed_up P Q (Ok u) cause is none part = absurd is
passed_up P Q (Err y) cause is none part = λ e u h. let x = part u h in none (sym is ∙ e) x.0 x.1
