-- One line more: it tells how far a capture is read, or ends every text.
use Rattle.std.proofs.Common.{◌≡◌, ◌∙◌, ℕ, List, [], ◌∷◌, Option, Some, None, ap, sym, refl, subst}
use Rattle.std.specs.List.{AllZip}
use Rattle.ws_capture_text.specs.declared.line_kind.LineKind.{LineKind}
use Rattle.ws_capture_text.specs.declared.stage.Stage.{Stage}
use Rattle.ws_capture_text.specs.declared.stage.Stage.TheVariants.{Whole}
use Rattle.ws_capture_text.specs.InnerKinds.{IsKindOf}
use Rattle.ws_capture_text.specs.InnerStages.{ReachesWhole, reached, stage_after}
use Rattle.ws_capture_text.proofs.OneKind.{one_kind}

pub none_reached : (kinds : List LineKind) → reached kinds None ≡ None
none_reached [] = refl
none_reached (kind ∷ kinds) = none_reached kinds

pub none_whole : (kinds : List LineKind) → reached kinds None ≡ Some Whole → ⊥
none_whole kinds e = let wrong : None ≡ Some Whole = sym (none_reached kinds) ∙ e in absurd cc

-- the lines that go on begin with one of this kind
first_told : (stage : Stage) (value : Unit {0}) (kind : LineKind) (line : List ℕ) (more : List (List ℕ))
    → IsKindOf kind line → ReachesWhole stage value (line ∷ more)
    → (kinds : List LineKind) × AllZip IsKindOf kinds more × (reached kinds (stage_after stage kind) ≡ Some Whole)
first_told stage value kind line more is ([], are, e) = absurd are
first_told stage value kind line more is (first ∷ kinds, are, e) = (
  kinds,
  are.1,
  subst (λ (k : LineKind). reached kinds (stage_after stage k) ≡ Some Whole) (one_kind first kind line are.0 is) e,
)

pub line_taken : (stage longer : Stage) (kind : LineKind) (line : List ℕ) → IsKindOf kind line
    → stage_after stage kind ≡ Some longer → (value : Unit {0}) (more : List (List ℕ))
    → (ReachesWhole stage value (line ∷ more) → Unit {0} × ReachesWhole longer tt more)
    × (ReachesWhole longer value more → ReachesWhole stage value (line ∷ more))
line_taken stage longer kind line is e value more = (
  λ told.
      let (kinds, are, f) = first_told stage value kind line more is told in
      (tt, (kinds, are, ap (λ (s : Option Stage). reached kinds s) (sym e) ∙ f)),
  λ told. (kind ∷ told.0, (is, told.1), ap (λ (s : Option Stage). reached told.0 s) e ∙ told.2),
)

pub none_taken : (stage : Stage) (kind : LineKind) (line : List ℕ) → IsKindOf kind line
    → stage_after stage kind ≡ None → (value : Unit {0}) (more : List (List ℕ))
    → ReachesWhole stage value (line ∷ more) → ⊥
none_taken stage kind line is e value more told =
    let (kinds, are, f) = first_told stage value kind line more is told in
    none_whole kinds (ap (λ (s : Option Stage). reached kinds s) (sym e) ∙ f)

-- a line of no kind
pub no_kind_taken : (stage : Stage) (line : List ℕ) → ((kind : LineKind) → IsKindOf kind line → ⊥)
    → (value : Unit {0}) (more : List (List ℕ)) → ReachesWhole stage value (line ∷ more) → ⊥
no_kind_taken stage line none value more ([], are, e) = absurd are
no_kind_taken stage line none value more (first ∷ kinds, are, e) = none first are.0

-- before the last line no capture is read
pub not_whole : (stage : Stage) → (stage ≡ Whole → ⊥) → (value : Unit {0}) → ReachesWhole stage value [] → ⊥
not_whole stage wrong value ([], are, e) = wrong cc
not_whole stage wrong value (first ∷ kinds, are, e) = absurd are
