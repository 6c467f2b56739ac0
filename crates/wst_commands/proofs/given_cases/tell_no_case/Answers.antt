-- The line that is told says that there is no case of this name, and what to type instead.
use Rattle.std.proofs.Common.{◌≡◌, ◌∙◌, ◌∷◌, [], ap, codes, inl, refl, subst, List, ℕ}
use Rattle.std.specs.List.{concat}
use Rattle.ws_frame.specs.Devices.{watched}
use Rattle.wst_commands.specs.Devices.{Tells}
use Rattle.wst_commands.specs.GivenCases.{no_case_line}
use Rattle.wst_commands.specs.ShownWords.{shown_word}
use Rattle.wst_commands.proofs.given_cases.tell_no_case.Goals as goal

pub returns-in-Ok-clause-told : goal.returns-in-Ok-clause-told
returns-in-Ok-clause-told g c =
    let id = c.args.id.now in
    let line : c.as_bytes.result.now ≡ no_case_line id =
    c.as_bytes.ensures.value ∙ c.in-Ok.ensures.ok
    ∙ ap (λ (advice : List ℕ). concat (codes "no such case: " ∷ shown_word id ∷ codes "\n  " ∷ advice ∷ codes "\n" ∷ []))
    c.case_advice-advice.ensures in
    inl (
      refl,
      subst (λ (b : List ℕ). Tells b (watched g.F.Write.contents c.args.faults.now c.tell.new.faults)) line
          c.tell.ensures.told,
    )
