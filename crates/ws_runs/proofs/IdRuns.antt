-- A case after runs, of which the last is this one.
use Rattle.std.proofs.Common.{◌≡◌, ◌∙◌, ℕ, Bool, true, false, List, [], ◌∷◌, ◌++◌, ap, refl, sym, append_assoc}
use Rattle.std.proofs.Common.{if◌then◌else◌}
use Rattle.std.proofs.lemmas.List.{map-append}
use Rattle.ws_runs.specs.Summary.{IdRunValue, goes_on, run_of_one, run_then, with_id, longer_run}
use Rattle.ws_runs.specs.Views.{run_value, run_values}
use Rattle.ws_runs.specs.declared.id_runs.IdRun.{IdRun}

after_last : (listed : List (List ℕ)) (runs : List IdRunValue) (last : IdRunValue) (id : List ℕ)
    → with_id listed (runs ++ last ∷ []) id ≡ runs ++ run_then listed last id
after_last listed [] last id = refl
after_last listed (run ∷ []) last id = refl
after_last listed (run ∷ next ∷ runs) last id =
    ap (λ (l : List IdRunValue). run ∷ l) (after_last listed (next ∷ runs) last id)

-- with what stands for the last run and the case
after_runs : (listed : List (List ℕ)) (old rest : List IdRun) (run : IdRun) (id : List ℕ) (last : List IdRunValue)
    → old ≡ rest ++ run ∷ [] → run_then listed (run_value run) id ≡ last
    → run_values rest ++ last ≡ with_id listed (run_values old) id
after_runs listed old rest run id last is_old joined =
    sym (ap (λ (l : List IdRunValue). with_id listed l id) (ap run_values is_old ∙ map-append run_value rest (run ∷ []))
    ∙ after_last listed (run_values rest) (run_value run) id ∙ ap (λ (l : List IdRunValue). run_values rest ++ l)
    joined)

-- the case goes on with the last run
pub run_goes_on : (listed : List (List ℕ)) (old rest new : List IdRun) (run longer : IdRun) (id : List ℕ)
    → old ≡ rest ++ run ∷ [] → new ≡ rest ++ longer ∷ [] → goes_on listed run.last.now id ≡ true
    → run_value longer ≡ longer_run (run_value run) id → run_values new ≡ with_id listed (run_values old) id
run_goes_on listed old rest new run longer id is_old is_new follow is_longer =
    ap run_values is_new ∙ map-append run_value rest (longer ∷ [])
    ∙ ap (λ (r : IdRunValue). run_values rest ++ r ∷ []) is_longer
    ∙ after_runs listed old rest run id (longer_run (run_value run) id ∷ []) is_old
    (ap (λ (b : Bool). if b then longer_run (run_value run) id ∷ [] else run_value run ∷ run_of_one id ∷ []) follow)

-- the case begins another run
pub run_begins : (listed : List (List ℕ)) (old rest kept new : List IdRun) (run other : IdRun) (id : List ℕ)
    → old ≡ rest ++ run ∷ [] → kept ≡ rest ++ run ∷ [] → new ≡ kept ++ other ∷ []
    → goes_on listed run.last.now id ≡ false → run_value other ≡ run_of_one id
    → run_values new ≡ with_id listed (run_values old) id
run_begins listed old rest kept new run other id is_old is_kept is_new apart is_other =
    ap run_values is_new ∙ map-append run_value kept (other ∷ [])
    ∙ ap (λ (l : List IdRunValue). l ++ run_value other ∷ [])
    (ap run_values is_kept ∙ map-append run_value rest (run ∷ []))
    ∙ append_assoc (run_values rest) (run_value run ∷ []) (run_value other ∷ [])
    ∙ ap (λ (r : IdRunValue). run_values rest ++ run_value run ∷ r ∷ []) is_other
    ∙ after_runs listed old rest run id (run_value run ∷ run_of_one id ∷ []) is_old
    (ap (λ (b : Bool). if b then longer_run (run_value run) id ∷ [] else run_value run ∷ run_of_one id ∷ []) apart)
