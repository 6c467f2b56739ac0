-- A path that asks for a case and names none asks for none.
use Rattle.std.proofs.Common.{List, ℕ, inl, inr, subst}
use Rattle.ws_paths.specs.Paths.{IsPlaceNamed, NamesNone, TakesNumber, place_for, place_of}
use Rattle.ws_paths.specs.declared.purpose.Wanted.{Wanted}
use Rattle.ws_paths.specs.declared.purpose.Wanted.TheVariants.{Info, Run, Status}
use Rattle.ws_paths.proofs.purpose.purpose_of.Goals as goal

takes_number : (wanted : Wanted) (place : List ℕ) → IsPlaceNamed (place_for wanted) place → TakesNumber place
takes_number Run place is = inl is
takes_number Info place is = inr (inl is)
takes_number Status place is = inr (inr is)

pub returns-in-None-clause-purpose : goal.returns-in-None-clause-purpose
returns-in-None-clause-purpose c = inl (
  takes_number c.in-Some.wanted (place_of c.args.path.now)
      (subst (λ (l : List ℕ). IsPlaceNamed (place_for c.in-Some.wanted) l) c.cut_path.ensures.place c.in-Some.ensures),
  subst (λ (l : List (List ℕ)). NamesNone c.args.count l) c.cut_path.ensures.parts c.in-None.ensures,
)
