-- What is noted of payloads, and which have a place.
use Rattle.std.proofs.Common.{◌≡◌, ◌∙◌, ℕ, ◌||◌, Bool, true, false, cond, List, [], ◌∷◌, ◌++◌, Option, None, Some}
use Rattle.std.proofs.Common.{is_some, bytes_eq, ap, refl, sym, subst}
use Rattle.std.proofs.lemmas.Slice.Eq.{bytes_eq-Decides}
use Rattle.std.specs.List.{AllByRecursion}
use Rattle.std.specs.Map.{update}
use Rattle.ws_suite.specs.declared.evidence.InTurn.{InTurn}
use Rattle.ws_suite.specs.declared.evidence.Reply.{Reply}
use Rattle.ws_suite.specs.declared.judging.noted.Noted.{Noted}
use Rattle.ws_suite.specs.InnerNoted.{HavePlaces, IsAskedFor, HoldsNothing, IsNotedIn, IsNothing, noted_of, with_number}
use Rattle.ws_suite.specs.Matching.{payload_of}
use Rattle.ws_suite.proofs.TestLemmas.{all_so}
use Rattle.ws_wire.proofs.Splits.{all-append}

-- ---- a payload has a place

-- what has one keeps it, where another value is put in
stays : (old new : Noted) (payload : List ℕ) (value : Option ℕ)
    → ((other : List ℕ) → noted_of new other ≡ update bytes_eq (λ (key : List ℕ). noted_of old key) payload value other)
    → is_some value ≡ true → (other : List ℕ) → is_some (noted_of old other) ≡ true
    → is_some (noted_of new other) ≡ true
stays old new payload value moved some other was = pick (bytes_eq payload other) refl
  where
    pick : (b : Bool) → bytes_eq payload other ≡ b → is_some (noted_of new other) ≡ true
    pick true e = ap (λ (o : Option ℕ). is_some o) (moved other
        ∙ ap (λ (b : Bool). cond b value (noted_of old other)) e) ∙ some
    pick false e = ap (λ (o : Option ℕ). is_some o) (moved other
        ∙ ap (λ (b : Bool). cond b value (noted_of old other)) e) ∙ was

-- ---- one payload more that is asked for

module _ (old new : Noted) (pong : InTurn Reply) (moved : (other : List ℕ) → noted_of new other
    ≡ update bytes_eq (λ (key : List ℕ). noted_of old key) (payload_of pong.what) (Some 0) other) where
  pub nothing_more : HoldsNothing old → HoldsNothing new
  nothing_more nothing = λ other. pick other (bytes_eq (payload_of pong.what) other) refl
    where
      pick : (other : List ℕ) (b : Bool) → bytes_eq (payload_of pong.what) other ≡ b → IsNothing (noted_of new other)
      pick other true e = subst (λ (o : Option ℕ). IsNothing o)
          (sym (moved other ∙ ap (λ (b : Bool). cond b (Some 0) (noted_of old other)) e)) refl
      pick other false e = subst (λ (o : Option ℕ). IsNothing o)
          (sym (moved other ∙ ap (λ (b : Bool). cond b (Some 0) (noted_of old other)) e)) (nothing other)

  pub kept_one_more : (done : List (InTurn Reply)) → HavePlaces done old → HavePlaces (done ++ pong ∷ []) new
  kept_one_more done kept =
      all-append (λ (p : InTurn Reply). is_some (noted_of new (payload_of p.what)) ≡ true) done (pong ∷ [])
      (all_so (λ (p : InTurn Reply). is_some (noted_of old (payload_of p.what)) ≡ true)
      (λ (p : InTurn Reply). is_some (noted_of new (payload_of p.what)) ≡ true)
      (λ p was. stays old new (payload_of pong.what) (Some 0) moved refl (payload_of p.what) was) done kept)
      (here, tt)
    where
      here : is_some (noted_of new (payload_of pong.what)) ≡ true
      here = ap (λ (o : Option ℕ). is_some o) (moved (payload_of pong.what)
          ∙ ap (λ (b : Bool). cond b (Some 0) (noted_of old (payload_of pong.what)))
          ((bytes_eq-Decides (payload_of pong.what) (payload_of pong.what)).1 refl))

-- ---- one number more

-- what is asked for stays so
pub still_asked : (payload : List ℕ) (number : ℕ) (old new : Noted) → IsNotedIn payload number old new
    → (pings : List (InTurn Reply)) → IsAskedFor pings old → IsAskedFor pings new
still_asked payload number old new noted pings asked = λ few.
    all_so (λ (p : InTurn Reply). is_some (noted_of old (payload_of p.what)) ≡ true)
    (λ (p : InTurn Reply). is_some (noted_of new (payload_of p.what)) ≡ true)
    (λ p was. each (payload_of p.what) was (bytes_eq payload (payload_of p.what)) refl) pings
    (asked (sym noted.has_all ∙ few))
  where
    value : Option ℕ
    value = with_number old.has_all number (noted_of old payload)

    some : (all : Bool) (known : Option ℕ) → is_some known ≡ true → is_some (with_number all number known) ≡ true
    some true None was = absurd cc
    some false None was = absurd cc
    some true (Some end) was = refl
    some false (Some end) was = refl

    each : (other : List ℕ) → is_some (noted_of old other) ≡ true → (b : Bool) → bytes_eq payload other ≡ b
        → is_some (noted_of new other) ≡ true
    each other was true e =
        let same : payload ≡ other = (bytes_eq-Decides payload other).0 e in
        ap (λ (o : Option ℕ). is_some o) (noted.moved other ∙ ap (λ (b : Bool). cond b value (noted_of old other)) e)
        ∙ some old.has_all (noted_of old payload) (ap (λ (key : List ℕ). is_some (noted_of old key)) same ∙ was)
    each other was false e =
        ap (λ (o : Option ℕ). is_some o) (noted.moved other ∙ ap (λ (b : Bool). cond b value (noted_of old other)) e)
        ∙ was

-- each of those that are asked for is
pub asked_at : (done rest : List (InTurn Reply)) (ping : InTurn Reply) (noted : Noted)
    → IsAskedFor (done ++ ping ∷ rest) noted → IsAskedFor (ping ∷ []) noted
asked_at [] rest ping noted asked = λ few. ((asked few).0, tt)
asked_at (x ∷ done) rest ping noted asked = asked_at done rest ping noted (λ few. (asked few).1)
