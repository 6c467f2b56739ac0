-- What is left to compare tells whether what is due can't come any more.
use Rattle.std.proofs.Common.{◌≡◌, ◌∙◌, ◌↔◌, Bool, true, false, List, [], ◌∷◌, ◌++◌, length, ◌⊎◌, inl, inr}
use Rattle.std.proofs.Common.{find, Option, None, ap, ap₂, sym}
use Rattle.std.proofs.Common.{refl, subst, arith, append_assoc, append-nil, length-append, ◌||◌}
use Rattle.std.proofs.lemmas.List.{append_cancel_left}
use Rattle.std.specs.List.{list_any}
use Rattle.ws_wire.specs.declared.role.Role.{Role}
use Rattle.ws_scripts.specs.declared.transcript.Turn.{Turn}
use Rattle.ws_scripts.specs.declared.transcript.Ended.TheVariants.{Tester}
use Rattle.ws_suite.specs.declared.evidence.InTurn.{InTurn}
use Rattle.ws_suite.specs.declared.evidence.Reply.{Reply}
use Rattle.ws_suite.specs.declared.evidence.Evidence.{Evidence}
use Rattle.ws_suite.specs.declared.evidence.pairing.Pairing.{Pairing}
use Rattle.ws_suite.specs.Evidence.{IsEvidenceOf}
use Rattle.ws_suite.specs.Growing.{CannotCome, CannotComeAfter, GrowingValue, HasGrown}
use Rattle.ws_suite.specs.InnerCollecting.{EventLaws}
use Rattle.ws_suite.specs.InnerPairing.{IsSeenAstray}
use Rattle.ws_suite.specs.Matching.{IsBeginningOf, bare, due_after, due_messages, due_pongs, got_messages, got_pongs}
use Rattle.ws_suite.specs.Matching.{has_payload_of, matches_of}
use Rattle.ws_suite.specs.Pairings.{AreLeftOf, ArePaired, Differ, IsPairingOf}
use Rattle.ws_suite.specs.Verdicts.{is_unmatched}
use Rattle.ws_suite.proofs.OneVerdict.{one_evidence}

-- ---- beginnings

-- what differs is no beginning
no_beginning : (dues gots : List Reply) → Differ dues gots → IsBeginningOf gots dues → ⊥
no_beginning dues gots h (more, e) =
    let both : h.due ∷ h.later_dues ≡ h.got ∷ (h.later_gots ++ more) =
    append_cancel_left h.same (h.due ∷ h.later_dues) (h.got ∷ (h.later_gots ++ more))
    (sym h.dues_are ∙ (e ∙ (ap (λ (l : List Reply). l ++ more) h.gots_are
    ∙ append_assoc h.same (h.got ∷ h.later_gots) more))) in
    h.other (let same : h.due ≡ h.got = cc in same)

-- nor is what is more than all
more_than_all : (dues gots : List Reply) (due : List Reply) (r : Reply) (early : List Reply)
    → AreLeftOf dues gots due (r ∷ early)
    → IsBeginningOf gots dues → ⊥
more_than_all dues gots due r early h (more, e) = pick h.one
  where
    pick : (due ≡ []) ⊎ (r ∷ early ≡ []) → ⊥
    pick (inl none) =
        omega (
          arith,
          ap (λ (l : List Reply). length l) h.dues_are,
          ap (λ (l : List Reply). length l) h.gots_are,
          ap (λ (l : List Reply). length l) e,
          ap (λ (l : List Reply). length l) none,
          length-append h.same due,
          length-append h.same (r ∷ early),
          length-append gots more,
        )
    pick (inr wrong) = absurd cc

-- ---- by what is left

-- a pong that has no match is there just where some wait
some_unmatched : (dues gots pings unmatched : List (InTurn Reply)) → ArePaired dues gots pings unmatched
    → list_any is_unmatched (matches_of dues gots) ≡ list_any is_unmatched (matches_of pings unmatched)
some_unmatched dues gots pings unmatched h =
    ap₂ (λ (a b : List (InTurn Reply)). list_any is_unmatched (matches_of a b)) (sym (append-nil dues)) (sym
    (append-nil gots))
    ∙ (h.later [] []
    ∙ ap₂ (λ (a b : List (InTurn Reply)). list_any is_unmatched (matches_of a b)) (append-nil pings)
    (append-nil unmatched))

first_unmatched : (p : InTurn Reply) (pings unmatched : List (InTurn Reply)) → find (has_payload_of p) pings ≡ None
    → list_any is_unmatched (matches_of pings (p ∷ unmatched)) ≡ true
first_unmatched p pings unmatched none =
    ap (λ (o : Option (InTurn Reply)). is_unmatched (p, o) || list_any is_unmatched (matches_of
    (due_after p pings) unmatched)) none

module _ (x : Evidence) where
  abbrev dues : List Reply
  dues = bare (due_messages x)

  abbrev gots : List Reply
  gots = bare (got_messages x)

  abbrev Left : List (InTurn Reply) → List (InTurn Reply) → Type 0
  Left due early = AreLeftOf dues gots (bare due) (bare early)

  all_there : (early : List (InTurn Reply)) → early ≡ [] → Left [] early → gots ≡ dues
  all_there early none h = h.gots_are ∙ (ap (λ (l : List (InTurn Reply)). h.same ++ bare l) none ∙ sym h.dues_are)

  is_beginning : (due : List (InTurn Reply)) → Left due [] → IsBeginningOf gots dues
  is_beginning due h =
      (bare due, h.dues_are ∙ ap (λ (l : List Reply). l ++ bare due) (sym (h.gots_are ∙ append-nil h.same)))

  not_all : (r : InTurn Reply) (due : List (InTurn Reply)) → Left (r ∷ due) [] → gots ≡ dues → ⊥
  not_all r due h same = omega (
    arith,
    ap (λ (l : List Reply). length l) h.dues_are,
    ap (λ (l : List Reply). length l) h.gots_are,
    ap (λ (l : List Reply). length l) same,
    length-append h.same (bare (r ∷ due)),
    length-append h.same [],
  )

  abbrev Seen : List (InTurn Reply) → List (InTurn Reply) → List (InTurn Reply) → Type 0
  Seen early due unmatched = (early ≡ [] → ⊥) ⊎ ((due ≡ []) × (unmatched ≡ [] → ⊥))

  -- what is left, where nothing differs
  left_tells : (early due pings unmatched : List (InTurn Reply)) → Left due early
      → ArePaired (due_pongs x) (got_pongs x) pings unmatched
      → Seen early due unmatched ↔ CannotCome x
  left_tells (e ∷ early) due pings unmatched h paired = (
    λ seen. inl (λ begins. more_than_all dues gots (bare due) e.what (bare early) h begins),
    λ cannot. inl (λ wrong. absurd cc),
  )
  left_tells [] (d ∷ due) pings unmatched h paired = (seen, cannot)
    where
      seen : Seen [] (d ∷ due) unmatched → CannotCome x
      seen (inl never) = absurd (never refl)
      seen (inr (wrong, some)) = absurd cc

      cannot : CannotCome x → Seen [] (d ∷ due) unmatched
      cannot (inl never) = absurd (never (is_beginning (d ∷ due) h))
      cannot (inr (all, some)) = absurd (not_all d due h all)
  left_tells [] [] pings (p ∷ unmatched) h paired = (
    λ seen. inr (
      all_there [] refl h,
      some_unmatched (due_pongs x) (got_pongs x) pings (p ∷ unmatched) paired
          ∙ first_unmatched p pings unmatched paired.first,
    ),
    λ cannot. inr (refl, λ wrong. absurd cc),
  )
  left_tells [] [] pings [] h paired = (seen, cannot)
    where
      seen : Seen [] [] [] → CannotCome x
      seen (inl never) = absurd (never refl)
      seen (inr both) = absurd (both.1 refl)

      cannot : CannotCome x → Seen [] [] []
      cannot (inl never) = absurd (never (is_beginning [] h))
      cannot (inr both) =
          absurd (let wrong : false ≡ true = sym (some_unmatched (due_pongs x) (got_pongs x) pings [] paired)
          ∙ both.1 in cc)

  pub astray_tells : (p : Pairing) → IsPairingOf x.due.replies x.got.replies p → IsSeenAstray p ↔ CannotCome x
  astray_tells p h = pick p.differs refl
    where
      pick : (b : Bool) → p.differs ≡ b → IsSeenAstray p ↔ CannotCome x
      pick true is = (λ seen. inl (λ begins. no_beginning dues gots (h.differ is) begins), λ cannot. inl is)
      pick false is =
          let both = left_tells p.early p.due p.pings p.unmatched (h.messages is) (h.pongs is) in
          (λ seen. both.0 (other seen), λ cannot. inr (both.1 cannot))
        where
          other : IsSeenAstray p → Seen p.early p.due p.unmatched
          other (inl e) = absurd (let wrong : true ≡ false = sym e ∙ is in cc)
          other (inr seen) = seen

-- ---- what the turns show

pub tells_astray : EventLaws → (tested : Role) (turns : List Turn) (x v : GrowingValue) (r : Bool) → x ≡ v
    → ((r ≡ true) ↔ IsSeenAstray x.pairing) → HasGrown tested turns v → ((r ≡ true) ↔ CannotComeAfter tested turns)
tells_astray laws tested turns x v r same tells grown =
    let h = subst (λ (y : GrowingValue). HasGrown tested turns y) (sym same) grown in
    let shown : Evidence = record {
      due = h.due.shown;
      got = h.got.shown;
      turns = length turns;
      ended = Tester;
      answers_doom = false;
    } in
    let is : IsEvidenceOf tested (record { turns = turns; ended = Tester }) shown = record {
      due = h.due.is_shown;
      got = h.got.is_shown;
      turns = refl;
      ended = refl;
      uncounted = refl;
    } in
    let dues : h.due.shown.replies ≡ h.dues =
    h.due.replies.fresh ∙ (ap (λ (l : List (InTurn Reply)). h.dues ++ l) h.no_due ∙ append-nil h.dues) in
    let gots : h.got.shown.replies ≡ h.gots =
    h.got.replies.fresh ∙ (ap (λ (l : List (InTurn Reply)). h.gots ++ l) h.no_got ∙ append-nil h.gots) in
    let pairing = subst (λ (l : List (InTurn Reply)). IsPairingOf l h.got.shown.replies x.pairing) (sym dues)
    (subst (λ (l : List (InTurn Reply)). IsPairingOf h.dues l x.pairing) (sym gots) h.pairing) in
    let both = astray_tells shown x.pairing pairing in (
      λ e. record { evidence = shown; is_evidence = is; cannot = both.0 (tells.0 e) },
      λ a. tells.1 (both.1 (subst (λ (w : Evidence). CannotCome w)
          (one_evidence laws tested
          (record { turns = turns; ended = Tester }) a.evidence shown a.is_evidence is) a.cannot)),
    )
