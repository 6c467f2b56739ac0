-- What comes of one message or pong more, where what was got is compared with what is due as it comes.
use Rattle.std.proofs.Common.{◌≡◌, ◌∙◌, Bool, true, false, cond, if◌then◌else◌}
use Rattle.std.proofs.Common.{List, [], ◌∷◌, ◌++◌, find, is_some, drop}
use Rattle.std.proofs.Common.{Option, None, Some, ◌⊎◌, inl, inr, ap, sym}
use Rattle.std.proofs.Common.{refl, subst, append_assoc, append-nil, ◌||◌, OnOk, Result, Ok, Err}
use Rattle.std.proofs.lemmas.List.{map-append}
use Rattle.std.proofs.lemmas.List.Elements.{filter-append}
use Rattle.std.specs.List.{list_any}
use Rattle.ws_suite.specs.declared.evidence.InTurn.{InTurn}
use Rattle.ws_suite.specs.declared.evidence.Reply.{Reply}
use Rattle.ws_suite.specs.declared.evidence.Reply.TheVariants as reply
use Rattle.ws_suite.specs.declared.evidence.pairing.Pairing.{Pairing}
use Rattle.ws_suite.specs.InnerPairing.{WaitsFor}
use Rattle.ws_suite.specs.Matching.{after_match, bare, due_after, has_payload_of, is_message, is_pong, matches_of}
use Rattle.ws_suite.specs.Matching.{message_replies, pong_replies}
use Rattle.ws_suite.specs.Pairings.{AreLeftOf, ArePaired, Differ, HasNoMatch, IsPairingOf}
use Rattle.ws_suite.specs.Verdicts.{is_unmatched}
use Rattle.ws_suite.proofs.GrowingLemmas.{pong_is_no_message}

-- ---- both sides alike

pub swap_left : (dues gots due got : List Reply) → AreLeftOf dues gots due got → AreLeftOf gots dues got due
swap_left dues gots due got h = record {
  same = h.same;
  dues_are = h.gots_are;
  gots_are = h.dues_are;
  one = other h.one;
}
  where
    other : (due ≡ []) ⊎ (got ≡ []) → (got ≡ []) ⊎ (due ≡ [])
    other (inl e) = inr e
    other (inr e) = inl e

pub swap_differ : (dues gots : List Reply) → Differ dues gots → Differ gots dues
swap_differ dues gots h = record {
  same = h.same;
  due = h.got;
  later_dues = h.later_gots;
  got = h.due;
  later_gots = h.later_dues;
  dues_are = h.gots_are;
  gots_are = h.dues_are;
  other = λ e. h.other (sym e);
}

-- what differs does so whatever comes
pub differ_more : (dues gots more : List Reply) → Differ dues gots → Differ (dues ++ more) gots
differ_more dues gots more h = record {
  same = h.same;
  due = h.due;
  later_dues = h.later_dues ++ more;
  got = h.got;
  later_gots = h.later_gots;
  dues_are = ap (λ (l : List Reply). l ++ more) h.dues_are ∙ append_assoc h.same (h.due ∷ h.later_dues) more;
  gots_are = h.gots_are;
  other = h.other;
}

-- ---- one message more

module _ (alls all_others : List Reply) (mine others : List (InTurn Reply)) (r : InTurn Reply) (w : Reply)
    (is : r.what ≡ w)
    (h : AreLeftOf alls all_others (bare mine) (bare others)) where
  pub left_alone : others ≡ [] → AreLeftOf (alls ++ w ∷ []) all_others (bare (mine ++ r ∷ [])) (bare others)
  left_alone none = record {
    same = h.same;
    dues_are =
        ap (λ (l : List Reply). l ++ w ∷ []) h.dues_are ∙ (append_assoc h.same (bare mine) (w ∷ [])
        ∙ (ap (λ (v : Reply). h.same ++ (bare mine ++ v ∷ [])) (sym is)
        ∙ ap (λ (l : List Reply). h.same ++ l) (sym (map-append (λ (x : InTurn Reply). x.what) mine (r ∷ [])))));
    gots_are = h.gots_are;
    one = inr (ap (λ (l : List (InTurn Reply)). bare l) none);
  }

  module _ (first : InTurn Reply) (later : List (InTurn Reply)) (there : others ≡ first ∷ later) where
    none_mine : bare mine ≡ []
    none_mine = pick h.one
      where
        pick : (bare mine ≡ []) ⊎ (bare others ≡ []) → bare mine ≡ []
        pick (inl e) = e
        pick (inr e) =
            absurd (let wrong : first.what ∷ bare later ≡ [] = ap (λ (l : List (InTurn Reply)). bare l) (sym there)
            ∙ e in cc)

    mine_same : alls ≡ h.same
    mine_same = h.dues_are ∙ (ap (λ (l : List Reply). h.same ++ l) none_mine ∙ append-nil h.same)

    others_are : all_others ≡ h.same ++ first.what ∷ bare later
    others_are = h.gots_are ∙ ap (λ (l : List (InTurn Reply)). h.same ++ bare l) there

    pub left_same : first.what ≡ w → AreLeftOf (alls ++ w ∷ []) all_others (bare mine) (bare later)
    left_same same = record {
      same = h.same ++ w ∷ [];
      dues_are =
          ap (λ (l : List Reply). l ++ w ∷ []) mine_same ∙ (sym (append-nil (h.same ++ w ∷ []))
          ∙ ap (λ (l : List Reply). (h.same ++ w ∷ []) ++ l) (sym none_mine));
      gots_are =
          others_are ∙ (ap (λ (v : Reply). h.same ++ v ∷ bare later) same
          ∙ sym (append_assoc h.same (w ∷ []) (bare later)));
      one = inl none_mine;
    }

    pub left_other : (first.what ≡ w → ⊥) → Differ (alls ++ w ∷ []) all_others
    left_other other = record {
      same = h.same;
      due = w;
      later_dues = [];
      got = first.what;
      later_gots = bare later;
      dues_are = ap (λ (l : List Reply). l ++ w ∷ []) mine_same;
      gots_are = others_are;
      other = λ e. other (sym e);
    }

-- ---- one pong more

-- what is found in a front is found in the whole, and so is what stands after it
find_front : (pong : InTurn Reply) (pings more : List (InTurn Reply)) (d : InTurn Reply)
    → find (has_payload_of pong) pings ≡ Some d
    → (find (has_payload_of pong) (pings ++ more) ≡ Some d)
    × (after_match pong (pings ++ more) ≡ after_match pong pings ++ more)
find_front pong [] more d found = absurd cc
find_front pong (x ∷ pings) more d found = pick (λ e. find_front pong pings more d e) (has_payload_of pong x) refl found
  where
    pick : (find (has_payload_of pong) pings ≡ Some d
        → (find (has_payload_of pong) (pings ++ more) ≡ Some d)
        × (after_match pong (pings ++ more) ≡ after_match pong pings ++ more))
        → (b : Bool) → has_payload_of pong x ≡ b → cond b (Some x) (find (has_payload_of pong) pings) ≡ Some d
        → (cond (has_payload_of pong x) (Some x) (find (has_payload_of pong) (pings ++ more)) ≡ Some d)
        × ((if has_payload_of pong x then pings ++ more else after_match pong (pings ++ more))
        ≡ (if has_payload_of pong x then pings else after_match pong pings) ++ more)
    pick later_too true is e = (
      ap (λ (b : Bool). cond b (Some x) (find (has_payload_of pong) (pings ++ more))) is ∙ e,
      ap (λ (b : Bool). if b then pings ++ more else after_match pong (pings ++ more)) is
          ∙ ap (λ (b : Bool). (if b then pings else after_match pong pings) ++ more) (sym is),
    )
    pick later_too false is e =
        let later = later_too e in (
          ap (λ (b : Bool). cond b (Some x) (find (has_payload_of pong) (pings ++ more))) is ∙ later.0,
          ap (λ (b : Bool). if b then pings ++ more else after_match pong (pings ++ more)) is
              ∙ (later.1 ∙ ap (λ (b : Bool). (if b then pings else after_match pong pings) ++ more) (sym is)),
        )

after_found : (pong : InTurn Reply) (pings : List (InTurn Reply)) (d : InTurn Reply)
    → find (has_payload_of pong) pings ≡ Some d
    → due_after pong pings ≡ after_match pong pings
after_found pong pings d found =
    ap (λ (o : Option (InTurn Reply)). if is_some o then after_match pong pings else pings) found

-- a pong that has a match is done with
pub is_matched : (pong : InTurn Reply) (pings more gots : List (InTurn Reply)) (d : InTurn Reply)
    → find (has_payload_of pong) pings ≡ Some d
    → list_any is_unmatched (matches_of (pings ++ more) (pong ∷ gots))
    ≡ list_any is_unmatched (matches_of (due_after pong pings ++ more) gots)
is_matched pong pings more gots d found =
    let front = find_front pong pings more d found in
    let left : due_after pong (pings ++ more) ≡ due_after pong pings ++ more =
    after_found pong (pings ++ more) d front.0 ∙ (front.1
    ∙ ap (λ (l : List (InTurn Reply)). l ++ more) (sym (after_found pong pings d found))) in
    ap (λ (o : Option (InTurn Reply)). is_unmatched (pong, o) || list_any is_unmatched (matches_of (due_after pong
    (pings ++ more)) gots)) front.0
    ∙ ap (λ (l : List (InTurn Reply)). list_any is_unmatched (matches_of l gots)) left

-- where none has the payload, only the last may have it, and nothing stands after it
last_match : (pong : InTurn Reply) (pings : List (InTurn Reply)) (r : InTurn Reply)
    → find (has_payload_of pong) pings ≡ None
    → has_payload_of pong r ≡ true
    → (find (has_payload_of pong) (pings ++ r ∷ []) ≡ Some r) × (after_match pong (pings ++ r ∷ []) ≡ [])
last_match pong [] r none is = (
  ap (λ (b : Bool). cond b (Some r) None) is,
  ap (λ (b : Bool). if b then [] else []) is,
)
last_match pong (x ∷ pings) r none is = pick (λ n. last_match pong pings r n is) (has_payload_of pong x) refl none
  where
    pick : (find (has_payload_of pong) pings ≡ None
        → (find (has_payload_of pong) (pings ++ r ∷ []) ≡ Some r) × (after_match pong (pings ++ r ∷ []) ≡ []))
        → (b : Bool) → has_payload_of pong x ≡ b → cond b (Some x) (find (has_payload_of pong) pings) ≡ None
        → (cond (has_payload_of pong x) (Some x) (find (has_payload_of pong) (pings ++ r ∷ [])) ≡ Some r)
        × ((if has_payload_of pong x then pings ++ r ∷ [] else after_match pong (pings ++ r ∷ [])) ≡ [])
    pick later_too true e n = absurd cc
    pick later_too false e n =
        let later = later_too n in (
          ap (λ (b : Bool). cond b (Some x) (find (has_payload_of pong) (pings ++ r ∷ []))) e ∙ later.0,
          ap (λ (b : Bool). if b then pings ++ r ∷ [] else after_match pong (pings ++ r ∷ [])) e ∙ later.1,
        )

no_match_more : (pong : InTurn Reply) (pings : List (InTurn Reply)) (r : InTurn Reply)
    → find (has_payload_of pong) pings ≡ None
    → has_payload_of pong r ≡ false → find (has_payload_of pong) (pings ++ r ∷ []) ≡ None
no_match_more pong [] r none is = ap (λ (b : Bool). cond b (Some r) None) is
no_match_more pong (x ∷ pings) r none is = pick (λ n. no_match_more pong pings r n is) (has_payload_of pong x) refl none
  where
    pick : (find (has_payload_of pong) pings ≡ None → find (has_payload_of pong) (pings ++ r ∷ []) ≡ None)
        → (b : Bool) → has_payload_of pong x ≡ b → cond b (Some x) (find (has_payload_of pong) pings) ≡ None
        → cond (has_payload_of pong x) (Some x) (find (has_payload_of pong) (pings ++ r ∷ [])) ≡ None
    pick later true e n = absurd cc
    pick later false e n = ap (λ (b : Bool). cond b (Some x) (find (has_payload_of pong) (pings ++ r ∷ []))) e ∙ later n

pub none_there : {X : Type 0} (o : Option X) → is_some o ≡ false → o ≡ None
none_there None e = refl
none_there (Some x) e = absurd cc

pub after_none : (pong : InTurn Reply) (pings : List (InTurn Reply)) → find (has_payload_of pong) pings ≡ None
    → due_after pong pings ≡ pings
after_none pong pings none =
    ap (λ (o : Option (InTurn Reply)). if is_some o then after_match pong pings else pings) none

some_there : {X : Type 0} (o : Option X) → is_some o ≡ true → (x : X) × (o ≡ Some x)
some_there None e = absurd cc
some_there (Some x) e = (x, refl)

module _ (dues gots pings unmatched : List (InTurn Reply)) (r : InTurn Reply)
    (h : ArePaired dues gots pings unmatched) where
  -- one more is due, and no pong waits for it
  pub due_later : (more_dues more_gots : List (InTurn Reply))
      → list_any is_unmatched (matches_of ((dues ++ r ∷ []) ++ more_dues) (gots ++ more_gots))
      ≡ list_any is_unmatched (matches_of ((pings ++ r ∷ []) ++ more_dues) (unmatched ++ more_gots))
  due_later more_dues more_gots =
      ap (λ (l : List (InTurn Reply)). list_any is_unmatched (matches_of l (gots ++ more_gots))) (append_assoc dues
      (r ∷ []) more_dues)
      ∙ (h.later (r ∷ more_dues) more_gots
      ∙ ap (λ (l : List (InTurn Reply)). list_any is_unmatched (matches_of l (unmatched ++ more_gots))) (sym
      (append_assoc pings (r ∷ []) more_dues)))

  -- one more was got
  pub got_later : (more_dues more_gots : List (InTurn Reply))
      → list_any is_unmatched (matches_of (dues ++ more_dues) ((gots ++ r ∷ []) ++ more_gots))
      ≡ list_any is_unmatched (matches_of (pings ++ more_dues) ((unmatched ++ r ∷ []) ++ more_gots))
  got_later more_dues more_gots =
      ap (λ (l : List (InTurn Reply)). list_any is_unmatched (matches_of (dues ++ more_dues) l)) (append_assoc gots
      (r ∷ []) more_gots)
      ∙ (h.later more_dues (r ∷ more_gots)
      ∙ ap (λ (l : List (InTurn Reply)). list_any is_unmatched (matches_of (pings ++ more_dues) l)) (sym
      (append_assoc unmatched (r ∷ []) more_gots)))

  -- a pong is kept, where others wait, or it has no match
  pub pong_waits : HasNoMatch (unmatched ++ r ∷ []) pings → ArePaired dues (gots ++ r ∷ []) pings (unmatched ++ r ∷ [])
  pong_waits first = record { later = got_later; first = first }

-- none waits, and the pong that was got has a match
pub pong_matched : (dues gots pings : List (InTurn Reply)) (r : InTurn Reply) → ArePaired dues gots pings []
    → is_some (find (has_payload_of r) pings) ≡ true → ArePaired dues (gots ++ r ∷ []) (due_after r pings) []
pong_matched dues gots pings r h some =
    let d = some_there (find (has_payload_of r) pings) some in
    record {
      later = λ more_dues more_gots. got_later dues gots pings [] r h more_dues more_gots
          ∙ is_matched r pings more_dues more_gots d.0 d.1;
      first = tt;
    }

-- others wait
pub still_waits : (unmatched pings : List (InTurn Reply)) (r : InTurn Reply) → (unmatched ≡ [] → ⊥)
    → HasNoMatch unmatched pings
    → HasNoMatch (unmatched ++ r ∷ []) pings
still_waits [] pings r some h = absurd (some refl)
still_waits (p ∷ unmatched) pings r some h = h

-- others wait
pub others_wait : (dues gots pings unmatched : List (InTurn Reply)) (r : InTurn Reply) → (unmatched ≡ [] → ⊥)
    → ArePaired dues gots pings unmatched → ArePaired dues (gots ++ r ∷ []) pings (unmatched ++ r ∷ [])
others_wait dues gots pings unmatched r some h =
    pong_waits dues gots pings unmatched r h (still_waits unmatched pings r some h.first)

-- none waits, and it has no match
pub first_waits : (dues gots pings : List (InTurn Reply)) (r : InTurn Reply) → find (has_payload_of r) pings ≡ None
    → ArePaired dues gots pings [] → ArePaired dues (gots ++ r ∷ []) pings (r ∷ [])
first_waits dues gots pings r none h = pong_waits dues gots pings [] r h none

-- one more is due, and no pong waits for it
pub due_waits : (dues gots pings unmatched : List (InTurn Reply)) (r : InTurn Reply) → WaitsFor unmatched r false
    → ArePaired dues gots pings unmatched → ArePaired (dues ++ r ∷ []) gots (pings ++ r ∷ []) unmatched
due_waits dues gots pings unmatched r waits h = record {
  later = due_later dues gots pings unmatched r h;
  first = none unmatched waits h.first;
}
  where
    none : (pongs : List (InTurn Reply)) → WaitsFor pongs r false → HasNoMatch pongs pings
        → HasNoMatch pongs (pings ++ r ∷ [])
    none [] w first = tt
    none (p ∷ pongs) w first = no_match_more p pings r first (sym w)

nowhere : (pongs : List (InTurn Reply)) → HasNoMatch pongs []
nowhere [] = tt
nowhere (q ∷ pongs) = refl

-- the first that waits has its match now
pub due_meets : (dues gots pings unmatched : List (InTurn Reply)) (r : InTurn Reply) → WaitsFor unmatched r true
    → ArePaired dues gots pings unmatched → ArePaired (dues ++ r ∷ []) gots [] (drop 1 unmatched)
due_meets dues gots pings [] r waits h = absurd cc
due_meets dues gots pings (p ∷ pongs) r waits h =
    let all = pings ++ r ∷ [] in
    let found = last_match p pings r h.first (sym waits) in
    let nothing : due_after p all ≡ [] = after_found p all r found.0 ∙ found.1 in
    record {
      later = λ more_dues more_gots. due_later dues gots pings (p ∷ pongs) r h more_dues more_gots
          ∙ (is_matched p all more_dues (pongs ++ more_gots) r found.0
          ∙ ap (λ (l : List (InTurn Reply)). list_any is_unmatched (matches_of (l ++ more_dues)
          (pongs ++ more_gots))) nothing);
      first = nowhere pongs;
    }

-- ---- one reply more

message_is_no_pong : (r : Reply) → is_message r ≡ true → is_pong r ≡ false
message_is_no_pong (reply.Message message) e = refl
message_is_no_pong (reply.Pong payload) e = absurd cc
message_is_no_pong (reply.Ping payload) e = absurd cc

pub bare_more : (xs ys : List (InTurn Reply)) → bare (message_replies (xs ++ ys))
    ≡ bare (message_replies xs) ++ bare (message_replies ys)
bare_more xs ys =
    ap (λ (l : List (InTurn Reply)). bare l) (filter-append (λ (x : InTurn Reply). is_message x.what) xs ys)
    ∙ map-append (λ (x : InTurn Reply). x.what) (message_replies xs) (message_replies ys)

pub pongs_more : (xs ys : List (InTurn Reply)) → pong_replies (xs ++ ys) ≡ pong_replies xs ++ pong_replies ys
pongs_more xs ys = filter-append (λ (x : InTurn Reply). is_pong x.what) xs ys

module _ (dues gots : List (InTurn Reply)) (p : Pairing) (r : InTurn Reply) (h : IsPairingOf dues gots p) where
  -- where messages differ they do so with any more
  pub due_differs : p.differs ≡ true → IsPairingOf (dues ++ r ∷ []) gots p
  due_differs is = record {
    messages = λ e. absurd (let wrong : true ≡ false = sym is ∙ e in cc);
    differ = λ e. subst (λ (l : List Reply). Differ l (bare (message_replies gots))) (sym (bare_more dues (r ∷ [])))
        (differ_more (bare (message_replies dues)) (bare (message_replies gots)) (bare (message_replies (r ∷ [])))
        (h.differ e));
    pongs = λ e. absurd (let wrong : true ≡ false = sym is ∙ e in cc);
  }

  pub got_differs : p.differs ≡ true → IsPairingOf dues (gots ++ r ∷ []) p
  got_differs is = record {
    messages = λ e. absurd (let wrong : true ≡ false = sym is ∙ e in cc);
    differ = λ e. subst (λ (l : List Reply). Differ (bare (message_replies dues)) l) (sym (bare_more gots (r ∷ [])))
        (swap_differ (bare (message_replies gots) ++ bare (message_replies (r ∷ []))) (bare (message_replies dues))
        (differ_more (bare (message_replies gots)) (bare (message_replies dues)) (bare (message_replies (r ∷ [])))
        (swap_differ (bare (message_replies dues)) (bare (message_replies gots)) (h.differ e))));
    pongs = λ e. absurd (let wrong : true ≡ false = sym is ∙ e in cc);
  }

  -- ---- a message

  module _ (is : is_message r.what ≡ true) (new_due new_early : List (InTurn Reply)) where
    no_pong : is_pong r.what ≡ false
    no_pong = message_is_no_pong r.what is

    same_pongs : (xs : List (InTurn Reply)) → pong_replies (xs ++ r ∷ []) ≡ pong_replies xs
    same_pongs xs =
        pongs_more xs (r ∷ []) ∙ (ap (λ (b : Bool). pong_replies xs ++ (if b then r ∷ [] else [])) no_pong
        ∙ append-nil (pong_replies xs))

    one_more : (xs : List (InTurn Reply)) → bare (message_replies (xs ++ r ∷ []))
        ≡ bare (message_replies xs) ++ r.what ∷ []
    one_more xs = bare_more xs (r ∷ [])
        ∙ ap (λ (b : Bool). bare (message_replies xs) ++ bare (if b then r ∷ [] else [])) is

    pub due_met : p.differs ≡ false
        → AreLeftOf (bare (message_replies dues) ++ r.what ∷ []) (bare (message_replies gots)) (bare new_due)
        (bare new_early)
        → IsPairingOf (dues ++ r ∷ []) gots (record {
          due = new_due;
          early = new_early;
          differs = p.differs;
          pings = p.pings;
          unmatched = p.unmatched;
        })
    due_met alike left = record {
      messages = λ e. subst (λ (l : List Reply). AreLeftOf l (bare (message_replies gots)) (bare new_due)
          (bare new_early))
          (sym (one_more dues)) left;
      differ = λ e. absurd (let wrong : false ≡ true = sym alike ∙ e in cc);
      pongs = λ e. subst (λ (l : List (InTurn Reply)). ArePaired l (pong_replies gots) p.pings p.unmatched)
          (sym (same_pongs dues)) (h.pongs e);
    }

    pub got_met : p.differs ≡ false
        → AreLeftOf (bare (message_replies gots) ++ r.what ∷ []) (bare (message_replies dues)) (bare new_early)
        (bare new_due)
        → IsPairingOf dues (gots ++ r ∷ []) (record {
          due = new_due;
          early = new_early;
          differs = p.differs;
          pings = p.pings;
          unmatched = p.unmatched;
        })
    got_met alike left = record {
      messages = λ e. subst (λ (l : List Reply). AreLeftOf (bare (message_replies dues)) l (bare new_due)
          (bare new_early))
          (sym (one_more gots))
          (swap_left (bare (message_replies gots) ++ r.what ∷ []) (bare (message_replies dues)) (bare new_early)
          (bare new_due) left);
      differ = λ e. absurd (let wrong : false ≡ true = sym alike ∙ e in cc);
      pongs = λ e. subst (λ (l : List (InTurn Reply)). ArePaired (pong_replies dues) l p.pings p.unmatched)
          (sym (same_pongs gots)) (h.pongs e);
    }

  pub due_unlike : is_message r.what ≡ true
      → Differ (bare (message_replies dues) ++ r.what ∷ []) (bare (message_replies gots)) → (q : Pairing)
      → q.differs ≡ true
      → IsPairingOf (dues ++ r ∷ []) gots q
  due_unlike is differ q now = record {
    messages = λ e. absurd (let wrong : true ≡ false = sym now ∙ e in cc);
    differ = λ e. subst (λ (l : List Reply). Differ l (bare (message_replies gots))) (sym
        (one_more is [] [] dues)) differ;
    pongs = λ e. absurd (let wrong : true ≡ false = sym now ∙ e in cc);
  }

  pub got_unlike : is_message r.what ≡ true
      → Differ (bare (message_replies gots) ++ r.what ∷ []) (bare (message_replies dues)) → (q : Pairing)
      → q.differs ≡ true
      → IsPairingOf dues (gots ++ r ∷ []) q
  got_unlike is differ q now = record {
    messages = λ e. absurd (let wrong : true ≡ false = sym now ∙ e in cc);
    differ = λ e. subst (λ (l : List Reply). Differ (bare (message_replies dues)) l) (sym (one_more is [] [] gots))
        (swap_differ (bare (message_replies gots) ++ r.what ∷ []) (bare (message_replies dues)) differ);
    pongs = λ e. absurd (let wrong : true ≡ false = sym now ∙ e in cc);
  }

  -- ---- a pong

  module _ (is : is_pong r.what ≡ true) (new_pings new_unmatched : List (InTurn Reply)) where
    same_messages : (xs : List (InTurn Reply)) → message_replies (xs ++ r ∷ []) ≡ message_replies xs
    same_messages xs =
        filter-append (λ (x : InTurn Reply). is_message x.what) xs (r ∷ [])
        ∙ (ap (λ (b : Bool). message_replies xs ++ (if b then r ∷ [] else [])) (pong_is_no_message r.what is)
        ∙ append-nil (message_replies xs))

    pong_more : (xs : List (InTurn Reply)) → pong_replies (xs ++ r ∷ []) ≡ pong_replies xs ++ r ∷ []
    pong_more xs = pongs_more xs (r ∷ []) ∙ ap (λ (b : Bool). pong_replies xs ++ (if b then r ∷ [] else [])) is

    pub due_paired : p.differs ≡ false → ArePaired (pong_replies dues ++ r ∷ [])
        (pong_replies gots) new_pings new_unmatched
        → IsPairingOf (dues ++ r ∷ []) gots (record {
          due = p.due;
          early = p.early;
          differs = p.differs;
          pings = new_pings;
          unmatched = new_unmatched;
        })
    due_paired alike paired = record {
      messages = λ e. subst (λ (l : List (InTurn Reply)). AreLeftOf (bare l) (bare (message_replies gots))
          (bare p.due) (bare p.early))
          (sym (same_messages dues)) (h.messages e);
      differ = λ e. absurd (let wrong : false ≡ true = sym alike ∙ e in cc);
      pongs = λ e. subst (λ (l : List (InTurn Reply)). ArePaired l (pong_replies gots) new_pings new_unmatched)
          (sym (pong_more dues)) paired;
    }

    pub got_paired : p.differs ≡ false → ArePaired (pong_replies dues)
        (pong_replies gots ++ r ∷ []) new_pings new_unmatched
        → IsPairingOf dues (gots ++ r ∷ []) (record {
          due = p.due;
          early = p.early;
          differs = p.differs;
          pings = new_pings;
          unmatched = new_unmatched;
        })
    got_paired alike paired = record {
      messages = λ e. subst (λ (l : List (InTurn Reply)). AreLeftOf (bare (message_replies dues)) (bare l)
          (bare p.due) (bare p.early))
          (sym (same_messages gots)) (h.messages e);
      differ = λ e. absurd (let wrong : false ≡ true = sym alike ∙ e in cc);
      pongs = λ e. subst (λ (l : List (InTurn Reply)). ArePaired (pong_replies dues) l new_pings new_unmatched)
          (sym (pong_more gots)) paired;
    }

  -- ---- what is neither

  module _ (no_message : is_message r.what ≡ false) (no_pong : is_pong r.what ≡ false) where
    same_lists : (xs : List (InTurn Reply)) → (message_replies (xs ++ r ∷ []) ≡ message_replies xs)
        × (pong_replies (xs ++ r ∷ []) ≡ pong_replies xs)
    same_lists xs = (
      filter-append (λ (x : InTurn Reply). is_message x.what) xs (r ∷ [])
          ∙ (ap (λ (b : Bool). message_replies xs ++ (if b then r ∷ [] else [])) no_message
          ∙ append-nil (message_replies xs)),
      pongs_more xs (r ∷ []) ∙ (ap (λ (b : Bool). pong_replies xs ++ (if b then r ∷ [] else [])) no_pong
          ∙ append-nil (pong_replies xs)),
    )

    made : (ds gs : List (InTurn Reply)) → message_replies ds ≡ message_replies dues
        → pong_replies ds ≡ pong_replies dues
        → message_replies gs ≡ message_replies gots → pong_replies gs ≡ pong_replies gots → IsPairingOf ds gs p
    made ds gs dm dp gm gp = record {
      messages = λ e. subst (λ (l : List (InTurn Reply)). AreLeftOf (bare l) (bare (message_replies gs)) (bare p.due)
          (bare p.early))
          (sym dm) (subst (λ (l : List (InTurn Reply)). AreLeftOf (bare (message_replies dues)) (bare l) (bare p.due)
          (bare p.early))
          (sym gm) (h.messages e));
      differ = λ e. subst (λ (l : List (InTurn Reply)). Differ (bare l) (bare (message_replies gs))) (sym dm)
          (subst (λ (l : List (InTurn Reply)). Differ (bare (message_replies dues)) (bare l)) (sym gm) (h.differ e));
      pongs = λ e. subst (λ (l : List (InTurn Reply)). ArePaired l (pong_replies gs) p.pings p.unmatched) (sym dp)
          (subst (λ (l : List (InTurn Reply)). ArePaired (pong_replies dues) l p.pings p.unmatched) (sym gp)
          (h.pongs e));
    }

    pub due_neither : IsPairingOf (dues ++ r ∷ []) gots p
    due_neither = made (dues ++ r ∷ []) gots (same_lists dues).0 (same_lists dues).1 refl refl

    pub got_neither : IsPairingOf dues (gots ++ r ∷ []) p
    got_neither = made dues (gots ++ r ∷ []) refl refl (same_lists gots).0 (same_lists gots).1

-- ---- a call that may fail

pub where_ok : {A E P Q : Type 0} (r : Result A E) → (P → Q) → OnOk r P → OnOk r Q
where_ok (Ok x) so h = so h
where_ok (Err e) so h = h
