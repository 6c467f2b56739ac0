-- What was got is compared with what is due as it comes: what is left to compare, and whether something differs.
use Rattle.std.specs.Prelude.{◌≡◌, ◌⊎◌, ⊤, true, false, List, [], ◌∷◌, ◌++◌, find, None}
use Rattle.std.specs.List.{list_any}
use Rattle.ws_suite.specs.declared.evidence.InTurn.{InTurn}
use Rattle.ws_suite.specs.declared.evidence.Reply.{Reply}
use Rattle.ws_suite.specs.declared.evidence.pairing.Pairing.{Pairing}
use Rattle.ws_suite.specs.Matching.{bare, has_payload_of, matches_of, message_replies, pong_replies}
use Rattle.ws_suite.specs.Verdicts.{is_unmatched}

-- Both lists begin with the same, and then only one of them goes on: so these are left of each.
pub record AreLeftOf (dues gots due got : List Reply) : Type 0 where
  pub same : List Reply
  pub dues_are : dues ≡ same ++ due
  pub gots_are : gots ≡ same ++ got
  pub one : (due ≡ []) ⊎ (got ≡ [])

-- they begin with the same, and then differ
pub record Differ (dues gots : List Reply) : Type 0 where
  pub same : List Reply
  pub due : Reply
  pub later_dues : List Reply
  pub got : Reply
  pub later_gots : List Reply
  pub dues_are : dues ≡ same ++ due ∷ later_dues
  pub gots_are : gots ≡ same ++ got ∷ later_gots
  pub other : ¬ (due ≡ got)

-- the first of these pongs has no match
abbrev pub HasNoMatch : List (InTurn Reply) → List (InTurn Reply) → Type 0
HasNoMatch [] pings = ⊤
HasNoMatch (pong ∷ pongs) pings = find (has_payload_of pong) pings ≡ None

-- Of the pongs that are due these are open, and of those that were got these have no match yet, or stand after one that
-- has none: all before them have one. So whatever more is due or comes, these alone are asked whether some pong has no
-- match.
pub record ArePaired (dues gots pings unmatched : List (InTurn Reply)) : Type 0 where
  pub later : (more_dues more_gots : List (InTurn Reply))
      → list_any is_unmatched (matches_of (dues ++ more_dues) (gots ++ more_gots))
      ≡ list_any is_unmatched (matches_of (pings ++ more_dues) (unmatched ++ more_gots))
  pub first : HasNoMatch unmatched pings

-- What comes of these replies, those that are due and those that were got. Once messages differ, nothing more is kept.
pub record IsPairingOf (dues gots : List (InTurn Reply)) (x : Pairing) : Type 0 where
  pub messages : x.differs ≡ false
      → AreLeftOf (bare (message_replies dues)) (bare (message_replies gots)) (bare x.due) (bare x.early)
  pub differ : x.differs ≡ true → Differ (bare (message_replies dues)) (bare (message_replies gots))
  pub pongs : x.differs ≡ false → ArePaired (pong_replies dues) (pong_replies gots) x.pings x.unmatched
