-- A text that is fed piece by piece: its whole lines were taken, and what is left of it is a line that hasn't ended.
use Rattle.std.specs.Prelude.{◌≡◌, ℕ, ◌+◌, List, ◌++◌, length}
use Rattle.std.specs.List.{AllByRecursion, AllZip}
use Rattle.ws_formats.specs.Lines.{IsLine, ended}
use Rattle.ws_text_feed.specs.declared.feeding.TextFeed.{TextFeed}

-- The text is these lines, each of which tells a value, and then a line that is open: it hasn't ended, and has this
-- number, counted from 1. Who was `first` has taken the values, and is what it is now.
pub record HasFed {S T : Type 0} (IsLineOf : T → List ℕ → Type 0) (HasTaken : S → List T → S → Type 0) (first : S)
    (text : List ℕ) (now : S) (partial : List ℕ) (number : ℕ) : Type 0 where
  pub lines : List (List ℕ)
  pub are_lines : AllByRecursion IsLine lines
  pub values : List T
  pub told : AllZip IsLineOf values lines
  pub is_partial : IsLine partial
  pub split : text ≡ ended lines ++ partial
  pub count : number ≡ length lines + 1
  pub taken : HasTaken first values now

-- the same of a feed
abbrev pub IsFed : {S T : Type 0} → (T → List ℕ → Type 0) → (S → List T → S → Type 0) → S → List ℕ → TextFeed S
    → Type 0
IsFed IsLineOf HasTaken first text feed =
    HasFed IsLineOf HasTaken first text feed.taker feed.partial.items feed.number

-- some text was fed to it
abbrev pub WasFed : {S T : Type 0} → (T → List ℕ → Type 0) → (S → List T → S → Type 0) → TextFeed S → Type 0
WasFed {S = S} IsLineOf HasTaken feed =
    (first : S) × (text : List ℕ) × IsFed IsLineOf HasTaken first text feed
