-- A text whose lines tell one value together and that is fed piece by piece: its whole lines were taken, and what is
-- left of it is a line that hasn't ended.
use Rattle.std.specs.Prelude.{◌≡◌, ℕ, ◌+◌, List, ◌++◌, length}
use Rattle.std.specs.List.{AllByRecursion}
use Rattle.ws_formats.specs.Lines.{IsLine, ended}
use Rattle.ws_text_feed.specs.declared.lines_feed.LinesFeed.{LinesFeed}

-- The text is these lines, and then a line that is open: it hasn't ended, and has this number, counted from 1. What was
-- `first` is `now` by these lines: what tells a value behind them tells it with them, and goes on behind them.
pub record HasFedLines {P T : Type 0} (Tell : P → T → List (List ℕ) → Type 0) (first : P) (text : List ℕ) (now : P)
    (partial : List ℕ) (number : ℕ) : Type 0 where
  pub lines : List (List ℕ)
  pub are_lines : AllByRecursion IsLine lines
  pub is_partial : IsLine partial
  pub split : text ≡ ended lines ++ partial
  pub count : number ≡ length lines + 1
  pub goes_on : (value : T) (more : List (List ℕ)) →
      (Tell first value (lines ++ more) → (other : T) × Tell now other more)
      × (Tell now value more → Tell first value (lines ++ more))

-- the same of a feed
abbrev pub AreFedLines : {P T : Type 0} → (P → T → List (List ℕ) → Type 0) → P → List ℕ → LinesFeed P → Type 0
AreFedLines Tell first text feed = HasFedLines Tell first text feed.part feed.partial.items feed.number
