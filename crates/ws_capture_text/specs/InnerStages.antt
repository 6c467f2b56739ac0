-- Inside the crate: how far a capture is read, which lines may follow, by their kinds. A reader may skip this file.
use Rattle.std.specs.Prelude.{◌≡◌, ℕ, List, [], ◌∷◌, codes, Option, Some, None, refl}
use Rattle.std.proofs.Common.{inl, inr}
use Rattle.std.specs.List.{AllZip}
use Rattle.ws_formats.specs.Lines.{CanBeTold}
use Rattle.ws_formats.proofs.LetterLines.{line_by}
use Rattle.ws_capture_text.specs.declared.mark.Mark.TheVariants as mark
use Rattle.ws_capture_text.specs.declared.line_kind.LineKind.{LineKind}
use Rattle.ws_capture_text.specs.declared.line_kind.LineKind.TheVariants.{FirstOf1, FirstOf2, Key, Begin, Data}
use Rattle.ws_capture_text.specs.declared.line_kind.LineKind.TheVariants.{End, Broken}
use Rattle.ws_capture_text.specs.declared.stage.Stage.{Stage}
use Rattle.ws_capture_text.specs.declared.stage.Stage.TheVariants.{Nothing, FirstOfTwo, One, Settled, Begun}
use Rattle.ws_capture_text.specs.declared.stage.Stage.TheVariants.{Sent, Whole}
use Rattle.ws_capture_text.specs.InnerKinds.{IsKindOf}

-- the first line tells the format
abbrev pub after_nothing : LineKind → Option Stage
after_nothing FirstOf1 = Some One
after_nothing FirstOf2 = Some FirstOfTwo
after_nothing Key = None
after_nothing Begin = None
after_nothing (Data mark) = None
after_nothing End = None
after_nothing Broken = None

-- the second line of format 2 tells the key
abbrev pub after_format : LineKind → Option Stage
after_format FirstOf1 = None
after_format FirstOf2 = None
after_format Key = Some Settled
after_format Begin = None
after_format (Data mark) = None
after_format End = None
after_format Broken = None

-- in format 1 any line with bytes may follow, or how the connection ended, but not that it broke
abbrev pub after_lines : LineKind → Option Stage
after_lines FirstOf1 = None
after_lines FirstOf2 = None
after_lines Key = None
after_lines Begin = None
after_lines (Data mark) = Some One
after_lines End = Some Whole
after_lines Broken = None

-- behind a turn stands the next, or how the connection ended
abbrev pub after_turns : LineKind → Option Stage
after_turns FirstOf1 = None
after_turns FirstOf2 = None
after_turns Key = None
after_turns Begin = Some Begun
after_turns (Data mark) = None
after_turns End = Some Whole
after_turns Broken = Some Whole

-- behind its sent bytes a turn may have got bytes
abbrev pub after_sent : LineKind → Option Stage
after_sent FirstOf1 = None
after_sent FirstOf2 = None
after_sent Key = None
after_sent Begin = Some Begun
after_sent (Data mark.Sent) = None
after_sent (Data mark.Got) = Some Settled
after_sent End = Some Whole
after_sent Broken = Some Whole

-- a turn may have sent bytes, or got bytes
abbrev pub after_begin : LineKind → Option Stage
after_begin FirstOf1 = None
after_begin FirstOf2 = None
after_begin Key = None
after_begin Begin = Some Begun
after_begin (Data mark.Sent) = Some Sent
after_begin (Data mark.Got) = Some Settled
after_begin End = Some Whole
after_begin Broken = Some Whole

-- how far a capture is read with one more line, where that may follow
abbrev pub stage_after : Stage → LineKind → Option Stage
stage_after Nothing kind = after_nothing kind
stage_after FirstOfTwo kind = after_format kind
stage_after One kind = after_lines kind
stage_after Settled kind = after_turns kind
stage_after Begun kind = after_begin kind
stage_after Sent kind = after_sent kind
stage_after Whole kind = None

abbrev pub maybe_after : Option Stage → LineKind → Option Stage
maybe_after None kind = None
maybe_after (Some stage) kind = stage_after stage kind

-- how far it is read with more lines
abbrev pub reached : List LineKind → Option Stage → Option Stage
reached [] stage = stage
reached (kind ∷ kinds) stage = reached kinds (maybe_after stage kind)

-- with these lines after what was read, all lines of a capture are read
abbrev pub ReachesWhole : Stage → Unit {0} → List (List ℕ) → Type 0
ReachesWhole stage value lines =
    (kinds : List LineKind) × AllZip IsKindOf kinds lines × (reached kinds (Some stage) ≡ Some Whole)

abbrev EndsSo : Stage → Type 0
EndsSo stage = reached (End ∷ []) (Some stage) ≡ Some Whole

by_the_end : (stage : Stage) → EndsSo stage → CanBeTold (ReachesWhole stage)
by_the_end stage ends = (
  tt,
  codes "end peer" ∷ [],
  (line_by (codes "end peer") refl, tt),
  (End ∷ [], (inr refl, tt), ends),
)

-- what was read of a capture begins some capture
pub stage_goes_on : (stage : Stage) → CanBeTold (ReachesWhole stage)
stage_goes_on Nothing = (
  tt,
  codes "wst-capture 1" ∷ codes "end peer" ∷ [],
  (line_by (codes "wst-capture 1") refl, (line_by (codes "end peer") refl, tt)),
  (FirstOf1 ∷ End ∷ [], (refl, (inr refl, tt)), refl),
)
stage_goes_on FirstOfTwo = (
  tt,
  codes "key -" ∷ codes "end peer" ∷ [],
  (line_by (codes "key -") refl, (line_by (codes "end peer") refl, tt)),
  (Key ∷ End ∷ [], (inl refl, (inr refl, tt)), refl),
)
stage_goes_on One = by_the_end One refl
stage_goes_on Settled = by_the_end Settled refl
stage_goes_on Begun = by_the_end Begun refl
stage_goes_on Sent = by_the_end Sent refl
stage_goes_on Whole = (tt, [], tt, ([], tt, refl))
