-- Format 2: its lines are read as the kinds of lines tell, and no others are.
use Rattle.std.proofs.Common.{◌≡◌, ◌∙◌, ℕ, inl, inr, List, [], ◌∷◌, ◌++◌, map, codes, ap, ap₂, refl, arith, Option, Some, None}
use Rattle.std.specs.Prelude.{IfSome}
use Rattle.std.specs.List.{AllByRecursion, AllZip}
use Rattle.ws_base.specs.Bytes.{AreBytes}
use Rattle.ws_formats.specs.Words.{AreFourBytes, hex}
use Rattle.ws_scripts.specs.declared.transcript.Turn.{Turn}
use Rattle.ws_scripts.specs.declared.transcript.Ended.{Ended}
use Rattle.ws_scripts.specs.declared.transcript.Ended.TheVariants.{Tester, Peer, Broken}
use Rattle.ws_scripts.specs.declared.capture.Capture.{Capture}
use Rattle.ws_scripts.specs.CaptureLines.{line_words}
use Rattle.ws_scripts.specs.Captures.{AreOfBytes}
use Rattle.ws_scripts.specs.Captures2.{HoldsBytes, capture2_lines, turn_lines}
use Rattle.ws_capture_text.specs.declared.mark.Mark.TheVariants.{Sent, Got}
use Rattle.ws_capture_text.specs.declared.line_kind.LineKind.{LineKind}
use Rattle.ws_capture_text.specs.declared.line_kind.LineKind.TheVariants as kind
use Rattle.ws_capture_text.specs.declared.stage.Stage.TheVariants as stage
use Rattle.ws_capture_text.specs.InnerKinds.{IsKindOf}
use Rattle.ws_capture_text.specs.InnerStages.{reached}
use Rattle.ws_capture_text.proofs.Lines1.{last_kind, turn_of}
use Rattle.ws_capture_text.proofs.StageSteps.{none_whole}

-- the lines of turns, and how the connection ended
abbrev pub lines_with : List Turn → Ended → List (List ℕ)
lines_with turns end = map line_words (turn_lines (record { turns = turns; ended = end }))

no_bytes : AreBytes []
no_bytes i = omega arith

-- ---- the kinds of the lines

-- behind a turn stand lines that may stand behind its beginning, and behind its sent bytes
begun_then : (kinds : List LineKind) → reached kinds (Some stage.Settled) ≡ Some stage.Whole
    → reached kinds (Some stage.Begun) ≡ Some stage.Whole
begun_then [] e = absurd cc
begun_then (kind.FirstOf1 ∷ kinds) e = absurd (none_whole kinds e)
begun_then (kind.FirstOf2 ∷ kinds) e = absurd (none_whole kinds e)
begun_then (kind.Key ∷ kinds) e = absurd (none_whole kinds e)
begun_then (kind.Begin ∷ kinds) e = e
begun_then (kind.Data mark ∷ kinds) e = absurd (none_whole kinds e)
begun_then (kind.End ∷ kinds) e = e
begun_then (kind.Broken ∷ kinds) e = e

sent_then : (kinds : List LineKind) → reached kinds (Some stage.Settled) ≡ Some stage.Whole
    → reached kinds (Some stage.Sent) ≡ Some stage.Whole
sent_then [] e = absurd cc
sent_then (kind.FirstOf1 ∷ kinds) e = absurd (none_whole kinds e)
sent_then (kind.FirstOf2 ∷ kinds) e = absurd (none_whole kinds e)
sent_then (kind.Key ∷ kinds) e = absurd (none_whole kinds e)
sent_then (kind.Begin ∷ kinds) e = e
sent_then (kind.Data mark ∷ kinds) e = absurd (none_whole kinds e)
sent_then (kind.End ∷ kinds) e = e
sent_then (kind.Broken ∷ kinds) e = e

-- the lines have kinds behind whole turns
abbrev HaveKinds : List (List ℕ) → Type 0
HaveKinds lines = (kinds : List LineKind) × AllZip IsKindOf kinds lines
    × (reached kinds (Some stage.Settled) ≡ Some stage.Whole)

with_turn : (sent got : List ℕ) (turns : List Turn) (end : Ended) → AreBytes sent → AreBytes got
    → HaveKinds (lines_with turns end) → HaveKinds (lines_with (turn_of sent got ∷ turns) end)
with_turn [] [] turns end h i (kinds, are, e) = (kind.Begin ∷ kinds, (refl, are), begun_then kinds e)
with_turn (x ∷ sent) [] turns end h i (kinds, are, e) = (
  kind.Begin ∷ kind.Data Sent ∷ kinds,
  (refl, ((hex (x ∷ sent), (x ∷ sent, omega arith, h, refl), refl), are)),
  sent_then kinds e,
)
with_turn [] (y ∷ got) turns end h i (kinds, are, e) = (
  kind.Begin ∷ kind.Data Got ∷ kinds,
  (refl, ((hex (y ∷ got), (y ∷ got, omega arith, i, refl), refl), are)),
  e,
)
with_turn (x ∷ sent) (y ∷ got) turns end h i (kinds, are, e) = (
  kind.Begin ∷ kind.Data Sent ∷ kind.Data Got ∷ kinds,
  (
    refl,
    (
      (hex (x ∷ sent), (x ∷ sent, omega arith, h, refl), refl),
      ((hex (y ∷ got), (y ∷ got, omega arith, i, refl), refl), are),
    ),
  ),
  e,
)

kinds_with : (turns : List Turn) (end : Ended) → AllByRecursion AreOfBytes turns → HaveKinds (lines_with turns end)
kinds_with [] Tester h = (kind.End ∷ [], (inl refl, tt), refl)
kinds_with [] Peer h = (kind.End ∷ [], (inr refl, tt), refl)
kinds_with [] Broken h = (kind.Broken ∷ [], (refl, tt), refl)
kinds_with (turn ∷ turns) end h =
    with_turn turn.sent turn.got turns end h.0.0 h.0.1 (kinds_with turns end h.1)

-- the lines of a capture in format 2 have kinds
pub kinds_in_2 : (key : Option (List ℕ)) (turns : List Turn) (end : Ended) → IfSome key AreFourBytes
    → AllByRecursion AreOfBytes turns
    → (kinds : List LineKind)
    × AllZip IsKindOf kinds (capture2_lines (record { key = key; transcript = record { turns = turns; ended = end } }))
    × (reached kinds (Some stage.Nothing) ≡ Some stage.Whole)
kinds_in_2 None turns end four h =
    let (kinds, are, e) = kinds_with turns end h in
    (kind.FirstOf2 ∷ kind.Key ∷ kinds, (refl, (inl refl, are)), e)
kinds_in_2 (Some key) turns end four h =
    let (kinds, are, e) = kinds_with turns end h in
    (kind.FirstOf2 ∷ kind.Key ∷ kinds, (refl, (inr (key, four, refl), are)), e)

-- ---- and back

-- turns and an end have these lines
abbrev InFormat2 : List (List ℕ) → Type 0
InFormat2 lines = (turns : List Turn) × (end : Ended) × AllByRecursion AreOfBytes turns × (lines ≡ lines_with turns end)

-- the same behind the beginning of a turn, and behind its sent bytes
abbrev InTurn : List (List ℕ) → Type 0
InTurn lines = (sent : List ℕ) × (got : List ℕ) × (turns : List Turn) × (end : Ended) × AreBytes sent × AreBytes got
    × AllByRecursion AreOfBytes turns × (codes "turn" ∷ lines ≡ lines_with (turn_of sent got ∷ turns) end)

abbrev BehindSent : ℕ → List ℕ → List (List ℕ) → Type 0
BehindSent x sent lines = (got : List ℕ) × (turns : List Turn) × (end : Ended) × AreBytes got
    × AllByRecursion AreOfBytes turns
    × (codes "turn" ∷ (codes "> " ++ hex (x ∷ sent)) ∷ lines ≡ lines_with (turn_of (x ∷ sent) got ∷ turns) end)

abbrev cons : List ℕ → List (List ℕ) → List (List ℕ)
cons line lines = line ∷ lines

begins : (line : List ℕ) (lines : List (List ℕ)) → IsKindOf kind.Begin line → InTurn lines → InFormat2 (line ∷ lines)
begins line lines is (sent, got, turns, end, h, i, all, e) =
    (turn_of sent got ∷ turns, end, ((h, i), all), ap (λ (l : List ℕ). l ∷ lines) is ∙ e)

end_of : (line : List ℕ) (lines : List (List ℕ)) → IsKindOf kind.End line → lines ≡ [] → InFormat2 (line ∷ lines)
end_of line lines (inl is) e = ([], Tester, tt, ap₂ cons is e)
end_of line lines (inr is) e = ([], Peer, tt, ap₂ cons is e)

broken : (line : List ℕ) (lines : List (List ℕ)) → IsKindOf kind.Broken line → lines ≡ [] → InFormat2 (line ∷ lines)
broken line lines is e = ([], Broken, tt, ap₂ cons is e)

-- a turn without bytes
empty_turn : (lines : List (List ℕ)) → InFormat2 lines → InTurn lines
empty_turn lines (turns, end, all, e) =
    ([], [], turns, end, no_bytes, no_bytes, all, ap (λ (l : List (List ℕ)). codes "turn" ∷ l) e)

-- and one in which nothing was got
no_got : (x : ℕ) (sent : List ℕ) (lines : List (List ℕ)) → InFormat2 lines → BehindSent x sent lines
no_got x sent lines (turns, end, all, e) = (
  [],
  turns,
  end,
  no_bytes,
  all,
  ap (λ (l : List (List ℕ)). codes "turn" ∷ (codes "> " ++ hex (x ∷ sent)) ∷ l) e,
)

with_got : (line : List ℕ) (lines : List (List ℕ)) → IsKindOf (kind.Data Got) line → InFormat2 lines
    → InTurn (line ∷ lines)
with_got line lines (word, ([], some, are, spelled), is) rest = absurd (omega arith)
with_got line lines (word, (y ∷ got, some, are, spelled), is) (turns, end, all, e) = (
  [],
  y ∷ got,
  turns,
  end,
  no_bytes,
  are,
  all,
  ap₂ (λ (a : List ℕ) (b : List (List ℕ)). codes "turn" ∷ a ∷ b) (is ∙ ap (λ (l : List ℕ). codes "< " ++ l) spelled) e,
)

got_behind : (x : ℕ) (sent line : List ℕ) (lines : List (List ℕ)) → IsKindOf (kind.Data Got) line → InFormat2 lines
    → BehindSent x sent (line ∷ lines)
got_behind x sent line lines (word, ([], some, are, spelled), is) rest = absurd (omega arith)
got_behind x sent line lines (word, (y ∷ got, some, are, spelled), is) (turns, end, all, e) = (
  y ∷ got,
  turns,
  end,
  are,
  all,
  ap₂ (λ (a : List ℕ) (b : List (List ℕ)). codes "turn" ∷ (codes "> " ++ hex (x ∷ sent)) ∷ a ∷ b)
      (is ∙ ap (λ (l : List ℕ). codes "< " ++ l) spelled) e,
)

with_sent : (line : List ℕ) (lines : List (List ℕ)) → IsKindOf (kind.Data Sent) line
    → ((x : ℕ) (sent : List ℕ) → BehindSent x sent lines) → InTurn (line ∷ lines)
with_sent line lines (word, ([], some, are, spelled), is) rest = absurd (omega arith)
with_sent line lines (word, (x ∷ sent, some, are, spelled), is) rest =
    let (got, turns, end, i, all, e) = rest x sent in (
      x ∷ sent,
      got,
      turns,
      end,
      are,
      i,
      all,
      ap (λ (l : List ℕ). codes "turn" ∷ l ∷ lines) (is ∙ ap (λ (l : List ℕ). codes "> " ++ l) spelled) ∙ e,
    )

mutual
  pub turns_in_2 : (kinds : List LineKind) (lines : List (List ℕ)) → AllZip IsKindOf kinds lines
      → reached kinds (Some stage.Settled) ≡ Some stage.Whole → InFormat2 lines
  turns_in_2 [] lines are e = absurd cc
  turns_in_2 (first ∷ kinds) [] are e = absurd are
  turns_in_2 (kind.FirstOf1 ∷ kinds) (line ∷ lines) are e = absurd (none_whole kinds e)
  turns_in_2 (kind.FirstOf2 ∷ kinds) (line ∷ lines) are e = absurd (none_whole kinds e)
  turns_in_2 (kind.Key ∷ kinds) (line ∷ lines) are e = absurd (none_whole kinds e)
  turns_in_2 (kind.Begin ∷ kinds) (line ∷ lines) are e = begins line lines are.0 (turn_in_2 kinds lines are.1 e)
  turns_in_2 (kind.Data mark ∷ kinds) (line ∷ lines) are e = absurd (none_whole kinds e)
  turns_in_2 (kind.End ∷ kinds) (line ∷ lines) are e = end_of line lines are.0 (last_kind kinds lines are.1 e)
  turns_in_2 (kind.Broken ∷ kinds) (line ∷ lines) are e = broken line lines are.0 (last_kind kinds lines are.1 e)

  turn_in_2 : (kinds : List LineKind) (lines : List (List ℕ)) → AllZip IsKindOf kinds lines
      → reached kinds (Some stage.Begun) ≡ Some stage.Whole → InTurn lines
  turn_in_2 [] lines are e = absurd cc
  turn_in_2 (first ∷ kinds) [] are e = absurd are
  turn_in_2 (kind.FirstOf1 ∷ kinds) (line ∷ lines) are e = absurd (none_whole kinds e)
  turn_in_2 (kind.FirstOf2 ∷ kinds) (line ∷ lines) are e = absurd (none_whole kinds e)
  turn_in_2 (kind.Key ∷ kinds) (line ∷ lines) are e = absurd (none_whole kinds e)
  turn_in_2 (kind.Begin ∷ kinds) (line ∷ lines) are e =
      empty_turn (line ∷ lines) (begins line lines are.0 (turn_in_2 kinds lines are.1 e))
  turn_in_2 (kind.Data Sent ∷ kinds) (line ∷ lines) are e =
      with_sent line lines are.0 (λ x sent. sent_in_2 x sent kinds lines are.1 e)
  turn_in_2 (kind.Data Got ∷ kinds) (line ∷ lines) are e = with_got line lines are.0 (turns_in_2 kinds lines are.1 e)
  turn_in_2 (kind.End ∷ kinds) (line ∷ lines) are e =
      empty_turn (line ∷ lines) (end_of line lines are.0 (last_kind kinds lines are.1 e))
  turn_in_2 (kind.Broken ∷ kinds) (line ∷ lines) are e =
      empty_turn (line ∷ lines) (broken line lines are.0 (last_kind kinds lines are.1 e))

  sent_in_2 : (x : ℕ) (sent : List ℕ) (kinds : List LineKind) (lines : List (List ℕ)) → AllZip IsKindOf kinds lines
      → reached kinds (Some stage.Sent) ≡ Some stage.Whole → BehindSent x sent lines
  sent_in_2 x sent [] lines are e = absurd cc
  sent_in_2 x sent (first ∷ kinds) [] are e = absurd are
  sent_in_2 x sent (kind.FirstOf1 ∷ kinds) (line ∷ lines) are e = absurd (none_whole kinds e)
  sent_in_2 x sent (kind.FirstOf2 ∷ kinds) (line ∷ lines) are e = absurd (none_whole kinds e)
  sent_in_2 x sent (kind.Key ∷ kinds) (line ∷ lines) are e = absurd (none_whole kinds e)
  sent_in_2 x sent (kind.Begin ∷ kinds) (line ∷ lines) are e =
      no_got x sent (line ∷ lines) (begins line lines are.0 (turn_in_2 kinds lines are.1 e))
  sent_in_2 x sent (kind.Data Sent ∷ kinds) (line ∷ lines) are e = absurd (none_whole kinds e)
  sent_in_2 x sent (kind.Data Got ∷ kinds) (line ∷ lines) are e =
      got_behind x sent line lines are.0 (turns_in_2 kinds lines are.1 e)
  sent_in_2 x sent (kind.End ∷ kinds) (line ∷ lines) are e =
      no_got x sent (line ∷ lines) (end_of line lines are.0 (last_kind kinds lines are.1 e))
  sent_in_2 x sent (kind.Broken ∷ kinds) (line ∷ lines) are e =
      no_got x sent (line ∷ lines) (broken line lines are.0 (last_kind kinds lines are.1 e))

key_of : (line : List ℕ) → IsKindOf kind.Key line
    → (key : Option (List ℕ)) × IfSome key AreFourBytes
    × ((lines : List (List ℕ)) (turns : List Turn) (end : Ended) → lines ≡ lines_with turns end
    → codes "wst-capture 2" ∷ line ∷ lines
    ≡ capture2_lines (record { key = key; transcript = record { turns = turns; ended = end } }))
key_of line (inl is) = (
  None,
  tt,
  λ lines turns end e. ap₂ (λ (a : List ℕ) (b : List (List ℕ)). codes "wst-capture 2" ∷ a ∷ b) is e,
)
key_of line (inr (key, four, is)) = (
  Some key,
  four,
  λ lines turns end e. ap₂ (λ (a : List ℕ) (b : List (List ℕ)). codes "wst-capture 2" ∷ a ∷ b) is e,
)

-- lines behind the first that reach the end are those of a capture
pub capture_in_2 : (kinds : List LineKind) (lines : List (List ℕ)) → AllZip IsKindOf kinds lines
    → reached kinds (Some stage.FirstOfTwo) ≡ Some stage.Whole
    → (capture : Capture) × HoldsBytes capture × (codes "wst-capture 2" ∷ lines ≡ capture2_lines capture)
capture_in_2 [] lines are e = absurd cc
capture_in_2 (first ∷ kinds) [] are e = absurd are
capture_in_2 (kind.FirstOf1 ∷ kinds) (line ∷ lines) are e = absurd (none_whole kinds e)
capture_in_2 (kind.FirstOf2 ∷ kinds) (line ∷ lines) are e = absurd (none_whole kinds e)
capture_in_2 (kind.Key ∷ kinds) (line ∷ lines) are e =
    let (key, four, with_key) = key_of line are.0 in
    let (turns, end, all, f) = turns_in_2 kinds lines are.1 e in
    (record { key = key; transcript = record { turns = turns; ended = end } }, (four, all), with_key lines turns end f)
capture_in_2 (kind.Begin ∷ kinds) (line ∷ lines) are e = absurd (none_whole kinds e)
capture_in_2 (kind.Data mark ∷ kinds) (line ∷ lines) are e = absurd (none_whole kinds e)
capture_in_2 (kind.End ∷ kinds) (line ∷ lines) are e = absurd (none_whole kinds e)
capture_in_2 (kind.Broken ∷ kinds) (line ∷ lines) are e = absurd (none_whole kinds e)
