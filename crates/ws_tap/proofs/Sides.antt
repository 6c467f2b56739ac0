-- A direction whose head is whole, and more bytes behind it.
use Rattle.std.proofs.Common.{◌≡◌, ℕ, Bool, true, false, List, [], ◌++◌, take, drop, Option, Some, None}
use Rattle.std.proofs.Common.{sym, ap, ◌∙◌, append-nil, arith, subst}
use Rattle.std.proofs.lemmas.List.{take-append-le, drop-append-le, take_all, drop_all}
use Rattle.ws_frame.specs.declared.source.Source.{Source}
use Rattle.ws_frame.specs.declared.frame_lines.FrameLines.{FrameLines}
use Rattle.ws_frame.specs.Lines.{AreCertainLines}
use Rattle.ws_frame.specs.FrameStreaming.{HasTakenFrames, frames_source}
use Rattle.ws_tap.specs.declared.tapped.Tapped.{Tapped}
use Rattle.ws_wire.specs.declared.role.Role.{Role}
use Rattle.ws_tap.specs.declared.heads.Head.{Head}
use Rattle.ws_tap.specs.declared.head_room.HeadFound.{HeadFound}
use Rattle.ws_tap.specs.Heads.{HasHead}
use Rattle.ws_tap.specs.Texts.{source_at, head_line, AreLinesTo}
use Rattle.ws_tap.specs.Standing.{HasShownTo}
use Rattle.ws_tap.specs.Telling.{IsFoundWith, IsLookedFor, LooksIn}
use Rattle.ws_tap.proofs.HeadLemmas.{head_within}

-- the head is among the bytes, so more of them stand behind it
pub front_stays : (role : Role) (bytes more : List ℕ) (head : Head) → HasHead role bytes head
    → take head.len (bytes ++ more) ≡ take head.len bytes
front_stays role bytes more head h = take-append-le head.len bytes more (head_within role bytes head h)

pub behind_grows : (role : Role) (bytes more : List ℕ) (head : Head) → HasHead role bytes head
    → drop head.len (bytes ++ more) ≡ drop head.len bytes ++ more
behind_grows role bytes more head h = drop-append-le head.len bytes more (head_within role bytes head h)

-- with the piece that ends a head nothing stands behind it
pub front_of_found : (role : Role) (tapped : Tapped) (bytes piece : List ℕ) (found : HeadFound)
    → IsFoundWith role tapped bytes piece found → take found.head.len (bytes ++ take found.used piece) ≡ bytes ++ take
    found.used piece
front_of_found role tapped bytes piece found f = take_all found.head.len (bytes ++ take found.used piece)
    (omega (arith, f.whole))

pub behind_found : (role : Role) (tapped : Tapped) (bytes piece : List ℕ) (found : HeadFound)
    → IsFoundWith role tapped bytes piece found → drop found.head.len (bytes ++ take found.used piece) ≡ []
behind_found role tapped bytes piece found f = drop_all found.head.len (bytes ++ take found.used piece)
    (omega (arith, f.whole))

pub found_line : (role : Role) (tapped : Tapped) (bytes piece : List ℕ) (found : HeadFound)
    → IsFoundWith role tapped bytes piece found
    → found.line ≡ head_line (source_at role tapped) (take found.head.len (bytes ++ take found.used piece)) ++ []
found_line role tapped bytes piece found f =
    f.line ∙ ap (λ (t : List ℕ). head_line (source_at role tapped) t)
    (sym (front_of_found role tapped bytes piece found f)) ∙ sym (append-nil _)

-- ---- a stream

pub shown_open : (ended : Bool) (lines : FrameLines) (bytes shown : List ℕ) → ended ≡ false
    → HasShownTo ended lines bytes shown → HasTakenFrames lines bytes shown
shown_open ended lines bytes shown going s = subst (λ (b : Bool). HasShownTo b lines bytes shown) going s

pub open_shown : (ended : Bool) (lines : FrameLines) (bytes bytes' shown shown' : List ℕ) → ended ≡ false
    → bytes ≡ bytes' → shown ≡ shown' → HasTakenFrames lines bytes shown → HasShownTo ended lines bytes' shown'
open_shown ended lines bytes bytes' shown shown' going eb es s =
    subst (λ (b : Bool). HasShownTo b lines bytes' shown') (sym going)
    (subst (λ (t : List ℕ). HasTakenFrames lines bytes' t) es (subst (λ
    (t : List ℕ). HasTakenFrames lines t shown) eb s))

-- the lines that a stream has shown are those of its source
pub lines_to : (ended : Bool) (source : Source) (lines : FrameLines) (bytes shown : List ℕ)
    → frames_source lines ≡ source → HasShownTo ended lines bytes shown → AreLinesTo ended source bytes shown
lines_to false source lines bytes shown e s = subst (λ (r : Source). AreCertainLines r bytes shown) e s.certain
lines_to true source lines bytes shown e s = subst (λ (r : Source). AreLinesTo true r bytes shown) e s

-- ---- what came of a piece

pub looked_in : (role : Role) (tapped : Tapped) (room bytes piece : List ℕ) (result : Option HeadFound) → result ≡ None
    → IsLookedFor role tapped room bytes piece result → LooksIn role room (bytes ++ piece)
looked_in role tapped room bytes piece result none l = subst
    (λ (r : Option HeadFound). IsLookedFor role tapped room bytes piece r) none l

pub looked_found : (role : Role) (tapped : Tapped) (room bytes piece : List ℕ) (result : Option HeadFound)
    (found : HeadFound) → result ≡ Some found → IsLookedFor role tapped room bytes piece result
    → IsFoundWith role tapped bytes piece found
looked_found role tapped room bytes piece result found some l = subst
    (λ (r : Option HeadFound). IsLookedFor role tapped room bytes piece r) some l
