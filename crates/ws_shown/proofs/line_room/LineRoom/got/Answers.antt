-- Bytes more are told.
use Rattle.std.proofs.Common.{◌≡◌, ◌∷◌, ◌++◌, [], ℕ, List, refl, subst}
use Rattle.ws_scripts.specs.declared.transcript.Turn.{Turn}
use Rattle.ws_lines.specs.Telling.{with_got}
use Rattle.ws_shown.specs.LineRooms.{AreLinesBehind, HasLinesOf, LineRoomValue, TakesGot}
use Rattle.ws_shown.specs.declared.line_room.LineParts.{LineParts}
use Rattle.ws_shown.proofs.RoomLemmas.{sound_new}
use Rattle.ws_shown.proofs.line_room.LineRoom.got.Goals as goal

pub invariant_of-self : goal.invariant_of-self
invariant_of-self c = sound_new c.self.inside.showing _ _ c.replace-parts.ensures.after c.new.ensures.sound

pub returns : goal.returns
returns c =
    let showing = c.self.inside.showing in
    let new = c.in_ok-self-inside.field-0 in
    let piece = c.args.piece.now in
    let takes = subst (λ (p : LineParts). TakesGot showing p new piece) c.replace-parts.ensures.value
    c.in_ok-self-inside.ensures.got in
    subst (λ (v : LineRoomValue). (showing ≡ v.showing) × ((turns : List Turn) (turn : Turn) (taken : List ℕ)
    → HasLinesOf v (turns ++ turn ∷ []) taken → AreLinesBehind showing new (turns ++ with_got turn piece ∷ []) taken))
    c.self.view_is (refl, λ turns turn taken h. takes turns turn taken h)
