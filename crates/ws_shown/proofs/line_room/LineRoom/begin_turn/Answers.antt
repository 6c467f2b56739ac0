-- A turn more is told.
use Rattle.std.proofs.Common.{◌≡◌, ◌∷◌, ◌++◌, [], ℕ, List, refl, subst}
use Rattle.ws_scripts.specs.declared.transcript.Turn.{Turn}
use Rattle.ws_lines.specs.Telling.{begun_turn}
use Rattle.ws_shown.specs.LineRooms.{AreLinesBehind, HasLinesOf, LineRoomValue, TakesTurn}
use Rattle.ws_shown.specs.declared.line_room.LineParts.{LineParts}
use Rattle.ws_shown.proofs.RoomLemmas.{sound_new}
use Rattle.ws_shown.proofs.line_room.LineRoom.begin_turn.Goals as goal

pub invariant_of-self : goal.invariant_of-self
invariant_of-self c = sound_new c.self.inside.showing _ _ c.replace-parts.ensures.after c.new.ensures.sound

pub returns : goal.returns
returns c =
    let showing = c.self.inside.showing in
    let new = c.in_ok-self-inside.field-0 in
    let sent = c.args.sent.now in
    let takes = subst (λ (p : LineParts). TakesTurn showing p new sent) c.replace-parts.ensures.value
    c.in_ok-self-inside.ensures.turn in
    subst (λ (v : LineRoomValue). (showing ≡ v.showing) × ((turns : List Turn) (taken : List ℕ) → HasLinesOf v turns taken
    → AreLinesBehind showing new (turns ++ begun_turn sent ∷ []) taken)) c.self.view_is
    (refl, λ turns taken h. takes turns taken h)
