-- The turns that are over are shown, one after the other.
use Rattle.std.proofs.Common.{◌≡◌, ◌∙◌, ◌+◌, ◌∷◌, ◌++◌, List, [], ℕ, false, drop, refl, sym, ap, subst}
use Rattle.std.proofs.lemmas.List.{drop_more}
use Rattle.ws_scripts.specs.declared.transcript.Turn.{Turn}
use Rattle.ws_shown.specs.LineRooms.{LinesGoOn}
use Rattle.ws_shown.specs.TurnsTold.{IsPartOf}
use Rattle.ws_shown.specs.declared.turns_told.TurnsTold.{TurnsTold}
use Rattle.ws_shown.proofs.ShowingLemmas.{of_parts, past_ends, past_step, past_then, shows_nothing}
use Rattle.ws_shown.proofs.telling.show_past.Goals as goal

pub turns-init : goal.turns-init
turns-init c = record {
  shows = λ turn turns h. (turns, shows_nothing turns c.args.room.now, h);
  same = λ e. refl;
  showing = refl;
}

pub returns-clause-shows : goal.returns-clause-shows
returns-clause-shows c = λ turn turns h. past_ends c.turns.told c.args.past.now turn turns
    c.args.room.now c.turns.room c.turns-test.false (c.turns.invariant.shows turn turns h)

pub turns-preserved : goal.turns-preserved
turns-preserved c =
    let told = c.turns.told in
    let past = c.args.past.now in
    let one = c.index-past-told.result in
    let same : record { sent = c.as_slice.result.now; got = c.as_slice-in-turns.result.now } ≡ one =
    of_parts one c.as_slice.result.now c.as_slice-in-turns.result.now c.as_slice.ensures c.as_slice-in-turns.ensures in
    let next : TurnsTold = record { whole = c.show_turn.new.told.whole + 1; is_sent = false; got = 0 } in
    let left : drop told.whole past ≡ one ∷ drop (told.whole + 1) past =
    drop_more past told.whole one c.turns-test.true
    ∙ ap (λ (t : Turn). t ∷ drop (told.whole + 1) past) (sym c.index-past-told.is) in
    record {
      shows = λ turn turns h. past_then told next past turn turns c.args.room.now c.turns.room
          c.show_turn.new.room (c.turns.invariant.shows turn turns h)
          (λ now at. past_step told next past turn one (drop (told.whole + 1) past) now
          c.turns.room c.show_turn.new.room left
          (ap (λ (n : ℕ). n + 1) c.in_ok-show_turn.ensures.whole) refl
          (subst (λ (t : Turn). (before part : List Turn) → IsPartOf told.is_sent told.got t part
          → LinesGoOn (before ++ part) (before ++ t ∷ []) c.turns.room c.show_turn.new.room)
          same (λ before part is. c.in_ok-show_turn.ensures.shows before part is)) at);
      same = λ e. absurd cc;
      showing = c.in_ok-show_turn.ensures.showing ∙ c.turns.invariant.showing;
    }
