-- A turn of which a part was told is shown to its end, and so is one of which nothing was.
use Rattle.std.proofs.Common.{◌∙◌, length, [], true, refl, sym, ap}
use Rattle.ws_shown.specs.declared.turns_told.TurnsTold.{TurnsTold}
use Rattle.ws_shown.proofs.ShowingLemmas.{turn_anew, turn_on}
use Rattle.ws_shown.proofs.telling.show_turn.Goals as goal

pub returns-then-told-clause-shows : goal.returns-then-told-clause-shows
returns-then-told-clause-shows c = λ before part h. turn_on before part c.args.told.now
    (record { sent = c.args.sent.now; got = c.args.got.now }) c.args.room.now c.show_got.new.room c.if-told.true
    c.in_ok-show_got.ensures.shows h

pub returns-clause-shows : goal.returns-clause-shows
returns-clause-shows c = λ before part h. turn_anew before part c.args.told.now c.show_sent.new.told
    (record { sent = c.args.sent.now; got = c.args.got.now }) c.args.room.now c.show_sent.new.room
    c.show_got-2.new.room c.if-told.false
    (ap (λ (t : TurnsTold). t.got) c.in_ok-show_sent.ensures.told) c.in_ok-show_sent.ensures.shows
    c.in_ok-show_got-2.ensures.shows h

pub returns-clause-told : goal.returns-clause-told
returns-clause-told c = λ part h.
    c.in_ok-show_got-2.ensures.told [] c.args.got.now refl
    (sym (ap (λ (t : TurnsTold). t.got) c.in_ok-show_sent.ensures.told))
    ∙ ap (λ (t : TurnsTold). record { whole = t.whole; is_sent = true; got = length c.args.got.now })
    c.in_ok-show_sent.ensures.told
