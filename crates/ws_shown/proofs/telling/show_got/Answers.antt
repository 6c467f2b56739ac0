-- What a turn has got besides is shown.
use Rattle.std.proofs.Common.{◌-◌, drop, length, take, arith, length-drop}
use Rattle.std.proofs.lemmas.List.{take_all}
use Rattle.ws_shown.proofs.ShowingLemmas.{shows_rest}
use Rattle.ws_shown.proofs.telling.show_got.Goals as goal

pub returns-clause-shows : goal.returns-clause-shows
returns-clause-shows c = λ before sent front others e len.
    let got = c.args.got.now in
    let count = c.args.told.now.got in
    shows_rest before sent front others got (take (length got - count) (drop count got)) count
    c.args.room.now c.got.new.self e len
    (take_all (length got - count) (drop count got) (omega (arith, length-drop count got))) c.in_ok-got.ensures
