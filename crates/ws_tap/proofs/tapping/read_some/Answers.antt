-- What failed is told of what came.
use Rattle.std.proofs.Common.{inl, sym, subst, Err}
use Rattle.std.proofs.lemmas.Result.{err_from_is_err_and}
use Rattle.ws_frame.specs.declared.show_fault.ShowFault.{ShowFault}
use Rattle.ws_frame.specs.Devices.{watched}
use Rattle.ws_tap.specs.Told.{CameFrom}
use Rattle.ws_tap.specs.Tapping.{TellsNext}
use Rattle.ws_tap.proofs.tapping.read_some.Goals as goal

pub returns-in_err-came-in-Ok : goal.returns-in_err-came-in-Ok
returns-in_err-came-in-Ok g c =
    let piece = c.in-Ok.piece in
    let out = watched g.O.Write.contents c.args.output.now c.came.new.output in
    let p = err_from_is_err_and c.from_residual-in_err-came-in-Ok.result
    c.from_residual-in_err-came-in-Ok.ensures.1 in
    rw p.1 (inl (
      piece,
      c.in-Ok.ensures.0,
      subst (λ (f : ShowFault). TellsNext (CameFrom c.args.role piece) c.args.tap.now c.came.new.self out (Err f))
          (sym p.2) c.in_err-came-in-Ok.ensures.told,
    ))
