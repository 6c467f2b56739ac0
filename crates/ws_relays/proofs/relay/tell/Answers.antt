-- The tap is told just what has happened.
use Rattle.std.proofs.Common.{List, ℕ, [], ◌∷◌, ◌++◌, take, append-nil, sym, subst, Ok, Err}
use Rattle.std.proofs.KnownBytes.{Appends-nil}
use Rattle.std.proofs.lemmas.Result.{err_from_is_err_and}
use Rattle.ws_frame.specs.declared.show_fault.ShowFault.{ShowFault}
use Rattle.ws_frame.specs.Devices.{watched}
use Rattle.ws_tap.specs.Told.{CameFrom, EndedTo, TakenBy, TapTold}
use Rattle.ws_tap.specs.Tapping.{HasTapped, TellsNext, waits_for}
use Rattle.ws_relays.proofs.relay.tell.Goals as goal

pub returns-in_err-came-in-Came : goal.returns-in_err-came-in-Came
returns-in_err-came-in-Came g c =
    let out = watched g.W.Write.contents c.args.output.now c.came.new.output in
    let p = err_from_is_err_and c.from_residual.result c.from_residual.ensures.1 in
    let told = subst (λ (t : List ℕ). TellsNext (CameFrom c.args.role t) c.args.tap.now c.came.new.self out
    (Err c.in_err-came-in-Came.field-0.0)) c.of.ensures c.in_err-came-in-Came.ensures.told in
    rw c.in-Came.is (rw p.1 (record {
      told = subst (λ (f : ShowFault). TellsNext (CameFrom c.args.role c.in-Came.bytes.items) c.args.tap.now
          c.came.new.self out (Err f)) (sym p.2) told;
    }))

pub returns-in_ok-came-in-Came : goal.returns-in_ok-came-in-Came
returns-in_ok-came-in-Came g c =
    let out = watched g.W.Write.contents c.args.output.now c.came.new.output in
    rw c.in-Came.is (record {
      told = subst (λ (t : List ℕ). TellsNext (CameFrom c.args.role t) c.args.tap.now c.came.new.self out (Ok tt))
          c.of.ensures c.in_ok-came-in-Came.ensures.told;
    })

pub returns-in-Err : goal.returns-in-Err
returns-in-Err g c =
    rw c.in-Ended.is (record {
      told = λ tapped told text h.
          let (more, wrote, (failed, passed, begins)) = c.in-Err.ensures.told tapped told text h in
          (more, wrote, (failed, tt, passed, begins));
    })

pub returns-in-Ok : goal.returns-in-Ok
returns-in-Ok g c = rw c.in-Ended.is (record { told = c.in-Ok.ensures.told })

pub returns-in-Taken : goal.returns-in-Taken
returns-in-Taken g c =
    rw c.in-Taken.is (record {
      told = λ tapped told text h. (
        [],
        Appends-nil _,
        (
          c.requires.output_works,
          subst (λ (t : List ℕ). HasTapped tapped (told ++ TakenBy c.args.role
              (take c.in-Taken.count (waits_for c.args.role c.args.tap.now)) ∷ []) c.taken.new.self t)
              (sym (append-nil text)) (c.taken.ensures.told tapped told text h),
        ),
      );
    })

pub returns-in-DirectionEnded : goal.returns-in-DirectionEnded
returns-in-DirectionEnded g c =
    rw c.in-DirectionEnded.is (record {
      told = λ tapped told text h. (
        [],
        Appends-nil _,
        (
          c.requires.output_works,
          subst (λ (t : List ℕ). HasTapped tapped (told ++ EndedTo c.args.role ∷ [])
              c.direction_ended.new.self t) (sym (append-nil text))
              (c.direction_ended.ensures.told tapped told text h),
        ),
      );
    })

pub returns-in-Failed : goal.returns-in-Failed
returns-in-Failed g c =
    rw c.in-Failed.is (record {
      told = λ tapped told text h. (
        [],
        Appends-nil _,
        (
          c.requires.output_works,
          subst (λ (t : List ℕ). HasTapped tapped (told ++ []) c.args.tap.now t) (sym (append-nil text))
              (subst (λ (x : List TapTold). HasTapped tapped x c.args.tap.now text) (sym (append-nil told)) h),
        ),
      );
    })
