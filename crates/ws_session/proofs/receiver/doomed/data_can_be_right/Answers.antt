-- A data frame under way can become right exactly where its payload has room for what its text still wants at the end.
use Rattle.std.proofs.Common.{◌≡◌, ◌-◌, ap, arith}
use Rattle.std.proofs.lemmas.Bool.{leb-true, le-leb}
use Rattle.ws_session.proofs.RightFronts.{data_can, data_ends}
use Rattle.ws_session.proofs.receiver.doomed.data_can_be_right.Goals as goal

pub returns : goal.returns
returns c = λ role limits u.
    let e = c.wanted_at_end.ensures in
    let left : c.payload_len.result - c.args.came ≡ c.args.header.now.len - c.args.came = ap (λ n. n - c.args.came)
    c.payload_len.ensures.value in (
      λ t. data_can role limits c.args.assembly.now c.args.header.now c.args.came u c.wanted_at_end.result e.wanted
          e.other (omega (arith, leb-true _ _ t, left)),
      λ h. le-leb _ _ (omega (
        arith,
        data_ends role limits c.args.assembly.now c.args.header.now c.args.came u
            c.wanted_at_end.result e.wanted e.other h,
        left,
      )),
    )
