-- None of those before an own close applies: so that is the lowest, and where it doesn't apply the lowest later one.
use Rattle.std.proofs.Common.{rules}
use Rattle.ws_suite.specs.InnerJudging.{without_pings}
use Rattle.ws_suite.specs.InnerMarks.{counted_of}
use Rattle.ws_suite.specs.Protocol.{HasOwnClose, HasToEnd, SkipsOwedPong}
use Rattle.ws_suite.specs.Verdicts.{EndsLate, HasOtherCode, IsBroken}
use Rattle.ws_suite.proofs.LaterLooses.{later_with_pongs, lowest_of_later, lowest_of_own}
use Rattle.ws_suite.proofs.judging.protocol.first_loose.Goals as goal

pub returns-then-has_own_close : goal.returns-then-has_own_close
returns-then-has_own_close c =
    let x = counted_of c.args.marked.now in
    let marks = c.args.marked.now.marks in
    let pongs : SkipsOwedPong x → ⊥ = search rules in
    let code : HasOtherCode x × (HasOwnClose x → ⊥) → ⊥ = search rules in
    let late : EndsLate c.args.tested x × HasToEnd x marks × (HasOwnClose x → ⊥) → ⊥ = search rules in
    let broken : IsBroken x → ⊥ = search rules in
    lowest_of_own c.args.tested x marks pongs code late broken c.own_close.result c.own_close.ensures

pub returns : goal.returns
returns c =
    let x = counted_of c.args.marked.now in
    let marks = c.args.marked.now.marks in
    let pongs : SkipsOwedPong x → ⊥ = search rules in
    let code : HasOtherCode x × (HasOwnClose x → ⊥) → ⊥ = search rules in
    let late : EndsLate c.args.tested x × HasToEnd x marks × (HasOwnClose x → ⊥) → ⊥ = search rules in
    let broken : IsBroken x → ⊥ = search rules in
    let own : HasOwnClose x → ⊥ = search rules in
    let later = later_with_pongs c.args.tested (without_pings c.args.marked.now.evidence) c.args.marked.now.behind marks
    c.loose_end.result c.loose_end.ensures in
    lowest_of_later c.args.tested x marks pongs code late broken own c.loose_end.result later
