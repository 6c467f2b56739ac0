-- Where to listen is said, and the rest is as the target has it.
use Rattle.std.proofs.Common.{ℕ, List, MatchResult, Result, Ok, Err, subst}
use Rattle.ws_targets.specs.Places.{IsAddress}
use Rattle.ws_targets.specs.Targets.{TargetValue}
use Rattle.wst_run.specs.Tap.{IsServer, IsServerOf, RefusesEnds, RefusesServer}
use Rattle.wst_run.specs.declared.tap.TapRefusal.{TapRefusal}
use Rattle.wst_run.specs.declared.tap.TapRefusal.TheVariants.{BadListen, BadTarget, NoMemory}
use Rattle.wst_words.specs.declared.tap.TapOptions.{TapOptions}
use Rattle.wst_run.proofs.tap.server_of.Goals as goal

named_behind : (options : TapOptions) (named : Result TargetValue TapRefusal) → IsAddress options.listen.now
    → MatchResult named (IsServer options.target.now) (RefusesServer options.target.now)
    → MatchResult named (IsServerOf options) (RefusesEnds options)
named_behind options (Ok server) at is = (at, is)
named_behind options (Err BadListen) at is = absurd is
named_behind options (Err (BadTarget advice)) at is = (at, is)
named_behind options (Err NoMemory) at is = tt

pub returns : goal.returns
returns c =
    let at = subst (λ (l : List ℕ). IsAddress l) c.as_bytes.ensures.value
    (c.is_address.ensures.0 c.if-not-is_address.false) in
    named_behind c.args.options.now c.server_named.result at c.server_named.ensures
