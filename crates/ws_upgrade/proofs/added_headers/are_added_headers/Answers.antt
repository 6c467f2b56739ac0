-- What is asked of each header is asked of its name and its value.
use Rattle.std.proofs.Common.{rules, ◌≤◌, length, map}
use Rattle.std.proofs.Math.ListN.{length-map}
use Rattle.std.proofs.lemmas.List.Elements.{All-map}
use Rattle.ws_upgrade.specs.AddedHeaders.{IsAddedHeader, header_pair}
use Rattle.ws_upgrade.proofs.ProtocolLemmas.{All-unmap}
use Rattle.ws_upgrade.proofs.added_headers.are_added_headers.Goals as goal

pub returns : goal.returns
returns c =
    let few : length (map header_pair c.args.headers.now) ≤ 32 = rw (length-map c.args.headers.now header_pair) (search rules) in (
      (λ yes. (few, All-map IsAddedHeader header_pair c.args.headers.now (c.are_each_added.ensures.0 yes))),
      (λ added. c.are_each_added.ensures.1 (All-unmap IsAddedHeader header_pair c.args.headers.now added.1)),
    )
