-- The request at the front has the key and the offers that were found in its headers.
use Rattle.std.proofs.Common.{rules, ◌≡◌, ℕ, List, map, subst}
use Rattle.httparse.specs.Spans.{IsRequestOf, name_and_value}
use Rattle.ws_upgrade.specs.Heads.{IsOnlyKey}
use Rattle.ws_upgrade.specs.Accept.{key_of}
use Rattle.ws_upgrade.specs.Members.{HeaderPairs}
use Rattle.ws_upgrade.specs.Protocols.{protocols_in}
use Rattle.ws_upgrade.specs.Reading.{IsResponseRead}
use Rattle.ws_upgrade.proofs.HeadCheck.{few_fields}
use Rattle.ws_upgrade.proofs.openings.read_response_to.Goals as goal

pub returns-clause-read : goal.returns-clause-read
returns-clause-read c =
    let front = c.head_part-front.result.now in
    let found : IsRequestOf front c.parse_request.new.headers c.in-Ok-Complete.head = search rules in
    let at = found.1 in
    let headers : HeaderPairs = map name_and_value found.0.fields in
    let same : c.new-headers.result ≡ headers = rw (c.new-headers.ensures, at.fields) in
    let nonce = c.in-Some.nonce in
    let key = c.in-Some.ensures in
    let offers : map (λ name. name.now) c.as_slice.result.now ≡ protocols_in headers =
    rw (c.as_slice.ensures.value, c.in_ok-offers.ensures, same) in (
      found.0,
      c.in-Ok-Complete.head.len,
      nonce,
      record {
        begins = record { reads = rw (← c.head_part-front.ensures) at.reads; whole = at.len; headers = few_fields front c.parse_request.new.headers c.in-Ok-Complete.head.headers found.0.fields at.fields c.parse_request.auto.headers };
        are_bytes = key.0;
        sixteen = key.1;
        key = subst (λ (others : HeaderPairs). IsOnlyKey others (key_of nonce)) same key.2;
      },
      subst (λ (names : List (List ℕ)). IsResponseRead nonce names c.args.response.now c.read_response_with.result) offers c.read_response_with.ensures.read,
    )
