-- What a server is asked for (RFC 6455 section 4.1).
use Rattle.std.specs.Prelude.{ℕ, List, map}
use Rattle.ws_upgrade.specs.AddedHeaders.{AreAddedHeaders, header_pair}
use Rattle.ws_upgrade.specs.Members.{HeaderPairs}
use Rattle.ws_upgrade.specs.Protocols.{AreOffers}
use Rattle.ws_upgrade.specs.Texts.{IsHost, IsPath, request_text_for}
use Rattle.ws_connection.specs.declared.upgrade_request.UpgradeRequest.{UpgradeRequest}

-- a request for an upgrade, but for its key: the host, the path, the subprotocols that are offered, and the headers
-- behind its own
pub record RequestValue : Type 0 where
  pub host : List ℕ
  pub path : List ℕ
  pub offers : List (List ℕ)
  pub headers : HeaderPairs

abbrev pub request_value : UpgradeRequest → RequestValue
request_value request = record {
  host = request.host.now;
  path = request.path.now;
  offers = map (λ name. name.now) request.protocols.now;
  headers = map header_pair request.headers.now;
}

-- it can be asked for
abbrev pub CanBeAsked : RequestValue → Type 0
CanBeAsked request = IsHost request.host × IsPath request.path × AreOffers request.offers
    × AreAddedHeaders request.headers

-- the request with this key
abbrev pub text_of_request : RequestValue → List ℕ → List ℕ
text_of_request request key = request_text_for request.host request.path key request.offers request.headers
