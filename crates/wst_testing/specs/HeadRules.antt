-- The rules of a handshake, each by what is wrong with a head that breaks it.
use Rattle.std.specs.Prelude.{ℕ, List, ◌++◌, codes}
use Rattle.ws_upgrade.specs.declared.faults.HeadFault.{HeadFault}
use Rattle.ws_upgrade.specs.declared.faults.HeadFault.TheVariants as head

abbrev pub head_rule : HeadFault → List ℕ
head_rule head.Head = codes "A server answers in HTTP (RFC 6455 section 4.2.2)"
head_rule head.Method = codes "The method of a request is GET (RFC 6455 section 4.2.1)"
head_rule head.Version = codes "A head is one of HTTP/1.1 (RFC 6455 sections 4.2.1 and 4.2.2)"
head_rule head.Host = codes "A request has exactly one Host (RFC 6455 section 4.2.1)"
head_rule head.Upgrade = codes "A head has an Upgrade that names websocket (RFC 6455 sections 4.1 and 4.2.1)"
head_rule head.Connection = codes "A head has a Connection that names Upgrade (RFC 6455 sections 4.1 and 4.2.1)"
head_rule head.Key =
    codes "A request has exactly one Sec-WebSocket-Key, 16 bytes in base64 (RFC 6455 section 4.2.1)"
head_rule head.WsVersion =
    codes "A request has exactly one Sec-WebSocket-Version, and that is 13 (RFC 6455 section 4.2.1)"
head_rule head.Status = codes "A server accepts a connection with the status 101 (RFC 6455 section 4.1)"
head_rule head.Accept = codes "A response has exactly one Sec-WebSocket-Accept, the value for the key of the request "
    ++ codes "(RFC 6455 sections 4.1 and 4.2.2)"
head_rule head.Extension =
    codes "A response names no extension that was not offered, and none was (RFC 6455 section 4.1)"
head_rule head.Protocol =
    codes "A response names at most one subprotocol, and one that was offered (RFC 6455 section 4.1)"
head_rule head.TooLarge = codes "A head has at most 8192 bytes and 64 headers (ours)"
