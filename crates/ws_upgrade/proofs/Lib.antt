-- The lemmas behind the opening handshake: the check of a head, keys, lines, the members of headers, and subprotocols.
pub mod HeadCheck
pub mod Keys
pub mod Lines
pub mod MemberLemmas
pub mod ProtocolLemmas
