-- The head is its lines, one after another, made of the parts that are given.
use Rattle.std.proofs.Common.{rules, codes, map}
use Rattle.ws_upgrade.specs.Texts.{line_end, request_line, header_line, protocol_lines}
use Rattle.ws_upgrade.specs.AddedHeaders.{header_pair}
use Rattle.ws_upgrade.proofs.Lines.{six_lines}
use Rattle.ws_upgrade.proofs.writing.request_of.Goals as goal

pub returns : goal.returns
returns c =
    rw (← c.key_text.ensures, ← c.as_bytes.ensures.bytes, ← c.as_bytes-2.ensures.bytes, ← c.as_slice.ensures.names, ← c.as_slice-2.ensures.headers)
    (six_lines (λ header. header_line header.0 header.1) line_end (request_line c.as_bytes.result.now) (header_line (codes "Host") c.as_bytes-2.result.now)
    (header_line (codes "Upgrade") (codes "websocket")) (header_line (codes "Connection") (codes "Upgrade"))
    (header_line (codes "Sec-WebSocket-Key") c.key_text.result) (header_line (codes "Sec-WebSocket-Version") (codes "13"))
    (protocol_lines (map (λ name. name.now) c.as_slice.result.now))
    (map header_pair c.as_slice-2.result.now)
    c.new-text.result.items c.push_request_line.new.text.items c.push_header.new.text.items c.push_header-2.new.text.items
    c.push_header-3.new.text.items c.push_header-4.new.text.items c.push_header-5.new.text.items
    c.push_protocols.new.text.items c.push_headers.new.text.items c.extend_from_slice.new.self.items
    (search rules) c.in_ok-push_request_line.ensures c.in_ok-push_header.ensures c.in_ok-push_header-2.ensures
    c.in_ok-push_header-3.ensures c.in_ok-push_header-4.ensures c.in_ok-push_header-5.ensures c.in_ok-push_protocols.ensures
    c.in_ok-push_headers.ensures
    c.in_ok-extend_from_slice.ensures.items)
