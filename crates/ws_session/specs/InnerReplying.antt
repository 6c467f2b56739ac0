-- Inside the crate: what an endpoint puts while it takes a piece. A reader may skip this file.
use Rattle.std.specs.Prelude.{ℕ, List, map}
use Rattle.ws_wire.specs.Frame.{Frame, stream_bytes}
use Rattle.ws_session.specs.declared.replying.Replying.{Replying}
use Rattle.ws_session.specs.Replies.{under_key}
use Rattle.ws_session.specs.InnerNextFrame.{due_at}

-- the bytes of frames that are owed
abbrev pub bytes_put : Replying → List Frame → List ℕ
bytes_put r frames = stream_bytes (map (under_key r.role r.key) (due_at r.status frames))
