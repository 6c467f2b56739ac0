-- What comes of a case over a server: what a probe tells, and why there is no connection.
use Rattle.std.specs.Prelude.{List, ℕ, codes}
use Rattle.ws_handshake.specs.declared.probe_end.Probe.{Probe}
use Rattle.ws_handshake.specs.declared.probe_end.Probe.TheVariants as probe
use Rattle.wst_sockets.specs.declared.meeting.ConnectFault.{ConnectFault}
use Rattle.wst_sockets.specs.declared.meeting.ConnectFault.TheVariants as why
use Rattle.wst_sockets.specs.declared.meeting.Meeting.{Meeting}
use Rattle.wst_sockets.specs.declared.meeting.Meeting.TheVariants.{NoConnection, Ran, Refused}

-- what a probe tells of it
abbrev pub probe_of : Meeting → Probe
probe_of (Ran transcript) = probe.Ran transcript
probe_of (Refused refusal) = probe.Refused refusal
probe_of (NoConnection why) = probe.NoConnection

-- the line that tells why there is no connection
abbrev pub miss_line : ConnectFault → List ℕ
miss_line why.NoSuchHost =
    codes "no connection: no such host\n  HOST:PORT, up to 65535, or with a path ws://localhost:9001/chat\n"
miss_line why.Refused = codes "no connection: refused\n"
miss_line why.Unreachable = codes "no connection: unreachable\n"
miss_line why.TimedOut = codes "no connection: timed out\n"
miss_line why.NoAnswer =
    codes "no connection: timed out\n  connected, but no complete answer to the request in time\n"
miss_line why.ClosedBeforeAnswer = codes "no connection: closed before the answer\n"
miss_line why.Failed = codes "no connection: failed\n"
