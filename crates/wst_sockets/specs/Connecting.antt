-- Why there is no connection, by the kind of an error.
use Rattle.std.specs.declared.io.ErrorKind.{ErrorKind}
use Rattle.std.specs.declared.io.ErrorKind.TheVariants.{BrokenPipe, ConnectionAborted, ConnectionRefused}
use Rattle.std.specs.declared.io.ErrorKind.TheVariants.{ConnectionReset}
use Rattle.std.specs.declared.io.ErrorKind.TheVariants.{HostUnreachable, NetworkDown, NetworkUnreachable, OutOfMemory}
use Rattle.std.specs.declared.io.ErrorKind.TheVariants.{TimedOut, WouldBlock}
use Rattle.wst_sockets.specs.declared.meeting.ConnectFault.{ConnectFault}
use Rattle.wst_sockets.specs.declared.meeting.ConnectFault.TheVariants as why

-- a look-up that fails so gives no address, unless memory ran out for it
abbrev pub lookup_miss_at : ErrorKind → ConnectFault
lookup_miss_at OutOfMemory = why.Failed
lookup_miss_at _ = why.NoSuchHost

-- a connection is not made, or a read or a write over it fails before the answer is whole
abbrev pub connect_fault_at : ErrorKind → ConnectFault
connect_fault_at ConnectionRefused = why.Refused
connect_fault_at HostUnreachable = why.Unreachable
connect_fault_at NetworkUnreachable = why.Unreachable
connect_fault_at NetworkDown = why.Unreachable
connect_fault_at TimedOut = why.TimedOut
connect_fault_at WouldBlock = why.TimedOut
connect_fault_at ConnectionReset = why.ClosedBeforeAnswer
connect_fault_at ConnectionAborted = why.ClosedBeforeAnswer
connect_fault_at BrokenPipe = why.ClosedBeforeAnswer
connect_fault_at _ = why.Failed
