-- The names of what is wrong with a head, and with what a request or a response is asked to be made of.
use Rattle.std.specs.Prelude.{ℕ, List, codes}
use Rattle.ws_upgrade.specs.declared.faults.HeadFault.{HeadFault}
use Rattle.ws_upgrade.specs.declared.faults.HeadFault.TheVariants as head
use Rattle.ws_upgrade.specs.declared.faults.RequestFault.{RequestFault}
use Rattle.ws_upgrade.specs.declared.faults.RequestFault.TheVariants as asked
use Rattle.ws_upgrade.specs.declared.faults.ResponseFault.{ResponseFault}
use Rattle.ws_upgrade.specs.declared.faults.ResponseFault.TheVariants as answered

abbrev pub head_fault_name : HeadFault → List ℕ
head_fault_name head.Head = codes "Head"
head_fault_name head.Method = codes "Method"
head_fault_name head.Version = codes "Version"
head_fault_name head.Host = codes "Host"
head_fault_name head.Upgrade = codes "Upgrade"
head_fault_name head.Connection = codes "Connection"
head_fault_name head.Key = codes "Key"
head_fault_name head.WsVersion = codes "WsVersion"
head_fault_name head.Status = codes "Status"
head_fault_name head.Accept = codes "Accept"
head_fault_name head.Extension = codes "Extension"
head_fault_name head.Protocol = codes "Protocol"
head_fault_name head.TooLarge = codes "TooLarge"

abbrev pub request_fault_name : RequestFault → List ℕ
request_fault_name asked.BadHost = codes "BadHost"
request_fault_name asked.BadPath = codes "BadPath"
request_fault_name asked.NoMemory = codes "NoMemory"
request_fault_name asked.BadProtocol = codes "BadProtocol"
request_fault_name asked.BadHeader = codes "BadHeader"

abbrev pub response_fault_name : ResponseFault → List ℕ
response_fault_name answered.BadProtocol = codes "BadProtocol"
response_fault_name answered.NoMemory = codes "NoMemory"
