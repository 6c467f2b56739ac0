-- The names of what is wrong with a close payload.
use Rattle.std.specs.Prelude.{ℕ, List, codes}
use Rattle.ws_text.specs.declared.closing.CloseFault.{CloseFault}
use Rattle.ws_text.specs.declared.closing.CloseFault.TheVariants.{OneByte, BadCode, ReasonNotText}

abbrev pub close_fault_name : CloseFault → List ℕ
close_fault_name OneByte = codes "OneByte"
close_fault_name BadCode = codes "BadCode"
close_fault_name ReasonNotText = codes "ReasonNotText"
