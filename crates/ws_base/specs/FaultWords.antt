-- The words for what is wrong with a line, or with a text of lines.
use Rattle.std.specs.Prelude.{ℕ, List, ◌++◌, codes}
use Rattle.std.specs.Fmt.{decimal}
use Rattle.ws_base.specs.declared.text_fault.LineFault.{LineFault}
use Rattle.ws_base.specs.declared.text_fault.LineFault.TheVariants as line
use Rattle.ws_base.specs.declared.text_fault.TextFault.{TextFault}
use Rattle.ws_base.specs.declared.text_fault.TextFault.TheVariants as text

abbrev pub line_fault_words : LineFault → List ℕ
line_fault_words line.Damaged = codes "damaged"
line_fault_words line.NoMemory = codes "no memory"

abbrev pub text_fault_words : TextFault → List ℕ
text_fault_words (text.Damaged number) = codes "line " ++ (decimal number ++ codes ": damaged")
text_fault_words text.NoMemory = codes "no memory"
