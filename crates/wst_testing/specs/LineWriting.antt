-- The lines of a run, written.
use Rattle.std.specs.Prelude.{◌≡◌, false}
use Rattle.ws_frame.specs.Devices.{Device}
use Rattle.ws_scripts.specs.declared.transcript.Transcript.{Transcript}
use Rattle.ws_faults.specs.declared.marking.MarkedFrames.{MarkedFrames}
use Rattle.ws_faults.specs.PayloadFaults.{AreMarkedFrames}
use Rattle.ws_lines.specs.Telling.{HasWrittenLines}
use Rattle.ws_lines.specs.declared.transcript_lines.Showing.{Showing}
use Rattle.ws_shown.specs.MarkedLines.{showing_with}

-- All lines of the run were written, and nothing else. That frame of either direction is marked whose payload is its
-- first violation: of the showing only the tested end and the style of payloads count.
abbrev pub HasWrittenRun : Showing → Transcript → Device → Type 0
HasWrittenRun showing transcript output = ((marked : MarkedFrames) × AreMarkedFrames showing.tested transcript marked
    × HasWrittenLines (showing_with showing marked) transcript output) × (output.failed ≡ false)
