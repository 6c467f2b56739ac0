-- The notes so far are written.
use Rattle.std.proofs.Common.{take}
use Rattle.std.specs.Fmt.{HasWritten, IsPlainFormatter}
use Rattle.ws_pages.specs.Page.{notes_html}
use Rattle.ws_runs.specs.Views.{texts_now}
use Rattle.ws_pages.proofs.total_html.NotesHtmlDisplay.fmt.Given as goal

abbrev pub invariant-loop-note : goal.invariant-loop-note
invariant-loop-note g l = IsPlainFormatter l.initial.f
    → HasWritten g.W.Write.write_str_gives l.initial.f (notes_html (texts_now (take l.note-index l.note-items))) l.f
