-- What a piece of a stream adds to its lines, by whichever way they are made.
use Rattle.std.proofs.Common.{◌≡◌, ◌∙◌, ◌++◌, List, [], ℕ, Result, Ok, Err, sym, ap, append_assoc, append-nil}
use Rattle.ws_wire.specs.Header.{AreBytes}
use Rattle.ws_frame.specs.declared.source.Source.{Source}
use Rattle.ws_frame.specs.declared.stream_lines.StreamLines.{StreamLines}
use Rattle.ws_frame.specs.declared.payload_lines.PayloadLines.{PayloadLines}
use Rattle.ws_frame.specs.declared.frame_lines.FrameLines.TheVariants.{Digits, Whole}
use Rattle.ws_frame.specs.declared.show_fault.ShowFault.{ShowFault}
use Rattle.ws_frame.specs.declared.writing_whole.WriteFault.{WriteFault}
use Rattle.ws_frame.specs.Devices.{Device}
use Rattle.ws_frame.specs.Lines.{AreCertainLines}
use Rattle.ws_frame.specs.InnerShowing.{BeginsLines}
use Rattle.ws_frame.specs.Streaming.{HasShown, WritesAll}
use Rattle.ws_frame.specs.PayloadStreaming.{EndsPut, HasPutLines, stream_end}
use Rattle.ws_frame.specs.FrameStreaming.{EndsFrames, HasTakenFrames, TakesMore, WritesMore}
use Rattle.ws_frame.proofs.Streams.{certain_lines_go_on}

pub by_digits : (lines : StreamLines) (taken written : List ℕ) → HasShown lines taken written
    → HasTakenFrames (Digits lines) taken written
by_digits lines taken written s = record { certain = s.certain; are_bytes = s.are_bytes; stands = s }

pub by_payloads : (lines : PayloadLines) (taken written : List ℕ) → HasPutLines lines taken written
    → HasTakenFrames (Whole lines) taken written
by_payloads lines taken written s = record { certain = s.certain; are_bytes = s.are_bytes; stands = s }

-- what was written begins the lines that a piece makes certain
pub none_of_piece : (source : Source) (taken piece written : List ℕ) → AreBytes taken → AreBytes piece
    → AreCertainLines source taken written → BeginsLines source (taken ++ piece) (written ++ [])
none_of_piece source taken piece written are more certain =
    let (next, all) = certain_lines_go_on source taken piece written are more certain in
    record {
      lines = written ++ next;
      more = next;
      are = all;
      begins = ap (λ (t : List ℕ). t ++ next) (sym (append-nil written));
    }

pub some_of_piece : (source : Source) (bytes written more front behind : List ℕ)
    → AreCertainLines source bytes (written ++ more) → more ≡ front ++ behind
    → BeginsLines source bytes (written ++ front)
some_of_piece source bytes written more front behind certain parts = record {
  lines = written ++ more;
  more = behind;
  are = certain;
  begins = ap (λ (t : List ℕ). written ++ t) parts ∙ sym (append_assoc written front behind);
}

pub takes_whole : (old new : PayloadLines) (piece : List ℕ) (output : Device) (result : Result (Unit {0}) ShowFault)
    → WritesMore old new piece output result → TakesMore (Whole old) (Whole new) piece output result
takes_whole old new piece output (Ok done) w = λ taken written t.
    let (more, wrote, (works, put)) = w taken written t.stands in
    (more, wrote, (works, by_payloads new (taken ++ piece) (written ++ more) put))
takes_whole old new piece output (Err fault) w = λ taken written t. w taken written t.stands

-- the last line was written, or a beginning of it
pub ends_whole : (lines : PayloadLines) (output : Device) (result : Result (Unit {0}) WriteFault) (line : List ℕ)
    → EndsPut lines line → WritesAll line output result → EndsFrames (Whole lines) output result
ends_whole lines output result line ends writes = λ taken written t.
    record { end = stream_end lines; last = line; all = ends taken written t.stands; writes = writes }
