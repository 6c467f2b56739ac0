-- A drive writes the answers to what it read, and ends as its session, its devices or its budget say.
use Rattle.std.proofs.Common.{rules, ◌≡◌, ℕ, [], false, true, ◌<◌, ◌≤◌, ◌++◌, ◌∙◌, length, sym, ap, refl, subst, arith, take}
use Rattle.std.proofs.lemmas.List.{length-take}
use Rattle.ws_frame.specs.declared.reading_input.TheConstants.{READ_SIZE}
use Rattle.ws_frame.specs.Devices.{Device, watched}
use Rattle.ws_frame.specs.Watching.{has_failed}
use Rattle.ws_session.specs.declared.status.Status.{Status}
use Rattle.ws_session.specs.Exchange.{SessionValue, is_over}
use Rattle.ws_peer.specs.declared.driving.DriveEnd.{DriveEnd}
use Rattle.ws_peer.specs.declared.driving.DriveEnd.TheVariants as end
use Rattle.ws_echo.specs.Echoes.{DriveCall}
use Rattle.ws_peer.specs.Driving.{Drives}
use Rattle.ws_peer.specs.InnerSteps.{end_of_stop}
use Rattle.ws_echo.proofs.Echoing.{echo_new, echo_ended}
use Rattle.ws_peer.proofs.Driven.{call_of_drive, stops_at_first, stops_at_read, has_begun, has_driven_more, done_when_over, ends_at_budget, ends_at_read_fault, done_at_end, fair_stop, gave_nothing, gave_at_most, gave_all}
use Rattle.ws_peer.proofs.driving.drive.Goals as goal

-- the run is told by the end that is answered
told : (call : DriveCall) (a b : DriveEnd) (session : SessionValue) (input output : Device) → b ≡ a → Drives call a session input output → Drives call b session input output
told call a b session input output e h = subst (λ (d : DriveEnd). Drives call d session input output) (sym e) h

done : (call : DriveCall) (a b : Status) (session : SessionValue) (input output : Device) → b ≡ a → Drives call (end.Done a) session input output → Drives call (end.Done b) session input output
done call a b session input output e h = subst (λ (s : Status). Drives call (end.Done s) session input output) (sym e) h

pub returns-in-Err-clause-driven : goal.returns-in-Err-clause-driven
returns-in-Err-clause-driven g c =
    let echo = c.args.echo.now in
    let call = call_of_drive echo.role echo.limits c.args.key c.args.first.now c.args.budget in
    let new = echo_new c.echo_laws.ensures echo.role echo.limits c.args.key echo refl refl c.requires.new in
    let input = watched g.R.Read.remaining c.args.reader.now c.args.reader.now in
    let output = watched g.W.Write.contents c.args.writer.now c.answer.new.writer in
    told call (end_of_stop c.in-Err.stop) c.end.result c.answer.new.echo input output c.end.ensures
    (stops_at_first c.echo_laws.ensures call c.in-Err.stop c.answer.new.echo input output refl (c.in-Err.ensures call [] [] refl new))

pub returns-in-Err-clause-fair : goal.returns-in-Err-clause-fair
returns-in-Err-clause-fair g c =
    let echo = c.args.echo.now in
    let call = call_of_drive echo.role echo.limits c.args.key c.args.first.now c.args.budget in
    let new = echo_new c.echo_laws.ensures echo.role echo.limits c.args.key echo refl refl c.requires.new in
    let output = watched g.W.Write.contents c.args.writer.now c.answer.new.writer in
    fair_stop call [] [] c.args.first.now c.answer.new.echo c.in-Err.stop c.end.result (watched g.R.Read.remaining c.args.reader.now c.args.reader.now) output output c.end.ensures (c.in-Err.ensures call [] [] refl new) refl c.requires.reader_works

pub reads-init : goal.reads-init
reads-init g c =
    let echo = c.args.echo.now in
    let call = call_of_drive echo.role echo.limits c.args.key c.args.first.now c.args.budget in
    let new = echo_new c.echo_laws.ensures echo.role echo.limits c.args.key echo refl refl c.requires.new in
    let (works, more, wrote, stands) = c.in_default.ensures call [] [] refl new in
    record { reader_works = c.requires.reader_works; writer_works = works; driven = has_begun call c.answer.new.echo _ _ _ more wrote stands }

pub returns-then-left-eq0-clause-driven : goal.returns-then-left-eq0-clause-driven
returns-then-left-eq0-clause-driven g c =
    let going : is_over c.reads.echo.status ≡ false = ap is_over (sym c.status.ensures) ∙ sym c.is_over.ensures ∙ c.reads-test.true in
    ends_at_budget c.echo_laws.ensures _ c.reads.left c.reads.echo (watched g.R.Read.remaining c.args.reader.now c.reads.reader) (watched g.W.Write.contents c.args.writer.now c.reads.writer) _ c.reads.invariant.driven refl c.if-left-eq0.true going

pub returns-in-Err-read-clause-driven : goal.returns-in-Err-read-clause-driven
returns-in-Err-read-clause-driven g c =
    let going : is_over c.reads.echo.status ≡ false = ap is_over (sym c.status.ensures) ∙ sym c.is_over.ensures ∙ c.reads-test.true in
    let some : 0 < c.reads.left = omega arith in
    ends_at_read_fault c.echo_laws.ensures _ c.reads.left c.reads.echo (watched g.R.Read.remaining c.args.reader.now c.read.new.self) (watched g.W.Write.contents c.args.writer.now c.reads.writer) _ c.reads.invariant.driven c.in-Err-read.ensures.bytes some
    going

pub returns-in-Ok-eq0-clause-driven : goal.returns-in-Ok-eq0-clause-driven
returns-in-Ok-eq0-clause-driven g c =
    let some : 0 < c.reads.left = omega arith in
    let call = call_of_drive c.args.echo.now.role c.args.echo.now.limits c.args.key c.args.first.now c.args.budget in
    let h = c.reads.invariant.driven in
    let ended = echo_ended call.role call.limits call.key c.reads.echo c.end-in-Ok-eq0.new.self _ h.written h.stands c.end-in-Ok-eq0.ensures.exchanged c.end-in-Ok-eq0.ensures.role c.end-in-Ok-eq0.ensures.limits in
    let input = watched g.R.Read.remaining c.args.reader.now c.read.new.self in
    let output = watched g.W.Write.contents c.args.writer.now c.reads.writer in
    let (consumed, at_end) = c.in-Ok-eq0.ensures.bytes in
    let none : c.in-Ok-eq0.field-0 ≡ 0 = c.in-Ok-eq0.field-0-test in
    let room : 0 < length c.read.new.buf = omega (arith, length-take {A = ℕ}, c.min-want.array_long) in
    done call c.end-in-Ok-eq0.new.self.status c.status-in-Ok-eq0.result c.end-in-Ok-eq0.new.self input output c.status-in-Ok-eq0.ensures
    (done_at_end c.echo_laws.ensures call c.reads.left c.reads.echo input output _ h c.end-in-Ok-eq0.new.self (gave_nothing _ _ c.in-Ok-eq0.field-0 c.read.new.buf none consumed) (at_end none room) some ended)

pub returns-in-Err-answer-clause-driven : goal.returns-in-Err-answer-clause-driven
returns-in-Err-answer-clause-driven g c =
    let going : is_over c.reads.echo.status ≡ false = ap is_over (sym c.status.ensures) ∙ sym c.is_over.ensures ∙ c.reads-test.true in
    let call = call_of_drive c.args.echo.now.role c.args.echo.now.limits c.args.key c.args.first.now c.args.budget in
    let input = watched g.R.Read.remaining c.args.reader.now c.read.new.self in
    let output = watched g.W.Write.contents c.args.writer.now c.answer-in-Ok.new.writer in
    let last = watched g.W.Write.contents c.reads.writer c.answer-in-Ok.new.writer in
    let piece = take c.in-Ok.count c.read.new.buf in
    let bound : length c.read.new.buf ≤ READ_SIZE = omega (arith, length-take {A = ℕ}) in
    let fits : length c.read.new.buf ≤ c.reads.left = omega (arith, length-take {A = ℕ}) in
    told call (end_of_stop c.in-Err-answer.stop) c.end-in-Err-answer.result c.answer-in-Ok.new.echo input output c.end-in-Err-answer.ensures
    (stops_at_read c.echo_laws.ensures call c.reads.left c.reads.echo c.answer-in-Ok.new.echo input output last _ _ piece c.in-Err-answer.stop c.reads.invariant.driven going c.in-Ok.ensures.bytes.0 (gave_at_most c.in-Ok.count READ_SIZE c.read.new.buf bound) (gave_at_most c.in-Ok.count c.reads.left c.read.new.buf fits) refl refl
    (λ bytes put stands. c.in-Err-answer.ensures call bytes put refl stands))

pub returns-in-Err-answer-clause-fair : goal.returns-in-Err-answer-clause-fair
returns-in-Err-answer-clause-fair g c =
    let call = call_of_drive c.args.echo.now.role c.args.echo.now.limits c.args.key c.args.first.now c.args.budget in
    let h = c.reads.invariant.driven in
    let output = watched g.W.Write.contents c.args.writer.now c.answer-in-Ok.new.writer in
    let last = watched g.W.Write.contents c.reads.writer c.answer-in-Ok.new.writer in
    let works : has_failed c.read.new.self ≡ false = search rules in
    fair_stop call (call.first ++ h.read) h.written (take c.in-Ok.count c.read.new.buf) c.answer-in-Ok.new.echo c.in-Err-answer.stop c.end-in-Err-answer.result (watched g.R.Read.remaining c.args.reader.now c.read.new.self) output last
    c.end-in-Err-answer.ensures (c.in-Err-answer.ensures call (call.first ++ h.read) h.written refl h.stands) refl works

pub reads-preserved : goal.reads-preserved
reads-preserved g c =
    let going : is_over c.reads.echo.status ≡ false = ap is_over (sym c.status.ensures) ∙ sym c.is_over.ensures ∙ c.reads-test.true in
    let call = call_of_drive c.args.echo.now.role c.args.echo.now.limits c.args.key c.args.first.now c.args.budget in
    let h = c.reads.invariant.driven in
    let piece = take c.in-Ok.count c.read.new.buf in
    let bound : length c.read.new.buf ≤ READ_SIZE = omega (arith, length-take {A = ℕ}) in
    let fits : length c.read.new.buf ≤ c.reads.left = omega (arith, length-take {A = ℕ}) in
    let (works, more, wrote, stands) = c.in_default-answer.ensures call _ h.written refl h.stands in
    record {
      reader_works = search rules;
      writer_works = works;
      driven = has_driven_more c.echo_laws.ensures call c.reads.left c.reads.echo _ _ _ _ h going c.answer-in-Ok.new.echo _ _ piece more _ c.in-Ok.ensures.bytes.0 (gave_at_most c.in-Ok.count READ_SIZE c.read.new.buf bound) (gave_all c.in-Ok.count c.reads.left c.read.new.buf (omega (arith, c.in-Ok.ensures.bound)) fits) wrote stands;
    }

pub returns-clause-driven : goal.returns-clause-driven
returns-clause-driven g c =
    let call = call_of_drive c.args.echo.now.role c.args.echo.now.limits c.args.key c.args.first.now c.args.budget in
    let over : is_over c.reads.echo.status ≡ true = ap is_over (sym c.status.ensures) ∙ sym c.is_over.ensures ∙ c.reads-test.false in
    let input = watched g.R.Read.remaining c.args.reader.now c.reads.reader in
    let output = watched g.W.Write.contents c.args.writer.now c.reads.writer in
    done call c.reads.echo.status c.status-2.result c.reads.echo input output c.status-2.ensures
    (done_when_over c.echo_laws.ensures call c.reads.left c.reads.echo input output _ c.reads.invariant.driven refl over)
