-- What a step of a direction leaves, and what a run of a tap has told.
use Rattle.std.proofs.Common.{zero, suc, ◌==◌}
use Rattle.std.proofs.Common.{◌≡◌, ℕ, ◌<◌, Bool, true, false, List, [], ◌∷◌, ◌++◌, length, Option, Some, Ok, Err}
use Rattle.std.proofs.Common.{refl}
use Rattle.std.proofs.Common.{Result, sym, ap, ◌∙◌, append-nil, arith, inl, inr, subst}
use Rattle.std.proofs.KnownBytes.{Appends-kept, Appends-nil, Appends-trans, Consumes-nil, Consumes-trans}
use Rattle.std.specs.Io.KnownBytes.{Appends, Consumes, IsAtEnd}
use Rattle.ws_wire.specs.declared.role.Role.{Role}
use Rattle.ws_wire.specs.declared.role.Role.TheVariants.{Client, Server}
use Rattle.ws_frame.specs.declared.show_fault.ShowFault.{ShowFault}
use Rattle.ws_frame.specs.Devices.{Device, HasWritten}
use Rattle.ws_frame.specs.FrameStreaming.{MayEndBy, is_of_a_write}
use Rattle.ws_tap.specs.declared.tapped.Tapped.{Tapped}
use Rattle.ws_tap.specs.declared.tap.Tap.{Tap}
use Rattle.ws_tap.specs.declared.tapping.Passed.{Passed}
use Rattle.ws_tap.specs.declared.tapping.Passed.TheVariants as passed
use Rattle.ws_tap.specs.declared.tapping.TapEnd.{TapEnd}
use Rattle.ws_tap.specs.declared.tapping.TapEnd.TheVariants.{Ended, Broken}
use Rattle.ws_tap.specs.Told.{TapTold, CameFrom, EndedBy, TakenBy, EndedTo, Passage, no_passage, other_end, passage}
use Rattle.ws_tap.specs.Texts.{NotYet}
use Rattle.ws_tap.specs.Piping.{IsPipeOf, new_pipe}
use Rattle.ws_tap.specs.Tapping.{HasTapped, StandsOn, ends_wanted, is_tap_over, pipe_from, room_from, waits_for}
use Rattle.ws_tap.specs.Running.{DeviceBytes, TapDevices, TapDirection, DidAll, DidDirection, EndsDirection}
use Rattle.ws_tap.specs.Running.{IsTapStep, PassesOne, ReadsSome, TapsEnds, TellsTap, WritesToEnd, device_bytes}
use Rattle.ws_tap.specs.Running.{direction_at}
use Rattle.ws_tap.proofs.Passages.{passage_with}
use Rattle.ws_tap.proofs.HeadStarts.{nothing_has_no_head}
use Rattle.ws_tap.proofs.PipeLemmas.{end_is_due, ended_is, is_passed_on, pipe_is_new}
use Rattle.ws_tap.proofs.TapStands.{going_at, over_is, passed_on, tap_tells}

-- ---- what each event does to the two directions

taken_here : (role : Role) (told : List TapTold) (bytes : List ℕ)
    → passage role (told ++ TakenBy (other_end role) bytes ∷ [])
    ≡ record (passage role told) { taken = (passage role told).taken ++ bytes }
taken_here Client told bytes = passage_with Client told (TakenBy Server bytes)
taken_here Server told bytes = passage_with Server told (TakenBy Client bytes)

taken_there : (role : Role) (told : List TapTold) (bytes : List ℕ)
    → passage (other_end role) (told ++ TakenBy (other_end role) bytes ∷ []) ≡ passage (other_end role) told
taken_there Client told bytes = passage_with Server told (TakenBy Server bytes)
taken_there Server told bytes = passage_with Client told (TakenBy Client bytes)

passed_here : (role : Role) (told : List TapTold)
    → passage role (told ++ EndedTo (other_end role) ∷ []) ≡ record (passage role told) { passed = true }
passed_here Client told = passage_with Client told (EndedTo Server)
passed_here Server told = passage_with Server told (EndedTo Client)

passed_there : (role : Role) (told : List TapTold)
    → passage (other_end role) (told ++ EndedTo (other_end role) ∷ []) ≡ passage (other_end role) told
passed_there Client told = passage_with Server told (EndedTo Server)
passed_there Server told = passage_with Client told (EndedTo Client)

came_here : (role : Role) (told : List TapTold) (piece : List ℕ) → passage role (told ++ CameFrom role piece ∷ [])
    ≡ record (passage role told) { came = (passage role told).came ++ piece }
came_here Client told piece = passage_with Client told (CameFrom Client piece)
came_here Server told piece = passage_with Server told (CameFrom Server piece)

came_there : (role : Role) (told : List TapTold) (piece : List ℕ)
    → passage (other_end role) (told ++ CameFrom role piece ∷ []) ≡ passage (other_end role) told
came_there Client told piece = passage_with Server told (CameFrom Client piece)
came_there Server told piece = passage_with Client told (CameFrom Server piece)

end_here : (role : Role) (told : List TapTold)
    → passage role (told ++ EndedBy role ∷ []) ≡ record (passage role told) { ended = true }
end_here Client told = passage_with Client told (EndedBy Client)
end_here Server told = passage_with Server told (EndedBy Server)

end_there : (role : Role) (told : List TapTold)
    → passage (other_end role) (told ++ EndedBy role ∷ []) ≡ passage (other_end role) told
end_there Client told = passage_with Server told (EndedBy Client)
end_there Server told = passage_with Client told (EndedBy Server)

-- ---- a step

-- a direction that holds something, or whose end is to be passed on, was not passed on
other_pipe : (role : Role) (tapped : Tapped) (told : List TapTold) (tap : Tap) (text : List ℕ)
    → HasTapped tapped told tap text → IsPipeOf (pipe_from (other_end (other_end role)) tap) (passage role told)
other_pipe Client tapped told tap text h = h.client
other_pipe Server tapped told tap text h = h.server

held_is_open : (role : Role) (tapped : Tapped) (told : List TapTold) (tap : Tap) (text : List ℕ)
    → HasTapped tapped told tap text → 0 < length (waits_for (other_end role) tap) → (passage role told).passed ≡ true
    → ⊥
held_is_open role tapped told tap text h some passed =
    let s = other_pipe role tapped told tap text h in
    omega (arith, some, ap (λ (t : List ℕ). length t) (s.over passed).1)

wanted_is_open : (role : Role) (tapped : Tapped) (told : List TapTold) (tap : Tap) (text : List ℕ)
    → HasTapped tapped told tap text → ends_wanted (other_end role) tap ≡ true → (passage role told).passed ≡ true → ⊥
wanted_is_open role tapped told tap text h wanted passed =
    let s = other_pipe role tapped told tap text h in
    let pipe = pipe_from (other_end (other_end role)) tap in
    let (none, is_ended) = end_is_due pipe.held pipe.stage wanted in
    let (ended, still) = ended_is (passage role told).ended (passage role told).passed (sym is_ended ∙ s.stage) in
    let e : true ≡ false = sym passed ∙ still in absurd cc

-- the same list
told_nothing : (told : List TapTold) → told ++ [] ≡ told
told_nothing told = append-nil told

-- nothing was told: the devices keep what they have
nothing_done : {T : Type 0} → (role : Role) (tapped : Tapped) (told : List TapTold) (text : List ℕ) (new : Tap)
    (direction : TapDirection) (output : Device) (before now : Type 0) (result : T)
    → HasTapped tapped told new text → DidDirection (passage role told) direction → output.failed ≡ false
    → HasWritten [] output → (((passage role told).passed ≡ true → before) → (passage role told).passed ≡ true → now)
    → IsTapStep role tapped told text new direction output before now (Ok result)
nothing_done role tapped told text new direction output before now result h did works wrote half = record {
  more = [];
  lines = [];
  other = ap (λ (t : List TapTold). passage (other_end role) t) (told_nothing told);
  did = subst (λ (t : List TapTold). DidDirection (passage role t) direction) (sym (told_nothing told)) did;
  wrote = wrote;
  stands = (
    works,
    subst (λ (t : List TapTold). HasTapped tapped t new (text ++ [])) (sym (told_nothing told))
        (subst (λ (t : List ℕ). HasTapped tapped told new t) (sym (append-nil text)) h),
  );
  half_closed = λ ended passed. half ended
      (ap (λ (t : List TapTold). (passage role t).passed) (sym (told_nothing told)) ∙ passed);
}

-- a direction over devices of which nothing was read, and to which nothing was written
kept_so : (role : Role) (told : List TapTold) (direction : TapDirection) (reader writer : DeviceBytes)
    → DidDirection (passage role told) direction → direction.input.new ≡ reader.old
    → direction.output.new ≡ writer.old → reader.new ≡ reader.old → Appends writer.old writer.new []
    → DidDirection (passage role told) (direction_at direction reader.new writer.new)
kept_so role told direction reader writer did er ew stays appends = record {
  read = subst (λ (o : Option (List ℕ)). Consumes direction.input.old o (passage role told).came) (er ∙ sym stays)
      did.read;
  at_end = λ ended. subst (λ (o : Option (List ℕ)). IsAtEnd o) (er ∙ sym stays) (did.at_end ended);
  written = subst (λ (t : List ℕ). Appends direction.output.old writer.new t)
      (append-nil (passage role told).taken)
      (Appends-trans direction.output.old direction.output.new writer.new (passage role told).taken [] did.written
      (subst (λ (o : Option (List ℕ)). Appends o writer.new []) (sym ew) appends));
}

-- what was written was taken
pub passes_write : (role : Role) (old new : Tap) (reader writer : DeviceBytes) (before now : Type 0) (output : Device)
    (outcome : Passed) → 0 < length (waits_for (other_end role) old) → reader.new ≡ reader.old → output.failed ≡ false
    → HasWritten [] output → WritesToEnd (other_end role) old new writer outcome
    → PassesOne role old new reader writer before now output (Ok outcome)
passes_write role old new reader writer before now output passed.On some stays works wrote (bytes, appends, extends) =
    λ tapped told text direction h did er ew. record {
      more = TakenBy (other_end role) bytes ∷ [];
      lines = [];
      other = taken_there role told bytes;
      did = subst (λ (p : Passage). DidDirection p (direction_at direction reader.new writer.new))
          (sym (taken_here role told bytes)) (record {
            read = subst (λ (o : Option (List ℕ)). Consumes direction.input.old o (passage role told).came)
                (er ∙ sym stays) did.read;
            at_end = λ ended. subst (λ (o : Option (List ℕ)). IsAtEnd o) (er ∙ sym stays) (did.at_end ended);
            written = Appends-trans direction.output.old direction.output.new writer.new (passage role told).taken bytes
                did.written (subst (λ (o : Option (List ℕ)). Appends o writer.new bytes) (sym ew) appends);
          });
      wrote = wrote;
      stands = (
        works,
        subst (λ (t : List ℕ). HasTapped tapped (told ++ TakenBy (other_end role) bytes ∷ []) new t)
            (sym (append-nil text)) (extends tapped told text h),
      );
      half_closed = λ ended passed. absurd (held_is_open role tapped told old text h some
          (sym (ap (λ (p : Passage). p.passed) (taken_here role told bytes)) ∙ passed));
    }
passes_write role old new reader writer before now output passed.Waits some stays works wrote (appends, same) =
    λ tapped told text direction h did er ew. nothing_done role tapped told text new
    (direction_at direction reader.new writer.new) output before now passed.Waits
    (subst (λ (t : Tap). HasTapped tapped told t text) (sym same) h)
    (kept_so role told direction reader writer did er ew stays appends) works wrote
    (λ ended passed. absurd (held_is_open role tapped told old text h some passed))
passes_write role old new reader writer before now output passed.Broken some stays works wrote (appends, same) =
    λ tapped told text direction h did er ew. nothing_done role tapped told text new
    (direction_at direction reader.new writer.new) output before now passed.Broken
    (subst (λ (t : Tap). HasTapped tapped told t text) (sym same) h)
    (kept_so role told direction reader writer did er ew stays appends) works wrote
    (λ ended passed. absurd (held_is_open role tapped told old text h some passed))

-- the direction was ended at the writer
pub passes_end : (role : Role) (old new : Tap) (reader writer : DeviceBytes) (before now : Type 0) (output : Device)
    (outcome : Passed) → ends_wanted (other_end role) old ≡ true → reader.new ≡ reader.old → output.failed ≡ false
    → HasWritten [] output → EndsDirection (other_end role) old new writer now outcome
    → PassesOne role old new reader writer before now output (Ok outcome)
passes_end role old new reader writer before now output passed.On wanted stays works wrote (keeps, extends, is_ended) =
    λ tapped told text direction h did er ew.
    let kept = kept_so role told direction reader writer did er ew stays
    (Appends-kept writer.old writer.old writer.new [] (Appends-nil writer.old) keeps) in record {
      more = EndedTo (other_end role) ∷ [];
      lines = [];
      other = passed_there role told;
      did = subst (λ (p : Passage). DidDirection p (direction_at direction reader.new writer.new))
          (sym (passed_here role told)) (record {
            read = kept.read;
            at_end = kept.at_end;
            written = kept.written;
          });
      wrote = wrote;
      stands = (
        works,
        subst (λ (t : List ℕ). HasTapped tapped (told ++ EndedTo (other_end role) ∷ []) new t)
            (sym (append-nil text)) (extends tapped told text h),
      );
      half_closed = λ ended passed. is_ended;
    }
passes_end role old new reader writer before now output passed.Waits wanted stays works wrote ends = absurd ends
passes_end role old new reader writer before now output passed.Broken wanted stays works wrote (keeps, same) =
    λ tapped told text direction h did er ew. nothing_done role tapped told text new
    (direction_at direction reader.new writer.new) output before now passed.Broken
    (subst (λ (t : Tap). HasTapped tapped told t text) (sym same) h)
    (kept_so role told direction reader writer did er ew stays
    (Appends-kept writer.old writer.old writer.new [] (Appends-nil writer.old) keeps)) works wrote
    (λ ended passed. absurd (wanted_is_open role tapped told old text h wanted passed))

-- nothing is to be done
pub passes_nothing : (role : Role) (tap : Tap) (reader writer : DeviceBytes) (ended : Type 0) (output : Device)
    → reader.new ≡ reader.old → writer.new ≡ writer.old → output.failed ≡ false → HasWritten [] output
    → PassesOne role tap tap reader writer ended ended output (Ok passed.Waits)
passes_nothing role tap reader writer ended output stays keeps works wrote =
    λ tapped told text direction h did er ew. nothing_done role tapped told text tap
    (direction_at direction reader.new writer.new) output ended ended passed.Waits h
    (kept_so role told direction reader writer did er ew stays
    (subst (λ (o : Option (List ℕ)). Appends writer.old o []) (sym keeps) (Appends-nil writer.old))) works wrote
    (λ was passed. was passed)

-- the devices after a read
did_read : (role : Role) (told : List TapTold) (direction : TapDirection) (reader writer : DeviceBytes)
    (piece : List ℕ) → DidDirection (passage role told) direction → direction.input.new ≡ reader.old
    → direction.output.new ≡ writer.old → writer.new ≡ writer.old → Consumes reader.old reader.new piece
    → ((passage role told).ended ≡ true → IsAtEnd reader.new)
    → DidDirection (record (passage role told) { came = (passage role told).came ++ piece })
    (direction_at direction reader.new writer.new)
did_read role told direction reader writer piece did er ew keeps consumes at_end = record {
  read = Consumes-trans direction.input.old direction.input.new reader.new (passage role told).came piece did.read
      (subst (λ (o : Option (List ℕ)). Consumes o reader.new piece) (sym er) consumes);
  at_end = at_end;
  written = subst (λ (o : Option (List ℕ)). Appends direction.output.old o (passage role told).taken)
      (ew ∙ sym keeps) did.written;
}

-- what was read was told, or the end of the stream was
passes_came : {T : Type 0} → (role : Role) (old new : Tap) (reader writer : DeviceBytes) (ended : Type 0)
    (output : Device) (result : Result T ShowFault) (piece : List ℕ) → 0 < room_from role old
    → writer.new ≡ writer.old → Consumes reader.old reader.new piece
    → ((tapped : Tapped) (told : List TapTold) (text : List ℕ) → HasTapped tapped told old text → (more : List ℕ)
    × HasWritten more output
    × StandsOn tapped (told ++ CameFrom role piece ∷ []) new (text ++ more) output.failed result)
    → PassesOne role old new reader writer ended ended output result
passes_came role old new reader writer ended output result piece some keeps consumes tells =
    λ tapped told text direction h did er ew.
    let (more, wrote, stands) = tells tapped told text h in record {
      more = CameFrom role piece ∷ [];
      lines = more;
      other = came_there role told piece;
      did = subst (λ (p : Passage). DidDirection p (direction_at direction reader.new writer.new))
          (sym (came_here role told piece))
          (did_read role told direction reader writer piece did er ew keeps consumes
          (λ over. absurd (let e : true ≡ false = sym over ∙ going_at role tapped told old text h some in cc)));
      wrote = wrote;
      stands = stands;
      half_closed = λ was passed. was (sym (ap (λ (p : Passage). p.passed) (came_here role told piece)) ∙ passed);
    }

passes_ended : {T : Type 0} → (role : Role) (old new : Tap) (reader writer : DeviceBytes) (ended : Type 0)
    (output : Device) (result : Result T ShowFault) → writer.new ≡ writer.old
    → Consumes reader.old reader.new [] → IsAtEnd reader.new
    → ((tapped : Tapped) (told : List TapTold) (text : List ℕ) → HasTapped tapped told old text → (more : List ℕ)
    × HasWritten more output
    × StandsOn tapped (told ++ EndedBy role ∷ []) new (text ++ more) output.failed result)
    → PassesOne role old new reader writer ended ended output result
passes_ended role old new reader writer ended output result keeps consumes at_end tells =
    λ tapped told text direction h did er ew.
    let (more, wrote, stands) = tells tapped told text h in
    let p = passage role told in record {
      more = EndedBy role ∷ [];
      lines = more;
      other = end_there role told;
      did = subst (λ (p : Passage). DidDirection p (direction_at direction reader.new writer.new))
          (sym (end_here role told)) (record {
            read = subst (λ (t : List ℕ). Consumes direction.input.old reader.new t) (append-nil p.came)
                (Consumes-trans direction.input.old direction.input.new reader.new p.came [] did.read
                (subst (λ (o : Option (List ℕ)). Consumes o reader.new []) (sym er) consumes));
            at_end = λ over. at_end;
            written = subst (λ (o : Option (List ℕ)). Appends direction.output.old o p.taken) (ew ∙ sym keeps)
                did.written;
          });
      wrote = wrote;
      stands = stands;
      half_closed = λ was passed. was (sym (ap (λ (p : Passage). p.passed) (end_here role told)) ∙ passed);
    }

consumed_nothing : (role : Role) (told : List TapTold) (direction : TapDirection) (reader writer : DeviceBytes)
    → DidDirection (passage role told) direction → direction.input.new ≡ reader.old
    → direction.output.new ≡ writer.old → writer.new ≡ writer.old → Consumes reader.old reader.new []
    → ((passage role told).ended ≡ true → IsAtEnd reader.new)
    → DidDirection (passage role told) (direction_at direction reader.new writer.new)
consumed_nothing role told direction reader writer did er ew keeps consumes at_end =
    let p = passage role told in record {
      read = subst (λ (t : List ℕ). Consumes direction.input.old reader.new t) (append-nil p.came)
          (Consumes-trans direction.input.old direction.input.new reader.new p.came [] did.read
          (subst (λ (o : Option (List ℕ)). Consumes o reader.new []) (sym er) consumes));
      at_end = at_end;
      written = subst (λ (o : Option (List ℕ)). Appends direction.output.old o p.taken) (ew ∙ sym keeps) did.written;
    }

passes_unread : (role : Role) (old new : Tap) (reader writer : DeviceBytes) (ended : Type 0) (output : Device)
    (outcome : Passed) → 0 < room_from role old → writer.new ≡ writer.old → Consumes reader.old reader.new []
    → new ≡ old → output.failed ≡ false → HasWritten [] output
    → PassesOne role old new reader writer ended ended output (Ok outcome)
passes_unread role old new reader writer ended output outcome some keeps consumes same works wrote =
    λ tapped told text direction h did er ew. nothing_done role tapped told text new
    (direction_at direction reader.new writer.new) output ended ended outcome
    (subst (λ (t : Tap). HasTapped tapped told t text) (sym same) h)
    (consumed_nothing role told direction reader writer did er ew keeps consumes
    (λ over. absurd (let e : true ≡ false = sym over ∙ going_at role tapped told old text h some in cc)))
    works wrote (λ was passed. was passed)

pub passes_read : (role : Role) (old new : Tap) (reader writer : DeviceBytes) (ended : Type 0) (output : Device)
    (result : Result Passed ShowFault) → 0 < room_from role old → writer.new ≡ writer.old
    → ReadsSome role old new reader output result → PassesOne role old new reader writer ended ended output result
passes_read role old new reader writer ended output (Ok passed.On) some keeps (inl (piece, consumes, tells)) =
    passes_came role old new reader writer ended output (Ok passed.On) piece some keeps consumes tells
passes_read role old new reader writer ended output (Ok passed.On) some keeps (inr (consumes, at_end, ends)) =
    passes_ended role old new reader writer ended output (Ok passed.On) keeps consumes at_end ends
passes_read role old new reader writer ended output (Ok passed.Waits) some keeps (consumes, same, works, wrote) =
    passes_unread role old new reader writer ended output passed.Waits some keeps consumes same works wrote
passes_read role old new reader writer ended output (Ok passed.Broken) some keeps (consumes, same, works, wrote) =
    passes_unread role old new reader writer ended output passed.Broken some keeps consumes same works wrote
passes_read role old new reader writer ended output (Err fault) some keeps (inl (piece, consumes, tells)) =
    passes_came role old new reader writer ended output (Err fault) piece some keeps consumes tells
passes_read role old new reader writer ended output (Err fault) some keeps
    (inr (consumes, at_end, is_write, (write, ends))) =
    passes_ended role old new reader writer ended output (Err fault) keeps consumes at_end
    (λ tapped told text h. let (more, wrote, (failed, on, due)) = ends tapped told text h in (
      more,
      wrote,
      (
        failed ∙ sym (ap is_of_a_write is_write),
        subst (λ (x : ShowFault). MayEndBy tapped.style x) (sym is_write) tt,
        on,
        due,
      ),
    ))

-- ---- a run

-- a run stands so over its devices
pub record RunsOn (tapped : Tapped) (tap : Tap) (devices : TapDevices) (at_server at_client : Type 0) : Type 0 where
  pub told : List TapTold
  pub text : List ℕ
  pub stands : HasTapped tapped told tap text
  pub did : DidAll told text devices
  pub to_server : (passage Client told).passed ≡ true → at_server
  pub to_client : (passage Server told).passed ≡ true → at_client

pub run_begins : (tapped : Tapped) (tap : Tap) (a b d e l : Option (List ℕ)) (at_server at_client : Type 0)
    → HasTapped tapped [] tap [] → RunsOn tapped tap (record {
      client = record { input = device_bytes a a; output = device_bytes b b };
      server = record { input = device_bytes d d; output = device_bytes e e };
      lines = device_bytes l l;
    }) at_server at_client
run_begins tapped tap a b d e l at_server at_client h = record {
  told = [];
  text = [];
  stands = h;
  did = record {
    client = record { read = Consumes-nil a; at_end = λ over. absurd cc; written = Appends-nil b };
    server = record { read = Consumes-nil d; at_end = λ over. absurd cc; written = Appends-nil e };
    lines = Appends-nil l;
  };
  to_server = λ over. absurd cc;
  to_client = λ over. absurd cc;
}

-- a step of the client's direction
pub run_client : (tapped : Tapped) (old new : Tap) (devices : TapDevices) (reader writer : DeviceBytes)
    (before now at_client : Type 0) (output : Device) (outcome : Passed)
    → RunsOn tapped old devices before at_client
    → PassesOne Client old new reader writer before now output (Ok outcome)
    → devices.client.input.new ≡ reader.old → devices.client.output.new ≡ writer.old → devices.lines.new ≡ output.old
    → (output.failed ≡ false) × RunsOn tapped new (record {
      client = direction_at devices.client reader.new writer.new;
      server = devices.server;
      lines = device_bytes devices.lines.old output.new;
    }) now at_client
run_client tapped old new devices reader writer before now at_client output outcome r passes er ew el =
    let s = passes tapped r.told r.text devices.client r.stands r.did.client er ew in (
      s.stands.0,
      record {
        told = r.told ++ s.more;
        text = r.text ++ s.lines;
        stands = s.stands.1;
        did = record {
          client = s.did;
          server = subst (λ (p : Passage). DidDirection p devices.server) (sym s.other) r.did.server;
          lines = Appends-trans devices.lines.old devices.lines.new output.new r.text s.lines r.did.lines
              (subst (λ (o : Option (List ℕ)). Appends o output.new s.lines) (sym el) s.wrote);
        };
        to_server = s.half_closed r.to_server;
        to_client = λ over. r.to_client (ap (λ (p : Passage). p.passed) (sym s.other) ∙ over);
      },
    )

-- a step of the server's
pub run_server : (tapped : Tapped) (old new : Tap) (devices : TapDevices) (reader writer : DeviceBytes)
    (before now at_server : Type 0) (output : Device) (outcome : Passed)
    → RunsOn tapped old devices at_server before
    → PassesOne Server old new reader writer before now output (Ok outcome)
    → devices.server.input.new ≡ reader.old → devices.server.output.new ≡ writer.old → devices.lines.new ≡ output.old
    → (output.failed ≡ false) × RunsOn tapped new (record {
      client = devices.client;
      server = direction_at devices.server reader.new writer.new;
      lines = device_bytes devices.lines.old output.new;
    }) at_server now
run_server tapped old new devices reader writer before now at_server output outcome r passes er ew el =
    let s = passes tapped r.told r.text devices.server r.stands r.did.server er ew in (
      s.stands.0,
      record {
        told = r.told ++ s.more;
        text = r.text ++ s.lines;
        stands = s.stands.1;
        did = record {
          client = subst (λ (p : Passage). DidDirection p devices.client) (sym s.other) r.did.client;
          server = s.did;
          lines = Appends-trans devices.lines.old devices.lines.new output.new r.text s.lines r.did.lines
              (subst (λ (o : Option (List ℕ)). Appends o output.new s.lines) (sym el) s.wrote);
        };
        to_server = λ over. r.to_server (ap (λ (p : Passage). p.passed) (sym s.other) ∙ over);
        to_client = s.half_closed r.to_client;
      },
    )

-- a step in which the output has failed, or memory ran out
pub client_fails : (tapped : Tapped) (old new : Tap) (devices : TapDevices) (reader writer : DeviceBytes)
    (before now at_client : Type 0) (output : Device) (fault : ShowFault)
    → RunsOn tapped old devices before at_client
    → PassesOne {T = Passed} Client old new reader writer before now output (Err fault)
    → devices.client.input.new ≡ reader.old → devices.client.output.new ≡ writer.old → devices.lines.new ≡ output.old
    → TapsEnds tapped (record {
      client = direction_at devices.client reader.new writer.new;
      server = devices.server;
      lines = device_bytes devices.lines.old output.new;
    }) output.failed (Err fault)
client_fails tapped old new devices reader writer before now at_client output fault r passes er ew el =
    let s = passes tapped r.told r.text devices.client r.stands r.did.client er ew in
    let (failed, fair, on, due) = s.stands in (
      failed,
      fair,
      (
        r.told ++ s.more,
        r.text ++ s.lines,
        record {
          client = s.did;
          server = subst (λ (p : Passage). DidDirection p devices.server) (sym s.other) r.did.server;
          lines = Appends-trans devices.lines.old devices.lines.new output.new r.text s.lines r.did.lines
              (subst (λ (o : Option (List ℕ)). Appends o output.new s.lines) (sym el) s.wrote);
        },
        on,
        due,
      ),
    )

pub server_fails : (tapped : Tapped) (old new : Tap) (devices : TapDevices) (reader writer : DeviceBytes)
    (before now at_server : Type 0) (output : Device) (fault : ShowFault)
    → RunsOn tapped old devices at_server before
    → PassesOne {T = Passed} Server old new reader writer before now output (Err fault)
    → devices.server.input.new ≡ reader.old → devices.server.output.new ≡ writer.old → devices.lines.new ≡ output.old
    → TapsEnds tapped (record {
      client = devices.client;
      server = direction_at devices.server reader.new writer.new;
      lines = device_bytes devices.lines.old output.new;
    }) output.failed (Err fault)
server_fails tapped old new devices reader writer before now at_server output fault r passes er ew el =
    let s = passes tapped r.told r.text devices.server r.stands r.did.server er ew in
    let (failed, fair, on, due) = s.stands in (
      failed,
      fair,
      (
        r.told ++ s.more,
        r.text ++ s.lines,
        record {
          client = subst (λ (p : Passage). DidDirection p devices.client) (sym s.other) r.did.client;
          server = s.did;
          lines = Appends-trans devices.lines.old devices.lines.new output.new r.text s.lines r.did.lines
              (subst (λ (o : Option (List ℕ)). Appends o output.new s.lines) (sym el) s.wrote);
        },
        on,
        due,
      ),
    )

-- how it ends
pub run_is_over : (tapped : Tapped) (tap : Tap) (devices : TapDevices) (at_server at_client : Type 0) (failed : Bool)
    (first : Role) → RunsOn tapped tap devices at_server at_client → failed ≡ false → tap.first ≡ Some first
    → is_tap_over tap ≡ true → TapsEnds tapped devices failed (Ok (Ended first)) × at_server × at_client
run_is_over tapped tap devices at_server at_client failed first r works is over =
    let (client, server) = over_is tapped r.told tap r.text r.stands over in (
      (
        works,
        (
          r.told,
          r.text,
          r.did,
          passed_on tapped r.told tap r.text r.stands,
          tap_tells tapped r.told tap r.text r.stands,
          (client, server, sym r.stands.first ∙ is),
        ),
      ),
      r.to_server client,
      r.to_client server,
    )

pub run_is_broken : (tapped : Tapped) (tap : Tap) (devices : TapDevices) (at_server at_client : Type 0) (failed : Bool)
    → RunsOn tapped tap devices at_server at_client → failed ≡ false → TapsEnds tapped devices failed (Ok Broken)
run_is_broken tapped tap devices at_server at_client failed r works = (
  works,
  (
    r.told,
    r.text,
    r.did,
    passed_on tapped r.told tap r.text r.stands,
    tap_tells tapped r.told tap r.text r.stands,
    tt,
  ),
)

-- and so does one that can't begin
pub run_begins_not : (tapped : Tapped) (a b d e l : Option (List ℕ)) (failed : Bool) → failed ≡ false
    → TapsEnds tapped (record {
      client = record { input = device_bytes a a; output = device_bytes b b };
      server = record { input = device_bytes d d; output = device_bytes e e };
      lines = device_bytes l l;
    }) failed (Ok Broken)
run_begins_not tapped a b d e l failed works =
    let none = is_passed_on new_pipe no_passage (pipe_is_new new_pipe refl) in (
      works,
      (
        [],
        [],
        record {
          client = record { read = Consumes-nil a; at_end = λ over. absurd cc; written = Appends-nil b };
          server = record { read = Consumes-nil d; at_end = λ over. absurd cc; written = Appends-nil e };
          lines = Appends-nil l;
        },
        record { client = none; server = none },
        record {
          answered = NotYet;
          parts = [];
          has_answered = nothing_has_no_head Server;
          of_client = inl (nothing_has_no_head Client, refl);
          of_server = inl (nothing_has_no_head Server, refl);
          in_order = tt;
          all = refl;
        },
        tt,
      ),
    )

-- what was told
pub run_tells : (tapped : Tapped) (devices : TapDevices) (failed : Bool) (result : Result TapEnd ShowFault)
    → TapsEnds tapped devices failed result
    → TellsTap tapped result (record { failed = failed; old = devices.lines.old; new = devices.lines.new })
run_tells tapped devices failed (Ok end) (works, (told, text, did, on, tells, at)) =
    (works, (text, did.lines, (told, on, tells, at)))
run_tells tapped devices failed (Err fault) (fails, fair, (told, text, did, on, due)) =
    (fails, fair, (text, did.lines, (told, on, due)))

-- ---- what a call answers

-- nothing was taken
pub writes_none : (role : Role) (tap : Tap) (writer : DeviceBytes) (outcome : Passed) → (outcome ≡ passed.On → ⊥)
    → Appends writer.old writer.new [] → WritesToEnd role tap tap writer outcome
writes_none role tap writer passed.On other appends = absurd (other refl)
writes_none role tap writer passed.Waits other appends = (appends, refl)
writes_none role tap writer passed.Broken other appends = (appends, refl)

-- what isn't none is some
pub not_none : (n : ℕ) → false ≡ (n == 0) → 0 < n
not_none zero e = absurd cc
not_none (suc n) e = omega arith
