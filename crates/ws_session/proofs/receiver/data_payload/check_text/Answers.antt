-- New bytes of a text break it at a place, or cut its last character at the end of the message, or go on with it.
use Rattle.std.proofs.Common.{◌≡◌, ◌+◌, ◌++◌, length, drop, List, ℕ, Option, refl, sym, ap, subst, arith}
use Rattle.std.proofs.lemmas.List.{length-drop}
use Rattle.ws_text.specs.Text.{BeginsText}
use Rattle.ws_text.specs.Stream.{HasReadText, BreaksTextAt}
use Rattle.ws_session.specs.Faults.{IsOfText, open_payload}
use Rattle.ws_session.specs.InnerReceiving.{first_bytes, frame_payload}
use Rattle.ws_session.proofs.HeaderReasons.{not_both}
use Rattle.ws_session.proofs.Arriving.{read_all, text_read, text_cut, text_broken}
use Rattle.ws_session.proofs.receiver.data_payload.check_text.Goals as goal

pub returns-in-Err : goal.returns-in-Err
returns-in-Err c =
    let a = c.args.assembly.now in
    let h = c.args.header.now in
    let of_text : IsOfText a.opened h = c.requires.of_text in
    let read : HasReadText c.text-text.result (first_bytes a c.args.came) = subst (λ (t : Option (List ℕ)). HasReadText t (first_bytes a c.args.came)) (sym c.text-text.ensures) c.requires.read in
    let breaks : BreaksTextAt (first_bytes a c.args.came) (drop c.args.came (frame_payload a)) c.in-Err.place = subst (λ (l : List ℕ). BreaksTextAt (first_bytes a c.args.came) l c.in-Err.place) c.new_bytes-bytes.ensures (c.in-Err.ensures.place (first_bytes a c.args.came) read) in
    text_broken a h c.args.came c.requires.opcode c.requires.within c.requires.kept c.requires.joined c.in-Err.place of_text breaks

pub returns-then-is_cut : goal.returns-then-is_cut
returns-then-is_cut c =
    let a = c.args.assembly.now in
    let h = c.args.header.now in
    let of_text : IsOfText a.opened h = c.requires.of_text in
    let read : HasReadText c.text-text.result (first_bytes a c.args.came) = subst (λ (t : Option (List ℕ)). HasReadText t (first_bytes a c.args.came)) (sym c.text-text.ensures) c.requires.read in
    let all : HasReadText c.push.new.self (first_bytes a c.args.came ++ drop c.args.came (frame_payload a)) = subst (λ (l : List ℕ). HasReadText c.push.new.self (first_bytes a c.args.came ++ l)) c.new_bytes-bytes.ensures (c.in_default.ensures.read (first_bytes a c.args.came) read) in
    let begins : BeginsText (first_bytes a c.args.came ++ drop c.args.came (frame_payload a)) = subst (λ (l : List ℕ). BeginsText (first_bytes a c.args.came ++ l)) c.new_bytes-bytes.ensures ((c.in_default.ensures.fits (first_bytes a c.args.came) read).0 refl) in
    let is = (c.is_cut.ensures a.payload (read_all a h c.args.came c.requires.opcode c.requires.within c.requires.kept c.requires.joined c.push.new.self all)).0 c.if-is_cut.true in
    let size : length c.new_bytes-bytes.result.now + c.args.came ≡ length (frame_payload a) = omega (arith, ap (λ (l : List ℕ). length l) c.new_bytes-bytes.ensures, length-drop c.args.came (frame_payload a), c.requires.kept, length-drop (length (open_payload a.opened)) a.payload) in
    let whole : c.args.came + length c.new_bytes-bytes.result.now ≡ h.len = omega (arith, is.1, size, c.requires.within, c.payload_len.ensures.value) in
    text_cut a h c.args.came c.requires.opcode c.requires.within c.requires.kept c.requires.joined (length c.new_bytes-bytes.result.now) of_text is.0 whole (omega (arith, size)) begins is.2

pub returns : goal.returns
returns c =
    let a = c.args.assembly.now in
    let h = c.args.header.now in
    let of_text : IsOfText a.opened h = c.requires.of_text in
    let read : HasReadText c.text-text.result (first_bytes a c.args.came) = subst (λ (t : Option (List ℕ)). HasReadText t (first_bytes a c.args.came)) (sym c.text-text.ensures) c.requires.read in
    let all : HasReadText c.push.new.self (first_bytes a c.args.came ++ drop c.args.came (frame_payload a)) = subst (λ (l : List ℕ). HasReadText c.push.new.self (first_bytes a c.args.came ++ l)) c.new_bytes-bytes.ensures (c.in_default.ensures.read (first_bytes a c.args.came) read) in
    let begins : BeginsText (first_bytes a c.args.came ++ drop c.args.came (frame_payload a)) = subst (λ (l : List ℕ). BeginsText (first_bytes a c.args.came ++ l)) c.new_bytes-bytes.ensures ((c.in_default.ensures.fits (first_bytes a c.args.came) read).0 refl) in
    let whole_read = read_all a h c.args.came c.requires.opcode c.requires.within c.requires.kept c.requires.joined c.push.new.self all in
    let size : length c.new_bytes-bytes.result.now + c.args.came ≡ length (frame_payload a) = omega (arith, ap (λ (l : List ℕ). length l) c.new_bytes-bytes.ensures, length-drop c.args.came (frame_payload a), c.requires.kept, length-drop (length (open_payload a.opened)) a.payload) in
    text_read a h c.args.came c.requires.opcode c.requires.within c.requires.kept c.requires.joined c.push.new.self whole_read begins
    (λ fin whole never. not_both _ _ (c.is_cut.ensures a.payload whole_read) c.if-is_cut.false (fin, omega (arith, whole, size, c.payload_len.ensures.value), never))
