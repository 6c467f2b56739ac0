-- What writing a case gives is a text of it.
use Rattle.std.proofs.Common.{◌≡◌, ◌∙◌, ℕ, zero, suc, ◌^◌, ◌<◌, ◌≤◌, inl, inr, Bool, true, false, ◌&&◌, ◌==◌, nat_lt}
use Rattle.std.proofs.Common.{if◌then◌else◌}
use Rattle.std.proofs.Common.{List, [], ◌∷◌, ◌++◌, length, map, flat_map, ap, ap₂, sym, refl, subst, arith, codes}
use Rattle.std.proofs.Common.{replicate}
use Rattle.std.proofs.Common.{append-nil}
use Rattle.std.proofs.lemmas.Bool.Decides.{nat_tests}
use Rattle.std.proofs.lemmas.List.Elements.{All-append}
use Rattle.std.specs.Fmt.{decimal}
use Rattle.std.specs.List.{AllByRecursion, AllZip, list_all}
use Rattle.ws_base.specs.Bytes.{AreBytes}
use Rattle.ws_formats.specs.Lines.{IsLine, ended}
use Rattle.ws_formats.specs.Words.{hex}
use Rattle.ws_formats.proofs.PartialTexts.{ended_joined}
use Rattle.ws_formats.specs.Words.{bit_word, opcode_word}
use Rattle.ws_scripts.specs.declared.script.Step.{Step}
use Rattle.ws_scripts.specs.declared.script.Step.TheVariants.{Frame, Raw, Wait}
use Rattle.ws_scripts.specs.declared.script.Chop.{Chop}
use Rattle.ws_scripts.specs.declared.script.Chop.TheVariants.{Octets, PerFrame, Whole}
use Rattle.ws_scripts.specs.declared.script.Case.{Case}
use Rattle.ws_scripts.specs.declared.script_text.fields.Layout.TheVariants.{Tester}
use Rattle.ws_scripts.specs.declared.script_text.frame_line.FrameName.TheVariants.{Kind}
use Rattle.ws_scripts.specs.declared.script_text.line.ScriptLine.{ScriptLine}
use Rattle.ws_scripts.specs.declared.script_text.line.ScriptLine.TheVariants.{Cut, Does}
use Rattle.ws_scripts.specs.ScriptLines.{IsDataWord, IsFinField, IsRsvField, IsScriptLine, IsStepLine}
use Rattle.ws_scripts.specs.ScriptTexts.{AreScriptLines, CanBeWritten, HoldsStepBytes, IsNoChop, IsScriptText}
use Rattle.ws_scripts.specs.ScriptTexts.{is_counted, steps_in, written_chop, written_data, written_fin, written_rsv}
use Rattle.ws_scripts.specs.ScriptTexts.{written_script, written_step}
use Rattle.ws_scripts.specs.Scripts.{CutsOff, FitsAHeader}
use Rattle.ws_scripts.specs.InnerScripting.{IsReserved, chop_text, script_text, step_text}
use Rattle.ws_scripts.proofs.ScriptFrames.{opcode_by, reserved_word}
use Rattle.ws_scripts.proofs.ScriptWords.{IsNot, avoids_by, hex_avoids, number_avoids}

-- ---- data

both_true : (x y : Bool) → (x && y) ≡ true → (x ≡ true) × (y ≡ true)
both_true true y e = (refl, e)
both_true false y e = absurd cc

all_same : (byte : ℕ) (bytes : List ℕ) → list_all (λ (other : ℕ). other == byte) bytes ≡ true
    → bytes ≡ replicate (length bytes) byte
all_same byte [] h = refl
all_same byte (b ∷ bytes) h =
    let both = both_true (b == byte) (list_all (λ (other : ℕ). other == byte) bytes) h in
    let same : b ≡ byte = grind (arith, nat_tests, both.0) in
    ap₂ (λ (x : ℕ) (l : List ℕ). x ∷ l) same (all_same byte bytes both.1)

below_by : (m n : ℕ) → nat_lt m n ≡ true → m < n
below_by m n h = grind (arith, nat_tests)

-- a number is told where it is counted
counted_told : (byte : ℕ) (bytes : List ℕ) → AreBytes (byte ∷ bytes) → (counted : Bool)
    → is_counted byte (byte ∷ bytes) ≡ counted
    → IsDataWord (byte ∷ bytes)
    (if counted then hex (byte ∷ []) ++ (codes "*" ++ decimal (length (byte ∷ bytes))) else hex (byte ∷ bytes))
counted_told byte bytes are false e = inl (are, refl)
counted_told byte bytes are true e =
    let all = byte ∷ bytes in
    let more = both_true (nat_lt 16 (length all)) _ e in
    let rest = both_true (nat_lt (length all) 16777217) _ more.1 in
    inr (inl (record {
      byte = byte;
      times = length all;
      is_byte = are 0;
      some = omega arith;
      most = let less = below_by (length all) 16777217 rest.0 in omega arith;
      are = all_same byte all rest.1;
      spelled = refl;
    }))

data_told : (bytes : List ℕ) → AreBytes bytes → IsDataWord bytes (written_data bytes)
data_told [] are = inl (are, refl)
data_told (byte ∷ bytes) are = counted_told byte bytes are (is_counted byte (byte ∷ bytes)) refl

-- ---- lines

digits_line : (n : ℕ) → n < 2 ^ 64 → IsLine (decimal n)
digits_line n small = number_avoids 10 n n (decimal n) (omega arith) small (omega arith, refl)

one_byte : (byte : ℕ) → byte < 256 → AreBytes (byte ∷ [])
one_byte byte small zero = small
one_byte byte small (suc i) = omega arith

data_line : (bytes : List ℕ) → AreBytes bytes → IsLine (written_data bytes)
data_line [] are = avoids_by 10 (codes "-") refl
data_line (byte ∷ bytes) are = of_bool (is_counted byte (byte ∷ bytes)) refl
  where
    of_bool : (counted : Bool) → is_counted byte (byte ∷ bytes) ≡ counted
        → IsLine
        (if counted then hex (byte ∷ []) ++ (codes "*" ++ decimal (length (byte ∷ bytes))) else hex (byte ∷ bytes))
    of_bool false e = hex_avoids 10 (omega arith) (byte ∷ bytes) are
    of_bool true e =
        let more = both_true (nat_lt 16 (length (byte ∷ bytes))) _ e in
        let rest = both_true (nat_lt (length (byte ∷ bytes)) 16777217) _ more.1 in
        let less = below_by (length (byte ∷ bytes)) 16777217 rest.0 in
        All-append (IsNot 10) (hex (byte ∷ [])) (codes "*" ++ decimal (length (byte ∷ bytes)))
        (hex_avoids 10 (omega arith) (byte ∷ []) (one_byte byte (are 0)))
        (All-append (IsNot 10) (codes "*") (decimal (length (byte ∷ bytes))) (avoids_by 10 (codes "*") refl)
        (digits_line (length (byte ∷ bytes)) (omega (arith, less))))

opcode_line : (opcode : ℕ) → opcode < 16 → IsLine (opcode_word opcode)
opcode_line = opcode_by (λ (o : ℕ). IsLine (opcode_word o)) (avoids_by 10 (codes "cont") refl)
    (avoids_by 10 (codes "text") refl) (avoids_by 10 (codes "binary") refl) (avoids_by 10 (codes "close") refl)
    (avoids_by 10 (codes "ping") refl) (avoids_by 10 (codes "pong") refl)
    (λ o r. subst (λ (l : List ℕ). IsLine l) (sym (reserved_word o r))
    (All-append (IsNot 10) (codes "op") (decimal o) (avoids_by 10 (codes "op") refl) (digits_line o (small o r))))
  where
    small : (o : ℕ) → IsReserved o → o < 2 ^ 64
    small o (inl r) = omega (arith, r.1)
    small o (inr r) = omega (arith, r.1)

fin_line : (fin : Bool) → IsLine (written_fin fin)
fin_line true = avoids_by 10 [] refl
fin_line false = avoids_by 10 (codes " fin=0") refl

rsv_line : (rsv : ℕ) → rsv < 8 → IsLine (written_rsv rsv)
rsv_line rsv small = of_bool (rsv == 0)
  where
    of_bool : (none : Bool) → IsLine (if none then [] else codes " rsv=" ++ decimal rsv)
    of_bool true = avoids_by 10 [] refl
    of_bool false =
        All-append (IsNot 10) (codes " rsv=") (decimal rsv) (avoids_by 10 (codes " rsv=") refl)
        (digits_line rsv (omega arith))

step_line : (step : Step) → FitsAHeader step → HoldsStepBytes step → IsLine (written_step step)
step_line (Frame fin rsv opcode payload) fits are =
    let small = fits fin rsv opcode payload refl in
    All-append (IsNot 10) (opcode_word opcode) _ (opcode_line opcode small.1)
    (All-append (IsNot 10) (written_fin fin) _ (fin_line fin)
    (All-append (IsNot 10) (written_rsv rsv) _ (rsv_line rsv small.0)
    (All-append (IsNot 10) (codes " ") (written_data payload) (avoids_by 10 (codes " ") refl) (data_line payload are))))
step_line (Raw bytes) fits are =
    All-append (IsNot 10) (codes "raw ") (written_data bytes) (avoids_by 10 (codes "raw ") refl) (data_line bytes are)
step_line Wait fits are = avoids_by 10 (codes "wait") refl

steps_lines : (steps : List Step) → AllByRecursion FitsAHeader steps → AllByRecursion HoldsStepBytes steps
    → AllByRecursion IsLine (map written_step steps)
steps_lines [] fits are = tt
steps_lines (step ∷ steps) fits are = (step_line step fits.0 are.0, steps_lines steps fits.1 are.1)

-- ---- what they tell

fin_told : (fin : Bool) → IsFinField fin (written_fin fin)
fin_told true = inl (refl, refl)
fin_told false = inr (bit_word false, refl, refl)

rsv_told : (rsv : ℕ) → rsv < 8 → IsRsvField rsv (written_rsv rsv)
rsv_told rsv small = of_bool (rsv == 0) refl
  where
    of_bool : (none : Bool) → (rsv == 0) ≡ none → IsRsvField rsv (if none then [] else codes " rsv=" ++ decimal rsv)
    of_bool true e = let zero_bits : rsv ≡ 0 = grind (arith, nat_tests) in inl (zero_bits, refl)
    of_bool false e = inr (decimal rsv, (omega arith, refl), refl)

step_told : (step : Step) → FitsAHeader step → HoldsStepBytes step → IsStepLine step (written_step step)
step_told (Frame fin rsv opcode payload) fits are =
    let small = fits fin rsv opcode payload refl in
    inr (inr (
      Kind opcode,
      record { fin = fin; rsv = rsv; layout = Tester },
      payload,
      record {
        named = small.1;
        fin = written_fin fin;
        rsv = written_rsv rsv;
        layout = [];
        last = codes " " ++ written_data payload;
        is_fin = fin_told fin;
        is_rsv = rsv_told rsv small.0;
        is_layout = refl;
        is_payload = (written_data payload, data_told payload are, refl);
        fits = tt;
        all = refl;
      },
      refl,
    ))
step_told (Raw bytes) fits are = inr (inl (bytes, written_data bytes, refl, data_told bytes are, refl))
step_told Wait fits are = inl (refl, refl)

steps_told : (steps : List Step) → AllByRecursion FitsAHeader steps → AllByRecursion HoldsStepBytes steps
    → AllZip IsScriptLine (map Does steps) (map written_step steps)
steps_told [] fits are = tt
steps_told (step ∷ steps) fits are = (step_told step fits.0 are.0, steps_told steps fits.1 are.1)

no_chops : (steps : List Step) → AllByRecursion IsNoChop (map Does steps)
no_chops [] = tt
no_chops (step ∷ steps) = (tt, no_chops steps)

same_steps : (steps : List Step) → steps ≡ steps_in (map Does steps)
same_steps [] = refl
same_steps (step ∷ steps) = ap (λ (l : List Step). step ∷ l) (same_steps steps)

abbrev chop_lines : Chop → List ScriptLine
chop_lines Whole = []
chop_lines PerFrame = Cut PerFrame ∷ []
chop_lines (Octets n) = Cut (Octets n) ∷ []

with_chop : (chop : Chop) (lines : List ScriptLine) (words : List (List ℕ)) → CutsOff chop
    → ((n : ℕ) → chop ≡ Octets n → n ≤ 4294967295) → AllZip IsScriptLine lines words
    → AllZip IsScriptLine (chop_lines chop ++ lines) (written_chop chop ++ words)
with_chop Whole lines words some small zip = zip
with_chop PerFrame lines words some small zip = (refl, zip)
with_chop (Octets n) lines words some small zip =
    ((some n refl, decimal n, (small n refl, refl), refl), zip)

chop_line : (chop : Chop) (words : List (List ℕ)) → ((n : ℕ) → chop ≡ Octets n → n ≤ 4294967295)
    → AllByRecursion IsLine words → AllByRecursion IsLine (written_chop chop ++ words)
chop_line Whole words small all = all
chop_line PerFrame words small all = (avoids_by 10 (codes "chop frames") refl, all)
chop_line (Octets n) words small all =
    let most = small n refl in (
      All-append (IsNot 10) (codes "chop octets ") (decimal n) (avoids_by 10 (codes "chop octets ") refl)
          (digits_line n (omega arith)),
      all,
    )

are_lines : (chop : Chop) (steps : List Step) → AreScriptLines chop steps (chop_lines chop ++ map Does steps)
are_lines Whole steps = inl (no_chops steps, refl, same_steps steps)
are_lines PerFrame steps = inr ([], map Does steps, tt, no_chops steps, refl, same_steps steps)
are_lines (Octets n) steps = inr ([], map Does steps, tt, no_chops steps, refl, same_steps steps)

pub written_is_text : (case : Case) → CanBeWritten case → IsScriptText case (written_script case)
written_is_text case h = (
  written_chop case.chop ++ map written_step case.steps,
  chop_line case.chop (map written_step case.steps) h.small (steps_lines case.steps h.runs.frames h.bytes),
  (
    chop_lines case.chop ++ map Does case.steps,
    with_chop case.chop (map Does case.steps) (map written_step case.steps) h.runs.pieces h.small
        (steps_told case.steps h.runs.frames h.bytes),
    are_lines case.chop case.steps,
  ),
  refl,
)

-- ---- what is printed

steps_printed : (steps : List Step) → flat_map step_text steps ≡ ended (map written_step steps)
steps_printed [] = refl
steps_printed (step ∷ steps) = ap (λ (l : List ℕ). (written_step step ++ 10 ∷ []) ++ l) (steps_printed steps)

chop_printed : (chop : Chop) → chop_text chop ≡ ended (written_chop chop)
chop_printed Whole = refl
chop_printed PerFrame = refl
chop_printed (Octets n) =
    sym (append-nil (codes "chop octets " ++ (decimal n ++ codes "\n")))

pub printed : (case : Case) → script_text case ≡ written_script case
printed case =
    ap₂ (λ (a b : List ℕ). a ++ b) (chop_printed case.chop) (steps_printed case.steps)
    ∙ sym (ended_joined (written_chop case.chop) (map written_step case.steps))
