-- The output as the sink of the lines of one place of a loop.
use Rattle.std.proofs.Common.{◌≡◌, ◌∙◌, ℕ, ◌==◌, Bool, true, false, List, [], ◌∷◌, ◌++◌, Option, ap, append-nil, length, refl}
use Rattle.std.proofs.Common.{subst, sym}
use Rattle.std.proofs.KnownBytes.{Appends-kept, Appends-nil, Appends-trans}
use Rattle.std.proofs.lemmas.List.Folds.{concat-append}
use Rattle.std.specs.Borrow.{GName}
use Rattle.std.specs.Io.KnownBytes.{Keeps}
use Rattle.std.specs.List.{concat}
use Rattle.ws_frame.specs.Devices.{Device, HasWritten, watched}
use Rattle.ws_frame.specs.Watching.{has_failed}
use Rattle.ws_frame.specs.declared.watching.Watched.{Watched}
use Rattle.ws_lines.specs.declared.transcript_lines.Showing.{Showing}
use Rattle.ws_loops.proofs.SinkLemmas.{own_then, said_then}
use Rattle.ws_loops.specs.Sinks.{lines_at, said_at}
use Rattle.ws_networks.specs.Connecting.{only_place}
use Rattle.ws_scripts.specs.declared.transcript.Transcript.{Transcript}
use Rattle.ws_shown.specs.MarkedLines.{AreMarkedLines}
use Rattle.wst_testing.specs.LineOutputs.{HasWrittenOn, HasWrittenTaken, WritesRest}
use Rattle.wst_testing.specs.LineWriting.{HasWrittenRun}
use Rattle.ws_shown.proofs.ShowingLemmas.{empty_is}

-- lines of its place were written behind those that were taken before
pub put_more : {W : Type 0} (contents : W → Option (List ℕ)) (first old new : Watched W) (name next : GName)
    (place now : ℕ) (taken : List (ℕ × List ℕ)) (at : ℕ) (lines : List ℕ) → at ≡ place
    → HasWrittenOn contents old new lines → HasWrittenTaken place now taken name next (watched contents first old)
    → HasWrittenTaken place now (taken ++ (at, lines) ∷ []) name next (watched contents first new)
put_more contents first old new name next place now taken at lines is (wrote, works) h =
    subst (λ (n : ℕ). HasWrittenTaken place now (taken ++ (n, lines) ∷ []) name next (watched contents first new))
    (sym is) (record {
      same = h.same;
      only = ap (λ (l : List (ℕ × List ℕ)). l ++ (place, lines) ∷ []) h.only
          ∙ (sym (said_then place (lines_at place taken) (lines ∷ []))
          ∙ ap (λ (l : List (List ℕ)). said_at place l) (sym (own_then place taken (lines ∷ []))));
      name = h.name;
      written = subst (λ (l : List ℕ). HasWritten l (watched contents first new)) all
          (Appends-trans (watched contents first old).old (watched contents first old).new
          (watched contents first new).new (concat (lines_at place taken)) lines h.written wrote);
      works = works;
    })
  where
    all : concat (lines_at place taken) ++ lines ≡ concat (lines_at place (taken ++ (place, lines) ∷ []))
    all = ap (λ (l : List ℕ). concat (lines_at place taken) ++ l) (sym (append-nil lines))
        ∙ (sym (concat-append (lines_at place taken) (lines ∷ []))
        ∙ ap (λ (l : List (List ℕ)). concat l) (sym (own_then place taken (lines ∷ []))))

-- none were taken yet
pub none_taken : {W : Type 0} (contents : W → Option (List ℕ)) (at : ℕ) (writer : Watched W) (name : GName)
    → has_failed writer ≡ false → HasWrittenTaken at at [] name name (watched contents writer writer)
none_taken contents at writer name works = record {
  same = refl;
  only = refl;
  name = refl;
  written = Appends-nil (watched contents writer writer).old;
  works = works;
}

-- the last lines, if there are any
pub wrote_no_last : {W : Type 0} (contents : W → Option (List ℕ)) (writer : Watched W) (last : List ℕ) {empty : Bool}
    → empty ≡ (length last == 0) → empty ≡ true → WritesRest contents writer writer last
wrote_no_last contents writer last is empty_last = (
  subst (λ (l : List ℕ). HasWritten l (watched contents writer writer)) (sym (empty_is last (sym is ∙ empty_last)))
      (Appends-nil (watched contents writer writer).old),
  λ works. works,
)

pub wrote_last : {W : Type 0} (contents : W → Option (List ℕ)) (old new : Watched W) (last : List ℕ)
    → HasWrittenOn contents old new last → WritesRest contents old new last
wrote_last contents old new last (wrote, works) = (wrote, λ worked. works)

-- those that were taken, and the last ones behind them, through a borrow of the caller's own writer
pub wrote_rest : {W : Type 0} (contents : W → Option (List ℕ)) (old first mid last new : Watched W) (name next : GName)
    (at now : ℕ) (taken : List (ℕ × List ℕ)) (rest : List ℕ) → at ≡ only_place → first ≡ old → new ≡ last
    → HasWrittenTaken at now taken name next (watched contents first mid) → WritesRest contents mid last rest
    → HasWritten (concat (lines_at only_place taken) ++ rest) (watched contents old new)
    × ((watched contents old new).failed ≡ false)
wrote_rest {W} contents old first mid last new name next at now taken rest place same left put (wrote, works) =
    subst (λ (w : Watched W). HasWritten text (watched contents old w) × (has_failed w ≡ false)) (sym left)
    (subst (λ (w : Watched W). HasWritten text (watched contents w last)) same whole, works put.works)
  where
    text : List ℕ
    text = concat (lines_at only_place taken) ++ rest

    whole : HasWritten text (watched contents first last)
    whole = Appends-trans (watched contents first mid).old (watched contents first mid).new
        (watched contents mid last).new (concat (lines_at only_place taken)) rest
        (subst (λ (n : ℕ). HasWritten (concat (lines_at n taken)) (watched contents first mid)) place put.written) wrote

-- all lines of a transcript were written
pub wrote_run : (showing : Showing) (transcript : Transcript) (text : List ℕ) (output : Device)
    → AreMarkedLines showing transcript text → HasWritten text output → output.failed ≡ false
    → HasWrittenRun showing transcript output
wrote_run showing transcript text output (marked, are, lines) wrote works =
    ((marked, are, (text, lines, wrote)), works)
