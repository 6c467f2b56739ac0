-- Inside the crate: the lines of format 1 as those of format 2. The digits stand as they stood, and what is between
-- them is written anew. A reader may skip this file.
use Rattle.std.specs.Prelude.{ℕ, List, [], ◌∷◌, ◌++◌, codes, Option, Some, None}
use Rattle.ws_capture_text.specs.declared.mark.Mark.{Mark}
use Rattle.ws_capture_text.specs.declared.mark.Mark.TheVariants.{Sent, Got}
use Rattle.ws_capture_text.specs.InnerMarks.{parted}

-- what stands before the digits of a line with a mark, or before a line without one, behind the digits of a line with
-- the last mark, where there is any
abbrev pub text_before : Option Mark → Option Mark → List ℕ
text_before None None = []
text_before None (Some Sent) = codes "turn\n> "
text_before None (Some Got) = codes "turn\n< "
text_before (Some last) None = codes "\n"
text_before (Some Sent) (Some Sent) = []
text_before (Some Sent) (Some Got) = codes "\n< "
text_before (Some Got) (Some Sent) = codes "\nturn\n> "
text_before (Some Got) (Some Got) = []

-- a line with a mark goes on until its LF is due, another ends with it
abbrev pub put_by : Option Mark → List ℕ → Option (Mark × List ℕ) → List ℕ
put_by last line None = text_before last None ++ (line ++ codes "\n")
put_by last line (Some (mark, word)) = text_before last (Some mark) ++ word

abbrev pub mark_in : Option (Mark × List ℕ) → Option Mark
mark_in None = None
mark_in (Some (mark, word)) = Some mark

-- what a line of format 1 becomes
abbrev pub put_of : Option Mark → List ℕ → List ℕ
put_of last line = put_by last line (parted line)

-- what lines of format 1 become
abbrev pub joined_lines : Option Mark → List (List ℕ) → List ℕ
joined_lines last [] = []
joined_lines last (line ∷ lines) = put_of last line ++ joined_lines (mark_in (parted line)) lines
