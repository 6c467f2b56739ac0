-- The fields of a frame's line are cut from it in one way.
use Rattle.std.proofs.Common.{◌≡◌, ◌⊎◌, ◌∙◌, ℕ, inl, inr, Bool, true, false, List, [], ◌∷◌, ◌++◌, length, Option, Some}
use Rattle.std.proofs.Common.{None, ap, ap₂, sym, refl, subst, arith, append_assoc, codes, slice_index}
use Rattle.std.proofs.lemmas.List.{append_cancel_left}
use Rattle.ws_formats.proofs.HexWords.{key_length, same_bytes}
use Rattle.ws_formats.proofs.NumberWords.{number_one}
use Rattle.ws_wire.specs.declared.header.Form.{Form}
use Rattle.ws_wire.specs.declared.header.Form.TheVariants.{Eight, Short, Two}
use Rattle.ws_wire.specs.Header.{form_word}
use Rattle.ws_scripts.specs.declared.script_text.fields.FrameFields.{FrameFields}
use Rattle.ws_scripts.specs.declared.script_text.fields.Layout.{Layout}
use Rattle.ws_scripts.specs.declared.script_text.fields.Layout.TheVariants.{Own, Tester}
use Rattle.ws_scripts.specs.declared.script_text.frame_line.FrameName.{FrameName}
use Rattle.ws_scripts.specs.declared.script_text.frame_line.FrameName.TheVariants.{CloseWith, Kind}
use Rattle.ws_scripts.specs.ScriptLines.{FormFits, IsDataWord, IsFinWord, IsFormValue, IsFrameLine, IsFrameName}
use Rattle.ws_scripts.specs.ScriptLines.{IsKeyValue}
use Rattle.ws_scripts.specs.ScriptLines.{IsLayoutField, IsPayloadField, IsRsvWord, frame_name_word}
use Rattle.ws_scripts.specs.InnerScripting.{CutsFields, CutsFin, CutsForm, CutsLayout, CutsRsv, IsRest, Lacks, NoSpace}
use Rattle.ws_scripts.proofs.ScriptData.{data_low}
use Rattle.ws_scripts.proofs.ScriptWords.{bare_by, cut_of_field, field_lacks, field_of_cut, field_rest, hex_avoids}
use Rattle.ws_scripts.proofs.ScriptWords.{number_avoids, one_cut, one_word}

-- ---- a word tells one value

pub fin_bare : (fin : Bool) (word : List ℕ) → IsFinWord fin word → NoSpace word
fin_bare true word e = bare_by word (codes "1") e refl
fin_bare false word e = bare_by word (codes "0") e refl

fin_one : (a b : Bool) (word : List ℕ) → IsFinWord a word → IsFinWord b word → a ≡ b
fin_one true true word e f = refl
fin_one false false word e f = refl
fin_one true false word e f =
    absurd (let wrong : 49 ≡ 48 = ap (λ (l : List ℕ). slice_index l 0) (sym e ∙ f) in omega arith)
fin_one false true word e f =
    absurd (let wrong : 48 ≡ 49 = ap (λ (l : List ℕ). slice_index l 0) (sym e ∙ f) in omega arith)

pub rsv_bare : (rsv : ℕ) (word : List ℕ) → IsRsvWord rsv word → NoSpace word
rsv_bare rsv word h = number_avoids 32 7 rsv word (omega arith) (omega arith) h

rsv_one : (a b : ℕ) (word : List ℕ) → IsRsvWord a word → IsRsvWord b word → a ≡ b
rsv_one a b word h i = number_one 7 7 a b word (omega arith) (omega arith) h i

pub key_bare : (key : Option (List ℕ)) (word : List ℕ) → IsKeyValue key word → NoSpace word
key_bare None word h = bare_by word (codes "-") h refl
key_bare (Some key) word h =
    subst (λ (l : List ℕ). NoSpace l) (sym h.1) (hex_avoids 32 (omega arith) key h.0.1)

key_one : (a b : Option (List ℕ)) (word : List ℕ) → IsKeyValue a word → IsKeyValue b word → a ≡ b
key_one None None word h i = refl
key_one None (Some key) word h i =
    absurd (omega (arith, key_length key word i, ap (λ (l : List ℕ). length l) h))
key_one (Some key) None word h i =
    absurd (omega (arith, key_length key word h, ap (λ (l : List ℕ). length l) i))
key_one (Some a) (Some b) word h i = ap Some (same_bytes a b h.0.1 i.0.1 (sym h.1 ∙ i.1))

pub form_bare : (form : Option Form) (word : List ℕ) → IsFormValue form word → NoSpace word
form_bare None word h = absurd h
form_bare (Some Short) word h = bare_by word (codes "short") h refl
form_bare (Some Two) word h = bare_by word (codes "two") h refl
form_bare (Some Eight) word h = bare_by word (codes "eight") h refl

first_letter : Form → ℕ
first_letter Short = 115
first_letter Two = 116
first_letter Eight = 101

letter_is : (form : Form) → slice_index (form_word form) 0 ≡ first_letter form
unfolding first_letter
letter_is Short = refl
letter_is Two = refl
letter_is Eight = refl

form_same : (a b : Form) → first_letter a ≡ first_letter b → a ≡ b
unfolding first_letter
form_same Short Short e = refl
form_same Two Two e = refl
form_same Eight Eight e = refl
form_same a b e = absurd (omega (arith, e))

form_one : (a b : Option Form) (word : List ℕ) → IsFormValue a word → IsFormValue b word → a ≡ b
form_one None b word h i = absurd h
form_one (Some a) None word h i = absurd i
form_one (Some a) (Some b) word h i =
    ap Some
    (form_same a b (sym (letter_is a) ∙ (ap (λ (l : List ℕ). slice_index l 0) (sym h ∙ i) ∙ letter_is b)))

-- a form that a field tells has a name
pub form_named : (form : Option Form) (word : List ℕ) → IsFormValue form word
    → (named : Form) × (word ≡ form_word named)
form_named None word h = absurd h
form_named (Some form) word h = (form, h)

-- ---- each field is cut in one way

pub fin_cut : (a b : Bool) (x y text : List ℕ) → CutsFin a x text → CutsFin b y text → (a ≡ b) × (x ≡ y)
fin_cut = one_cut (codes " fin=") true IsFinWord fin_bare fin_one

pub rsv_cut : (a b : ℕ) (x y text : List ℕ) → CutsRsv a x text → CutsRsv b y text → (a ≡ b) × (x ≡ y)
rsv_cut = one_cut (codes " rsv=") 0 IsRsvWord rsv_bare rsv_one

form_cut : (a b : Option Form) (x y text : List ℕ) → CutsForm a x text → CutsForm b y text → (a ≡ b) × (x ≡ y)
form_cut = one_cut (codes " form=") None IsFormValue form_bare form_one

-- a layout after whose name a word stands has the key of that word, and its form is cut from what follows
pub layout_key : (word after text : List ℕ) → (text ≡ codes " key=" ++ (word ++ after)) × NoSpace word × IsRest after
    → (layout : Layout) (rest : List ℕ) → CutsLayout layout rest text
    → (key : Option (List ℕ)) × (form : Option Form) × (layout ≡ Own key form) × IsKeyValue key word
    × CutsForm form rest after
layout_key word after text (e, plain, ends) Tester rest (f, lacks) = absurd (lacks (word ++ after) e)
layout_key word after text (e, plain, ends) (Own key form) rest (other, behind, is, left, f, cut) =
    let same = one_word other word behind after (key_bare key other is) plain left ends
    (append_cancel_left (codes " key=") (other ++ behind) (word ++ after) (sym f ∙ e)) in (
      key,
      form,
      refl,
      subst (λ (l : List ℕ). IsKeyValue key l) same.0 is,
      subst (λ (l : List ℕ). CutsForm form rest l) same.1 cut,
    )

layout_cut : (a b : Layout) (x y text : List ℕ) → CutsLayout a x text → CutsLayout b y text → (a ≡ b) × (x ≡ y)
layout_cut Tester Tester x y text (e, lacks) (f, too) = (refl, e ∙ sym f)
layout_cut Tester (Own key form) x y text (e, lacks) (word, after, is, ends, f, cut) =
    absurd (lacks (word ++ after) f)
layout_cut (Own key form) b x y text (word, after, is, ends, f, cut) other =
    let (own, named, e, same, too) = layout_key word after text (f, key_bare key word is, ends) b y other in
    let forms = form_cut form named x y after cut too in
    (ap₂ (λ (k : Option (List ℕ)) (n : Option Form). Own k n) (key_one key own word is same) forms.0 ∙ sym e, forms.1)

make : Bool → ℕ → Layout → FrameFields
make fin rsv layout = record { fin = fin; rsv = rsv; layout = layout }

pub fields_cut : (a b : FrameFields) (x y text : List ℕ) → CutsFields a x text → CutsFields b y text
    → (a ≡ b) × (x ≡ y)
unfolding make
fields_cut a b x y text (s, t, p, q, r) (u, v, f, g, h) =
    let one = fin_cut a.fin b.fin s u text p f in
    let two = rsv_cut a.rsv b.rsv t v s q (subst (λ (l : List ℕ). CutsRsv b.rsv v l) (sym one.1) g) in
    let three = layout_cut a.layout b.layout x y t r
    (subst (λ (l : List ℕ). CutsLayout b.layout y l) (sym two.1) h) in (
      ap (λ (fin : Bool). make fin a.rsv a.layout) one.0
          ∙ ap₂ (λ (rsv : ℕ) (layout : Layout). make b.fin rsv layout) two.0 three.0,
      three.1,
    )

-- ---- what follows the fields

-- nothing, or data after a space
pub last_word : (name : FrameName) (payload last : List ℕ) → IsPayloadField name payload last
    → (last ≡ []) ⊎ ((bytes word : List ℕ) × IsDataWord bytes word × (last ≡ 32 ∷ word))
last_word (Kind opcode) payload last (word, is, e) = inr (payload, word, is, e)
last_word (CloseWith code) payload last (bytes, inl (e, f), g) = inl f
last_word (CloseWith code) payload last (bytes, inr (word, is, f), g) = inr (bytes, word, is, f)

pub last_rest : (name : FrameName) (payload last : List ℕ) → IsPayloadField name payload last → IsRest last
last_rest name payload last h = of_sum (last_word name payload last h)
  where
    of_sum : (last ≡ []) ⊎ ((bytes word : List ℕ) × IsDataWord bytes word × (last ≡ 32 ∷ word)) → IsRest last
    of_sum (inl e) = inl e
    of_sum (inr (bytes, word, is, e)) = inr (word, e)

last_lacks : (field : List ℕ) → ((more : List ℕ) → [] ≡ field ++ more → ⊥)
    → ((bytes word more : List ℕ) → IsDataWord bytes word → 32 ∷ word ≡ field ++ more → ⊥) → (name : FrameName)
    → (payload last : List ℕ) → IsPayloadField name payload last → Lacks field last
last_lacks field none differ name payload last h more f = of_sum (last_word name payload last h)
  where
    of_sum : (last ≡ []) ⊎ ((bytes word : List ℕ) × IsDataWord bytes word × (last ≡ 32 ∷ word)) → ⊥
    of_sum (inl e) = none more (sym e ∙ f)
    of_sum (inr (bytes, word, is, e)) = differ bytes word more is (sym e ∙ f)

index : ℕ → List ℕ → ℕ
index i l = slice_index l i

last_lacks_fin : (name : FrameName) (payload last : List ℕ) → IsPayloadField name payload last
    → Lacks (codes " fin=") last
unfolding index
last_lacks_fin = last_lacks (codes " fin=") (λ more e. absurd cc)
    (λ bytes word more is e.
    let low = data_low bytes word is in
    let first : slice_index word 0 ≡ 102 = ap (index 1) e in
    let second : slice_index word 1 ≡ 105 = ap (index 2) e in
    let less = low.1 first in
    omega (arith, less, second))

last_lacks_rsv : (name : FrameName) (payload last : List ℕ) → IsPayloadField name payload last
    → Lacks (codes " rsv=") last
unfolding index
last_lacks_rsv = last_lacks (codes " rsv=") (λ more e. absurd cc)
    (λ bytes word more is e.
    let low = data_low bytes word is in
    let first : slice_index word 0 ≡ 114 = ap (index 1) e in
    omega (arith, low.0, first))

last_lacks_key : (name : FrameName) (payload last : List ℕ) → IsPayloadField name payload last
    → Lacks (codes " key=") last
unfolding index
last_lacks_key = last_lacks (codes " key=") (λ more e. absurd cc)
    (λ bytes word more is e.
    let low = data_low bytes word is in
    let first : slice_index word 0 ≡ 107 = ap (index 1) e in
    omega (arith, low.0, first))

last_lacks_form : (name : FrameName) (payload last : List ℕ) → IsPayloadField name payload last
    → Lacks (codes " form=") last
unfolding index
last_lacks_form = last_lacks (codes " form=") (λ more e. absurd cc)
    (λ bytes word more is e.
    let low = data_low bytes word is in
    let first : slice_index word 0 ≡ 102 = ap (index 1) e in
    let second : slice_index word 1 ≡ 111 = ap (index 2) e in
    let less = low.1 first in
    omega (arith, less, second))

-- ---- the layout

layout_lacks : (field : List ℕ) → ((a b : List ℕ) → codes " key=" ++ a ≡ field ++ b → ⊥) → (layout : Layout)
    → (words rest : List ℕ) → IsLayoutField layout words → Lacks field rest → Lacks field (words ++ rest)
layout_lacks field differ Tester words rest e lacks =
    subst (λ (l : List ℕ). Lacks field l) (ap (λ (l : List ℕ). l ++ rest) (sym e)) lacks
layout_lacks field differ (Own key form) words rest (word, left, is, named, e) lacks = λ more f.
    differ ((word ++ left) ++ rest) more (ap (λ (l : List ℕ). l ++ rest) (sym e) ∙ f)

layout_rest : (layout : Layout) (words rest : List ℕ) → IsLayoutField layout words → IsRest rest
    → IsRest (words ++ rest)
layout_rest Tester words rest e ends =
    subst (λ (l : List ℕ). IsRest l) (ap (λ (l : List ℕ). l ++ rest) (sym e)) ends
layout_rest (Own key form) words rest (word, left, is, named, e) ends =
    inr ((codes "key=" ++ (word ++ left)) ++ rest, ap (λ (l : List ℕ). l ++ rest) e)

cut_of_layout : (layout : Layout) (words last : List ℕ) → IsLayoutField layout words → IsRest last
    → Lacks (codes " key=") last → Lacks (codes " form=") last → CutsLayout layout last (words ++ last)
cut_of_layout Tester words last e ends key form =
    let all : last ≡ words ++ last = ap (λ (l : List ℕ). l ++ last) (sym e) in
    (all, subst (λ (l : List ℕ). Lacks (codes " key=") l) all key)
cut_of_layout (Own key form) words last (word, left, is, named, e) ends no_key no_form = (
  word,
  left ++ last,
  is,
  field_rest (codes "form=") None IsFormValue form left last named ends,
  ap (λ (l : List ℕ). l ++ last) e ∙ ap (λ (l : List ℕ). codes " key=" ++ l) (append_assoc word left last),
  cut_of_field (codes " form=") None IsFormValue form left last named no_form ends,
)

layout_of_cut : (layout : Layout) (rest text : List ℕ) → CutsLayout layout rest text
    → (words : List ℕ) × IsLayoutField layout words × (text ≡ words ++ rest)
layout_of_cut Tester rest text (e, lacks) = ([], refl, sym e)
layout_of_cut (Own key form) rest text (word, after, is, ends, e, cut) =
    let (left, named, f) = field_of_cut (codes " form=") None IsFormValue form rest after cut in (
      codes " key=" ++ (word ++ left),
      (word, left, is, named, refl),
      e
          ∙ ap (λ (l : List ℕ). codes " key=" ++ l)
          (ap (λ (l : List ℕ). word ++ l) f ∙ sym (append_assoc word left rest)),
    )

-- ---- a frame's line

-- what stands after the name
abbrev pub after_frame_name : {name : FrameName} {fields : FrameFields} {payload words : List ℕ}
    → IsFrameLine name fields payload words → List ℕ
after_frame_name h = h.fin ++ (h.rsv ++ (h.layout ++ h.last))

module _ (name : FrameName) (fields : FrameFields) (payload words : List ℕ) where
  pub tail_is_rest : (h : IsFrameLine name fields payload words) → IsRest (after_frame_name h)
  tail_is_rest h =
      field_rest (codes "fin=") true IsFinWord fields.fin h.fin (h.rsv ++ (h.layout ++ h.last)) h.is_fin
      (field_rest (codes "rsv=") 0 IsRsvWord fields.rsv h.rsv (h.layout ++ h.last) h.is_rsv
      (layout_rest fields.layout h.layout h.last h.is_layout (last_rest name payload h.last h.is_payload)))

  pub cut_of_line : (h : IsFrameLine name fields payload words) → CutsFields fields h.last (after_frame_name h)
  cut_of_line h =
      let third = h.layout ++ h.last in
      let second = h.rsv ++ third in
      let ends = last_rest name payload h.last h.is_payload in
      let third_ends : IsRest third = layout_rest fields.layout h.layout h.last h.is_layout ends in
      let second_ends : IsRest second =
      field_rest (codes "rsv=") 0 IsRsvWord fields.rsv h.rsv third h.is_rsv third_ends in
      let no_fin : Lacks (codes " fin=") second =
      field_lacks (codes " fin=") (codes " rsv=") 0 IsRsvWord fields.rsv h.rsv third
      (λ a b e. omega (arith, ap (λ (l : List ℕ). slice_index l 1) e)) h.is_rsv
      (layout_lacks (codes " fin=") (λ a b e. omega (arith, ap (λ (l : List ℕ). slice_index l 1) e)) fields.layout
      h.layout h.last h.is_layout (last_lacks_fin name payload h.last h.is_payload)) in
      let no_rsv : Lacks (codes " rsv=") third =
      layout_lacks (codes " rsv=") (λ a b e. omega (arith, ap (λ (l : List ℕ). slice_index l 1) e)) fields.layout
      h.layout h.last h.is_layout (last_lacks_rsv name payload h.last h.is_payload) in (
        second,
        third,
        cut_of_field (codes " fin=") true IsFinWord fields.fin h.fin second h.is_fin no_fin second_ends,
        cut_of_field (codes " rsv=") 0 IsRsvWord fields.rsv h.rsv third h.is_rsv no_rsv third_ends,
        cut_of_layout fields.layout h.layout h.last h.is_layout ends
            (last_lacks_key name payload h.last h.is_payload) (last_lacks_form name payload h.last h.is_payload),
      )

  pub line_of_cut : (text last : List ℕ) → IsFrameName name → words ≡ frame_name_word name ++ text
      → CutsFields fields last text → IsPayloadField name payload last → FormFits fields.layout (length payload)
      → IsFrameLine name fields payload words
  line_of_cut text last named e (second, third, p, q, r) is fits =
      let (fin, is_fin, f) = field_of_cut (codes " fin=") true IsFinWord fields.fin second text p in
      let (rsv, is_rsv, g) = field_of_cut (codes " rsv=") 0 IsRsvWord fields.rsv third second q in
      let (layout, is_layout, h) = layout_of_cut fields.layout last third r in
      record {
        named = named;
        fin = fin;
        rsv = rsv;
        layout = layout;
        last = last;
        is_fin = is_fin;
        is_rsv = is_rsv;
        is_layout = is_layout;
        is_payload = is;
        fits = fits;
        all = e
            ∙ ap (λ (l : List ℕ). frame_name_word name ++ l)
            (f ∙ ap (λ (l : List ℕ). fin ++ l) (g ∙ ap (λ (l : List ℕ). rsv ++ l) h));
      }
