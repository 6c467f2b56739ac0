-- What the payload of a data frame makes of the piece: put into the assembly, and checked as text where it is of one.
use Rattle.std.proofs.Common.{◌≡◌, ◌∙◌, ◌+◌, ◌-◌, ◌++◌, ◌<◌, ◌≤◌, length, take, List, ℕ, Option, Some, None, ap, refl, sym, subst, arith}
use Rattle.std.specs.Prelude.{min}
use Rattle.ws_session.specs.declared.receiver.under_way.UnderWay.TheVariants as under_way
use Rattle.ws_session.specs.declared.receiver.piece_check.PieceCheck.{PieceCheck}
use Rattle.ws_session.specs.InnerFrameCheck as check
use Rattle.ws_session.specs.Messages.{kind_of}
use Rattle.ws_session.specs.Faults.{IsOfText}
use Rattle.ws_session.specs.InnerMasked.{masked_from}
use Rattle.ws_session.specs.InnerReceiving.{AssemblyValue, HasKept, first_bytes, frame_payload, arrived_payload, kind_with, IsPayloadCheck, IsDataCheck}
use Rattle.ws_session.proofs.HeaderReasons.{not_both}
use Rattle.ws_session.proofs.Arriving.{put_arrived, put_len, put_within, text_of_binary, data_goes_on, data_is_whole}
use Rattle.ws_session.proofs.receiver.data_payload.check_data.Goals as goal

pub check_text-requires-clause-within : goal.check_text-requires-clause-within
check_text-requires-clause-within c =
    let h = c.args.header.now in
    let a = c.args.assembly.now in
    let b = c.add.new.self in
    let came = c.args.came in
    let start = c.args.start in
    let rest = c.args.rest.now in
    let kept : HasKept a came = omega (arith, c.requires.exact) in
    let here = c.min-here.result in
    let is_here : here ≡ min (h.len - came) (length rest) = omega (arith, c.min-here.ensures, c.payload_len.ensures.value) in
    let opened = c.in_ok-add.ensures.opened in
    let put = c.in_ok-add.ensures.added ∙ ap (λ (k : Option (List ℕ)). first_bytes a came ++ masked_from k came (take here rest)) c.key.ensures.value in
    put_within a b h came here rest kept c.requires.within is_here opened put

pub returns-then-goes_on-clause-payload : goal.returns-then-goes_on-clause-payload
returns-then-goes_on-clause-payload c =
    let h = c.args.header.now in
    let a = c.args.assembly.now in
    let b = c.add.new.self in
    let came = c.args.came in
    let start = c.args.start in
    let rest = c.args.rest.now in
    let kept : HasKept a came = omega (arith, c.requires.exact) in
    let here = c.min-here.result in
    let is_here : here ≡ min (h.len - came) (length rest) = omega (arith, c.min-here.ensures, c.payload_len.ensures.value) in
    let opened = c.in_ok-add.ensures.opened in
    let put = c.in_ok-add.ensures.added ∙ ap (λ (k : Option (List ℕ)). first_bytes a came ++ masked_from k came (take here rest)) c.key.ensures.value in
    put_arrived a b h came here rest kept c.requires.within is_here opened put

pub returns-then-not-is_of_text-clause-payload : goal.returns-then-not-is_of_text-clause-payload
returns-then-not-is_of_text-clause-payload c =
    let h = c.args.header.now in
    let a = c.args.assembly.now in
    let b = c.add.new.self in
    let came = c.args.came in
    let start = c.args.start in
    let rest = c.args.rest.now in
    let kept : HasKept a came = omega (arith, c.requires.exact) in
    let here = c.min-here.result in
    let is_here : here ≡ min (h.len - came) (length rest) = omega (arith, c.min-here.ensures, c.payload_len.ensures.value) in
    let opened = c.in_ok-add.ensures.opened in
    let put = c.in_ok-add.ensures.added ∙ ap (λ (k : Option (List ℕ)). first_bytes a came ++ masked_from k came (take here rest)) c.key.ensures.value in
    put_arrived a b h came here rest kept c.requires.within is_here opened put

pub returns-in-Err-clause-payload : goal.returns-in-Err-clause-payload
returns-in-Err-clause-payload c =
    let h = c.args.header.now in
    let a = c.args.assembly.now in
    let b = c.add.new.self in
    let came = c.args.came in
    let start = c.args.start in
    let rest = c.args.rest.now in
    let kept : HasKept a came = omega (arith, c.requires.exact) in
    let here = c.min-here.result in
    let is_here : here ≡ min (h.len - came) (length rest) = omega (arith, c.min-here.ensures, c.payload_len.ensures.value) in
    let opened = c.in_ok-add.ensures.opened in
    let put = c.in_ok-add.ensures.added ∙ ap (λ (k : Option (List ℕ)). first_bytes a came ++ masked_from k came (take here rest)) c.key.ensures.value in
    put_arrived a b h came here rest kept c.requires.within is_here opened put

pub returns-clause-payload : goal.returns-clause-payload
returns-clause-payload c =
    let h = c.args.header.now in
    let a = c.args.assembly.now in
    let b = c.add.new.self in
    let came = c.args.came in
    let start = c.args.start in
    let rest = c.args.rest.now in
    let kept : HasKept a came = omega (arith, c.requires.exact) in
    let here = c.min-here.result in
    let is_here : here ≡ min (h.len - came) (length rest) = omega (arith, c.min-here.ensures, c.payload_len.ensures.value) in
    let opened = c.in_ok-add.ensures.opened in
    let put = c.in_ok-add.ensures.added ∙ ap (λ (k : Option (List ℕ)). first_bytes a came ++ masked_from k came (take here rest)) c.key.ensures.value in
    put_arrived a b h came here rest kept c.requires.within is_here opened put

pub returns-then-goes_on-2-clause-payload : goal.returns-then-goes_on-2-clause-payload
returns-then-goes_on-2-clause-payload c =
    let h = c.args.header.now in
    let a = c.args.assembly.now in
    let b = c.add.new.self in
    let came = c.args.came in
    let start = c.args.start in
    let rest = c.args.rest.now in
    let kept : HasKept a came = omega (arith, c.requires.exact) in
    let here = c.min-here.result in
    let is_here : here ≡ min (h.len - came) (length rest) = omega (arith, c.min-here.ensures, c.payload_len.ensures.value) in
    let opened = c.in_ok-add.ensures.opened in
    let put = c.in_ok-add.ensures.added ∙ ap (λ (k : Option (List ℕ)). first_bytes a came ++ masked_from k came (take here rest)) c.key.ensures.value in
    subst (λ (x : AssemblyValue). frame_payload x ≡ arrived_payload h (take came (frame_payload a)) rest) (sym c.go_on.ensures)
    (put_arrived a b h came here rest kept c.requires.within is_here opened put)

pub returns-then-goes_on-clause-checked : goal.returns-then-goes_on-clause-checked
returns-then-goes_on-clause-checked c =
    let h = c.args.header.now in
    let a = c.args.assembly.now in
    let b = c.add.new.self in
    let came = c.args.came in
    let start = c.args.start in
    let rest = c.args.rest.now in
    let kept : HasKept a came = omega (arith, c.requires.exact) in
    let here = c.min-here.result in
    let is_here : here ≡ min (h.len - came) (length rest) = omega (arith, c.min-here.ensures, c.payload_len.ensures.value) in
    let opened = c.in_ok-add.ensures.opened in
    let put = c.in_ok-add.ensures.added ∙ ap (λ (k : Option (List ℕ)). first_bytes a came ++ masked_from k came (take here rest)) c.key.ensures.value in
    let within : length (frame_payload b) ≤ h.len = put_within a b h came here rest kept c.requires.within is_here opened put in
    let len = put_len a b h came here rest kept c.requires.within is_here opened put in
    let joined = c.in_ok-add.ensures.joined in
    let begins : 1 ≤ h.opcode → b.opened ≡ None = λ one. opened ∙ c.requires.begins one in
    let never : IsOfText b.opened h → ⊥ = not_both _ _ c.is_of_text.ensures c.if-not-is_of_text.true in
    let all : here ≡ length rest = omega (arith, is_here, c.if-goes_on.true, c.payload_len.ensures.value) in
    let short : came + length rest < h.len = omega (arith, all, c.if-goes_on.true, c.payload_len.ensures.value) in
    data_goes_on b h came start (length rest) b.text c.requires.opcode begins (len ∙ ap (λ n. came + n) all) joined (text_of_binary b h b.text c.requires.opcode within never) short

pub returns-then-goes_on-2-clause-checked : goal.returns-then-goes_on-2-clause-checked
returns-then-goes_on-2-clause-checked c =
    let h = c.args.header.now in
    let a = c.args.assembly.now in
    let b = c.add.new.self in
    let came = c.args.came in
    let start = c.args.start in
    let rest = c.args.rest.now in
    let kept : HasKept a came = omega (arith, c.requires.exact) in
    let here = c.min-here.result in
    let is_here : here ≡ min (h.len - came) (length rest) = omega (arith, c.min-here.ensures, c.payload_len.ensures.value) in
    let opened = c.in_ok-add.ensures.opened in
    let put = c.in_ok-add.ensures.added ∙ ap (λ (k : Option (List ℕ)). first_bytes a came ++ masked_from k came (take here rest)) c.key.ensures.value in
    let len = put_len a b h came here rest kept c.requires.within is_here opened put in
    let joined = c.in_ok-add.ensures.joined in
    let begins : 1 ≤ h.opcode → b.opened ≡ None = λ one. opened ∙ c.requires.begins one in
    let all : here ≡ length rest = omega (arith, is_here, c.if-goes_on-2.true, c.payload_len.ensures.value) in
    let short : came + length rest < h.len = omega (arith, all, c.if-goes_on-2.true, c.payload_len.ensures.value) in
    subst (λ (x : AssemblyValue). IsPayloadCheck h came start x (frame_payload x) (check.Need (under_way.Data h (came + length rest)) x.text)) (sym c.go_on.ensures)
    (data_goes_on b h came start (length rest) c.in-Ok.text c.requires.opcode begins (len ∙ ap (λ n. came + n) all) joined c.in-Ok.ensures short)

pub returns-then-not-is_of_text-clause-checked : goal.returns-then-not-is_of_text-clause-checked
returns-then-not-is_of_text-clause-checked c =
    let h = c.args.header.now in
    let a = c.args.assembly.now in
    let b = c.add.new.self in
    let came = c.args.came in
    let start = c.args.start in
    let rest = c.args.rest.now in
    let kept : HasKept a came = omega (arith, c.requires.exact) in
    let here = c.min-here.result in
    let is_here : here ≡ min (h.len - came) (length rest) = omega (arith, c.min-here.ensures, c.payload_len.ensures.value) in
    let opened = c.in_ok-add.ensures.opened in
    let put = c.in_ok-add.ensures.added ∙ ap (λ (k : Option (List ℕ)). first_bytes a came ++ masked_from k came (take here rest)) c.key.ensures.value in
    let within : length (frame_payload b) ≤ h.len = put_within a b h came here rest kept c.requires.within is_here opened put in
    let len = put_len a b h came here rest kept c.requires.within is_here opened put in
    let joined = c.in_ok-add.ensures.joined in
    let begins : 1 ≤ h.opcode → b.opened ≡ None = λ one. opened ∙ c.requires.begins one in
    let never : IsOfText b.opened h → ⊥ = not_both _ _ c.is_of_text.ensures c.if-not-is_of_text.true in
    let whole : came + here ≡ h.len = omega (arith, is_here, c.if-goes_on.false, c.payload_len.ensures.value, c.requires.within) in
    let kind = kind_with b.opened (kind_of h.opcode) in
    let text = c.text-text.result in
    subst (λ (y : PieceCheck). IsDataCheck h came start (length rest) a b (Some y)) (sym c.whole.ensures)
    (c.in_ok-add.ensures.text, data_is_whole b h came start here text c.requires.opcode begins len joined (text_of_binary b h text c.requires.opcode within never) h.fin kind refl refl whole)

pub returns-clause-checked : goal.returns-clause-checked
returns-clause-checked c =
    let h = c.args.header.now in
    let a = c.args.assembly.now in
    let b = c.add.new.self in
    let came = c.args.came in
    let start = c.args.start in
    let rest = c.args.rest.now in
    let kept : HasKept a came = omega (arith, c.requires.exact) in
    let here = c.min-here.result in
    let is_here : here ≡ min (h.len - came) (length rest) = omega (arith, c.min-here.ensures, c.payload_len.ensures.value) in
    let opened = c.in_ok-add.ensures.opened in
    let put = c.in_ok-add.ensures.added ∙ ap (λ (k : Option (List ℕ)). first_bytes a came ++ masked_from k came (take here rest)) c.key.ensures.value in
    let len = put_len a b h came here rest kept c.requires.within is_here opened put in
    let joined = c.in_ok-add.ensures.joined in
    let begins : 1 ≤ h.opcode → b.opened ≡ None = λ one. opened ∙ c.requires.begins one in
    let whole : came + here ≡ h.len = omega (arith, is_here, c.if-goes_on-2.false, c.payload_len.ensures.value, c.requires.within) in
    let kind = kind_with b.opened (kind_of h.opcode) in
    subst (λ (y : PieceCheck). IsDataCheck h came start (length rest) a b (Some y)) (sym c.whole-2.ensures)
    (c.in_ok-add.ensures.text, data_is_whole b h came start here c.in-Ok.text c.requires.opcode begins len joined c.in-Ok.ensures h.fin kind refl refl whole)
