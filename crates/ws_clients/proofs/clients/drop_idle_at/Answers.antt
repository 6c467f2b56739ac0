-- Who stays, and who doesn't.
use Rattle.std.proofs.Common.{◌∙◌, Some, ap, length, refl, subst, sym}
use Rattle.ws_loops.specs.declared.places.Place.TheVariants.{Empty, Open}
use Rattle.ws_loops.specs.Places.{IfOpen}
use Rattle.ws_loops.specs.Slots.{IsAble}
use Rattle.ws_loops.proofs.PlaceLemmas.{length_set}
use Rattle.ws_clients.specs.Numbers.{AreNumbersSound}
use Rattle.ws_clients.specs.Talks.{agrees_talk, wants_talk}
use Rattle.ws_clients.proofs.ClientLemmas.{emptied_at, none_unheld, sound_dropped, sound_same, sound_unheld}
use Rattle.ws_clients.proofs.KindLemmas.{numbers_but, numbers_lost, stands_again}
use Rattle.ws_clients.proofs.ServedLemmas.{busy_lost, busy_same}
use Rattle.ws_clients.proofs.clients.drop_idle_at.Goals as goal

pub returns-in-None-clause-whole : goal.returns-in-None-clause-whole
returns-in-None-clause-whole g c = sound_dropped g.M.Machine.agrees g.S.NonBlocking.did _ c.args.inside.now.all
    c.take.new.self c.taken_of.new.held.items c.args.inside.now.is_broken c.args.at c.requires.at
    (none_unheld g.M.Machine.agrees g.S.NonBlocking.did c.args.inside.now.held.items c.taken_of.new.held.items
    c.args.at c.taken_of.result c.taken_of.ensures.taken c.taken_of.ensures.none) c.take.ensures.empty
    (sound_unheld g.M.Machine.agrees g.S.NonBlocking.did _ c.args.inside.now.all
    c.args.inside.now.held.items c.taken_of.new.held.items c.args.inside.now.is_broken c.args.at c.taken_of.result
    c.taken_of.ensures.taken c.requires.whole)

pub returns-in-None-clause-counted : goal.returns-in-None-clause-counted
returns-in-None-clause-counted g c = numbers_lost c.args.at c.args.inside.now.all.places c.take.new.self.places Empty
    c.args.inside.now.taken c.args.inside.now.numbers.items c.number_taken.new.numbers.items
    c.args.inside.now.is_broken c.requires.at c.take.ensures.empty c.number_taken.ensures.numbers refl
    (numbers_but c.args.at c.args.inside.now.all.places c.args.inside.now.taken c.args.inside.now.numbers.items
    c.args.inside.now.is_broken c.requires.counted)

pub returns-in-None-clause-busy : goal.returns-in-None-clause-busy
returns-in-None-clause-busy g c = busy_lost c.args.inside.now.all.places c.take.new.self.places c.args.at
    c.take.result Empty c.take.ensures.taken c.in-None.ensures c.take.ensures.empty

pub returns-in-None-clause-len : goal.returns-in-None-clause-len
returns-in-None-clause-len g c = ap (λ l. length l) c.take.ensures.empty ∙ length_set c.args.inside.now.all.places c.args.at Empty

pub put-requires-clause-empty : goal.put-requires-clause-empty
put-requires-clause-empty g c = emptied_at g.M.Machine.agrees g.S.NonBlocking.did c.args.inside.now.all.places
    c.take.new.self.places c.args.at c.take.result c.take.ensures.taken c.take.ensures.empty

pub put-requires-clause-able : goal.put-requires-clause-able
put-requires-clause-able g c = subst (λ p. IfOpen p (λ slot. IsAble (agrees_talk g.M.Machine.agrees)
    (wants_talk g.M.Machine.wants) slot.machine)) c.in-Some.ensures.0 c.take.ensures.able

pub returns-in-Some-clause-whole : goal.returns-in-Some-clause-whole
returns-in-Some-clause-whole g c = sound_same g.M.Machine.agrees g.S.NonBlocking.did _ c.args.inside.now.all
    c.put.new.self c.taken_of.new.held.items c.args.inside.now.is_broken
    (c.put.ensures.put
    ∙ stands_again c.args.inside.now.all.places c.take.new.self.places c.args.at (Open c.in-Some.slot) Empty
    (c.take.ensures.taken ∙ ap (λ p. Some p) c.in-Some.ensures.0) c.take.ensures.empty)
    (sound_unheld g.M.Machine.agrees g.S.NonBlocking.did _ c.args.inside.now.all
    c.args.inside.now.held.items c.taken_of.new.held.items c.args.inside.now.is_broken c.args.at c.taken_of.result
    c.taken_of.ensures.taken c.requires.whole)

pub returns-in-Some-clause-counted : goal.returns-in-Some-clause-counted
returns-in-Some-clause-counted g c = subst (λ l. AreNumbersSound l c.args.inside.now.taken
    c.args.inside.now.numbers.items c.args.inside.now.is_broken) (sym
    (c.put.ensures.put
    ∙ stands_again c.args.inside.now.all.places c.take.new.self.places c.args.at (Open c.in-Some.slot) Empty
    (c.take.ensures.taken ∙ ap (λ p. Some p) c.in-Some.ensures.0) c.take.ensures.empty)) c.requires.counted

pub returns-in-Some-clause-busy : goal.returns-in-Some-clause-busy
returns-in-Some-clause-busy g c = busy_same c.args.inside.now.all.places c.put.new.self.places
    (c.put.ensures.put
    ∙ stands_again c.args.inside.now.all.places c.take.new.self.places c.args.at (Open c.in-Some.slot) Empty
    (c.take.ensures.taken ∙ ap (λ p. Some p) c.in-Some.ensures.0) c.take.ensures.empty)

pub returns-in-Some-clause-len : goal.returns-in-Some-clause-len
returns-in-Some-clause-len g c = ap (λ l. length l)
    (c.put.ensures.put
    ∙ stands_again c.args.inside.now.all.places c.take.new.self.places c.args.at (Open c.in-Some.slot) Empty
    (c.take.ensures.taken ∙ ap (λ p. Some p) c.in-Some.ensures.0) c.take.ensures.empty)
