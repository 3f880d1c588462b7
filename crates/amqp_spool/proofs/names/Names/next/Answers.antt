use Rattle.std.proofs.Common.{ℕ, List, refl, subst}
use Rattle.amqp_spool.specs.declared.entry.Entry as entry
use Rattle.amqp_spool.specs.Entries.{BeginsEntry}
use Rattle.amqp_spool.specs.EntryReading.{entry_in, introduced_in, recorded_in}
use Rattle.amqp_spool.specs.NamesRead.{HasTaken}
use Rattle.amqp_spool.proofs.EntryLists.{shorter}
use Rattle.amqp_spool.proofs.NamesTaken.{one_taken, all_taken}
use Rattle.amqp_spool.proofs.NamesRead.{gives, ends}
use Rattle.amqp_spool.proofs.names.Names.next.Goals as goal

pub introductions-smaller : goal.introductions-smaller
introductions-smaller c = shorter c.introductions.entries.rest.now c.in-Some.rest.now (entry_in c.in-Some.entry) c.in-Some.ensures.some

pub introductions-preserved : goal.introductions-preserved
introductions-preserved c =
    let left = c.introductions.entries.rest.now in
    let rest = c.in-Some.rest.now in
    let begins = subst (λ (e : entry.Entry). BeginsEntry left (entry_in e) rest) c.in-Introduction.is c.in-Some.ensures.some in
    record {
      taken = one_taken c.args.self.now c.introductions.self c.take.new.self c.args.entries.now.rest.now left rest (introduced_in c.in-Introduction.introduction) c.introductions.invariant.taken begins c.in_ok-take-in-Introduction.ensures.ok;
    }

pub returns-in-Record-clause-gives : goal.returns-in-Record-clause-gives
returns-in-Record-clause-gives c = λ es is.
    let left = c.introductions.entries.rest.now in
    let rest = c.in-Some.rest.now in
    let begins = subst (λ (e : entry.Entry). BeginsEntry left (entry_in e) rest) c.in-Record.is c.in-Some.ensures.some in
    gives c.args.self.now c.introductions.self c.args.entries.now.rest.now rest (recorded_in c.in-Record.record) es (record { from = left; taken = c.introductions.invariant.taken; begins = begins }) is

pub returns-then-is_at_end-clause-ends : goal.returns-then-is_at_end-clause-ends
returns-then-is_at_end-clause-ends c = λ _ es is.
    let body = c.args.entries.now.rest.now in
    let all = subst (λ (l : List ℕ). HasTaken c.args.self.now c.introductions.self body l) (c.is_at_end.ensures.0 c.if-is_at_end.true) c.introductions.invariant.taken in
    ends c.args.self.now c.introductions.self body es all is

pub returns-else-is_at_end-clause-damaged : goal.returns-else-is_at_end-clause-damaged
returns-else-is_at_end-clause-damaged c = λ _ holds.
    let end = all_taken c.args.self.now c.introductions.self c.args.entries.now.rest.now c.introductions.entries.rest.now c.introductions.invariant.taken (c.in_default.ensures.none refl) holds in
    let at_end = c.is_at_end.ensures.1 end in
    cc at_end
