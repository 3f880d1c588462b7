use Rattle.std.proofs.Common.{inl, inr, ◌+◌, arith, refl, sym, ap, ◌∙◌, subst, Err}
use Rattle.std.proofs.lemmas.Bool.{false≢true}
use Rattle.std.proofs.lemmas.Result.{err_from_is_err_and}
use Rattle.amqp_spool.specs.declared.head.Head.{Head}
use Rattle.amqp_spool.specs.declared.journal.JournalFault.{JournalFault}
use Rattle.amqp_spool.specs.declared.segments.Named.{Named}
use Rattle.amqp_spool.specs.Folders.{History, Now}
use Rattle.amqp_spool.specs.Reads.{BeginsWith}
use Rattle.amqp_spool.proofs.Back.{back_first, named_before, floor_at, before_head, same_head, goes_back, as_fault, not_other, not_different}
use Rattle.amqp_spool.proofs.BackThere.{back_begun, back_more, back_ends}
use Rattle.amqp_spool.proofs.journal.Journal.go_back.Goals as goal

pub segments-init : goal.segments-init
segments-init g c = record { within = omega arith; is = c.requires; floor = c.floor-floor.ensures; placed = inl refl; chain = λ t past is names. back_begun c.args.newest t; back = λ t past is names there. back_first c.args.newest t there }

pub returns-in_default-clause-whole : goal.returns-in_default-clause-whole
returns-in_default-clause-whole g c = λ t past is names there _.
    let h = g.F.Folder.history c.args.self.now.folder in
    let i = c.segments.invariant in
    let n = named_before c.segments.head c.segments.index c.args.names.now t names (i.back t past is names there) (omega (arith, c.saturating_sub.ensures, c.segments-test.true, floor_at c.floor-floor.result h t past is i.floor)) in
    false≢true (c.in_default.ensures.lookup.2 n.within)

pub returns-then-named-head-clause-whole : goal.returns-then-named-head-clause-whole
returns-then-named-head-clause-whole g c = λ t past is names there _.
    let h = g.F.Folder.history c.args.self.now.folder in
    let i = c.segments.invariant in
    let n = named_before c.segments.head c.segments.index c.args.names.now t names (i.back t past is names there) (omega (arith, c.saturating_sub.ensures, c.segments-test.true, floor_at c.floor-floor.result h t past is i.floor)) in
    let name = c.in-Some.ensures.lookup.1 ∙ n.is c.in-Some.named.now in
    c.if-named-head.true (ap (λ (x : Named). x.first) name ∙ n.first)

pub returns-then-named-head-2-clause-whole : goal.returns-then-named-head-2-clause-whole
returns-then-named-head-2-clause-whole g c = λ t past is names there _.
    let h = g.F.Folder.history c.args.self.now.folder in
    let i = c.segments.invariant in
    let n = named_before c.segments.head c.segments.index c.args.names.now t names (i.back t past is names there) (omega (arith, c.saturating_sub.ensures, c.segments-test.true, floor_at c.floor-floor.result h t past is i.floor)) in
    let name = c.in-Some.ensures.lookup.1 ∙ n.is c.in-Some.named.now in
    absurd (omega (arith, c.if-named-head-2.true, ap (λ (x : Named). x.bytes) name, n.long))

pub returns-in_err-older-clause-whole : goal.returns-in_err-older-clause-whole
returns-in_err-older-clause-whole g c = λ t past is names there bad.
    let h = g.F.Folder.history c.args.self.now.folder in
    let i = c.segments.invariant in
    let n = named_before c.segments.head c.segments.index c.args.names.now t names (i.back t past is names there) (omega (arith, c.saturating_sub.ensures, c.segments-test.true, floor_at c.floor-floor.result h t past is i.floor)) in
    let q = err_from_is_err_and c.from_residual.result c.from_residual.ensures.1 in
    c.in_err-older.ensures.whole t past is (before_head c.segments.head (c.segments.index + 1) t n.before) (ap (λ (x : JournalFault). Err x) (sym q.2) ∙ ap as_fault (sym q.1 ∙ bad))

pub returns-then-older-named-clause-whole : goal.returns-then-older-named-clause-whole
returns-then-older-named-clause-whole g c = λ t past is names there _.
    let h = g.F.Folder.history c.args.self.now.folder in
    let i = c.segments.invariant in
    let n = named_before c.segments.head c.segments.index c.args.names.now t names (i.back t past is names there) (omega (arith, c.saturating_sub.ensures, c.segments-test.true, floor_at c.floor-floor.result h t past is i.floor)) in
    let name = c.in-Some.ensures.lookup.1 ∙ n.is c.in-Some.named.now in
    let at : BeginsWith (c.segments.index + 1) c.in_ok-older.older t = subst (λ (x : History). Now (BeginsWith (c.segments.index + 1) c.in_ok-older.older) x) is c.in_ok-older.ensures.begins in
    let same = same_head c.segments.head c.in_ok-older.older (c.segments.index + 1) t n.before c.in_ok-older.ensures.is at in
    c.if-older-named.true (ap (λ (k : Head). k.first) same ∙ sym n.before.before ∙ sym n.first ∙ sym (ap (λ (x : Named). x.first) name))

pub returns-then-ne-clause-whole : goal.returns-then-ne-clause-whole
returns-then-ne-clause-whole g c = λ t past is names there _.
    let h = g.F.Folder.history c.args.self.now.folder in
    let i = c.segments.invariant in
    let n = named_before c.segments.head c.segments.index c.args.names.now t names (i.back t past is names there) (omega (arith, c.saturating_sub.ensures, c.segments-test.true, floor_at c.floor-floor.result h t past is i.floor)) in
    let at : BeginsWith (c.segments.index + 1) c.in_ok-older.older t = subst (λ (x : History). Now (BeginsWith (c.segments.index + 1) c.in_ok-older.older) x) is c.in_ok-older.ensures.begins in
    let same = same_head c.segments.head c.in_ok-older.older (c.segments.index + 1) t n.before c.in_ok-older.ensures.is at in
    not_other c.in_ok-older.older.spool c.segments.head.spool (ap (λ (k : Head). k.spool) same ∙ sym n.before.spool) c.if-ne.ensures

pub segments-preserved : goal.segments-preserved
segments-preserved g c = record {
  within = omega (arith, c.in-Some.ensures.lookup.3.0);
  is = c.in_ok-older.ensures.is;
  floor = c.segments.invariant.floor;
  placed = inr (c.in-Some.ensures.lookup.3.0);
  chain = λ t past is names.
      let i = c.segments.invariant in
      let at : BeginsWith (c.segments.index + 1) c.in_ok-older.older t = subst (λ (x : History). Now (BeginsWith (c.segments.index + 1) c.in_ok-older.older) x) is c.in_ok-older.ensures.begins in
      back_more c.args.newest c.segments.head c.in_ok-older.older c.segments.index c.args.names.now c.in-Some.named.now t names c.in-Some.ensures.lookup.1 at c.if-named-head.false (omega (arith, c.if-named-head-2.false)) c.if-older-named.false (not_different c.in_ok-older.older.spool c.segments.head.spool c.if-ne.ensures) (i.chain t past is names);
  back = λ t past is names there.
      let h = g.F.Folder.history c.args.self.now.folder in
      let i = c.segments.invariant in
      let n = named_before c.segments.head c.segments.index c.args.names.now t names (i.back t past is names there) (omega (arith, c.saturating_sub.ensures, c.segments-test.true, floor_at c.floor-floor.result h t past is i.floor)) in
      let at : BeginsWith (c.segments.index + 1) c.in_ok-older.older t = subst (λ (x : History). Now (BeginsWith (c.segments.index + 1) c.in_ok-older.older) x) is c.in_ok-older.ensures.begins in
      let same = same_head c.segments.head c.in_ok-older.older (c.segments.index + 1) t n.before c.in_ok-older.ensures.is at in
      goes_back c.segments.head c.in_ok-older.older (c.segments.index + 1) t n.before same;
}

pub returns-clause-back : goal.returns-clause-back
returns-clause-back g c = λ t past s ss is names whole.
    let i = c.segments.invariant in
    back_ends c.args.newest c.segments.head c.segments.index c.args.names.now t names i.placed (omega (arith, c.saturating_sub.ensures, c.segments-test.false, floor_at c.floor-floor.result (g.F.Folder.history c.args.self.now.folder) t past is i.floor)) (i.chain t past is names) s ss whole
