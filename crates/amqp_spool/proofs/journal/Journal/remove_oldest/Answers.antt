use Rattle.std.proofs.Common.{ℕ, ◌+◌, ◌-◌, ◌≤◌, arith, List, [], ◌∷◌, ◌++◌, length, length-append, append_assoc, refl, sym, ap, ◌∙◌, subst, Result}
use Rattle.std.proofs.lemmas.Bool.{false≢true}
use Rattle.amqp_spool.specs.declared.segments.Named.{Named}
use Rattle.amqp_spool.specs.Chapters.{Chapter, AreTold, Chained}
use Rattle.amqp_spool.specs.Counting.{total}
use Rattle.amqp_spool.specs.declared.folder.FolderFault.{FolderFault}
use Rattle.amqp_spool.specs.Folders.{Now, Goes, IsRemoved}
use Rattle.amqp_spool.specs.Journals.{IsWell, HasMost}
use Rattle.amqp_spool.proofs.Counted.{total_last, well_most}
use Rattle.amqp_spool.proofs.Freeing.{same_last}
use Rattle.amqp_spool.proofs.Histories.{now_and, goes_asks}
use Rattle.amqp_spool.proofs.Reaching.{chained_front, told_front}
use Rattle.amqp_spool.proofs.Tending.{tended_still, removed_well, removed_most, removed_since, removed_writes, removed_keeps, removed_floor, goes_on}
use Rattle.amqp_spool.proofs.journal.Journal.remove_oldest.Goals as goal

pub overflow_sub-self : goal.overflow_sub-self
overflow_sub-self g c =
    let two = c.in-Some.ensures.some in
    let popped = c.pop-freed.ensures (two.0 ++ two.1 ∷ []) two.2 (two.3 ∙ sym (append_assoc two.0 (two.1 ∷ []) (two.2 ∷ []))) in
    omega (arith, popped.1, c.requires.counted.sum, ap total (two.3 ∙ sym (append_assoc two.0 (two.1 ∷ []) (two.2 ∷ []))), total_last (two.0 ++ two.1 ∷ []) two.2)

pub returns-in-Ok-clause-counted : goal.returns-in-Ok-clause-counted
returns-in-Ok-clause-counted g c =
    let s = c.args.self.now in
    let h = g.F.Folder.history s.folder in
    let k = g.F.Folder.history c.remove_oldest.new.self in
    let two = c.in-Some.ensures.some in
    let front = two.0 in
    let a = two.1 in
    let b = two.2 in
    let well : Now (IsWell (front ++ a ∷ b ∷ []) s.used s.segment s.floor) h = subst (λ (l : List Named). Now (IsWell l s.used s.segment s.floor) h) two.3 (c.requires.counted.well c.requires.alive) in
    let popped = c.pop-freed.ensures (front ++ a ∷ []) b (two.3 ∙ sym (append_assoc front (a ∷ []) (b ∷ []))) in
    let q = c.requires.counted in
    let goes = subst (λ (r : Result (Unit {0}) FolderFault). Goes (IsRemoved r) h k) c.in-Ok.is c.remove_oldest.ensures in
    let after : Now (IsWell (front ++ a ∷ []) (s.used - b.bytes) s.segment s.floor) k = removed_well front a b s.used s.segment s.floor h k well c.in-Ok.field-0 goes in
    let is = subst (λ (n : ℕ). Now (IsWell (front ++ a ∷ []) (s.used - n) s.segment s.floor) k) (sym popped.1) after in
    let there : Now (IsWell c.pop-freed.new.self.list.items (s.used - c.pop-freed.result) s.segment s.floor) k = subst (λ (l : List Named). Now (IsWell l (s.used - c.pop-freed.result) s.segment s.floor) k) (sym popped.0) is in
    record {
      fits = q.fits;
      within = omega (arith, q.within);
      place = q.place;
      sum = omega (arith, ap total popped.0, popped.1, q.sum, ap total (two.3 ∙ sym (append_assoc front (a ∷ []) (b ∷ []))), total_last (front ++ a ∷ []) b);
      most = now_and (IsWell c.pop-freed.new.self.list.items (s.used - c.pop-freed.result) s.segment s.floor) (HasMost (s.used - c.pop-freed.result) s.segment) k there (λ t w. well_most c.pop-freed.new.self.list.items (s.used - c.pop-freed.result) s.segment s.floor t w);
      exact = λ _. record {
        is = omega (arith, (q.exact c.requires.alive).is, ap total popped.0, popped.1, ap total (two.3 ∙ sym (append_assoc front (a ∷ []) (b ∷ []))), total_last (front ++ a ∷ []) b);
        some = omega (arith, ap (λ (l : List Named). length l) popped.0, length-append front (a ∷ []));
      };
      well = λ _. there;
      writes = λ alive w. removed_writes front a b s.used s.segment s.floor h k well c.in-Ok.field-0 goes (q.writes alive w);
    }

pub returns-in-Err-clause-counted : goal.returns-in-Err-clause-counted
returns-in-Err-clause-counted g c =
    let s = c.args.self.now in
    let h = g.F.Folder.history s.folder in
    let k = g.F.Folder.history c.remove_oldest.new.self in
    let two = c.in-Some.ensures.some in
    let front = two.0 in
    let a = two.1 in
    let b = two.2 in
    let well : Now (IsWell (front ++ a ∷ b ∷ []) s.used s.segment s.floor) h = subst (λ (l : List Named). Now (IsWell l s.used s.segment s.floor) h) two.3 (c.requires.counted.well c.requires.alive) in
    let popped = c.pop-freed.ensures (front ++ a ∷ []) b (two.3 ∙ sym (append_assoc front (a ∷ []) (b ∷ []))) in
    let q = c.requires.counted in
    record {
      fits = q.fits;
      within = q.within;
      place = q.place;
      sum = omega (arith, ap total popped.0, q.sum, ap total (two.3 ∙ sym (append_assoc front (a ∷ []) (b ∷ []))), total_last (front ++ a ∷ []) b);
      most = removed_most front a b s.used s.segment s.floor h k well c.remove_oldest.result c.remove_oldest.ensures;
      well = λ is. absurd (false≢true (sym is));
      exact = λ is. absurd (false≢true (sym is));
      writes = λ is _. absurd (false≢true (sym is));
    }

pub returns-in-Ok-clause-bound : goal.returns-in-Ok-clause-bound
returns-in-Ok-clause-bound g c =
    let s = c.args.self.now in
    let h = g.F.Folder.history s.folder in
    let k = g.F.Folder.history c.remove_oldest.new.self in
    let two = c.in-Some.ensures.some in
    let front = two.0 in
    let a = two.1 in
    let b = two.2 in
    let well : Now (IsWell (front ++ a ∷ b ∷ []) s.used s.segment s.floor) h = subst (λ (l : List Named). Now (IsWell l s.used s.segment s.floor) h) two.3 (c.requires.counted.well c.requires.alive) in
    removed_since front a b s.used s.segment s.floor h k well c.remove_oldest.result (s.limit + s.segment) (omega (arith, c.requires.counted.within)) c.remove_oldest.ensures

pub returns-in-Ok-clause-floor : goal.returns-in-Ok-clause-floor
returns-in-Ok-clause-floor g c = λ n now.
    let s = c.args.self.now in
    let h = g.F.Folder.history s.folder in
    let k = g.F.Folder.history c.remove_oldest.new.self in
    let two = c.in-Some.ensures.some in
    let front = two.0 in
    let a = two.1 in
    let b = two.2 in
    let well : Now (IsWell (front ++ a ∷ b ∷ []) s.used s.segment s.floor) h = subst (λ (l : List Named). Now (IsWell l s.used s.segment s.floor) h) two.3 (c.requires.counted.well c.requires.alive) in
    removed_floor c.remove_oldest.result n front a b s.used s.segment s.floor h k well c.remove_oldest.ensures now

pub returns-in-Ok-clause-tended : goal.returns-in-Ok-clause-tended
returns-in-Ok-clause-tended g c = λ all it.
    let s = c.args.self.now in
    let h = g.F.Folder.history s.folder in
    let k = g.F.Folder.history c.remove_oldest.new.self in
    let two = c.in-Some.ensures.some in
    let front = two.0 in
    let a = two.1 in
    let b = two.2 in
    let well : Now (IsWell (front ++ a ∷ b ∷ []) s.used s.segment s.floor) h = subst (λ (l : List Named). Now (IsWell l s.used s.segment s.floor) h) two.3 (c.requires.counted.well c.requires.alive) in
    let low : a.first ≤ s.floor + 1 = omega (arith, two.4, c.saturating_sub.ensures, c.if-saturating_sub-self.false) in
    record {
      stands = λ _.
          let m = goes_on front a b s.used s.segment s.floor h k well low c.remove_oldest.result c.remove_oldest.ensures it.chapter it.older s.spent it.at.holds it.at.well in
          let chained : Chained (it.chapter ∷ (m.older ++ m.others)) = subst (λ (l : List Chapter). Chained (it.chapter ∷ l)) m.all it.at.chained in
          record {
            now = record {
              chapter = it.chapter;
              older = m.older;
              told = told_front all it.chapter m.older m.others chained (subst (λ (l : List Chapter). AreTold all it.chapter l) m.all it.told);
              at = record {
                chained = chained_front it.chapter m.older m.others chained;
                head = it.at.head;
                place = it.at.place;
                next = it.at.next;
                holds = m.holds;
                well = m.at;
                alive = it.at.alive;
              };
            };
            chapter = refl;
            gone = m.others;
            older = m.all;
          };
      kept = removed_keeps front a b s.used s.segment s.floor h k well low it.chapter it.older c.remove_oldest.result c.remove_oldest.ensures it.at.holds;
    }

pub returns-in-Err-clause-bound : goal.returns-in-Err-clause-bound
returns-in-Err-clause-bound g c =
    let s = c.args.self.now in
    let h = g.F.Folder.history s.folder in
    let k = g.F.Folder.history c.remove_oldest.new.self in
    let two = c.in-Some.ensures.some in
    let front = two.0 in
    let a = two.1 in
    let b = two.2 in
    let well : Now (IsWell (front ++ a ∷ b ∷ []) s.used s.segment s.floor) h = subst (λ (l : List Named). Now (IsWell l s.used s.segment s.floor) h) two.3 (c.requires.counted.well c.requires.alive) in
    removed_since front a b s.used s.segment s.floor h k well c.remove_oldest.result (s.limit + s.segment) (omega (arith, c.requires.counted.within)) c.remove_oldest.ensures

pub returns-in-Err-clause-floor : goal.returns-in-Err-clause-floor
returns-in-Err-clause-floor g c = λ n now.
    let s = c.args.self.now in
    let h = g.F.Folder.history s.folder in
    let k = g.F.Folder.history c.remove_oldest.new.self in
    let two = c.in-Some.ensures.some in
    let front = two.0 in
    let a = two.1 in
    let b = two.2 in
    let well : Now (IsWell (front ++ a ∷ b ∷ []) s.used s.segment s.floor) h = subst (λ (l : List Named). Now (IsWell l s.used s.segment s.floor) h) two.3 (c.requires.counted.well c.requires.alive) in
    removed_floor c.remove_oldest.result n front a b s.used s.segment s.floor h k well c.remove_oldest.ensures now

pub returns-in-Err-clause-tended : goal.returns-in-Err-clause-tended
returns-in-Err-clause-tended g c = λ all it.
    let s = c.args.self.now in
    let h = g.F.Folder.history s.folder in
    let k = g.F.Folder.history c.remove_oldest.new.self in
    let two = c.in-Some.ensures.some in
    let front = two.0 in
    let a = two.1 in
    let b = two.2 in
    let well : Now (IsWell (front ++ a ∷ b ∷ []) s.used s.segment s.floor) h = subst (λ (l : List Named). Now (IsWell l s.used s.segment s.floor) h) two.3 (c.requires.counted.well c.requires.alive) in
    let low : a.first ≤ s.floor + 1 = omega (arith, two.4, c.saturating_sub.ensures, c.if-saturating_sub-self.false) in
    record {
      stands = λ not. absurd (not refl);
      kept = removed_keeps front a b s.used s.segment s.floor h k well low it.chapter it.older c.remove_oldest.result c.remove_oldest.ensures it.at.holds;
    }

pub returns-in_default-clause-tended : goal.returns-in_default-clause-tended
returns-in_default-clause-tended g c = λ all it. tended_still g.F.Folder.history all _ c.args.self.now it

pub returns-then-saturating_sub-self-clause-tended : goal.returns-then-saturating_sub-self-clause-tended
returns-then-saturating_sub-self-clause-tended g c = λ all it. tended_still g.F.Folder.history all _ c.args.self.now it

pub returns-then-saturating_sub-self-clause-needed : goal.returns-then-saturating_sub-self-clause-needed
returns-then-saturating_sub-self-clause-needed g c = λ _. (
  refl,
  λ front newer older is.
      let two = c.in-Some.ensures.some in
      let same = same_last two.0 front two.1 two.2 newer older (sym two.3 ∙ is) in
      omega (arith, c.saturating_sub.ensures, c.if-saturating_sub-self.true, two.4, ap (λ (n : Named). n.first) same),
)

pub returns-in-Ok-clause-removed : goal.returns-in-Ok-clause-removed
returns-in-Ok-clause-removed g c = λ _.
    let two = c.in-Some.ensures.some in
    let whole = two.3 ∙ sym (append_assoc two.0 (two.1 ∷ []) (two.2 ∷ [])) in
    let popped = c.pop-freed.ensures (two.0 ++ two.1 ∷ []) two.2 whole in
    record { front = two.0; newer = two.1; oldest = two.2; was = two.3; is = popped.0; low = omega (arith, two.4, c.saturating_sub.ensures, c.if-saturating_sub-self.false) }

pub returns-in-Err-clause-why : goal.returns-in-Err-clause-why
returns-in-Err-clause-why g c =
    let h = g.F.Folder.history in
    goes_asks (IsRemoved c.remove_oldest.result) (h c.args.self.now.folder) (h c.remove_oldest.new.self) c.remove_oldest.ensures
