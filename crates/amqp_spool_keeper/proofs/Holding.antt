-- What a spool has, whichever numbers its links have.
use Rattle.std.proofs.Common.{◌≡◌, ◌≢◌, ◌⊎◌, inl, inr, refl, sym, ap, subst, ◌∙◌, ℕ, zero, suc, ◌+◌, List, [], ◌∷◌, ◌++◌, append_assoc, Option, Some, None, Result, Ok, Err}
use Rattle.std.specs.Prelude.{OnOk, OnErr}
use Rattle.std.proofs.lemmas.Bool.{cases_eq}
use Rattle.amqp_endpoint.specs.Steps.{EndpointState}
use Rattle.amqp_hub.specs.declared.keeper.Origin.{Origin}
use Rattle.amqp_hub.specs.declared.keeper.Progress.{Progress}
use Rattle.amqp_hub.specs.declared.keeper.Progress.TheVariants as progress
use Rattle.amqp_spool.specs.declared.journal.Journal.{Journal}
use Rattle.amqp_spool.specs.declared.spool.Spool.{Spool}
use Rattle.amqp_spool.specs.Entries.{Entry, Introduced}
use Rattle.amqp_spool.specs.Folders.{History, State, All, Now, Since}
use Rattle.amqp_spool.specs.Journals.{HaveLimits, LeavesMost, HasFloor}
use Rattle.amqp_spool.specs.Sayings.{Puts}
use Rattle.amqp_spool.specs.Spools.{Has, KeepsTold}
use Rattle.amqp_spool.specs.Waitings.{LinkState, LinksState, WaitingState, Waits, link_at, IsOpened, IsClosed}
use Rattle.amqp_spool_keeper.specs.Keeping.{KeeperState, with_link, given, state_of, AreAlike, Holds, sent_by, Accepts, IsSafe, IsTold, WaitsOn, OnlyPassedGo}
use Rattle.amqp_spool_keeper.specs.Senders.{sender_of}

-- Numbers. -------------------------------------------------------------------------------------------------------------

at_with : (x : Option LinkState) (links : LinksState) (n : ℕ) → link_at (with_link x links) n ≡ link_at (x ∷ links) n
at_with None [] zero = refl
at_with None [] (suc n) = refl
at_with None (y ∷ links) n = refl
at_with (Some l) links n = refl

at_given : (links : LinksState) (n : ℕ) → link_at (given links) n ≡ link_at links n
at_given [] n = refl
at_given (x ∷ links) zero = at_with x (given links) zero
at_given (x ∷ links) (suc n) = at_with x (given links) (suc n) ∙ at_given links n

pub given_same : (a b : LinksState) → ((n : ℕ) → link_at b n ≡ link_at a n) → given b ≡ given a
given_same [] [] same = refl
given_same [] (y ∷ b) same = rw (same 0, given_same [] b (λ n. same (suc n))) refl
given_same (x ∷ a) [] same = rw (sym (same 0), sym (given_same a [] (λ n. same (suc n)))) refl
given_same (x ∷ a) (y ∷ b) same = rw (same 0, given_same a b (λ n. same (suc n))) refl

-- What a spool has. ---------------------------------------------------------------------------------------------------

waits_as : (first next : ℕ) (es : List Entry) (puts : Puts) (old new : LinksState) (w : WaitingState) → ((n : ℕ) → link_at new n ≡ link_at old n) → Waits first next es puts old w → Waits first next es puts new w
waits_as first next es puts old new w same x = record {
  here = x.here;
  again = x.again;
  here_is = x.here_is;
  again_is = x.again_is;
  named_here = x.named_here;
  named_anew = x.named_anew;
  are_known = x.are_known;
  counted = x.counted;
  told = λ number link is. x.told number link (sym (same number) ∙ is);
}

module _ {F : Type 0} (history : F → History) (told waiting : Puts) where
  has_as : (s t : Spool F) → ((n : ℕ) → link_at t.links n ≡ link_at s.links n) → Has history told waiting s → Has history told waiting (record t { journal = s.journal; waiting = s.waiting })
  has_as s t same x = record {
    all = x.all;
    journal = x.journal;
    chapter = x.chapter;
    older = x.older;
    chapter_is = x.chapter_is;
    older_is = x.older_is;
    gone = x.gone;
    before = x.before;
    here = x.here;
    are = x.are;
    passed = x.passed;
    older_say = x.older_say;
    says = x.says;
    waits = waits_as s.journal.head.first s.journal.next x.says.entries waiting s.links t.links s.waiting same x.waits;
  }

  -- What a keeper holds its own spool has.
  pub has_of : (t : Spool F) (room : ℕ) → Holds history told waiting (state_of t room) → Has history told waiting t
  has_of t room x =
      let s = x.spool in
      let links = ap (λ (k : KeeperState F). k.links) x.is in
      let same = has_as s t (λ n. sym (at_given t.links n) ∙ (ap (λ (l : LinksState). link_at l n) (sym links) ∙ at_given s.links n)) x.has in
      let there = subst (λ (j : Journal F). Has history told waiting (record t { journal = j; waiting = s.waiting })) (ap (λ (k : KeeperState F). k.journal) x.is) same in
      subst (λ (w : WaitingState). Has history told waiting (record t { waiting = w })) (ap (λ (k : KeeperState F). k.waiting) x.is) there

  pub holds_of : (t : Spool F) (room : ℕ) → Has history told waiting t → Holds history told waiting (state_of t room)
  holds_of t room x = record { spool = t; is = refl; has = x }

module _ {F : Type 0} (history : F → History) (s t : Spool F) (room : ℕ) where
  pub waits_on : ((told waiting : Puts) → Has history told waiting s → Has history told waiting t) → WaitsOn history (state_of s room) (state_of t room)
  waits_on f told waiting x = holds_of history told waiting t room (f told waiting (has_of history told waiting s room x))

  pub is_told : ((told waiting : Puts) → Has history told waiting s → Has history (told ++ waiting) [] t) → IsTold history (state_of s room) (state_of t room)
  is_told f told waiting x = holds_of history (told ++ waiting) [] t room (f told waiting (has_of history told waiting s room x))

  pub kept : ((told waiting : Puts) → Has history told waiting s → Since (KeepsTold told) (history s.journal.folder) (history t.journal.folder))
      → (told waiting : Puts) → Holds history told waiting (state_of s room) → Since (KeepsTold told) (history s.journal.folder) (history t.journal.folder)
  kept f told waiting x = f told waiting (has_of history told waiting s room x)

pub safe_of : {F : Type 0} (history : F → History) (s t : Spool F) (room : ℕ) → ((told waiting : Puts) → Has history told waiting s → Since (KeepsTold told) (history s.journal.folder) (history t.journal.folder))
    → Since (LeavesMost (s.journal.limit + s.journal.segment)) (history s.journal.folder) (history t.journal.folder) → HaveLimits s.journal t.journal → IsSafe history (state_of s room) (state_of t room)
safe_of history s t room keeps bound limits = record { kept = kept history s t room keeps; bound = bound; limits = limits; room = refl }

-- A link that was opened and closed leaves no number another link.
pub opened_closed : (a b c : LinksState) (number : ℕ) (from : Introduced) → IsOpened a b number from → IsClosed b c number → (n : ℕ) → link_at c n ≡ link_at a n
opened_closed a b c number from opened closed n = elim (cases_eq n number) [
  | inl e ↦ rw e (closed.closed ∙ sym opened.free)
  | inr other ↦ closed.others n other ∙ opened.others n other
]

pub alike_state : {F : Type 0} (s t : Spool F) (room : ℕ) → AreAlike s t → state_of t room ≡ state_of s room
alike_state s t room x = rw (x.journal, x.waiting, given_same s.links t.links x.links) refl

pub since_none : (P : State → Type 0) (h : History) → Since P h h
since_none P None = refl
since_none P (Some past) = ([], refl, tt)

-- Nothing was asked, and nothing has changed.
pub safe_still : {F : Type 0} (history : F → History) (k : KeeperState F) → IsSafe history k k
safe_still history k = record {
  kept = λ told waiting x. since_none (KeepsTold told) (history k.journal.folder);
  bound = since_none (LeavesMost (k.journal.limit + k.journal.segment)) (history k.journal.folder);
  limits = record { limit = refl; segment = refl; life = refl };
  room = refl;
}

-- What waited waits on, and nothing was asked, before that.
pub safe_after : {F : Type 0} (history : F → History) (a b c : KeeperState F) → b.journal ≡ a.journal → b.room ≡ a.room → WaitsOn history a b → IsSafe history b c → IsSafe history a c
safe_after history a b c journal room waits x = record {
  kept = λ told waiting held. subst (λ (j : Journal _). Since (KeepsTold told) (history j.folder) (history c.journal.folder)) journal (x.kept told waiting (waits told waiting held));
  bound = subst (λ (j : Journal _). Since (LeavesMost (j.limit + j.segment)) (history j.folder) (history c.journal.folder)) journal x.bound;
  limits = subst (λ (j : Journal _). HaveLimits j c.journal) journal x.limits;
  room = x.room ∙ room;
}

-- It came to the end, or can't go on now.
pub goes_on : {T W : Type 0} (p : Progress) → p ≢ progress.Failed → (p ≡ progress.Out → T) → (p ≡ progress.Stuck → W) → W ⊎ T
goes_on progress.Out not told waits = inr (told refl)
goes_on progress.Stuck not told waits = inl (waits refl)
goes_on progress.Failed not told waits = absurd (not refl)

-- Then the folder alone changed, and not its history.
pub safe_then : {F : Type 0} (history : F → History) (a b c : KeeperState F) → IsSafe history a b → history c.journal.folder ≡ history b.journal.folder → HaveLimits b.journal c.journal → c.room ≡ b.room → IsSafe history a c
safe_then history a b c x still limits room = record {
  kept = λ told waiting held. subst (λ (h : History). Since (KeepsTold told) (history a.journal.folder) h) (sym still) (x.kept told waiting held);
  bound = subst (λ (h : History). Since (LeavesMost (a.journal.limit + a.journal.segment)) (history a.journal.folder) h) (sym still) x.bound;
  limits = record { limit = limits.limit ∙ x.limits.limit; segment = limits.segment ∙ x.limits.segment; life = limits.life ∙ x.limits.life };
  room = room ∙ x.room;
}

-- A record was put, and the disk was asked for nothing.
pub accepts : {F : Type 0} (history : F → History) (s t : Spool F) (room : ℕ) (origin : Origin) (e : EndpointState) (bytes from : List ℕ) (link : ℕ) (i : Introduced) (tag : List ℕ) → i ≡ sender_of origin from e → tag ≡ origin.delivery_tag
    → t.journal ≡ s.journal → ((told waiting : Puts) → Has history told waiting s → Has history told (waiting ++ sent_by link i tag bytes ∷ []) t) → Accepts history (state_of s room) origin e bytes (state_of t room)
accepts history s t room origin e bytes from link i tag is whose journal put = record {
  from = from;
  number = link;
  waits = λ told waiting held.
      let has = put told waiting (has_of history told waiting s room held) in
      let by = subst (λ (x : Introduced). Has history told (waiting ++ sent_by link x tag bytes ∷ []) t) is has in
      holds_of history told (waiting ++ sent_by link (sender_of origin from e) origin.delivery_tag bytes ∷ []) t room
      (subst (λ (x : List ℕ). Has history told (waiting ++ sent_by link (sender_of origin from e) x bytes ∷ []) t) whose by);
  journal = journal;
  room = refl;
}

pub ok_then : {A E P Q : Type 0} (r : Result A E) → (P → Q) → OnOk r P → OnOk r Q
ok_then (Ok x) f p = f p
ok_then (Err e) f p = tt

pub err_then : {A E P Q : Type 0} (r : Result A E) → (P → Q) → OnErr r P → OnErr r Q
err_then (Ok x) f p = tt
err_then (Err e) f p = f p

-- One call after another. ---------------------------------------------------------------------------------------------

all_more : (P : State → Type 0) (xs ys : List State) → All P xs → All P ys → All P (xs ++ ys)
all_more P [] ys a b = b
all_more P (x ∷ xs) ys a b = (a.0, all_more P xs ys a.1 b)

since_since : (P : State → Type 0) (h k l : History) → Since P h k → Since P k l → Since P h l
since_since P (Some past) k l a b =
    let c = subst (λ (x : History). Since P x l) a.1 b in
    (c.0 ++ a.0, c.1 ∙ ap (λ (x : List State). Some x) (sym (append_assoc c.0 a.0 past)), all_more P c.0 a.0 c.2 a.2)
since_since P None k l a b = subst (λ (x : History). Since P x l) a b

since_now : (P : State → Type 0) (h k : History) → Now P h → Since P h k → Now P k
since_now P (Some past) k now (([]), is, all) = subst (λ (x : History). Now P x) (sym is) now
since_now P (Some past) k now ((s ∷ more), is, all) = subst (λ (x : History). Now P x) (sym is) all.0
since_now P None k now since = subst (λ (x : History). Now P x) (sym since) tt

module _ {F : Type 0} (history : F → History) (a b c : KeeperState F) where
  -- What waited waits on after the first.
  pub safe_safe : IsSafe history a b → WaitsOn history a b → IsSafe history b c → IsSafe history a c
  safe_safe x waits y = record {
    kept = λ told waiting held. since_since (KeepsTold told) (history a.journal.folder) (history b.journal.folder) (history c.journal.folder) (x.kept told waiting held) (y.kept told waiting (waits told waiting held));
    bound = since_since (LeavesMost (a.journal.limit + a.journal.segment)) (history a.journal.folder) (history b.journal.folder) (history c.journal.folder) x.bound
        (subst (λ (n : ℕ). Since (LeavesMost n) (history b.journal.folder) (history c.journal.folder)) (rw (x.limits.limit, x.limits.segment) refl) y.bound);
    limits = record { limit = y.limits.limit ∙ x.limits.limit; segment = y.limits.segment ∙ x.limits.segment; life = y.limits.life ∙ x.limits.life };
    room = y.room ∙ x.room;
  }

  -- The second leaves the floor.
  pub only_passed : (positions : F → Option (List ℕ)) → OnlyPassedGo history positions a b → ((n : ℕ) → Now (HasFloor n) (history b.journal.folder) → Since (HasFloor n) (history b.journal.folder) (history c.journal.folder)) → OnlyPassedGo history positions a c
  only_passed positions x still = λ n ps known passes low.
      let first = x n ps known passes low in
      since_since (HasFloor n) (history a.journal.folder) (history b.journal.folder) (history c.journal.folder) first (still n (since_now (HasFloor n) (history a.journal.folder) (history b.journal.folder) low first))

-- Nothing was asked of the disk before.
pub passed_after : {F : Type 0} (history : F → History) (positions : F → Option (List ℕ)) (a b c : KeeperState F) → b.journal ≡ a.journal → OnlyPassedGo history positions b c → OnlyPassedGo history positions a c
passed_after history positions a b c same x = λ n ps known passes low.
    subst (λ (j : Journal _). Since (HasFloor n) (history j.folder) (history c.journal.folder)) same
    (x n ps (ap (λ (j : Journal _). positions j.folder) same ∙ known) passes (subst (λ (j : Journal _). Now (HasFloor n) (history j.folder)) (sym same) low))

-- Nothing was asked.
pub passed_still : {F : Type 0} (history : F → History) (positions : F → Option (List ℕ)) (k : KeeperState F) → OnlyPassedGo history positions k k
passed_still history positions k = λ n ps known passes low. since_none (HasFloor n) (history k.journal.folder)
