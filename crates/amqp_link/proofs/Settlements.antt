-- What the receiver's own settle and a disposition of the sender do to the open deliveries.
use Rattle.std.proofs.Common.{arith, ◌≡◌, ℕ, inl, inr, Bool, true, false, not, ◌&&◌, ◌||◌, cond, List, [], ◌∷◌, length, map, filter, refl, sym, ap, ◌∙◌, Option, Some, None}
use Rattle.std.specs.Prelude.{find, option_map}
use Rattle.std.specs.List.{AllByRecursion}
use Rattle.std.proofs.Math.Bool.{or-false}
use Rattle.std.proofs.lemmas.Bool.{cases_Bool}
use Rattle.std.proofs.lemmas.List.Sums.{length-filter}
use Rattle.amqp_link.specs.declared.terms.Terms.{Terms}
use Rattle.amqp_link.specs.Links.{Delivery, open_set, deliveries, LinkEvent, ReceiverSettled, SenderSettled, link_after, is_first, mode_at, receiver_settles, tells, marked_told}
use Rattle.amqp_link.specs.Links.{covers, is_covered, sender_settled_by, newly_settled}
use Rattle.amqp_link.specs.Histories.{Group, groups, is_aborted, is_unfinished, takes, handed_up_groups, ready_groups, is_handed_up, is_open, is_open_if, comes_settled, id_of}
use Rattle.amqp_link.specs.Histories.{passes, settled_later, told_later, is_settled, is_settled_by, shown, shown_awaiting, kept, state_of}
use Rattle.amqp_link.proofs.Groups.{IfAny}
use Rattle.amqp_link.proofs.Transfers.{stated, stated_same}
use Rattle.amqp_link.proofs.Selections.{Stands, taken_picked, all_pass, takens_stand, readies_stand, part_stands, deliveries_selected}

-- Lists. -----------------------------------------------------------------------------------------------------

map_agree : (f g : Group → Delivery) (turn : Delivery → Delivery) (xs : List Group) → AllByRecursion (λ x. turn (f x) ≡ g x) xs → map turn (map f xs) ≡ map g xs
map_agree f g turn [] all = refl
map_agree f g turn (x ∷ xs) all = rw (all.0, map_agree f g turn xs all.1) refl

option_agree : (f g : Group → Delivery) (turn : Delivery → Delivery) (o : Option Group) → IfAny (λ x. turn (f x) ≡ g x) o → option_map turn (option_map f o) ≡ option_map g o
option_agree f g turn None all = refl
option_agree f g turn (Some x) all = ap Some all

map_same : (xs : List Delivery) → map (λ d. d) xs ≡ xs
map_same [] = refl
map_same (x ∷ xs) = ap (λ (ds : List Delivery). x ∷ ds) (map_same xs)

option_same : (o : Option Delivery) → option_map (λ d. d) o ≡ o
option_same None = refl
option_same (Some d) = refl

-- what becomes of those that are left
record Turns (settled settled_then : Group → Bool) (bare bare_then : Group → Delivery) (goes : Delivery → Bool) (turn : Delivery → Delivery) (g : Group) : Type 0 where
  pub gone : settled_then g ≡ (settled g || goes (bare g))
  pub left : settled g ≡ false → goes (bare g) ≡ false → turn (bare g) ≡ bare_then g

module _ (settled settled_then : Group → Bool) (bare bare_then : Group → Delivery) (goes : Delivery → Bool) (turn : Delivery → Delivery) where
  abbrev now : List Group → List Delivery
  now gs = map turn (filter (λ d. not (goes d)) (map bare (filter (λ g. not (settled g)) gs)))

  abbrev then : List Group → List Delivery
  then gs = map bare_then (filter (λ g. not (settled_then g)) gs)

  turned : (gs : List Group) → AllByRecursion (Turns settled settled_then bare bare_then goes turn) gs → now gs ≡ then gs
  turned [] all = refl
  turned (g ∷ gs) all = elim (cases_Bool (settled g)) [
    | inl s ↦ rw (all.0.gone, s) (turned gs all.1)
    | inr s ↦ elim (cases_Bool (goes (bare g))) [
      | inl e ↦ rw (all.0.gone, s, e) (turned gs all.1)
      | inr e ↦ rw (all.0.gone, s, e, all.0.left s e, turned gs all.1) refl
    ]
  ]

-- what follows of each element follows of all
pub all_from : {X : Type 0} (P Q : X → Type 0) → ((x : X) → P x → Q x) → (xs : List X) → AllByRecursion P xs → AllByRecursion Q xs
all_from P Q f [] all = tt
all_from P Q f (x ∷ xs) all = (f x all.0, all_from P Q f xs all.1)

any_from : (P Q : Group → Type 0) → ((g : Group) → P g → Q g) → (o : Option Group) → IfAny P o → IfAny Q o
any_from P Q f None all = tt
any_from P Q f (Some g) all = f g all

-- Tests. ---------------------------------------------------------------------------------------------------------

or_turn : (a b : Bool) → (a || b) ≡ (b || a)
or_turn true true = refl
or_turn true false = refl
or_turn false true = refl
or_turn false false = refl

named_is : (t r a b f i : Bool) → t ≡ true → r ≡ false → (a || ((t && (not r && not (t && (a || b))) && f && i) || b)) ≡ ((a || b) || (f && i))
named_is t r true b f i e u = refl
named_is t r false true f i e u = or_turn _ true
named_is t r false false f i e u = rw (e, u) (or-false (f && i))

told_is : (t r c d f i : Bool) → t ≡ true → r ≡ false → c ≡ false → ((t && (not r && not (t && c)) && f && i) || d) ≡ (d || (f && i))
told_is t r c d f i e u v = rw (e, u, v) (or_turn (f && i) d)

not_named : (t r c d f i : Bool) → t ≡ false → ((t && (not r && not (t && c)) && f && i) || d) ≡ d
not_named t r c d f i e = rw e refl

covered_is : (t r a b c : Bool) → r ≡ false → (a || (((not r && not (t && (a || b))) && c) || b)) ≡ ((a || b) || c)
covered_is t r true b c u = refl
covered_is t r false true c u = or_turn _ true
covered_is true r false false c u = rw u (or-false c)
covered_is false r false false c u = rw u (or-false c)

-- One delivery. ------------------------------------------------------------------------------------------------------

-- a test of the delivery with this number is one of this delivery
abbrev Here : List LinkEvent → Group → Type 0
Here h g = (test : Group → Bool) → passes test g.number h ≡ test g

abbrev StandsIn : List LinkEvent → Bool → Group → Type 0
StandsIn h b g = Stands (Here h) (is_handed_up h) b g

-- a settle of the receiver settles it, or tells of it
abbrev settles_here : Terms → List LinkEvent → ℕ → ℕ → ℕ → Group → Bool
settles_here terms h first last number g = is_handed_up h g && is_open_if h (settled_later terms h number) g && is_first (mode_at terms g.head) && covers first last (id_of g)

abbrev tells_here : Terms → List LinkEvent → ℕ → ℕ → ℕ → Group → Bool
tells_here terms h first last number g = is_handed_up h g && is_open_if h (settled_later terms h number) g && not (is_first (mode_at terms g.head)) && covers first last (id_of g)

named_settled : (terms : Terms) (h : List LinkEvent) (first last : ℕ) (g : Group) → StandsIn h true g →
    is_settled terms (ReceiverSettled first last ∷ h) g ≡ (is_settled terms h g || receiver_settles first last (shown_awaiting terms h g))
named_settled terms h first last g s =
    let name = covers first last (id_of g) in
    ap (λ (b : Bool). comes_settled g || (b || settled_later terms h g.number)) (s.0 (settles_here terms h first last g.number))
    ∙ named_is (is_handed_up h g) (is_aborted g) (comes_settled g) (settled_later terms h g.number) (is_first (mode_at terms g.head)) name s.1 s.2

named_told : (terms : Terms) (h : List LinkEvent) (first last : ℕ) (g : Group) → StandsIn h true g → is_settled terms h g ≡ false →
    told_later terms (ReceiverSettled first last ∷ h) g.number ≡ (told_later terms h g.number || tells first last (shown_awaiting terms h g))
named_told terms h first last g s e =
    let name = covers first last (id_of g) in
    ap (λ (b : Bool). b || told_later terms h g.number) (s.0 (tells_here terms h first last g.number))
    ∙ told_is (is_handed_up h g) (is_aborted g) (is_settled terms h g) (told_later terms h g.number) (not (is_first (mode_at terms g.head))) name s.1 s.2 e

-- the receiver's settle speaks of no delivery that was not handed up
later_named : (terms : Terms) (h : List LinkEvent) (first last : ℕ) (g : Group) → StandsIn h false g →
    settled_later terms (ReceiverSettled first last ∷ h) g.number ≡ settled_later terms h g.number
later_named terms h first last g s =
    let name = covers first last (id_of g) in
    ap (λ (b : Bool). b || settled_later terms h g.number) (s.0 (settles_here terms h first last g.number))
    ∙ not_named (is_handed_up h g) (is_aborted g) (is_settled terms h g) (settled_later terms h g.number) (is_first (mode_at terms g.head)) name s.1

later_told : (terms : Terms) (h : List LinkEvent) (first last : ℕ) (g : Group) → StandsIn h false g →
    told_later terms (ReceiverSettled first last ∷ h) g.number ≡ told_later terms h g.number
later_told terms h first last g s =
    let name = covers first last (id_of g) in
    ap (λ (b : Bool). b || told_later terms h g.number) (s.0 (tells_here terms h first last g.number))
    ∙ not_named (is_handed_up h g) (is_aborted g) (is_settled terms h g) (told_later terms h g.number) (not (is_first (mode_at terms g.head))) name s.1

covered_settled : (terms : Terms) (h : List LinkEvent) (first last : ℕ) (b : Bool) (g : Group) → StandsIn h b g →
    is_settled terms (SenderSettled first last ∷ h) g ≡ (is_settled terms h g || covers first last (id_of g))
covered_settled terms h first last b g s =
    ap (λ (b : Bool). comes_settled g || (b || settled_later terms h g.number)) (s.0 (λ x. is_open_if h (settled_later terms h g.number) x && covers first last (id_of x)))
    ∙ covered_is (is_handed_up h g) (is_aborted g) (comes_settled g) (settled_later terms h g.number) (covers first last (id_of g)) s.2

-- a delivery with its settlement
made : Delivery → Bool → Bool → Delivery
made d settled told = record d { settled = settled; told = told }

made_same : (d : Delivery) (a b c e : Bool) → a ≡ b → c ≡ e → made d a c ≡ made d b e
made_same d a b c e p q = rw (p, q) refl

named_turn : (terms : Terms) (h : List LinkEvent) (first last : ℕ) (g : Group) → StandsIn h true g →
    Turns (is_settled terms h) (is_settled terms (ReceiverSettled first last ∷ h)) (shown_awaiting terms h) (shown_awaiting terms (ReceiverSettled first last ∷ h))
    (receiver_settles first last) (marked_told first last) g
unfolding made
named_turn terms h first last g s = record {
  gone = named_settled terms h first last g s;
  left = λ e k. made_same (shown_awaiting terms h g) _ _ _ _ (sym (named_settled terms h first last g s ∙ rw (e, k) refl)) (sym (named_told terms h first last g s e));
}

-- All open deliveries. -------------------------------------------------------------------------------------------------

takens_in : (h : List LinkEvent) → AllByRecursion (StandsIn h true) (handed_up_groups h)
takens_in h = takens_stand (Here h) (is_handed_up h) (takes h) (groups h) (taken_picked h) (all_pass h)

readies_in : (h : List LinkEvent) → AllByRecursion (StandsIn h false) (ready_groups h)
readies_in h = readies_stand (Here h) (is_handed_up h) (takes h) (groups h) (taken_picked h) (all_pass h)

part_in : (h : List LinkEvent) → IfAny (StandsIn h false) (find is_unfinished (groups h))
part_in h = part_stands (Here h) (is_handed_up h) (takes h) (groups h) (taken_picked h) (all_pass h)

later_shown : (terms : Terms) (h : List LinkEvent) (first last : ℕ) (g : Group) → StandsIn h false g → shown terms h g ≡ shown terms (ReceiverSettled first last ∷ h) g
unfolding made
later_shown terms h first last g s = made_same (shown terms h g) _ _ _ _ (ap (λ (b : Bool). comes_settled g || b) (sym (later_named terms h first last g s))) (sym (later_told terms h first last g s))

-- the receiver's settle leaves the state of the longer history
pub named_state : (terms : Terms) (h : List LinkEvent) (first last : ℕ) → link_after (state_of terms h) (ReceiverSettled first last) ≡ state_of terms (ReceiverSettled first last ∷ h)
unfolding stated
named_state terms h first last =
    let g = ReceiverSettled first last ∷ h in
    let turns = all_from _ _ (λ g s. named_turn terms h first last g s) (handed_up_groups h) (takens_in h) in
    let same = λ (g : Group) (s : StandsIn h false g). later_shown terms h first last g s in
    let readies = all_from _ _ same (ready_groups h) (readies_in h) in
    let last_one = any_from _ _ same (find is_unfinished (groups h)) (part_in h) in
    stated_same terms _ _ _ _ _ _ _ _ _ _ _ _ refl refl refl
    (turned (is_settled terms h) (is_settled terms g) (shown_awaiting terms h) (shown_awaiting terms g) (receiver_settles first last) (marked_told first last) (handed_up_groups h) turns)
    (sym (map_same _) ∙ map_agree (shown terms h) (shown terms g) (λ d. d) (ready_groups h) readies)
    (sym (option_same _) ∙ option_agree (shown terms h) (shown terms g) (λ d. d) (find is_unfinished (groups h)) last_one)

covered_turn : (terms : Terms) (h : List LinkEvent) (first last : ℕ) (g : Group) → StandsIn h true g →
    Turns (is_settled terms h) (is_settled terms (SenderSettled first last ∷ h)) (shown_awaiting terms h) (shown_awaiting terms (SenderSettled first last ∷ h))
    (is_covered first last) (λ d. d) g
unfolding made
covered_turn terms h first last g s = record {
  gone = covered_settled terms h first last true g s;
  left = λ e k. made_same (shown_awaiting terms h g) _ _ _ _ (sym (covered_settled terms h first last true g s ∙ rw (e, k) refl)) refl;
}

covered_shown : (terms : Terms) (h : List LinkEvent) (first last : ℕ) (g : Group) → StandsIn h false g → sender_settled_by first last (shown terms h g) ≡ shown terms (SenderSettled first last ∷ h) g
unfolding made
covered_shown terms h first last g s = made_same (shown terms h g) _ _ _ _ (sym (covered_settled terms h first last false g s)) refl

-- so does the sender's
pub covered_state : (terms : Terms) (h : List LinkEvent) (first last : ℕ) → link_after (state_of terms h) (SenderSettled first last) ≡ state_of terms (SenderSettled first last ∷ h)
unfolding stated
covered_state terms h first last =
    let g = SenderSettled first last ∷ h in
    let turns = all_from _ _ (λ g s. covered_turn terms h first last g s) (handed_up_groups h) (takens_in h) in
    let same = λ (g : Group) (s : StandsIn h false g). covered_shown terms h first last g s in
    let turn = sender_settled_by first last in
    let readies = all_from _ _ same (ready_groups h) (readies_in h) in
    let last_one = any_from _ _ same (find is_unfinished (groups h)) (part_in h) in
    stated_same terms _ _ _ _ _ _ _ _ _ _ _ _ refl refl refl
    (sym (map_same _) ∙ turned (is_settled terms h) (is_settled terms g) (shown_awaiting terms h) (shown_awaiting terms g) (is_covered first last) (λ d. d) (handed_up_groups h) turns)
    (map_agree (shown terms h) (shown terms g) turn (ready_groups h) readies)
    (option_agree (shown terms h) (shown terms g) turn (find is_unfinished (groups h)) last_one)

-- How many a disposition settles. ----------------------------------------------------------------------------------------------

newly_is : (o a b c : Bool) → o ≡ true → (not (a || b) && c) ≡ (not (a || b) && (a || ((o && c) || b)))
newly_is o true b c e = refl
newly_is o false true c e = refl
newly_is o false false c e = rw e (sym (or-false c))

same_long : (b c : Bool) (d : Delivery) (g : Group) (ds : List Delivery) (gs : List Group) → b ≡ c → length ds ≡ length gs → length (cond b (d ∷ ds) ds) ≡ length (cond c (g ∷ gs) gs)
same_long b c d g ds gs e l = rw e (either c)
  where
    either : (c : Bool) → length (cond c (d ∷ ds) ds) ≡ length (cond c (g ∷ gs) gs)
    either true = omega (arith, l)
    either false = l

module _ (terms : Terms) (h : List LinkEvent) (first last : ℕ) where
  -- it is settled, and was not
  abbrev newly : Delivery → Bool
  newly d = not d.settled && is_covered first last d

  newly_shown : (g : Group) → Here h g → is_open terms h g ≡ true → newly (kept terms h g) ≡ (not (is_settled terms h g) && is_settled terms (SenderSettled first last ∷ h) g)
  newly_shown g here e =
      newly_is (is_open terms h g) (comes_settled g) (settled_later terms h g.number) (covers first last (id_of g)) e
      ∙ ap (λ (b : Bool). not (is_settled terms h g) && (comes_settled g || (b || settled_later terms h g.number)))
      (sym (here (λ x. is_open_if h (settled_later terms h g.number) x && covers first last (id_of x))))

  newly_long : (gs : List Group) → AllByRecursion (Here h) gs → length (filter newly (map (kept terms h) (filter (is_open terms h) gs))) ≡ length (filter (is_settled_by terms h first last) gs)
  newly_long [] all = refl
  newly_long (g ∷ gs) all = elim (cases_Bool (is_open terms h g)) [
    | inl e ↦ rw e (same_long _ _ (kept terms h g) g _ _ (newly_shown g all.0 e) (newly_long gs all.1))
    | inr e ↦ rw e (newly_long gs all.1)
  ]

  pub settled_count : newly_settled first last (open_set (state_of terms h)) ≡ length (filter (is_settled_by terms h first last) (groups h))
  settled_count =
      sym (length-filter newly (deliveries (state_of terms h)))
      ∙ ap (λ (ds : List Delivery). length (filter newly ds)) (deliveries_selected terms h)
      ∙ newly_long (groups h) (all_pass h)
