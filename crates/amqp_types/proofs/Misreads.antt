-- Where reading meets a fault, the bytes are misread so.
use Rattle.std.proofs.Common.{◌≡◌, ◌≢◌, ℕ, zero, suc, ◌+◌, ◌-◌, ◌/◌, ◌%◌, ◌<◌, ◌≤◌, ◌⊎◌, Bool, true, false, cond, ltb, eqb, ◌&&◌, ◌||◌, not, is_some, List, [], ◌∷◌, ◌++◌, length, drop, Option, Some}
use Rattle.std.proofs.Common.{None, Result, Ok, Err, refl, sym, ap, subst, ◌∙◌, arith, inl, inr}
use Rattle.std.specs.Str.{bytes_eq}
use Rattle.std.proofs.lemmas.Slice.Eq.{bytes_eq-Decides}
use Rattle.std.proofs.lemmas.Bool.{ltb-false, ltb-true, eqb-true, eqb-false, and_parts}
use Rattle.std.proofs.lemmas.List.{append-nil, length-append, length-drop}
use Rattle.byteorder.specs.Endian.{big_bytes, big_number}
use Rattle.byteorder.specs.Numbers.{length-bytes_high_first}
use Rattle.amqp_types.specs.declared.kind.Kind.{Kind}
use Rattle.amqp_types.specs.declared.code.Form.{Form}
use Rattle.amqp_types.specs.declared.code.SizeWidth.{SizeWidth}
use Rattle.amqp_types.specs.declared.code.Constructor.{Constructor}
use Rattle.amqp_types.specs.declared.code.Constructor.TheVariants.{Fixed, Variable, EmptyList, ListIn, MapIn, ArrayIn}
use Rattle.amqp_types.specs.declared.fault.ReadFault.{ReadFault}
use Rattle.amqp_types.specs.declared.fault.ReadFault.TheVariants.{UnknownCode, BadSize, BadCount, DuplicateKey, TooDeep, TooManyNodes, NoMemory}
use Rattle.amqp_types.specs.declared.window.Window.{Window}
use Rattle.amqp_types.specs.Codes.{find_code, kind_of}
use Rattle.amqp_types.specs.Kinds.{width, is_container}
use Rattle.amqp_types.specs.Trees.{Tree, Number, Octets, ListOf, MapOf, ArrayOf, Described, Trees, none, more, Pairs, no_pair, pair, nodes_in}
use Rattle.amqp_types.specs.Images.{image, has_key}
use Rattle.amqp_types.specs.Spelling.{size_len, Spells}
use Rattle.std.specs.Prelude.{IfErr}
use Rattle.amqp_types.specs.Decoding.{decoded}
use Rattle.amqp_types.specs.InHand.{Budget, outermost, place}
use Rattle.amqp_types.specs.Reading.{Read, Part, Level, Head, Block, ◌>>=◌, Is, Gives, after, value_of, unless, number_fault, octets_fault, charge, behind, octets_at, big_at}
use Rattle.amqp_types.specs.Reading.{form_at, number_at, sized_at, block_of, block_at, count_at, trees_at, distinct, pairs_at, ended, with_descriptor, allowed, head_at, list_at, map_at, array_at}
use Rattle.amqp_types.specs.Reading.{uncharged, item_by, described_at, value_by, level_by, inside}
use Rattle.amqp_types.specs.Misreading.{IsCounted, Enough, IsShort, spend, MayStand, IsWithin, EndsInSized, EndsInside, IsBelow, IsTooSmall, OctetsFault, IsBlockOf, IsHolder, IsAmong, IsNewKey}
use Rattle.amqp_types.specs.Misreading.{Sought, AValue, DataOf, Values, Entries, Elements, Items, OpensWithCode, IsDone, parts_of, Misread, nothing, left_over, unknown_code, too_deep}
use Rattle.amqp_types.specs.Misreading.{too_deep_described, too_many, too_many_described, too_many_descriptors, bad_data, bad_descriptor, bad_described, ends_inside, no_number, no_octets, too_small}
use Rattle.amqp_types.specs.Misreading.{odd_count, too_many_parts, bad_parts, bad_value, bad_later_value, bad_key, equal_key, bad_entry, bad_later_entry, bad_array_descriptor, bad_elements, bad_items}
use Rattle.amqp_types.specs.Misreading.{bad_item, bad_later_item}
use Rattle.amqp_types.proofs.Octets.{IsBytes, IsBytes-rest}
use Rattle.amqp_types.proofs.Sound.{bind_ok, guard_ok, ok_is, Takes-then, octets_sound, big_sound, form_sound}
use Rattle.amqp_types.proofs.Faults.{bind_err, then_ok_err, guard_err, unless_err, big_short, octets_short, form_short, fault_of_number, fault_of_octets}
use Rattle.amqp_types.proofs.Joined.{Spent, spent_same, SpellsItem}
use Rattle.amqp_types.proofs.ImageLaws.{IsSmall, AreSmall, small, image_apart}
use Rattle.amqp_types.proofs.Compounds.{same_bytes, block_sound, block_text, IsRead, IsReader, IsSoundLevel, distinct_ok, allowed_ok, either_way, inside_sound}

-- ---- what is left

spent_is : (budget left : Budget) (n : ℕ) → Spent budget n left → (behind budget left ≡ spend budget n) × Enough budget n
spent_is None left n p = (refl, tt)
spent_is (Some b) left n p = let m : p.0 ≡ b - n = omega (arith, p.2) in (p.1 ∙ ap (λ (k : ℕ). Some k) m, omega (arith, p.2))

charge_err : (budget : Budget) (n at : ℕ) (e : ReadFault) → charge budget n at ≡ Err e → IsShort budget n × (TooManyNodes at ≡ e)
charge_err None n at e h = absurd cc
charge_err (Some b) n at e h = let g = guard_err (ltb b n) (TooManyNodes at) e (Some (b - n)) h in (ltb-true _ _ g.0, g.1)

charge_ok : (budget left : Budget) (n at : ℕ) → charge budget n at ≡ Ok left → (left ≡ spend budget n) × Enough budget n
charge_ok None left n at h = (sym (ok_is None left h), tt)
charge_ok (Some b) left n at h = let g = guard_ok (ltb b n) (TooManyNodes at) (Some (b - n)) left h in (sym g.1, ltb-false b n g.0)

-- what is left of a budget of which nothing was spent
pub behind_same : (budget : Budget) → behind budget budget ≡ budget
behind_same None = refl
behind_same (Some b) = refl

-- and behind one of which so much was
pub behind_spend : (budget : Budget) (n : ℕ) (left : Budget) → behind (spend budget n) left ≡ behind budget left
behind_spend None n left = refl
behind_spend (Some b) n left = refl

-- a value that was read is within what is left
part_of : (spells : Tree → List ℕ → Type 0) (depth : ℕ) (budget : Budget) (bytes : List ℕ) (x : Tree × Budget × List ℕ) → IsRead spells depth 0 budget bytes x
    → IsWithin depth budget x.0 × (behind budget x.1 ≡ spend budget (nodes_in x.0))
part_of spells depth budget bytes x r =
    let s = spent_is budget x.1 (nodes_in x.0) (spent_same budget x.1 _ _ (omega arith) r.spent) in
    (record { deep = r.deep; few = s.1; lawful = r.lawful }, s.0)

-- ---- numbers and bytes

number_misread : (k : Kind) (f : Form) (depth : ℕ) (w : Window) (budget : Budget) (bytes : List ℕ) (e : ReadFault) → IsBytes bytes → number_at w k f bytes ≡ Err e →
    Misread (DataOf (Fixed k f)) depth w budget bytes e
unfolding number_at
number_misread k f depth w budget bytes e fits h =
    elim (bind_err (form_at w f (width k) bytes) (λ n. unless (number_fault k (place w bytes) n.0) n) e h) [
      | inl short ↦ let s = form_short w f (width k) bytes e short in subst (λ (d : ReadFault). Misread (DataOf (Fixed k f)) depth w budget bytes d) s.1 (ends_inside s.0)
      | inr n ↦
          let t = form_sound w f (width k) bytes n.0 fits n.1 in
          no_number n.0.0 t.0 n.0.1 t.1.parts t.2 (fault_of_number k (place w bytes) n.0.0 e (unless_err _ n.0 e n.2))
    ]

sized_misread : (k : Kind) (s : SizeWidth) (depth : ℕ) (w : Window) (budget : Budget) (bytes : List ℕ) (e : ReadFault) → IsBytes bytes → sized_at w k s bytes ≡ Err e →
    Misread (DataOf (Variable k s)) depth w budget bytes e
unfolding sized_at
sized_misread k s depth w budget bytes e fits h =
    elim (bind_err (big_at w (size_len s) bytes) (λ n. octets_at w n.0 n.1 >>= λ octets. unless (octets_fault k (place w n.1) octets.0) octets) e h) [
      | inl short ↦ let b = big_short w (size_len s) bytes e short in subst (λ (d : ReadFault). Misread (DataOf (Variable k s)) depth w budget bytes d) b.1 (ends_inside (inl b.0))
      | inr n ↦
          let g = big_is w (size_len s) bytes n.0 n.1 in
          let t0 = big_sound w (size_len s) bytes n.0 fits n.1 in
          elim (bind_err (octets_at w n.0.0 n.0.1) (λ octets. unless (octets_fault k (place w n.0.1) octets.0) octets) e n.2) [
            | inl short ↦
                let o = octets_short w n.0.0 n.0.1 e short in
                let ends : length bytes < size_len s + big_number (size_len s) bytes = omega (arith, o.0, g.0, ap length g.1, length-drop (size_len s) bytes) in
                subst (λ (d : ReadFault). Misread (DataOf (Variable k s)) depth w budget bytes d) o.1 (ends_inside (inr (omega arith, ends)))
            | inr x ↦
                let t1 = octets_sound w n.0.0 n.0.1 x.0 t0.0.rest_fits x.1 in
                let both = Takes-then bytes (big_bytes (size_len s) n.0.0) n.0.1 x.0.0 x.0.1 t0.0 t1.0 in
                let fault = fault_of_octets k (place w n.0.1) x.0.0 e (unless_err _ x.0 e x.2) in
                no_octets x.0.0 (big_bytes (size_len s) n.0.0 ++ x.0.0) x.0.1 both.parts
                (omega (arith, t0.1, t1.1), ap (λ (i : ℕ). big_bytes (size_len s) i ++ x.0.0) (sym t1.1))
                (subst (λ (left : List ℕ). OctetsFault k (place w left) x.0.0 e) t1.0.parts fault)
          ]
    ]
  where
    big_is : (w : Window) (m : ℕ) (bytes : List ℕ) (x : ℕ × List ℕ) → big_at w m bytes ≡ Ok x → (big_number m bytes ≡ x.0) × (drop m bytes ≡ x.1)
    big_is w m bytes x h =
        let g = guard_ok (ltb (length bytes) m) w.short (big_number m bytes, drop m bytes) x h in
        (ap (λ (p : ℕ × List ℕ). p.0) g.1, ap (λ (p : ℕ × List ℕ). p.1) g.1)

-- ---- parts one after the other

-- bytes are left over
abbrev IsLeft : Window → List ℕ → ReadFault → Type 0
IsLeft w bytes e = (byte : ℕ) × (rest : List ℕ) × (bytes ≡ byte ∷ rest) × (w.short ≡ e)

left_misread : (sought : Sought) (depth : ℕ) (w : Window) (budget : Budget) (bytes : List ℕ) (e : ReadFault) → IsDone sought → IsLeft w bytes e → Misread sought depth w budget bytes e
left_misread sought depth w budget bytes e done l =
    subst (λ (b : List ℕ). Misread sought depth w budget b e) (sym l.2) (subst (λ (d : ReadFault). Misread sought depth w budget (l.0 ∷ l.1) d) l.3 (left_over done))

-- so many parts are not read, or bytes are left over behind them
abbrev Ends : (Window → Budget → List ℕ → Part Tree) → ℕ → Window → Budget → List ℕ → ReadFault → Type 0
Ends one n w budget bytes e =
    (trees_at one n w budget bytes ≡ Err e) ⊎ ((x : Trees × Budget × List ℕ) × (trees_at one n w budget bytes ≡ Ok x) × IsLeft w x.2 e)

sequence_misread : (one : Window → Budget → List ℕ → Part Tree) (spells : Tree → List ℕ → Type 0) (sought : ℕ → Sought) (depth : ℕ) → IsReader one spells depth 0
    → ((n : ℕ) (w : Window) (budget : Budget) (bytes : List ℕ) (e : ReadFault) → IsBytes bytes → one w budget bytes ≡ Err e → Misread (sought (suc n)) depth w budget bytes e)
    → ((n : ℕ) (w : Window) (budget : Budget) (bytes : List ℕ) (e : ReadFault) (t : Tree) (text rest : List ℕ) → bytes ≡ text ++ rest → spells t text → IsWithin depth budget t
    → Misread (sought n) depth w (spend budget (nodes_in t)) rest e → Misread (sought (suc n)) depth w budget bytes e)
    → IsDone (sought 0)
    → (n : ℕ) (w : Window) (budget : Budget) (bytes : List ℕ) (e : ReadFault) → IsBytes bytes → Ends one n w budget bytes e → Misread (sought n) depth w budget bytes e
unfolding trees_at
sequence_misread one spells sought depth sound first later done zero w budget bytes e fits (inl h) = absurd cc
sequence_misread one spells sought depth sound first later done zero w budget bytes e fits (inr (x, h, left)) =
    left_misread (sought 0) depth w budget bytes e done (subst (λ (y : Trees × Budget × List ℕ). IsLeft w y.2 e) (sym (ok_is (none, budget, bytes) x h)) left)
sequence_misread one spells sought depth sound first later done (suc n) w budget bytes e fits (inl h) =
    elim (bind_err (one w budget bytes) (λ t. trees_at one n w (behind budget t.1) t.2 >>= λ others. Ok (more t.0 others.0, others.1, others.2)) e h) [
      | inl bad ↦ first n w budget bytes e fits bad
      | inr a ↦
          let r = sound w budget bytes a.0 fits a.1 in
          let p = part_of spells depth budget bytes a.0 r in
          let rest = then_ok_err (trees_at one n w (behind budget a.0.1) a.0.2) (λ others. (more a.0.0 others.0, others.1, others.2)) e a.2 in
          later n w budget bytes e a.0.0 r.text a.0.2 r.takes.parts r.spelled p.0
          (subst (λ (b : Budget). Misread (sought n) depth w b a.0.2 e) p.1 (sequence_misread one spells sought depth sound first later done n w (behind budget a.0.1) a.0.2 e r.takes.rest_fits
          (inl rest)))
    ]
sequence_misread one spells sought depth sound first later done (suc n) w budget bytes e fits (inr (x, h, left)) =
    let a = bind_ok (one w budget bytes) (λ t. trees_at one n w (behind budget t.1) t.2 >>= λ others. Ok (more t.0 others.0, others.1, others.2)) x h in
    let b = bind_ok (trees_at one n w (behind budget a.0.1) a.0.2) (λ others. Ok (more a.0.0 others.0, others.1, others.2)) x a.2 in
    let r = sound w budget bytes a.0 fits a.1 in
    let p = part_of spells depth budget bytes a.0 r in
    let same = ok_is (more a.0.0 b.0.0, b.0.1, b.0.2) x b.2 in
    let over : IsLeft w b.0.2 e = subst (λ (y : Trees × Budget × List ℕ). IsLeft w y.2 e) (sym same) left in
    later n w budget bytes e a.0.0 r.text a.0.2 r.takes.parts r.spelled p.0
    (subst (λ (y : Budget). Misread (sought n) depth w y a.0.2 e) p.1 (sequence_misread one spells sought depth sound first later done n w (behind budget a.0.1) a.0.2 e r.takes.rest_fits
    (inr (b.0, b.1, over))))

-- ---- a level

-- a level whose faults are ones that the bytes have
pub record IsMisreadLevel (depth : ℕ) (level : Level) : Type 0 where
  pub value : (due : ℕ) (w : Window) (budget : Budget) (bytes : List ℕ) (e : ReadFault) → IsBytes bytes → level.value w due budget bytes ≡ Err e → Misread (AValue due) depth w budget bytes e
  pub item : (c : Constructor) (w : Window) (budget : Budget) (bytes : List ℕ) (e : ReadFault) → MayStand c depth → IsBytes bytes → level.item c w budget bytes ≡ Err e →
      Misread (DataOf c) depth w budget bytes e
  pub none_left : level.holds ≡ false → depth ≡ 0

values_misread : (depth : ℕ) (level : Level) → IsSoundLevel depth level → IsMisreadLevel depth level → (n : ℕ) (w : Window) (budget : Budget) (bytes : List ℕ) (e : ReadFault) → IsBytes bytes
    → Ends (λ within. level.value within 0) n w budget bytes e → Misread (Values n) depth w budget bytes e
values_misread depth level sound mis = sequence_misread (λ within. level.value within 0) Spells Values depth (sound.value 0)
    (λ n w budget bytes e fits h. bad_value (mis.value 0 w budget bytes e fits h))
    (λ n w budget bytes e t text rest parts spelled within h. bad_later_value t text rest parts spelled within h) refl

items_misread : (depth : ℕ) (level : Level) → IsSoundLevel depth level → IsMisreadLevel depth level → (c : Constructor) (element : ℕ) → find_code element ≡ Some c → MayStand c depth
    → (n : ℕ) (w : Window) (budget : Budget) (bytes : List ℕ) (e : ReadFault) → IsBytes bytes → Ends (level.item c) n w budget bytes e → Misread (Items element n) depth w budget bytes e
items_misread depth level sound mis c element is may = sequence_misread (level.item c) (SpellsItem element (kind_of c)) (Items element) depth (sound.item c element is may)
    (λ n w budget bytes e fits h. bad_item c is (mis.item c w budget bytes e may fits h))
    (λ n w budget bytes e t text rest parts spelled within h. bad_later_item t text rest parts spelled.0 within h) refl

-- ---- maps

-- a key that is found is among those before it
pub among : (key : Tree) (seen : Trees) → IsSmall key → AreSmall seen → has_key key seen ≡ true → IsAmong key seen
unfolding has_key
among key none p q h = absurd cc
among key (more t ts) p q h =
    elim (or_true (bytes_eq (image t) (image key)) (has_key key ts) h) [
      | inl same ↦ inl (image_apart t key q.0 p ((bytes_eq-Decides (image t) (image key)).0 same))
      | inr later ↦ inr (among key ts p q.1 later)
    ]
  where
    or_true : (a b : Bool) → (a || b) ≡ true → (a ≡ true) ⊎ (b ≡ true)
    or_true true b e = inl refl
    or_true false b e = inr e

-- and one among them is found
pub found_among : (key : Tree) (seen : Trees) → IsAmong key seen → has_key key seen ≡ true
unfolding has_key
found_among key none h = absurd h
found_among key (more t ts) (inl same) = or_left (bytes_eq (image t) (image key)) (has_key key ts) (ap (λ (u : Tree). bytes_eq (image t) (image u)) (sym same) ∙ same_bytes (image t))
  where
    or_left : (a b : Bool) → a ≡ true → (a || b) ≡ true
    or_left true b e = refl
    or_left false b e = absurd cc
found_among key (more t ts) (inr later) = or_right (bytes_eq (image t) (image key)) (has_key key ts) (found_among key ts later)
  where
    or_right : (a b : Bool) → b ≡ true → (a || b) ≡ true
    or_right true b e = refl
    or_right false b e = e

not_found : (b : Bool) → b ≡ false → b ≡ true → ⊥
not_found b f t = let h : true ≡ false = sym t ∙ f in cc

-- a key that is not found is new
pub new_key : (budget : Budget) (key : Tree) (seen : Trees) → (IsCounted budget → has_key key seen ≡ false) → IsNewKey budget key seen
new_key budget key seen h c is = not_found (has_key key seen) (h c) (found_among key seen is)

distinct_err : {A : Type 0} (budget : Budget) (seen : Trees) (key : Tree) (at : ℕ) (x : A) (e : ReadFault) → distinct budget seen key at x ≡ Err e →
    IsCounted budget × (has_key key seen ≡ true) × (DuplicateKey at ≡ e)
distinct_err None seen key at x e h = absurd cc
distinct_err (Some b) seen key at x e h = let g = guard_err (has_key key seen) (DuplicateKey at) e x h in (tt, g.0, g.1)

abbrev EndsPairs : Level → Trees → ℕ → Window → Budget → List ℕ → ReadFault → Type 0
EndsPairs level seen n w budget bytes e =
    (pairs_at level seen n w budget bytes ≡ Err e) ⊎ ((x : Pairs × Budget × List ℕ) × (pairs_at level seen n w budget bytes ≡ Ok x) × IsLeft w x.2 e)

-- what comes behind a key
abbrev behind_key : Level → Trees → ℕ → Window → Budget → Tree × Budget × List ℕ → Part Pairs
behind_key level seen n w budget key =
    level.value w 0 (behind budget key.1) key.2 >>= λ value. pairs_at level (more key.0 seen) n w (behind budget value.1) value.2 >>= λ others. Ok (pair key.0 value.0 others.0, others.1, others.2)

-- behind a key and a value that were read
later_entry : (depth : ℕ) (level : Level) → IsSoundLevel depth level → (n : ℕ) (seen : Trees) (w : Window) (budget : Budget) (bytes : List ℕ) (e : ReadFault) (a v : Tree × Budget × List ℕ)
    → (key : IsRead Spells depth 0 budget bytes a) → IsWithin depth budget a.0 × (behind budget a.1 ≡ spend budget (nodes_in a.0)) → IsNewKey budget a.0 seen
    → level.value w 0 (behind budget a.1) a.2 ≡ Ok v → (IsBytes v.2 → Misread (Entries (more a.0 seen) n) depth w (behind budget v.1) v.2 e)
    → Misread (Entries seen (suc n)) depth w budget bytes e
later_entry depth level sound n seen w budget bytes e a v key p new is rest =
    let value = sound.value 0 w (behind budget a.1) a.2 v key.takes.rest_fits is in
    let q = part_of Spells depth (behind budget a.1) a.2 v value in
    let within : IsWithin depth (spend budget (nodes_in a.0)) v.0 = subst (λ (b : Budget). IsWithin depth b v.0) p.1 q.0 in
    let left : behind budget v.1 ≡ spend (spend budget (nodes_in a.0)) (nodes_in v.0) =
    sym (behind_spend budget (nodes_in a.0) v.1) ∙ ap (λ (b : Budget). behind b v.1) (sym p.1) ∙ q.1 ∙ ap (λ (b : Budget). spend b (nodes_in v.0)) p.1 in
    bad_later_entry a.0 v.0 key.text value.text v.2 (key.takes.parts ∙ ap (λ (b : List ℕ). key.text ++ b) value.takes.parts) key.spelled p.0 new value.spelled within
    (subst (λ (b : Budget). Misread (Entries (more a.0 seen) n) depth w b v.2 e) left (rest value.takes.rest_fits))

entries_misread : (depth : ℕ) (level : Level) → IsSoundLevel depth level → IsMisreadLevel depth level → (n : ℕ) (seen : Trees) (w : Window) (budget : Budget) (bytes : List ℕ) (e : ReadFault) →
    AreSmall seen → IsBytes bytes
    → EndsPairs level seen n w budget bytes e → Misread (Entries seen n) depth w budget bytes e
unfolding pairs_at
entries_misread depth level sound mis zero seen w budget bytes e smalls fits (inl h) = absurd cc
entries_misread depth level sound mis zero seen w budget bytes e smalls fits (inr (x, h, left)) =
    left_misread (Entries seen 0) depth w budget bytes e refl (subst (λ (y : Pairs × Budget × List ℕ). IsLeft w y.2 e) (sym (ok_is (no_pair, budget, bytes) x h)) left)
entries_misread depth level sound mis (suc n) seen w budget bytes e smalls fits (inl h) =
    elim (bind_err (level.value w 0 budget bytes) (λ read. distinct budget seen read.0 (place w bytes) read >>= behind_key level seen n w budget) e h) [
      | inl bad ↦ bad_key (mis.value 0 w budget bytes e fits bad)
      | inr a ↦
          let key = sound.value 0 w budget bytes a.0 fits a.1 in
          let p = part_of Spells depth budget bytes a.0 key in
          elim (bind_err (distinct budget seen a.0.0 (place w bytes) a.0) (behind_key level seen n w budget) e a.2) [
            | inl equal ↦
                let d = distinct_err budget seen a.0.0 (place w bytes) a.0 e equal in
                subst (λ (f : ReadFault). Misread (Entries seen (suc n)) depth w budget bytes f) d.2
                (equal_key a.0.0 key.text a.0.2 key.takes.parts key.spelled p.0 d.0 (among a.0.0 seen (small a.0.0 key.text key.spelled) smalls d.1))
            | inr d ↦
                let new = distinct_ok budget seen a.0.0 (place w bytes) a.0 d.0 d.1 in
                let is_new : IsNewKey budget a.0.0 seen = new_key budget a.0.0 seen (new.1) in
                let others : behind_key level seen n w budget a.0 ≡ Err e = ap (behind_key level seen n w budget) new.0 ∙ d.2 in
                elim (bind_err (level.value w 0 (behind budget a.0.1) a.0.2) (λ value. pairs_at level (more a.0.0 seen) n w (behind budget value.1) value.2 >>= λ others. Ok
                (pair a.0.0 value.0 others.0, others.1, others.2)) e others) [
                  | inl bad ↦ bad_entry a.0.0 key.text a.0.2 key.takes.parts key.spelled p.0 is_new
                      (subst (λ (b : Budget). Misread (AValue 0) depth w b a.0.2 e) p.1 (mis.value 0 w (behind budget a.0.1) a.0.2 e key.takes.rest_fits bad))
                  | inr v ↦
                      let rest = then_ok_err (pairs_at level (more a.0.0 seen) n w (behind budget v.0.1) v.0.2) (λ others. (pair a.0.0 v.0.0 others.0, others.1, others.2)) e v.2 in
                      later_entry depth level sound n seen w budget bytes e a.0 v.0 key p is_new v.1
                      (λ value_fits. entries_misread depth level sound mis n (more a.0.0 seen) w (behind budget v.0.1) v.0.2 e (small a.0.0 key.text key.spelled, smalls) value_fits (inl rest))
                ]
          ]
    ]
entries_misread depth level sound mis (suc n) seen w budget bytes e smalls fits (inr (x, h, left)) =
    let a = bind_ok (level.value w 0 budget bytes) (λ read. distinct budget seen read.0 (place w bytes) read >>= behind_key level seen n w budget) x h in
    let key = sound.value 0 w budget bytes a.0 fits a.1 in
    let p = part_of Spells depth budget bytes a.0 key in
    let d = bind_ok (distinct budget seen a.0.0 (place w bytes) a.0) (behind_key level seen n w budget) x a.2 in
    let new = distinct_ok budget seen a.0.0 (place w bytes) a.0 d.0 d.1 in
    let others : behind_key level seen n w budget a.0 ≡ Ok x = ap (behind_key level seen n w budget) new.0 ∙ d.2 in
    let v = bind_ok (level.value w 0 (behind budget a.0.1) a.0.2) (λ value. pairs_at level (more a.0.0 seen) n w (behind budget value.1) value.2 >>= λ others. Ok
    (pair a.0.0 value.0 others.0, others.1, others.2)) x others in
    let g = bind_ok (pairs_at level (more a.0.0 seen) n w (behind budget v.0.1) v.0.2) (λ others. Ok (pair a.0.0 v.0.0 others.0, others.1, others.2)) x v.2 in
    let over : IsLeft w g.0.2 e = subst (λ (y : Pairs × Budget × List ℕ). IsLeft w y.2 e) (sym (ok_is (pair a.0.0 v.0.0 g.0.0, g.0.1, g.0.2) x g.2)) left in
    later_entry depth level sound n seen w budget bytes e a.0 v.0 key p (new_key budget a.0.0 seen new.1) v.1
    (λ value_fits. entries_misread depth level sound mis n (more a.0.0 seen) w (behind budget v.0.1) v.0.2 e (small a.0.0 key.text key.spelled, smalls) value_fits (inr (g.0, g.1, over)))

-- ---- the element constructor and the items of an array

allowed_err : (at : ℕ) (holds : Bool) (o : Option Constructor) (e : ReadFault) → allowed at holds o ≡ Err e
    → ((o ≡ None) × (UnknownCode at ≡ e)) ⊎ ((c : Constructor) × (o ≡ Some c) × (is_container (kind_of c) ≡ true) × (holds ≡ false) × (TooDeep at ≡ e))
allowed_err at holds None e h = inl (refl, cc)
allowed_err at holds (Some c) e h =
    let g = guard_err (is_container (kind_of c) && not holds) (TooDeep at) e c h in
    let both = and_parts (is_container (kind_of c)) (not holds) g.0 in
    inr (c, refl, both.0, opposite holds both.1, g.1)
  where
    opposite : (b : Bool) → not b ≡ true → b ≡ false
    opposite true e = absurd cc
    opposite false e = refl

-- a code at which no constructor may stand
code_misread : (sought : Sought) (depth : ℕ) (holds : Bool) (w : Window) (budget : Budget) (code : ℕ) (rest : List ℕ) (e : ReadFault) → OpensWithCode sought → (holds ≡ false → depth ≡ 0) → code ≢ 0
    → allowed (place w (code ∷ rest)) holds (find_code code) ≡ Err e → Misread sought depth w budget (code ∷ rest) e
code_misread sought depth holds w budget code rest e opens none_left some h =
    elim (allowed_err (place w (code ∷ rest)) holds (find_code code) e h) [
      | inl unknown ↦ subst (λ (d : ReadFault). Misread sought depth w budget (code ∷ rest) d) unknown.1 (unknown_code opens some unknown.0)
      | inr deep ↦
          subst (λ (d : ℕ). Misread sought d w budget (code ∷ rest) e) (sym (none_left deep.3))
          (subst (λ (d : ReadFault). Misread sought 0 w budget (code ∷ rest) d) deep.4 (too_deep deep.0 opens deep.1 deep.2))
    ]

-- so many items are not read behind their element constructor, or bytes are left over behind them
abbrev EndsItems : Level → ℕ → Window → Budget → Head × Budget × List ℕ → ReadFault → Type 0
EndsItems level n w budget head e = Ends (level.item head.0.constructor) n w (behind budget head.1) head.2 e

abbrev EndsElements : ℕ → Level → ℕ → Window → Budget → List ℕ → ReadFault → Type 0
EndsElements fuel level n w budget bytes e =
    (head_at fuel level w budget bytes ≡ Err e) ⊎ ((head : Head × Budget × List ℕ) × (head_at fuel level w budget bytes ≡ Ok head) × EndsItems level n w budget head e)

abbrev behind_descriptor : ℕ → Level → Window → Budget → Tree × Budget × List ℕ → Part Head
behind_descriptor fuel level w budget descriptor =
    head_at fuel level w (behind budget descriptor.1) descriptor.2 >>= λ head. Ok (with_descriptor descriptor.0 head.0, head.1, head.2)

-- behind a descriptor that was read
behind_part : (depth : ℕ) (level : Level) → IsSoundLevel depth level → (n : ℕ) (w : Window) (budget left : Budget) (code : ℕ) (rest : List ℕ) (e : ReadFault) (d : Tree × Budget × List ℕ)
    → code ≡ 0 → (left ≡ spend budget 1) × Enough budget 1 → IsBytes rest → level.value w 0 left rest ≡ Ok d
    → (IsBytes d.2 → Misread (Elements n) depth w (behind budget d.1) d.2 e) → Misread (Elements n) depth w budget (code ∷ rest) e
behind_part depth level sound n w budget left code rest e d is_zero paid fits is others =
    let r = sound.value 0 w left rest d fits is in
    let p = part_of Spells depth left rest d r in
    let within : IsWithin depth (spend budget 1) d.0 = subst (λ (b : Budget). IsWithin depth b d.0) paid.0 p.0 in
    let last : behind budget d.1 ≡ spend (spend budget 1) (nodes_in d.0) =
    sym (behind_spend budget 1 d.1) ∙ ap (λ (b : Budget). behind b d.1) (sym paid.0) ∙ p.1 ∙ ap (λ (b : Budget). spend b (nodes_in d.0)) paid.0 in
    subst (λ (k : ℕ). Misread (Elements n) depth w budget (k ∷ rest) e) (sym is_zero)
    (bad_elements d.0 r.text d.2 paid.1 r.takes.parts r.spelled within (subst (λ (b : Budget). Misread (Elements n) depth w b d.2 e) last (others r.takes.rest_fits)))

elements_misread : (depth : ℕ) (level : Level) → IsSoundLevel depth level → IsMisreadLevel depth level → (fuel n : ℕ) (w : Window) (budget : Budget) (bytes : List ℕ) (e : ReadFault) →
    length bytes ≤ fuel → IsBytes bytes
    → EndsElements fuel level n w budget bytes e → Misread (Elements n) depth w budget bytes e
unfolding head_at
elements_misread depth level sound mis fuel n w budget [] e le fits (inl h) =
    let same : w.short ≡ e = err_is w.short e (head_empty fuel level w budget) h in
    subst (λ (d : ReadFault). Misread (Elements n) depth w budget [] d) same (nothing tt)
  where
    head_empty : (fuel : ℕ) (level : Level) (w : Window) (budget : Budget) → head_at fuel level w budget [] ≡ Err w.short
    head_empty zero level w budget = refl
    head_empty (suc fuel) level w budget = refl

    err_is : (d e : ReadFault) {r : Part Head} → r ≡ Err d → r ≡ Err e → d ≡ e
    err_is d e p q = fault_is d e (sym p ∙ q)
      where
        fault_is : (d e : ReadFault) → ◌≡◌ {A = Part Head} (Err d) (Err e) → d ≡ e
        fault_is d e h = cc
elements_misread depth level sound mis zero n w budget [] e le fits (inr x) = absurd (ok_err x.1)
  where
    ok_err : {x : Head × Budget × List ℕ} {d : ReadFault} → ◌≡◌ {A = Part Head} (Err d) (Ok x) → ⊥
    ok_err h = cc
elements_misread depth level sound mis (suc fuel) n w budget [] e le fits (inr x) = absurd (ok_err x.1)
  where
    ok_err : {x : Head × Budget × List ℕ} {d : ReadFault} → ◌≡◌ {A = Part Head} (Err d) (Ok x) → ⊥
    ok_err h = cc
elements_misread depth level sound mis zero n w budget (code ∷ rest) e le fits h = absurd (omega arith)
elements_misread depth level sound mis (suc fuel) n w budget (code ∷ rest) e le fits (inl h) =
    elim (either_way (eqb code 0) (charge budget 1 (place w (code ∷ rest)) >>= λ left. level.value w 0 left rest >>= behind_descriptor fuel level w budget)
    (allowed (place w (code ∷ rest)) level.holds (find_code code) >>= λ c. Ok (record { descriptors = none; constructor = c }, budget, rest)) (Err e) h) [
      | inl d ↦
          let is_zero : code ≡ 0 = eqb-true code 0 d.0 in
          elim (bind_err (charge budget 1 (place w (code ∷ rest))) (λ left. level.value w 0 left rest >>= behind_descriptor fuel level w budget) e d.1) [
            | inl few ↦
                let c = charge_err budget 1 (place w (code ∷ rest)) e few in
                subst (λ (f : ReadFault). Misread (Elements n) depth w budget (code ∷ rest) f) c.1
                (subst (λ (k : ℕ). Misread (Elements n) depth w budget (k ∷ rest) (TooManyNodes (place w (k ∷ rest)))) (sym is_zero) (too_many_descriptors c.0))
            | inr a ↦
                let paid = charge_ok budget a.0 1 (place w (code ∷ rest)) a.1 in
                elim (bind_err (level.value w 0 a.0 rest) (behind_descriptor fuel level w budget) e a.2) [
                  | inl bad ↦ subst (λ (k : ℕ). Misread (Elements n) depth w budget (k ∷ rest) e) (sym is_zero)
                      (bad_array_descriptor paid.1 (subst (λ (b : Budget). Misread (AValue 0) depth w b rest e) paid.0 (mis.value 0 w a.0 rest e (IsBytes-rest code rest fits) bad)))
                  | inr b ↦
                      let others = then_ok_err (head_at fuel level w (behind budget b.0.1) b.0.2) (λ head. (with_descriptor b.0.0 head.0, head.1, head.2)) e b.2 in
                      let shorter = sound.value 0 w a.0 rest b.0 (IsBytes-rest code rest fits) b.1 in
                      behind_part depth level sound n w budget a.0 code rest e b.0 is_zero paid (IsBytes-rest code rest fits) b.1
                      (λ rest_fits. elements_misread depth level sound mis fuel n w (behind budget b.0.1) b.0.2 e (omega (arith, ap length shorter.takes.parts, length-append shorter.text b.0.2))
                      rest_fits (inl others))
                ]
          ]
      | inr d ↦
          let some : code ≢ 0 = eqb-false code 0 d.0 in
          code_misread (Elements n) depth level.holds w budget code rest e tt mis.none_left some (then_ok_err (allowed (place w (code ∷ rest)) level.holds (find_code code))
          (λ c. (record { descriptors = none; constructor = c }, budget, rest)) e d.1)
    ]
elements_misread depth level sound mis (suc fuel) n w budget (code ∷ rest) e le fits (inr (x, h, items)) =
    elim (either_way (eqb code 0) (charge budget 1 (place w (code ∷ rest)) >>= λ left. level.value w 0 left rest >>= behind_descriptor fuel level w budget)
    (allowed (place w (code ∷ rest)) level.holds (find_code code) >>= λ c. Ok (record { descriptors = none; constructor = c }, budget, rest)) (Ok x) h) [
      | inl d ↦
          let is_zero : code ≡ 0 = eqb-true code 0 d.0 in
          let a = bind_ok (charge budget 1 (place w (code ∷ rest))) (λ left. level.value w 0 left rest >>= behind_descriptor fuel level w budget) x d.1 in
          let paid = charge_ok budget a.0 1 (place w (code ∷ rest)) a.1 in
          let b = bind_ok (level.value w 0 a.0 rest) (behind_descriptor fuel level w budget) x a.2 in
          let g = bind_ok (head_at fuel level w (behind budget b.0.1) b.0.2) (λ head. Ok (with_descriptor b.0.0 head.0, head.1, head.2)) x b.2 in
          let shorter = sound.value 0 w a.0 rest b.0 (IsBytes-rest code rest fits) b.1 in
          let same = ok_is (with_descriptor b.0.0 g.0.0, g.0.1, g.0.2) x g.2 in
          let known : EndsItems level n w budget (with_descriptor b.0.0 g.0.0, g.0.1, g.0.2) e = subst (λ (y : Head × Budget × List ℕ). EndsItems level n w budget y e) (sym same) items in
          let kept : behind (behind budget b.0.1) g.0.1 ≡ behind budget g.0.1 =
          after_charge_behind budget a.0 b.0.1 g.0.1 (nodes_in b.0.0) paid.0 (spent_same a.0 b.0.1 _ (nodes_in b.0.0) (omega arith) shorter.spent) in
          behind_part depth level sound n w budget a.0 code rest e b.0 is_zero paid (IsBytes-rest code rest fits) b.1
          (λ rest_fits. elements_misread depth level sound mis fuel n w (behind budget b.0.1) b.0.2 e (omega (arith, ap length shorter.takes.parts, length-append shorter.text b.0.2)) rest_fits
          (inr (g.0, g.1, subst (λ (y : Budget). Ends (level.item g.0.0.constructor) n w y g.0.2 e) (sym kept) known)))
      | inr d ↦
          let a = bind_ok (allowed (place w (code ∷ rest)) level.holds (find_code code)) (λ c. Ok (record { descriptors = none; constructor = c }, budget, rest)) x d.1 in
          let ok = allowed_ok (place w (code ∷ rest)) level.holds (find_code code) a.0 a.1 in
          let may : MayStand a.0 depth = λ is. sound.holds (ok.1 is) in
          let same = ok_is (record { descriptors = none; constructor = a.0 }, budget, rest) x a.2 in
          let known : EndsItems level n w budget (record { descriptors = none; constructor = a.0 }, budget, rest) e = subst (λ (y : Head × Budget × List ℕ). EndsItems level n w budget y e)
          (sym same) items in
          bad_items a.0 ok.0 may (items_misread depth level sound mis a.0 code ok.0 may n w budget rest e (IsBytes-rest code rest fits)
          (subst (λ (y : Budget). Ends (level.item a.0) n w y rest e) (behind_same budget) known))
    ]
  where
    after_charge_behind : (budget left mid last : Budget) (n : ℕ) → left ≡ spend budget 1 → Spent left n mid → behind (behind budget mid) last ≡ behind budget last
    after_charge_behind None left mid last n is s = refl
    after_charge_behind (Some b) left mid last n is s =
        let t : Spent (Some (b - 1)) n mid = subst (λ (l : Budget). Spent l n mid) is s in
        ap (λ (m : Budget). behind m last) t.1

-- ---- blocks

-- a size that is below the least, or that the bytes don't hold
block_err : (w : Window) (s : SizeWidth) (least : ℕ) (bytes : List ℕ) (e : ReadFault) → block_at w s least bytes ≡ Err e
    → (EndsInSized s least bytes × (w.short ≡ e)) ⊎ (IsBelow s least bytes × (BadSize (place w bytes) ≡ e))
unfolding block_at
block_err w s least bytes e h =
    elim (bind_err (big_at w (size_len s) bytes) (λ size. cond (ltb size.0 least) (Err (BadSize (place w bytes))) (octets_at w size.0 size.1 >>= λ parts. Ok (block_of w bytes parts))) e h) [
      | inl short ↦ let b = big_short w (size_len s) bytes e short in inl (inl b.0, b.1)
      | inr a ↦
          let g = guard_ok (ltb (length bytes) (size_len s)) w.short (big_number (size_len s) bytes, drop (size_len s) bytes) a.0 a.1 in
          let n : big_number (size_len s) bytes ≡ a.0.0 = ap (λ (p : ℕ × List ℕ). p.0) g.1 in
          let rest : drop (size_len s) bytes ≡ a.0.1 = ap (λ (p : ℕ × List ℕ). p.1) g.1 in
          let held : size_len s ≤ length bytes = ltb-false _ _ g.0 in
          elim (either_way (ltb a.0.0 least) (Err (BadSize (place w bytes))) (octets_at w a.0.0 a.0.1 >>= λ parts. Ok (block_of w bytes parts)) (Err e) a.2) [
            | inl below ↦ inr ((held, omega (arith, n, ltb-true a.0.0 least below.0)), fault_same (BadSize (place w bytes)) e below.1)
            | inr enough ↦
                let o = octets_short w a.0.0 a.0.1 e (then_ok_err (octets_at w a.0.0 a.0.1) (λ parts. block_of w bytes parts) e enough.1) in
                inl (inr (omega (arith, n, ltb-false a.0.0 least enough.0), omega (arith, n, o.0, ap length rest, length-drop (size_len s) bytes)), o.1)
          ]
    ]
  where
    fault_same : (d e : ReadFault) → ◌≡◌ {A = Result Block ReadFault} (Err d) (Err e) → d ≡ e
    fault_same d e h = cc

-- the window within a block
pub block_window : (w : Window) (s : SizeWidth) (least : ℕ) (bytes : List ℕ) (block : Block) → block_at w s least bytes ≡ Ok block
    → block.within ≡ record { short = BadSize (place w bytes); end = place w block.behind }
unfolding block_at
block_window w s least bytes block h =
    let a = bind_ok (big_at w (size_len s) bytes) (λ size. cond (ltb size.0 least) (Err (BadSize (place w bytes))) (octets_at w size.0 size.1 >>= λ parts. Ok (block_of w bytes parts))) block h in
    let g = tested (ltb a.0.0 least) (BadSize (place w bytes)) (octets_at w a.0.0 a.0.1 >>= λ parts. Ok (block_of w bytes parts)) a.2 in
    let b = bind_ok (octets_at w a.0.0 a.0.1) (λ parts. Ok (block_of w bytes parts)) block g in
    let same : block_of w bytes b.0 ≡ block = ok_is (block_of w bytes b.0) block b.2 in
    subst (λ (k : Block). k.within ≡ record { short = BadSize (place w bytes); end = place w k.behind }) same refl
  where
    tested : (b : Bool) (fault : ReadFault) (r : Result Block ReadFault) → cond b (Err fault) r ≡ Ok block → r ≡ Ok block
    tested true fault r h = absurd cc
    tested false fault r h = h

-- the count of a block that was read, and its parts
block_parts : (w : Window) (s : SizeWidth) (least : ℕ) (paired : Bool) (bytes : List ℕ) (block : Block) (count : ℕ × List ℕ) → IsBytes bytes → block_at w s least bytes ≡ Ok block →
    big_at block.within (size_len s) block.body ≡ Ok count
    → IsBlockOf w s count.0 count.1 bytes block.within (place block.within block.body) × (least ≤ size_len s + length count.1) × IsBytes count.1
block_parts w s least paired bytes block count fits h k =
    let b = block_sound w s least bytes block fits h in
    let t = big_sound block.within (size_len s) block.body count b.fits k in
    let parts : block.body ≡ big_bytes (size_len s) count.0 ++ (count.1 ++ []) = t.0.parts ∙ ap (λ (p : List ℕ). big_bytes (size_len s) count.0 ++ p) (sym (append-nil count.1)) in
    let len : length block.body ≡ size_len s + length count.1 =
    ap length t.0.parts ∙ length-append (big_bytes (size_len s) count.0) count.1 ∙ ap (λ (n : ℕ). n + length count.1) (length-bytes_high_first (size_len s) count.0) in (
      record {
        text = big_bytes (size_len s) (length block.body) ++ block.body;
        others = block.behind;
        whole = b.takes.parts;
        spelled = block_text s least count.0 bytes block count.1 [] b t.1 parts refl;
        inner = block_window w s least bytes block h;
        count_place = ap (λ (n : ℕ). block.within.end - n) len;
      },
      omega (arith, len, b.some),
      t.0.rest_fits,
    )

-- what a count that isn't read in a block that was read shows
count_err : (w : Window) (s : SizeWidth) (paired : Bool) (bytes : List ℕ) (e : ReadFault) → size_len s ≤ length bytes → count_at w s paired bytes ≡ Err e
    → (paired ≡ true) × ((count : ℕ × List ℕ) × (big_at w (size_len s) bytes ≡ Ok count) × (count.0 % 2 ≡ 1)) × (BadCount (place w bytes) ≡ e)
unfolding count_at
count_err w s paired bytes e le h =
    elim (bind_err (big_at w (size_len s) bytes) (λ count. cond (paired && eqb (count.0 % 2) 1) (Err (BadCount (place w bytes))) (Ok count)) e h) [
      | inl short ↦ let b = big_short w (size_len s) bytes e short in absurd (omega (arith, b.0))
      | inr a ↦
          let g = guard_err (paired && eqb (a.0.0 % 2) 1) (BadCount (place w bytes)) e a.0 a.2 in
          let both = and_parts paired (eqb (a.0.0 % 2) 1) g.0 in
          (both.0, (a.0, a.1, eqb-true (a.0.0 % 2) 1 both.1), g.1)
    ]

count_ok : (w : Window) (s : SizeWidth) (paired : Bool) (bytes : List ℕ) (count : ℕ × List ℕ) → count_at w s paired bytes ≡ Ok count
    → (big_at w (size_len s) bytes ≡ Ok count) × (paired ≡ true → count.0 % 2 ≡ 0)
unfolding count_at
count_ok w s paired bytes count h =
    let a = bind_ok (big_at w (size_len s) bytes) (λ n. cond (paired && eqb (n.0 % 2) 1) (Err (BadCount (place w bytes))) (Ok n)) count h in
    let g = guard_ok (paired && eqb (a.0.0 % 2) 1) (BadCount (place w bytes)) a.0 count a.2 in
    (a.1 ∙ ap (λ (x : ℕ × List ℕ). Ok x) g.1, λ is. subst (λ (x : ℕ × List ℕ). x.0 % 2 ≡ 0) g.1 (even a.0.0 (subst (λ (b : Bool). (b && eqb (a.0.0 % 2) 1) ≡ false) is g.0)))
  where
    even : (n : ℕ) → (true && eqb (n % 2) 1) ≡ false → n % 2 ≡ 0
    even n h = let ne = eqb-false (n % 2) 1 h in omega arith

-- ---- containers

-- the steps that lists, maps and arrays have in common, and what comes behind them
abbrev pub opened : Window → SizeWidth → ℕ → Bool → Budget → List ℕ → (Block → ℕ × List ℕ → Budget → Part Tree) → Part Tree
opened w s least paired budget bytes parts = do
  block ← block_at w s least bytes
  count ← count_at block.within s paired block.body
  left ← charge budget count.0 (place block.within block.body)
  parts block count left

-- a container's constructor, with the least size of its block, and whether its count is even
record Opens (c : Constructor) (s : SizeWidth) (least : ℕ) (paired : Bool) : Type 0 where
  ends : (bytes : List ℕ) → EndsInSized s least bytes → EndsInside c bytes
  below : (bytes : List ℕ) → IsBelow s least bytes → IsTooSmall c bytes
  odd : paired ≡ true → c ≡ MapIn s
  holder : (count : ℕ) (parts : List ℕ) → (paired ≡ true → count % 2 ≡ 0) → least ≤ size_len s + length parts → IsHolder c s count parts
  some : size_len s ≤ least

opened_misread : (c : Constructor) (s : SizeWidth) (least : ℕ) (paired : Bool) → Opens c s least paired → (depth : ℕ) (w : Window) (budget : Budget) (bytes : List ℕ) (e : ReadFault)
    (parts : Block → ℕ × List ℕ → Budget → Part Tree) → IsBytes bytes
    → ((block : Block) (count : ℕ × List ℕ) → IsBytes count.1 → parts block count (spend budget count.0) ≡ Err e → Misread (parts_of c count.0) depth block.within (spend budget count.0) count.1 e)
    → opened w s least paired budget bytes parts ≡ Err e → Misread (DataOf c) (suc depth) w budget bytes e
opened_misread c s least paired is depth w budget bytes e parts fits bad h =
    elim (bind_err (block_at w s least bytes) (λ block. count_at block.within s paired block.body >>= λ count. charge budget count.0
    (place block.within block.body) >>= λ left. parts block count left) e h) [
      | inl no_block ↦ elim (block_err w s least bytes e no_block) [
        | inl short ↦ subst (λ (d : ReadFault). Misread (DataOf c) (suc depth) w budget bytes d) short.1 (ends_inside (is.ends bytes short.0))
        | inr small_size ↦ subst (λ (d : ReadFault). Misread (DataOf c) (suc depth) w budget bytes d) small_size.1 (too_small (is.below bytes small_size.0))
      ]
      | inr b ↦
          let block = block_sound w s least bytes b.0 fits b.1 in
          elim (bind_err (count_at b.0.within s paired b.0.body) (λ count. charge budget count.0 (place b.0.within b.0.body) >>= λ left. parts b.0 count left) e b.2) [
            | inl no_count ↦
                let k = count_err b.0.within s paired b.0.body e (omega (arith, block.some, is.some)) no_count in
                let p = block_parts w s least paired bytes b.0 k.1.0 fits b.1 k.1.1 in
                subst (λ (x : Constructor). Misread (DataOf x) (suc depth) w budget bytes e) (sym (is.odd k.0))
                (subst (λ (d : ReadFault). Misread (DataOf (MapIn s)) (suc depth) w budget bytes d) k.2 (odd_count k.1.0.0 k.1.0.1 b.0.within (place b.0.within b.0.body) p.0 k.1.2))
            | inr n ↦
                let k = count_ok b.0.within s paired b.0.body n.0 n.1 in
                let p = block_parts w s least paired bytes b.0 n.0 fits b.1 k.0 in
                let holder = is.holder n.0.0 n.0.1 k.1 p.1 in
                elim (bind_err (charge budget n.0.0 (place b.0.within b.0.body)) (λ left. parts b.0 n.0 left) e n.2) [
                  | inl few ↦
                      let c_err = charge_err budget n.0.0 (place b.0.within b.0.body) e few in
                      subst (λ (d : ReadFault). Misread (DataOf c) (suc depth) w budget bytes d) c_err.1 (too_many_parts s n.0.0 n.0.1 b.0.within (place b.0.within b.0.body) holder p.0 c_err.0)
                  | inr left ↦
                      let paid = charge_ok budget left.0 n.0.0 (place b.0.within b.0.body) left.1 in
                      bad_parts s n.0.0 n.0.1 b.0.within (place b.0.within b.0.body) holder p.0 paid.1
                      (bad b.0 n.0 p.2 (ap (λ (l : Budget). parts b.0 n.0 l) (sym paid.0) ∙ left.2))
                ]
          ]
    ]

ended_err : {A : Type 0} (w : Window) (rest : List ℕ) (x : A) (e : ReadFault) → ended w rest x ≡ Err e → IsLeft w rest e
ended_err w [] x e h = absurd cc
ended_err w (b ∷ rest) x e h = (b, rest, refl, cc)

ends : (one : Window → Budget → List ℕ → Part Tree) (n : ℕ) (w : Window) (budget : Budget) (bytes : List ℕ) (made : Trees × Budget × List ℕ → Tree × Budget × List ℕ) (e : ReadFault)
    → (trees_at one n w budget bytes >>= λ items. ended w items.2 (made items)) ≡ Err e → Ends one n w budget bytes e
ends one n w budget bytes made e h =
    elim (bind_err (trees_at one n w budget bytes) (λ items. ended w items.2 (made items)) e h) [
      | inl bad ↦ inl bad
      | inr x ↦ inr (x.0, x.1, ended_err w x.0.2 (made x.0) e x.2)
    ]

list_misread : (depth : ℕ) (level : Level) → IsSoundLevel depth level → IsMisreadLevel depth level → (s : SizeWidth) (w : Window) (budget : Budget) (bytes : List ℕ) (e : ReadFault) → IsBytes bytes
    → list_at level w s budget bytes ≡ Err e → Misread (DataOf (ListIn s)) (suc depth) w budget bytes e
unfolding list_at
list_misread depth level sound mis s w budget bytes e fits h =
    opened_misread (ListIn s) s (size_len s) false
    (record { ends = λ b x. x; below = λ b x. x; odd = λ x. absurd (no x); holder = λ n b x y. refl; some = omega arith })
    depth w budget bytes e (λ block count left. trees_at (λ within. level.value within 0) count.0 block.within left count.1 >>= λ items. ended block.within items.2
    (ListOf items.0, items.1, block.behind)) fits
    (λ block count parts_fit bad. values_misread depth level sound mis count.0 block.within (spend budget count.0) count.1 e parts_fit
    (ends (λ within. level.value within 0) count.0 block.within (spend budget count.0) count.1 (λ items. (ListOf items.0, items.1, block.behind)) e bad)) h
  where
    no : false ≡ true → ⊥
    no h = cc

map_misread : (depth : ℕ) (level : Level) → IsSoundLevel depth level → IsMisreadLevel depth level → (s : SizeWidth) (w : Window) (budget : Budget) (bytes : List ℕ) (e : ReadFault) → IsBytes bytes
    → map_at level w s budget bytes ≡ Err e → Misread (DataOf (MapIn s)) (suc depth) w budget bytes e
unfolding map_at
map_misread depth level sound mis s w budget bytes e fits h =
    opened_misread (MapIn s) s (size_len s) true
    (record { ends = λ b x. x; below = λ b x. x; odd = λ x. refl; holder = λ n b even y. (refl, even refl); some = omega arith })
    depth w budget bytes e (λ block count left. pairs_at level none (count.0 / 2) block.within left count.1 >>= λ entries. ended block.within entries.2 (MapOf entries.0, entries.1, block.behind)) fits
    (λ block count parts_fit bad. entries_misread depth level sound mis (count.0 / 2) none block.within (spend budget count.0) count.1 e tt parts_fit
    (ends_pairs (count.0 / 2) block.within (spend budget count.0) count.1 (λ entries. (MapOf entries.0, entries.1, block.behind)) bad)) h
  where
    ends_pairs : (n : ℕ) (within : Window) (left : Budget) (parts : List ℕ) (made : Pairs × Budget × List ℕ → Tree × Budget × List ℕ)
        → (pairs_at level none n within left parts >>= λ entries. ended within entries.2 (made entries)) ≡ Err e → EndsPairs level none n within left parts e
    ends_pairs n within left parts made h =
        elim (bind_err (pairs_at level none n within left parts) (λ entries. ended within entries.2 (made entries)) e h) [
          | inl bad ↦ inl bad
          | inr x ↦ inr (x.0, x.1, ended_err within x.0.2 (made x.0) e x.2)
        ]

array_misread : (depth : ℕ) (level : Level) → IsSoundLevel depth level → IsMisreadLevel depth level → (s : SizeWidth) (w : Window) (budget : Budget) (bytes : List ℕ) (e : ReadFault) → IsBytes bytes
    → array_at level w s budget bytes ≡ Err e → Misread (DataOf (ArrayIn s)) (suc depth) w budget bytes e
unfolding array_at
array_misread depth level sound mis s w budget bytes e fits h =
    opened_misread (ArrayIn s) s (size_len s + 1) false
    (record { ends = λ b x. x; below = λ b x. x; odd = λ x. absurd (no x); holder = λ n b x y. (refl, omega arith); some = omega arith })
    depth w budget bytes e (λ block count left. head_at (length count.1) level block.within left count.1 >>= λ head. behind_head block count left head) fits
    (λ block count parts_fit bad. elements_misread depth level sound mis (length count.1) count.0 block.within (spend budget count.0) count.1 e (omega arith) parts_fit
    (ends_elements block count bad)) h
  where
    no : false ≡ true → ⊥
    no h = cc

    behind_head : Block → ℕ × List ℕ → Budget → Head × Budget × List ℕ → Part Tree
    behind_head block count left head =
        trees_at (level.item head.0.constructor) count.0 block.within (behind budget head.1) head.2 >>= λ items. ended block.within items.2
        (ArrayOf head.0.descriptors (kind_of head.0.constructor) items.0, items.1, block.behind)

    ends_elements : (block : Block) (count : ℕ × List ℕ) → (head_at (length count.1) level block.within (spend budget count.0) count.1 >>= λ head. behind_head block count
        (spend budget count.0) head) ≡ Err e
        → EndsElements (length count.1) level count.0 block.within (spend budget count.0) count.1 e
    ends_elements block count h =
        let left = spend budget count.0 in
        elim (bind_err (head_at (length count.1) level block.within left count.1) (λ head. behind_head block count left head) e h) [
          | inl bad ↦ inl bad
          | inr x ↦
              let one = level.item x.0.0.constructor in
              let read = ends one count.0 block.within (behind budget x.0.1) x.0.2 (λ items. (ArrayOf x.0.0.descriptors (kind_of x.0.0.constructor) items.0, items.1, block.behind)) e x.2 in
              inr (x.0, x.1, subst (λ (b : Budget). Ends one count.0 block.within b x.0.2 e) (sym (behind_spend budget count.0 x.0.1)) read)
        ]

-- ---- every level

-- what is inside, where depth is left, is misread where reading fails
abbrev AllMisread : ℕ → Option Level → Type 0
AllMisread depth inner = (level : Level) → inner ≡ Some level → (d : ℕ) × (suc d ≡ depth) × IsSoundLevel d level × IsMisreadLevel d level

uncharged_err : {A : Type 0} (budget : Budget) (read : Read A) (tree : A → Tree) (e : ReadFault) → uncharged budget read tree ≡ Err e → read ≡ Err e
uncharged_err budget (Ok y) tree e h = absurd cc
uncharged_err budget (Err d) tree e h = cc

item_misread : (depth : ℕ) (inner : Option Level) → AllMisread depth inner → (inner ≡ None → depth ≡ 0) → (c : Constructor) (w : Window) (budget : Budget) (bytes : List ℕ) (e : ReadFault) →
    MayStand c depth → IsBytes bytes
    → item_by inner c w budget bytes ≡ Err e → Misread (DataOf c) depth w budget bytes e
unfolding item_by
item_misread depth inner all none_left (Fixed k f) w budget bytes e may fits h = number_misread k f depth w budget bytes e fits (uncharged_err budget (number_at w k f bytes) (Number k) e h)
item_misread depth inner all none_left (Variable k s) w budget bytes e may fits h = sized_misread k s depth w budget bytes e fits (uncharged_err budget (sized_at w k s bytes) (Octets k) e h)
item_misread depth inner all none_left EmptyList w budget bytes e may fits h = absurd cc
item_misread depth None all none_left (ListIn s) w budget bytes e may fits h = absurd (omega (arith, may refl, none_left refl))
item_misread depth None all none_left (MapIn s) w budget bytes e may fits h = absurd (omega (arith, may refl, none_left refl))
item_misread depth None all none_left (ArrayIn s) w budget bytes e may fits h = absurd (omega (arith, may refl, none_left refl))
item_misread depth (Some level) all none_left (ListIn s) w budget bytes e may fits h =
    let l = all level refl in subst (λ (d : ℕ). Misread (DataOf (ListIn s)) d w budget bytes e) l.1 (list_misread l.0 level l.2 l.3 s w budget bytes e fits h)
item_misread depth (Some level) all none_left (MapIn s) w budget bytes e may fits h =
    let l = all level refl in subst (λ (d : ℕ). Misread (DataOf (MapIn s)) d w budget bytes e) l.1 (map_misread l.0 level l.2 l.3 s w budget bytes e fits h)
item_misread depth (Some level) all none_left (ArrayIn s) w budget bytes e may fits h =
    let l = all level refl in subst (λ (d : ℕ). Misread (DataOf (ArrayIn s)) d w budget bytes e) l.1 (array_misread l.0 level l.2 l.3 s w budget bytes e fits h)

fault_is : (d e : ReadFault) → ◌≡◌ {A = Part Tree} (Err d) (Err e) → d ≡ e
fault_is d e h = cc

described_misread : (depth : ℕ) (inner : Option Level) → AllMisread depth inner → (inner ≡ None → depth ≡ 0) → (due : ℕ) (w : Window) (budget : Budget) (bytes : List ℕ) (e : ReadFault) → IsBytes bytes
    → described_at inner (place w (0 ∷ bytes)) w due budget bytes ≡ Err e → Misread (AValue due) depth w budget (0 ∷ bytes) e
unfolding described_at
described_misread depth None all none_left due w budget bytes e fits h =
    subst (λ (d : ℕ). Misread (AValue due) d w budget (0 ∷ bytes) e) (sym (none_left refl))
    (subst (λ (d : ReadFault). Misread (AValue due) 0 w budget (0 ∷ bytes) d) (fault_is (TooDeep (place w (0 ∷ bytes))) e h) too_deep_described)
described_misread depth (Some level) all none_left due w budget bytes e fits h =
    let l = all level refl in
    let at = place w (0 ∷ bytes) in
    subst (λ (d : ℕ). Misread (AValue due) d w budget (0 ∷ bytes) e) l.1 (
    elim (bind_err (charge budget (due + 2) at) (λ left. level.value w 0 left bytes >>= λ descriptor. level.value w 0 (behind budget descriptor.1) descriptor.2 >>= λ value. Ok
    (Described descriptor.0 value.0, value.1, value.2)) e h) [
      | inl few ↦ let c = charge_err budget (due + 2) at e few in subst (λ (d : ReadFault). Misread (AValue due) (suc l.0) w budget (0 ∷ bytes) d) c.1 (too_many_described c.0)
      | inr a ↦
          let paid = charge_ok budget a.0 (due + 2) at a.1 in
          elim (bind_err (level.value w 0 a.0 bytes) (λ descriptor. level.value w 0 (behind budget descriptor.1) descriptor.2 >>= λ value. Ok (Described descriptor.0 value.0, value.1, value.2)) e
          a.2) [
            | inl bad ↦ bad_descriptor paid.1 (subst (λ (b : Budget). Misread (AValue 0) l.0 w b bytes e) paid.0 (l.3.value 0 w a.0 bytes e fits bad))
            | inr d ↦
                let r = l.2.value 0 w a.0 bytes d.0 fits d.1 in
                let p = part_of Spells l.0 a.0 bytes d.0 r in
                let bad = l.3.value 0 w (behind budget d.0.1) d.0.2 e r.takes.rest_fits (then_ok_err (level.value w 0 (behind budget d.0.1) d.0.2)
                (λ value. (Described d.0.0 value.0, value.1, value.2)) e d.2) in
                let last : behind budget d.0.1 ≡ spend (spend budget (due + 2)) (nodes_in d.0.0) =
                sym (behind_spend budget (due + 2) d.0.1) ∙ ap (λ (b : Budget). behind b d.0.1) (sym paid.0) ∙ p.1 ∙ ap (λ (b : Budget). spend b (nodes_in d.0.0)) paid.0 in
                bad_described d.0.0 r.text d.0.2 paid.1 r.takes.parts r.spelled (subst (λ (b : Budget). IsWithin l.0 b d.0.0) paid.0 p.0)
                (subst (λ (b : Budget). Misread (AValue 0) l.0 w b d.0.2 e) last bad)
          ]
    ])

value_by_misread : (depth : ℕ) (inner : Option Level) → AllMisread depth inner → (inner ≡ None → depth ≡ 0) → (due : ℕ) (w : Window) (budget : Budget) (bytes : List ℕ) (e : ReadFault) → IsBytes bytes
    → value_by inner w due budget bytes ≡ Err e → Misread (AValue due) depth w budget bytes e
unfolding value_by
value_by_misread depth inner all none_left due w budget [] e fits h = subst (λ (d : ReadFault). Misread (AValue due) depth w budget [] d) (fault_is w.short e h) (nothing tt)
value_by_misread depth inner all none_left due w budget (code ∷ rest) e fits h =
    let at = place w (code ∷ rest) in
    elim (either_way (eqb code 0) (described_at inner at w due budget rest) (allowed at (is_some inner) (find_code code) >>= λ c. charge budget due at >>= λ left. item_by inner c w left rest)
    (Err e) h) [
      | inl d ↦
          let is_zero : code ≡ 0 = eqb-true code 0 d.0 in
          subst (λ (k : ℕ). Misread (AValue due) depth w budget (k ∷ rest) e) (sym is_zero)
          (described_misread depth inner all none_left due w budget rest e (IsBytes-rest code rest fits) d.1)
      | inr d ↦
          elim (bind_err (allowed at (is_some inner) (find_code code)) (λ c. charge budget due at >>= λ left. item_by inner c w left rest) e d.1) [
            | inl no_code ↦ code_misread (AValue due) depth (is_some inner) w budget code rest e tt (λ none_is. none_left (is_none inner none_is)) (eqb-false code 0 d.0) no_code
            | inr a ↦
                let ok = allowed_ok at (is_some inner) (find_code code) a.0 a.1 in
                let may : MayStand a.0 depth = λ is. let s = some_level inner (ok.1 is) in let l = all s.0 s.1 in omega (arith, l.1) in
                elim (bind_err (charge budget due at) (λ left. item_by inner a.0 w left rest) e a.2) [
                  | inl few ↦ let c = charge_err budget due at e few in subst (λ (f : ReadFault). Misread (AValue due) depth w budget (code ∷ rest) f) c.1 (too_many a.0 ok.0 may c.0)
                  | inr left ↦
                      let paid = charge_ok budget left.0 due at left.1 in
                      bad_data a.0 ok.0 may paid.1 (subst (λ (b : Budget). Misread (DataOf a.0) depth w b rest e) paid.0
                      (item_misread depth inner all none_left a.0 w left.0 rest e may (IsBytes-rest code rest fits) left.2))
                ]
          ]
    ]
  where
    is_none : (o : Option Level) → is_some o ≡ false → o ≡ None
    is_none None e = refl
    is_none (Some level) e = absurd cc

    some_level : (o : Option Level) → is_some o ≡ true → (level : Level) × (o ≡ Some level)
    some_level None e = absurd cc
    some_level (Some level) e = (level, refl)

misread_level : (depth : ℕ) (inner : Option Level) → AllMisread depth inner → (inner ≡ None → depth ≡ 0) → IsMisreadLevel depth (level_by inner)
misread_level depth inner all none_left = record {
  value = λ due w budget bytes e fits h. value_by_misread depth inner all none_left due w budget bytes e fits h;
  item = λ c w budget bytes e may fits h. item_misread depth inner all none_left c w budget bytes e may fits h;
  none_left = λ is. none_left (is_none inner is);
}
  where
    is_none : (o : Option Level) → is_some o ≡ false → o ≡ None
    is_none None e = refl
    is_none (Some level) e = absurd cc

none_inside : (depth : ℕ) → inside depth ≡ None → depth ≡ 0
unfolding inside
none_inside zero e = refl
none_inside (suc depth) e = absurd cc

inside_misread : (depth : ℕ) → AllMisread depth (inside depth)
unfolding inside
inside_misread zero level e = absurd cc
inside_misread (suc depth) level e =
    let below = inside_sound (suc depth) level e in
    let same : depth ≡ below.0 = omega (arith, below.1) in (
      depth,
      refl,
      subst (λ (d : ℕ). IsSoundLevel d level) (sym same) below.2,
      subst (λ (l : Level). IsMisreadLevel depth l) (some_same (level_by (inside depth)) level e) (misread_level depth (inside depth) (inside_misread depth) (none_inside depth)),
    )
  where
    some_same : (a b : Level) → Some a ≡ Some b → a ≡ b
    some_same a b e = cc

-- where no value is read, the bytes are misread so
pub value_misread : (depth : ℕ) (w : Window) (due : ℕ) (budget : Budget) (bytes : List ℕ) (e : ReadFault) → IsBytes bytes → value_by (inside depth) w due budget bytes ≡ Err e
    → Misread (AValue due) depth w budget bytes e
value_misread depth w due budget bytes e fits h = value_by_misread depth (inside depth) (inside_misread depth) (none_inside depth) due w budget bytes e fits h

-- ---- the calls

-- a fault of a skip is one that the bytes have
pub skip_misread : (depth : ℕ) (bytes : List ℕ) (r : Result ℕ ReadFault) → IsBytes bytes → Is (λ n. drop n bytes) r (after (value_of depth None bytes))
    → IfErr r (λ e. Misread (AValue 1) depth (outermost bytes) None bytes e)
skip_misread depth bytes (Ok n) fits is = tt
skip_misread depth bytes (Err e) fits is = value_misread depth (outermost bytes) 1 None bytes e fits (then_ok_err (value_of depth None bytes) (λ x. x.2) e is)

-- so is one of a call that keeps the value
pub decode_misread : {V : Type 0} (view : V → Tree) (depth nodes : ℕ) (bytes : List ℕ) (r : Result (V × ℕ) ReadFault) → IsBytes bytes →
    Gives (λ x. (view x.0, drop x.1 bytes)) r (decoded depth nodes bytes)
    → IfErr r (λ e. (e ≡ NoMemory) ⊎ Misread (AValue 1) depth (outermost bytes) (Some nodes) bytes e)
decode_misread view depth nodes bytes (Ok x) fits is = tt
decode_misread view depth nodes bytes (Err e) fits (inl refused) = inl refused
decode_misread view depth nodes bytes (Err e) fits (inr is) = inr (value_misread depth (outermost bytes) 1 (Some nodes) bytes e fits
    (then_ok_err (value_of depth (Some nodes) bytes) (λ x. (x.0, x.2)) e is))
