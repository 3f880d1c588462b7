-- What follows where no other delivery has an id.
use Rattle.std.proofs.Common.{arith, ◌≡◌, ℕ, ◌+◌, ◌*◌, ◌<◌, ◌≤◌, ◌^◌, List, [], ◌∷◌, ◌++◌, length, take, drop, set, get_or, map, Option, Some, None, refl, sym, ap, subst, ◌∙◌}
use Rattle.std.specs.Prelude.{count_by, option_map, option_to_list, find, filter, slice_get, Bool, true, false, cond, not, ◌||◌}
use Rattle.std.specs.List.{list_any}
use Rattle.std.specs.Option.{option_or}
use Rattle.std.proofs.lemmas.Bool.{eqb-true, and_right, or_left, or_right}
use Rattle.std.proofs.lemmas.List.{map-append, take-append-drop, drop_more, drop-set-lt}
use Rattle.std.proofs.lemmas.List.Folds.{find-append, list_any-append}
use Rattle.std.proofs.lemmas.List.Sums.{sum_by-append, sum_by-cons}
use Rattle.std.proofs.lemmas.Option.{slice_get_within, get_or_from_slice_get}
use Rattle.slab.specs.Slab.{Slab, slab_len}
use Rattle.amqp_link.specs.declared.open_delivery.OpenDelivery.{OpenDelivery}
use Rattle.amqp_link.specs.declared.open_delivery.Settling.{Settling}
use Rattle.amqp_link.specs.declared.open_delivery.Settler.{Settler}
use Rattle.amqp_link.specs.declared.open_delivery.Settler.TheVariants.{Receiver, SenderOfHandedUp, SenderOfUntaken}
use Rattle.amqp_link.specs.Links.{Delivery, OpenSet, set_bytes, has_id, is_first, covers, is_covered, tells, IsOnce}
use Rattle.amqp_link.specs.Keeping.{at_key, keys_of, set_of_keys, AreKeys, ends, ends_by, turned, turned_by, counts, counts_by, settled_list}
use Rattle.amqp_link.specs.Keeping.{SameDeliveries, SameKeys, Settles}
use Rattle.amqp_link.proofs.KeptPlaces.{ComesAt, PlacedAt, same_keys}
use Rattle.amqp_link.proofs.PlaceKeys.{keys_append}
use Rattle.amqp_link.proofs.Ranges.{covers_itself}
use Rattle.amqp_link.proofs.Settles.{joined, further}

-- Tests and counts. ---------------------------------------------------------------------------------------------

pub no_true : false ≡ true → ⊥
no_true e = cc

or_none : (a b : Bool) → b ≡ false → (a || b) ≡ a
or_none true b e = refl
or_none false b e = e

pub count_cons : (test : Delivery → Bool) (d : Delivery) (ds : List Delivery) → count_by test (d ∷ ds) ≡ cond (test d) 1 0 + count_by test ds
count_cons test d ds = sum_by-cons (λ x. cond (test x) 1 0) d ds

pub count_append : (test : Delivery → Bool) (ds es : List Delivery) → count_by test (ds ++ es) ≡ count_by test ds + count_by test es
count_append test ds es = sum_by-append (λ x. cond (test x) 1 0) ds es

pub count_one : (test : Delivery → Bool) (d : Delivery) (ds : List Delivery) → test d ≡ true → count_by test (d ∷ ds) ≡ 1 + count_by test ds
count_one test d ds f = count_cons test d ds ∙ ap (λ (b : Bool). cond b 1 0 + count_by test ds) f

count_skip : (test : Delivery → Bool) (d : Delivery) (ds : List Delivery) → test d ≡ false → count_by test (d ∷ ds) ≡ 0 + count_by test ds
count_skip test d ds f = count_cons test d ds ∙ ap (λ (b : Bool). cond b 1 0 + count_by test ds) f

-- no first one, and none behind it
none_first : (test : Delivery → Bool) (d : Delivery) (ds : List Delivery) → count_by test (d ∷ ds) ≡ 0 → (test d ≡ false) × (count_by test ds ≡ 0)
none_first test d ds e = by (test d) refl
  where
    by : (b : Bool) → test d ≡ b → (test d ≡ false) × (count_by test ds ≡ 0)
    by true f = absurd (omega (arith, e, count_one test d ds f))
    by false f = (f, omega (arith, e, count_skip test d ds f))

-- where at most one has it, those around one that has it don't
pub around : (test : Delivery → Bool) (ds : List Delivery) (d : Delivery) (es : List Delivery) → count_by test (ds ++ d ∷ es) ≤ 1 → test d ≡ true → (count_by test ds ≡ 0) × (count_by test es ≡ 0)
around test ds d es once e =
    let two = count_append test ds (d ∷ es) in
    let one = count_one test d es e in
    (omega (arith, once, two, one), omega (arith, once, two, one))

-- of the three parts at most one has it
pub once_split : (first last : ℕ) (o : OpenSet) → IsOnce first last o →
    count_by (is_covered first last) o.awaiting + count_by (is_covered first last) o.ready + count_by (is_covered first last) (option_to_list o.unfinished) ≤ 1
once_split first last o once =
    omega (arith, once, count_append (is_covered first last) (o.awaiting ++ o.ready) (option_to_list o.unfinished), count_append (is_covered first last) o.awaiting o.ready)

-- Who has an id is covered by it alone.
pub id_covered : (id : ℕ) (d : Delivery) → id < 2 ^ 32 → has_id id d ≡ true → is_covered id id d ≡ true
id_covered id d low e = subst (λ (x : ℕ). covers id id x ≡ true) (sym (eqb-true d.delivery_id id e)) (covers_itself id low)

id_uncovered : (id : ℕ) (d : Delivery) → id < 2 ^ 32 → is_covered id id d ≡ false → has_id id d ≡ false
id_uncovered id d low e = by (has_id id d) refl
  where
    by : (b : Bool) → has_id id d ≡ b → has_id id d ≡ false
    by true f = absurd (no_true (sym e ∙ id_covered id d low f))
    by false f = f

pub none_found : (id : ℕ) (ds : List Delivery) → id < 2 ^ 32 → count_by (is_covered id id) ds ≡ 0 → find (has_id id) ds ≡ None
none_found id [] low e = refl
none_found id (d ∷ ds) low e =
    let n = none_first (is_covered id id) d ds e in ap (λ (b : Bool). cond b (Some d) (find (has_id id) ds)) (id_uncovered id d low n.0) ∙ none_found id ds low n.1

-- Settles. --------------------------------------------------------------------------------------------------------

-- what a settle doesn't speak of stays as it is
unnamed_stays : (s : Settling) (d : Delivery) → is_covered s.ids.first s.ids.last d ≡ false → (ends s d ≡ false) × (turned s d ≡ d) × (counts s d ≡ false)
unnamed_stays s d e = by s.settler
  where
    by : (who : Settler) → (ends_by who s.ids.first s.ids.last d ≡ false) × (turned_by who s.ids.first s.ids.last d ≡ d) × (counts_by who s.ids.first s.ids.last d ≡ false)
    by Receiver = (
      and_right (is_first d.rcv_settle_mode) (is_covered s.ids.first s.ids.last d) e,
      ap (λ (b : Bool). record d { told = b }) (or_none d.told (tells s.ids.first s.ids.last d) (and_right (not (is_first d.rcv_settle_mode)) (is_covered s.ids.first s.ids.last d) e)),
      e,
    )
    by SenderOfHandedUp = (e, refl, and_right (not d.settled) (is_covered s.ids.first s.ids.last d) e)
    by SenderOfUntaken = (
      refl,
      ap (λ (b : Bool). record d { settled = b }) (or_none d.settled (is_covered s.ids.first s.ids.last d) e),
      and_right (not d.settled) (is_covered s.ids.first s.ids.last d) e,
    )

pub unnamed : (s : Settling) (ds : List Delivery) → count_by (is_covered s.ids.first s.ids.last) ds ≡ 0 → (settled_list s ds ≡ ds) × (count_by (counts s) ds ≡ 0)
unnamed s [] e = (refl, refl)
unnamed s (d ∷ ds) e =
    let n = none_first (is_covered s.ids.first s.ids.last) d ds e in
    let one = unnamed_stays s d n.0 in
    let rest = unnamed s ds n.1 in (
      ap (λ (b : Bool). map (turned s) (cond (not b) (d ∷ filter (λ x. not (ends s x)) ds) (filter (λ x. not (ends s x)) ds))) one.0
          ∙ ap (λ (x : Delivery). x ∷ settled_list s ds) one.1 ∙ ap (λ (es : List Delivery). d ∷ es) rest.0,
      omega (arith, count_skip (counts s) d ds one.2, rest.1),
    )

module _ {A : Type 0} where
  -- The same deliveries under the same keys. ------------------------------------------------------------------------

  pub same_deliveries : (slab : Slab (OpenDelivery A)) → SameDeliveries slab slab
  same_deliveries slab = record { under = λ key. refl; there = λ key here. here; only = refl }

  pub same_still : (a b c : Slab (OpenDelivery A)) → SameDeliveries a b → SameDeliveries b c → SameDeliveries a c
  same_still a b c first second = record {
    under = λ key. second.under key ∙ first.under key;
    there = λ key here. second.there key (first.there key here);
    only = second.only ∙ first.only;
  }

  same_map : (old new : Slab (OpenDelivery A)) (keys : List ℕ) → SameDeliveries old new → map (at_key new) keys ≡ map (at_key old) keys
  same_map old new [] same = refl
  same_map old new (key ∷ keys) same = rw (same.under key, same_map old new keys same) refl

  same_part : (old new : Slab (OpenDelivery A)) (p : Option ℕ) → SameDeliveries old new → option_map (at_key new) p ≡ option_map (at_key old) p
  same_part old new None same = refl
  same_part old new (Some key) same = ap Some (same.under key)

  same_are_keys : (old new : Slab (OpenDelivery A)) (keys : List ℕ) → SameDeliveries old new → AreKeys old keys → AreKeys new keys
  same_are_keys old new [] same k = tt
  same_are_keys old new (key ∷ keys) same k = (same.there key k.0, k.1, same_are_keys old new keys same k.2)

  same_set : (old new : Slab (OpenDelivery A)) (awaiting ready : List ℕ) (unfinished : Option ℕ) → SameDeliveries old new →
      set_of_keys new awaiting ready unfinished ≡ set_of_keys old awaiting ready unfinished
  same_set old new awaiting ready unfinished same = rw (same_map old new awaiting same, same_map old new ready same, same_part old new unfinished same) refl

  -- they are told their places
  pub numbered : (old new : Slab (OpenDelivery A)) (order : List (Option ℕ)) (h : ℕ) (unfinished : Option ℕ) (bytes room : ℕ) (o : OpenSet) → ComesAt old order h unfinished bytes room o →
      SameDeliveries old new → ComesAt new order h unfinished bytes room o
  numbered old new order h unfinished bytes room o at same =
      let is = same_set old new (keys_of (take h order)) (keys_of (drop h order)) unfinished same in
      record {
        kept = record {
          kept = record {
            keys = same_are_keys old new (keys_of (take h order) ++ keys_of (drop h order) ++ option_to_list unfinished) same at.kept.kept.keys;
            only = omega (arith, same.only, at.kept.kept.only);
            total = at.kept.kept.total ∙ ap set_bytes (sym is);
          };
          split = at.kept.split;
          filled = at.kept.filled;
          fits = at.kept.fits;
          few = omega (arith, same.only, at.kept.few);
        };
        is = is ∙ at.is;
      }

  -- empty places are closed up, and they are told their places
  pub closed_up : {slab new : Slab (OpenDelivery A)} {order order' : List (Option ℕ)} {h h' : ℕ} {unfinished : Option ℕ} {bytes room room' : ℕ} {o : OpenSet} →
      PlacedAt slab order h unfinished bytes room o → SameKeys order order' h h' → length order' + 1 ≤ 4 * (slab_len slab + 4) → room ≤ room' → SameDeliveries slab new →
      ComesAt new order' h' unfinished bytes room' o
  closed_up {slab} {new} {order} {order'} {h} {h'} {unfinished} {bytes} {room} {room'} {o} placed same few roomy told =
      numbered slab new order' h' unfinished bytes room' o (same_keys slab order order' h h' unfinished bytes room room' o placed same few roomy) told

  -- What stands at a place. ------------------------------------------------------------------------------------------

  -- the deliveries around it
  pub parted : (slab : Slab (OpenDelivery A)) (places : List (Option ℕ)) (i key : ℕ) → slice_get places i ≡ Some (Some key) →
      map (at_key slab) (keys_of places) ≡ map (at_key slab) (keys_of (take i places)) ++ at_key slab key ∷ map (at_key slab) (keys_of (drop (i + 1) places))
  parted slab places i key is =
      let rest : drop i places ≡ Some key ∷ drop (i + 1) places = drop_more places i None (slice_get_within places i (Some key) is)
      ∙ ap (λ (p : Option ℕ). p ∷ drop (i + 1) places) (get_or_from_slice_get places i (Some key) None is) in
      ap (λ (ps : List (Option ℕ)). map (at_key slab) (keys_of ps)) (sym (take-append-drop i places) ∙ ap (λ (ps : List (Option ℕ)). take i places ++ ps) rest)
      ∙ ap (map (at_key slab)) (keys_append (take i places) (Some key ∷ drop (i + 1) places))
      ∙ map-append (at_key slab) (keys_of (take i places)) (key ∷ keys_of (drop (i + 1) places))

  -- no other has one of the ids that it has
  pub alone : (first last : ℕ) (slab : Slab (OpenDelivery A)) (places : List (Option ℕ)) (i key : ℕ) → count_by (is_covered first last) (map (at_key slab) (keys_of places)) ≤ 1 →
      slice_get places i ≡ Some (Some key) → is_covered first last (at_key slab key) ≡ true →
      (count_by (is_covered first last) (map (at_key slab) (keys_of (take i places))) ≡ 0) × (count_by (is_covered first last) (map (at_key slab) (keys_of (drop (i + 1) places))) ≡ 0)
  alone first last slab places i key once is named =
      around (is_covered first last) (map (at_key slab) (keys_of (take i places))) (at_key slab key) (map (at_key slab) (keys_of (drop (i + 1) places)))
      (subst (λ (ds : List Delivery). count_by (is_covered first last) ds ≤ 1) (parted slab places i key is) once) named

  -- it is one of those at the places
  pub any_at : (test : Delivery → Bool) (slab : Slab (OpenDelivery A)) (places : List (Option ℕ)) (i key : ℕ) → slice_get places i ≡ Some (Some key) → test (at_key slab key) ≡ true →
      list_any test (map (at_key slab) (keys_of places)) ≡ true
  any_at test slab places i key is e =
      let back = map (at_key slab) (keys_of (drop (i + 1) places)) in
      ap (list_any test) (parted slab places i key is) ∙ list_any-append test (map (at_key slab) (keys_of (take i places))) (at_key slab key ∷ map (at_key slab) (keys_of (drop (i + 1) places)))
      ∙ or_right (list_any test (map (at_key slab) (keys_of (take i places)))) (test (at_key slab key) || list_any test back) (or_left (test (at_key slab key)) (list_any test back) e)

  -- one at least has one of the ids that it has
  pub counted_at : (test : Delivery → Bool) (slab : Slab (OpenDelivery A)) (places : List (Option ℕ)) (i key : ℕ) → slice_get places i ≡ Some (Some key) → test (at_key slab key) ≡ true →
      1 ≤ count_by test (map (at_key slab) (keys_of places))
  counted_at test slab places i key is e =
      let back = map (at_key slab) (keys_of (drop (i + 1) places)) in
      omega (
        arith,
        ap (count_by test) (parted slab places i key is),
        count_append test (map (at_key slab) (keys_of (take i places))) (at_key slab key ∷ map (at_key slab) (keys_of (drop (i + 1) places))),
        count_one test (at_key slab key) (map (at_key slab) (keys_of (drop (i + 1) places))) e,
      )

  -- the first that has the id is the one at this place, where no other has it
  pub found_there : (id : ℕ) (slab : Slab (OpenDelivery A)) (places : List (Option ℕ)) (i key : ℕ) → id < 2 ^ 32 → count_by (is_covered id id) (map (at_key slab) (keys_of places)) ≤ 1 →
      slice_get places i ≡ Some (Some key) → has_id id (at_key slab key) ≡ true → find (has_id id) (map (at_key slab) (keys_of places)) ≡ Some (at_key slab key)
  found_there id slab places i key low once is e =
      let front = map (at_key slab) (keys_of (take i places)) in
      let back = map (at_key slab) (keys_of (drop (i + 1) places)) in
      ap (find (has_id id)) (parted slab places i key is)
      ∙ find-append (has_id id) (map (at_key slab) (keys_of (take i places))) (at_key slab key ∷ map (at_key slab) (keys_of (drop (i + 1) places)))
      ∙ ap (λ (o : Option Delivery). option_or o (find (has_id id) (at_key slab key ∷ back)))
      (none_found id (map (at_key slab) (keys_of (take i places))) low (alone id id slab places i key once is (id_covered id (at_key slab key) low e)).0)
      ∙ ap (λ (b : Bool). cond b (Some (at_key slab key)) (find (has_id id) back)) e

  -- A settle where it is known what it speaks of. ----------------------------------------------------------------------

  -- of none of them
  pub untouched : (s : Settling) (slab : Slab (OpenDelivery A)) (places : List (Option ℕ)) → count_by (is_covered s.ids.first s.ids.last) (map (at_key slab) (keys_of places)) ≡ 0 →
      Settles s slab slab places places 0 0
  untouched s slab places e =
      let u = unnamed s (map (at_key slab) (keys_of places)) e in
      record {
        long = refl;
        deliveries = sym u.0;
        count = sym u.1;
        freed = omega arith;
        same = λ _. refl;
        others = λ front back k. (k, refl, refl);
        only = refl;
      }

  -- of the one at this place alone
  pub only_one : (s : Settling) (old new : Slab (OpenDelivery A)) (places : List (Option ℕ)) (i key n f : ℕ) (y : Option ℕ) → slice_get places i ≡ Some (Some key) →
      is_covered s.ids.first s.ids.last (at_key old key) ≡ true → count_by (is_covered s.ids.first s.ids.last) (map (at_key old) (keys_of places)) ≤ 1 →
      AreKeys old (keys_of places) → Settles s old new (Some key ∷ []) (y ∷ []) n f → Settles s old new places (set places i y) n f
  only_one s old new places i key n f y is named once keys one =
      let lt : i < length places = slice_get_within places i (Some key) is in
      let this : get_or places i None ≡ Some key = get_or_from_slice_get places i (Some key) None is in
      let none = alone s.ids.first s.ids.last old places i key once is named in
      let fur = further s old old new places places i y 0 n 0 f lt refl (untouched s old (take i places) none.0) refl keys
      (subst (λ (p : Option ℕ). Settles s old new (p ∷ []) (y ∷ []) n f) (sym this) one) in
      let flat : keys_of places ≡ keys_of (take (i + 1) places) ++ keys_of (drop (i + 1) places) =
      ap keys_of (sym (take-append-drop (i + 1) places)) ∙ keys_append (take (i + 1) places) (drop (i + 1) places) in
      let parts : AreKeys old (keys_of (take (i + 1) places) ++ keys_of (drop (i + 1) places)) = subst (λ (ks : List ℕ). AreKeys old ks) flat keys in
      let beside = fur.others [] (keys_of (drop (i + 1) places)) parts in
      let behind = untouched s new (drop (i + 1) places) (ap (count_by (is_covered s.ids.first s.ids.last)) beside.2 ∙ none.1) in
      let j = joined s old new new (take (i + 1) places) (take (i + 1) (set places i y)) (drop (i + 1) places) (drop (i + 1) places) (0 + n) 0 (0 + f) 0 fur behind parts in
      let before : take (i + 1) places ++ drop (i + 1) places ≡ places = take-append-drop (i + 1) places in
      let after : take (i + 1) (set places i y) ++ drop (i + 1) places ≡ set places i y =
      ap (λ (ps : List (Option ℕ)). take (i + 1) (set places i y) ++ ps) (sym (drop-set-lt (i + 1) places i y (omega arith))) ∙ take-append-drop (i + 1) (set places i y) in
      subst (λ (m : ℕ). Settles s old new places (set places i y) m f) (omega arith) (subst (λ (m : ℕ). Settles s old new places (set places i y) (0 + n + 0) m) (omega arith)
      (subst (λ (ps : List (Option ℕ)). Settles s old new places ps (0 + n + 0) (0 + f + 0)) after
      (subst (λ (ps : List (Option ℕ)). Settles s old new ps (take (i + 1) (set places i y) ++ drop (i + 1) places) (0 + n + 0) (0 + f + 0)) before j)))
