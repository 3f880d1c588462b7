-- Where bytes are misread, reading meets that fault; so no spelling is misread.
use Rattle.std.proofs.Common.{◌≡◌, ◌≢◌, ℕ, zero, suc, ◌+◌, ◌-◌, ◌/◌, ◌%◌, ◌^◌, ◌<◌, ◌≤◌, Bool, true, false, is_some, List, [], ◌∷◌, ◌++◌, length, get_or, take, drop, Some, None, Result, Ok, Err, refl}
use Rattle.std.proofs.Common.{sym, ap, subst, ◌∙◌, append_assoc, arith, inl, inr}
use Rattle.std.specs.Str.{IsAscii, is_utf8, IsValidUpTo}
use Rattle.std.specs.List.{position, position_or_len}
use lib.Utf8.{scalar}
use Rattle.std.proofs.lemmas.Str.{IsUtf8-from_is_utf8, utf8_valid_len-IsValidUpTo}
use Rattle.std.proofs.lemmas.Bool.{lt-ltb, le-ltb, lt-leb, le-leb, ne_eqb, cases_lt}
use Rattle.std.proofs.lemmas.List.{length-append, length-drop, take_all, get_or-take}
use Rattle.std.proofs.lemmas.List.Sums.{position_or_len_is}
use Rattle.byteorder.specs.Endian.{big_bytes, big_number}
use Rattle.byteorder.specs.Numbers.{length-bytes_high_first}
use Rattle.amqp_types.specs.declared.kind.Kind.{Kind}
use Rattle.amqp_types.specs.declared.kind.Kind.TheVariants as kind
use Rattle.amqp_types.specs.declared.code.Form.{Form}
use Rattle.amqp_types.specs.declared.code.Form.TheVariants as form
use Rattle.amqp_types.specs.declared.code.SizeWidth.{SizeWidth}
use Rattle.amqp_types.specs.declared.code.Constructor.{Constructor}
use Rattle.amqp_types.specs.declared.code.Constructor.TheVariants.{Fixed, Variable, EmptyList, ListIn, MapIn, ArrayIn}
use Rattle.amqp_types.specs.declared.fault.ReadFault.{ReadFault}
use Rattle.amqp_types.specs.declared.fault.ReadFault.TheVariants.{UnknownCode, BadSize, BadCount, DuplicateKey, TooDeep, TooManyNodes}
use Rattle.amqp_types.specs.declared.window.Window.{Window}
use Rattle.amqp_types.specs.Codes.{find_code, kind_of}
use Rattle.amqp_types.specs.Kinds.{width, is_container}
use Rattle.amqp_types.specs.Trees.{Tree, ListOf, MapOf, ArrayOf, Trees, none, more, pair, IsLawful, depth_of, nodes_in, nodes_of}
use Rattle.amqp_types.specs.Images.{has_key}
use Rattle.amqp_types.specs.Spelling.{form_len, size_len, SpellsNumber, SpellsOctets, Spells}
use Rattle.amqp_types.specs.InHand.{Budget, place}
use Rattle.amqp_types.specs.Reading.{Part, Head, Block, ◌>>=◌, number_fault, octets_fault, charge, behind, big_at, form_at, number_at, sized_at, is_beyond_ascii, block_at, count_at}
use Rattle.amqp_types.specs.Reading.{trees_at, distinct, pairs_at, ended, with_descriptor, allowed, head_at, list_at, map_at, array_at, item_by, described_at, value_by, level_by, inside}
use Rattle.amqp_types.specs.Misreading.{IsCounted, Enough, IsShort, spend, MayStand, IsWithin, EndsInSized, EndsInside, IsBelow, IsTooSmall, NumberFault, OctetsFault, IsBlockOf, IsHolder, IsAmong}
use Rattle.amqp_types.specs.Misreading.{IsNewKey, Sought, AValue, DataOf, Values, Entries, Elements, Items, OpensWithCode, IsDone, parts_of, Misread, nothing, left_over, unknown_code, too_deep}
use Rattle.amqp_types.specs.Misreading.{too_deep_described, too_many, too_many_described, too_many_descriptors, bad_data, bad_descriptor, bad_described, ends_inside, no_number, no_octets, too_small}
use Rattle.amqp_types.specs.Misreading.{odd_count, too_many_parts, bad_parts, bad_value, bad_later_value, bad_key, equal_key, bad_entry, bad_later_entry, bad_array_descriptor, bad_elements, bad_items}
use Rattle.amqp_types.specs.Misreading.{bad_item, bad_later_item}
use Rattle.amqp_types.proofs.Complete.{octets_again, big_again, form_again}
use Rattle.amqp_types.proofs.ImageLaws.{AreSmall, small}
use Rattle.amqp_types.proofs.Again.{charged, block_again, count_again, no_zero, may_stand, inside_holds, same_constructor, value_again, item_again}
use Rattle.amqp_types.proofs.Misreads.{behind_same, behind_spend, among, found_among, opened, block_window}

-- ---- numbers and bytes

short_big : (w : Window) (n : ℕ) (bytes : List ℕ) → length bytes < n → big_at w n bytes ≡ Err w.short
short_big w n bytes lt = rw (lt-ltb (length bytes) n lt) refl

short_form : (w : Window) (f : Form) (n : ℕ) (bytes : List ℕ) → length bytes < form_len f n → form_at w f n bytes ≡ Err w.short
unfolding form_at
short_form w form.Zero n bytes lt = absurd (omega arith)
short_form w form.One n bytes lt = absurd (omega arith)
short_form w form.OneByte n bytes lt = short_big w 1 bytes lt
short_form w form.OneSigned n bytes lt = rw (short_big w 1 bytes lt) refl
short_form w form.Full n bytes lt = short_big w n bytes lt

number_has : (k : Kind) (at n : ℕ) (fault : ReadFault) → NumberFault k at n fault → number_fault k at n ≡ Some fault
number_has kind.Boolean at n fault h = rw (le-ltb n 2 h.0, h.1) refl
number_has kind.Char at n fault h = rw (not_scalar (scalar n) h.0, h.1) refl
  where
    not_scalar : (b : Bool) → (b ≡ true → ⊥) → b ≡ false
    not_scalar true h = absurd (h refl)
    not_scalar false h = refl
number_has _ at n fault h = absurd h

not_valid : (octets : List ℕ) (n : ℕ) → IsValidUpTo octets n → is_utf8 octets ≡ false
not_valid octets n v = by_cases (is_utf8 octets) refl
  where
    by_cases : (b : Bool) → is_utf8 octets ≡ b → b ≡ false
    by_cases true e = absurd (v.longest (length octets) v.short (rw (take_all (length octets) octets (omega arith)) (IsUtf8-from_is_utf8 octets e)))
    by_cases false e = refl

symbol_place : (octets : List ℕ) (n : ℕ) → n < length octets → IsAscii (take n octets) → 128 ≤ get_or octets n 0 → position is_beyond_ascii octets ≡ Some n
symbol_place octets n lt front high =
    let p : position_or_len is_beyond_ascii octets ≡ n = position_or_len_is is_beyond_ascii octets n 0 (omega arith)
    (λ k below. lt-leb _ _ (subst (λ (x : ℕ). x < 128) (get_or-take n octets k 0 below) (front k))) (λ _. le-leb _ _ high) in
    rw (p, lt-ltb n (length octets) lt) refl

octets_have : (k : Kind) (at : ℕ) (octets : List ℕ) (fault : ReadFault) → OctetsFault k at octets fault → octets_fault k at octets ≡ Some fault
octets_have kind.String at octets fault h = rw (not_valid octets h.0 h.1, utf8_valid_len-IsValidUpTo octets h.0 h.1, h.2) refl
octets_have kind.Symbol at octets fault h = rw (symbol_place octets h.0 h.1 h.2 h.3, h.4) refl
octets_have _ at octets fault h = absurd h

number_fails : (w : Window) (k : Kind) (f : Form) (n : ℕ) (bytes text rest : List ℕ) (fault : ReadFault) → bytes ≡ text ++ rest → SpellsNumber f (width k) n text →
    NumberFault k (place w bytes) n fault → number_at w k f bytes ≡ Err fault
unfolding number_at
number_fails w k f n bytes text rest fault parts spelled h =
    let form_is : form_at w f (width k) bytes ≡ Ok (n, rest) = ap (form_at w f (width k)) parts ∙ form_again w f (width k) n text rest spelled in
    rw (form_is, number_has k (place w bytes) n fault h) refl

octets_fail : (w : Window) (k : Kind) (s : SizeWidth) (octets bytes text rest : List ℕ) (fault : ReadFault) → bytes ≡ text ++ rest → SpellsOctets s octets text →
    OctetsFault k (place w (octets ++ rest)) octets fault → sized_at w k s bytes ≡ Err fault
unfolding sized_at
octets_fail w k s octets bytes text rest fault parts spelled h =
    let regrouped : bytes ≡ big_bytes (size_len s) (length octets) ++ (octets ++ rest) = parts ∙ ap (λ (t : List ℕ). t ++ rest) spelled.1
    ∙ append_assoc (big_bytes (size_len s) (length octets)) octets rest in
    rw (regrouped, big_again w (size_len s) (length octets) (octets ++ rest) spelled.0, octets_again w (length octets) octets rest refl, octets_have k (place w (octets ++ rest)) octets fault h) refl

-- ---- data that end too soon, and sizes that are too small

short_block : (w : Window) (s : SizeWidth) (least : ℕ) (bytes : List ℕ) → EndsInSized s least bytes → block_at w s least bytes ≡ Err w.short
unfolding block_at
short_block w s least bytes (inl lt) = rw (short_big w (size_len s) bytes lt) refl
short_block w s least bytes (inr h) =
    elim (cases_lt (length bytes) (size_len s)) [
      | inl lt ↦ rw (short_big w (size_len s) bytes lt) refl
      | inr le ↦
          let rest : length (drop (size_len s) bytes) < big_number (size_len s) bytes = omega (arith, length-drop (size_len s) bytes, h.1) in
          rw (le-ltb (length bytes) (size_len s) le, le-ltb (big_number (size_len s) bytes) least h.0, lt-ltb (length (drop (size_len s) bytes)) (big_number (size_len s) bytes) rest) refl
    ]

small_block : (w : Window) (s : SizeWidth) (least : ℕ) (bytes : List ℕ) → IsBelow s least bytes → block_at w s least bytes ≡ Err (BadSize (place w bytes))
unfolding block_at
small_block w s least bytes h = rw (le-ltb (length bytes) (size_len s) h.0, lt-ltb (big_number (size_len s) bytes) least h.1) refl

short_sized : (w : Window) (k : Kind) (s : SizeWidth) (bytes : List ℕ) → EndsInSized s 0 bytes → sized_at w k s bytes ≡ Err w.short
unfolding sized_at
short_sized w k s bytes (inl lt) = rw (short_big w (size_len s) bytes lt) refl
short_sized w k s bytes (inr h) =
    elim (cases_lt (length bytes) (size_len s)) [
      | inl lt ↦ rw (short_big w (size_len s) bytes lt) refl
      | inr le ↦
          let rest : length (drop (size_len s) bytes) < big_number (size_len s) bytes = omega (arith, length-drop (size_len s) bytes, h.1) in
          rw (le-ltb (length bytes) (size_len s) le, lt-ltb (length (drop (size_len s) bytes)) (big_number (size_len s) bytes) rest) refl
    ]

short_data : (depth : ℕ) (c : Constructor) (w : Window) (budget : Budget) (bytes : List ℕ) → EndsInside c bytes → item_by (inside depth) c w budget bytes ≡ Err w.short
unfolding item_by inside list_at map_at array_at number_at
short_data depth (Fixed k f) w budget bytes lt = rw (short_form w f (width k) bytes lt) refl
short_data depth (Variable k s) w budget bytes h = rw (short_sized w k s bytes h) refl
short_data depth EmptyList w budget bytes h = absurd h
short_data zero (ListIn s) w budget bytes h = refl
short_data zero (MapIn s) w budget bytes h = refl
short_data zero (ArrayIn s) w budget bytes h = refl
short_data (suc d) (ListIn s) w budget bytes h = rw (short_block w s (size_len s) bytes h) refl
short_data (suc d) (MapIn s) w budget bytes h = rw (short_block w s (size_len s) bytes h) refl
short_data (suc d) (ArrayIn s) w budget bytes h = rw (short_block w s (size_len s + 1) bytes h) refl

small_data : (d : ℕ) (c : Constructor) (w : Window) (budget : Budget) (bytes : List ℕ) → IsTooSmall c bytes → item_by (inside (suc d)) c w budget bytes ≡ Err (BadSize (place w bytes))
unfolding item_by inside list_at map_at array_at
small_data d (Fixed k f) w budget bytes h = absurd h
small_data d (Variable k s) w budget bytes h = absurd h
small_data d EmptyList w budget bytes h = absurd h
small_data d (ListIn s) w budget bytes h = rw (small_block w s (size_len s) bytes h) refl
small_data d (MapIn s) w budget bytes h = rw (small_block w s (size_len s) bytes h) refl
small_data d (ArrayIn s) w budget bytes h = rw (small_block w s (size_len s + 1) bytes h) refl

-- ---- blocks

uncharged_nodes : (budget : Budget) (n at : ℕ) → IsShort budget n → charge budget n at ≡ Err (TooManyNodes at)
uncharged_nodes None n at h = absurd h
uncharged_nodes (Some b) n at h = rw (lt-ltb b n h) refl

block_is : (w : Window) (s : SizeWidth) (least count : ℕ) (parts bytes : List ℕ) (within : Window) (at : ℕ) (b : IsBlockOf w s count parts bytes within at) → least ≤ size_len s + length parts
    → block_at w s least bytes ≡ Ok (record { within = within; body = big_bytes (size_len s) count ++ parts; behind = b.others })
block_is w s least count parts bytes within at b le =
    let again = block_again w s least count parts b.text b.others b.spelled le in
    let read = ap (block_at w s least) b.whole ∙ again.1 in
    let same : again.0 ≡ within = block_window w s least bytes (record { within = again.0; body = big_bytes (size_len s) count ++ parts; behind = b.others }) read ∙ sym b.inner in
    read ∙ ap (λ (k : Window). Ok (record { within = k; body = big_bytes (size_len s) count ++ parts; behind = b.others })) same

count_place : (w : Window) (s : SizeWidth) (count : ℕ) (parts bytes : List ℕ) (within : Window) (at : ℕ) → IsBlockOf w s count parts bytes within at →
    place within (big_bytes (size_len s) count ++ parts) ≡ at
count_place w s count parts bytes within at b =
    let len : length (big_bytes (size_len s) count ++ parts) ≡ size_len s + length parts =
    length-append (big_bytes (size_len s) count) parts ∙ ap (λ (n : ℕ). n + length parts) (length-bytes_high_first (size_len s) count) in
    ap (λ (n : ℕ). within.end - n) len ∙ sym b.count_place

odd_fails : (w : Window) (s : SizeWidth) (count : ℕ) (parts : List ℕ) → count < 256 ^ size_len s → count % 2 ≡ 1 → count_at w s true (big_bytes (size_len s) count ++ parts) ≡ Err
    (BadCount (place w (big_bytes (size_len s) count ++ parts)))
unfolding count_at
odd_fails w s count parts lt odd = rw (big_again w (size_len s) count parts lt, odd) refl

opened_odd : (w : Window) (s : SizeWidth) (least count : ℕ) (parts bytes : List ℕ) (within : Window) (at : ℕ) (budget : Budget) (more_parts : Block → ℕ × List ℕ → Budget → Part Tree) →
    IsBlockOf w s count parts bytes within at → least ≤ size_len s + length parts → count % 2 ≡ 1
    → opened w s least true budget bytes more_parts ≡ Err (BadCount at)
opened_odd w s least count parts bytes within at budget more_parts b le odd =
    rw (block_is w s least count parts bytes within at b le, odd_fails within s count parts b.spelled.0 odd, count_place w s count parts bytes within at b) refl

opened_short : (w : Window) (s : SizeWidth) (least count : ℕ) (paired : Bool) (parts bytes : List ℕ) (within : Window) (at : ℕ) (budget : Budget)
    (more_parts : Block → ℕ × List ℕ → Budget → Part Tree) → IsBlockOf w s count parts bytes within at → least ≤ size_len s + length parts → (paired ≡ true → count % 2 ≡ 0)
    → IsShort budget count → opened w s least paired budget bytes more_parts ≡ Err (TooManyNodes at)
opened_short w s least count paired parts bytes within at budget more_parts b le even few =
    rw (
      block_is w s least count parts bytes within at b le,
      count_again within s paired count parts b.spelled.0 even,
      uncharged_nodes budget count
          (place within (big_bytes (size_len s) count ++ parts)) few,
      count_place w s count parts bytes within at b,
    ) refl

opened_parts : (w : Window) (s : SizeWidth) (least count : ℕ) (paired : Bool) (parts bytes : List ℕ) (within : Window) (at : ℕ) (budget : Budget) (e : ReadFault)
    (more_parts : Block → ℕ × List ℕ → Budget → Part Tree) (b : IsBlockOf w s count parts bytes within at) → least ≤ size_len s + length parts → (paired ≡ true → count % 2 ≡ 0)
    → Enough budget count → more_parts (record { within = within; body = big_bytes (size_len s) count ++ parts; behind = b.others }) (count, parts) (spend budget count) ≡ Err e
    → opened w s least paired budget bytes more_parts ≡ Err e
opened_parts w s least count paired parts bytes within at budget e more_parts b le even enough bad =
    rw (
      block_is w s least count parts bytes within at b le,
      count_again within s paired count parts b.spelled.0 even,
      charged budget count
          (place within (big_bytes (size_len s) count ++ parts)) enough,
    ) bad

-- ---- what reading of what is sought meets

-- parts, and the end
abbrev to_end : {A : Type 0} → Window → Part A → Part A
to_end w read = read >>= λ x. ended w x.2 x

-- an array's items behind their element constructor, and the end
abbrev items_to_end : ℕ → ℕ → Window → Budget → Head × Budget × List ℕ → Part Trees
items_to_end depth n w budget head = to_end w (trees_at (item_by (inside depth) head.0.constructor) n w (behind budget head.1) head.2)

abbrev Fails : Sought → ℕ → Window → Budget → List ℕ → ReadFault → Type 0
Fails (AValue due) depth w budget bytes e = value_by (inside depth) w due budget bytes ≡ Err e
Fails (DataOf c) depth w budget bytes e = item_by (inside depth) c w budget bytes ≡ Err e
Fails (Values n) depth w budget bytes e = to_end w (trees_at (λ within. value_by (inside depth) within 0) n w budget bytes) ≡ Err e
Fails (Entries seen n) depth w budget bytes e = AreSmall seen → to_end w (pairs_at (level_by (inside depth)) seen n w budget bytes) ≡ Err e
Fails (Elements n) depth w budget bytes e = (fuel : ℕ) → length bytes ≤ fuel → (head_at fuel (level_by (inside depth)) w budget bytes >>= items_to_end depth n w budget) ≡ Err e
Fails (Items element n) depth w budget bytes e = (c : Constructor) → find_code element ≡ Some c → to_end w (trees_at (item_by (inside depth) c) n w budget bytes) ≡ Err e

-- whatever is made of the parts
ended_as : {A B : Type 0} (w : Window) (rest : List ℕ) (x : A) (y : B) (e : ReadFault) → ended w rest x ≡ Err e → ended w rest y ≡ Err e
ended_as w [] x y e h = absurd cc
ended_as w (b ∷ rest) x y e h = cc

made_as : {A B : Type 0} (w : Window) (read : Part A) (made : A × Budget × List ℕ → B) (e : ReadFault) → to_end w read ≡ Err e → (read >>= λ x. ended w x.2 (made x)) ≡ Err e
made_as w (Ok x) made e h = ended_as w x.2 x (made x) e h
made_as w (Err d) made e h = cc

joined_as : {A B : Type 0} (w : Window) (read : Part A) (made : A → B) (e : ReadFault) → to_end w read ≡ Err e → to_end w (read >>= λ x. Ok (made x.0, x.1, x.2)) ≡ Err e
joined_as w (Ok x) made e h = ended_as w x.2 x (made x.0, x.1, x.2) e h
joined_as w (Err d) made e h = cc

-- ---- a part that is spelled is read

behind_spent : (budget : Budget) (m n : ℕ) → behind budget (spend (spend budget m) n) ≡ spend (spend budget m) n
behind_spent None m n = refl
behind_spent (Some b) m n = refl

behind_once : (budget : Budget) (n : ℕ) → behind budget (spend budget n) ≡ spend budget n
behind_once None n = refl
behind_once (Some b) n = refl

part_read : (t : Tree) (depth : ℕ) (w : Window) (budget : Budget) (bytes text rest : List ℕ) → bytes ≡ text ++ rest → Spells t text → IsWithin depth budget t
    → value_by (inside depth) w 0 budget bytes ≡ Ok (t, spend budget (nodes_in t), rest)
part_read t depth w budget bytes text rest parts spelled within =
    let zero_off : 0 + nodes_in t ≡ nodes_in t = omega arith in
    ap (value_by (inside depth) w 0 budget) parts
    ∙ value_again t depth w 0 budget text rest spelled within.deep (subst (λ (n : ℕ). Enough budget n) (sym zero_off) within.few) within.lawful
    ∙ ap (λ (n : ℕ). Ok (t, spend budget n, rest)) zero_off

item_read : (t : Tree) (c : Constructor) (element depth : ℕ) (w : Window) (budget : Budget) (bytes text rest : List ℕ) → find_code element ≡ Some c → bytes ≡ text ++ rest →
    Spells t (element ∷ text) → IsWithin depth budget t
    → item_by (inside depth) c w budget bytes ≡ Ok (t, spend budget (nodes_in t), rest)
item_read t c element depth w budget bytes text rest is parts spelled within =
    ap (item_by (inside depth) c w budget) parts ∙ item_again t c element depth w budget text rest is spelled within.deep within.few within.lawful

may_hold : (c : Constructor) (depth : ℕ) → MayStand c depth → is_container (kind_of c) ≡ true → is_some (inside depth) ≡ true
may_hold c depth may is = inside_holds depth (may is)

allowed_is : (c : Constructor) (depth at : ℕ) → MayStand c depth → allowed at (is_some (inside depth)) (Some c) ≡ Ok c
allowed_is c depth at may = may_stand (is_container (kind_of c)) (is_some (inside depth)) at c (may_hold c depth may) refl

code_is_some : (code : ℕ) (c : Constructor) → find_code code ≡ Some c → code ≢ 0
code_is_some code c is z = no_zero code c is z

-- ---- each case

nothing_fails : (sought : Sought) (depth : ℕ) (w : Window) (budget : Budget) → OpensWithCode sought → Fails sought depth w budget [] w.short
unfolding value_by head_at
nothing_fails (AValue due) depth w budget opens = refl
nothing_fails (Elements n) depth w budget opens = at_fuel
  where
    at_fuel : (fuel : ℕ) → length {A = ℕ} [] ≤ fuel → (head_at fuel (level_by (inside depth)) w budget [] >>= items_to_end depth n w budget) ≡ Err w.short
    at_fuel zero le = refl
    at_fuel (suc fuel) le = refl
nothing_fails _ depth w budget opens = absurd opens

left_over_fails : (sought : Sought) (depth : ℕ) (w : Window) (budget : Budget) (byte : ℕ) (rest : List ℕ) → IsDone sought → Fails sought depth w budget (byte ∷ rest) w.short
unfolding trees_at pairs_at
left_over_fails (Values n) depth w budget byte rest done = rw done refl
left_over_fails (Entries seen n) depth w budget byte rest done = λ _. rw done refl
left_over_fails (Items element n) depth w budget byte rest done = λ c _. rw done refl
left_over_fails _ depth w budget byte rest done = absurd done

no_code_fails : (sought : Sought) (depth : ℕ) (w : Window) (budget : Budget) (code : ℕ) (rest : List ℕ) (e : ReadFault) → OpensWithCode sought → code ≢ 0 →
    allowed (place w (code ∷ rest)) (is_some (inside depth)) (find_code code) ≡ Err e
    → Fails sought depth w budget (code ∷ rest) e
unfolding value_by head_at
no_code_fails (AValue due) depth w budget code rest e opens some h = rw (ne_eqb code 0 some, h) refl
no_code_fails (Elements n) depth w budget code rest e opens some h = at_fuel
  where
    at_fuel : (fuel : ℕ) → length (code ∷ rest) ≤ fuel → (head_at fuel (level_by (inside depth)) w budget (code ∷ rest) >>= items_to_end depth n w budget) ≡ Err e
    at_fuel zero le = absurd (omega arith)
    at_fuel (suc fuel) le = rw (ne_eqb code 0 some, h) refl
no_code_fails _ depth w budget code rest e opens some h = absurd opens

unknown_fails : (depth : ℕ) (w : Window) (code : ℕ) (rest : List ℕ) → find_code code ≡ None → allowed (place w (code ∷ rest)) (is_some (inside depth)) (find_code code) ≡ Err
    (UnknownCode (place w (code ∷ rest)))
unknown_fails depth w code rest h = rw h refl

deep_fails : (w : Window) (code : ℕ) (rest : List ℕ) (c : Constructor) → find_code code ≡ Some c → is_container (kind_of c) ≡ true →
    allowed (place w (code ∷ rest)) (is_some (inside 0)) (find_code code) ≡ Err (TooDeep (place w (code ∷ rest)))
unfolding inside
deep_fails w code rest c is holds = rw (is, holds) refl

odd_data_fails : (d : ℕ) (s : SizeWidth) (w : Window) (budget : Budget) (bytes parts : List ℕ) (count : ℕ) (within : Window) (at : ℕ) → IsBlockOf w s count parts bytes within at → count % 2 ≡ 1
    → item_by (inside (suc d)) (MapIn s) w budget bytes ≡ Err (BadCount at)
unfolding item_by inside map_at
odd_data_fails d s w budget bytes parts count within at b odd =
    opened_odd w s (size_len s) count parts bytes within at budget
    (λ block n left. pairs_at (level_by (inside d)) none (n.0 / 2) block.within left n.1 >>= λ entries. ended block.within entries.2 (MapOf entries.0, entries.1, block.behind)) b (omega arith) odd

absurd_pair : false ≡ true → (n : ℕ) → n % 2 ≡ 0
absurd_pair h n = absurd cc

few_data_fails : (d : ℕ) (c : Constructor) (s : SizeWidth) (w : Window) (budget : Budget) (bytes parts : List ℕ) (count : ℕ) (within : Window) (at : ℕ) → IsHolder c s count parts →
    IsBlockOf w s count parts bytes within at → IsShort budget count
    → item_by (inside (suc d)) c w budget bytes ≡ Err (TooManyNodes at)
unfolding item_by inside list_at map_at array_at
few_data_fails d (Fixed k f) s w budget bytes parts count within at holder b few = absurd holder
few_data_fails d (Variable k r) s w budget bytes parts count within at holder b few = absurd holder
few_data_fails d EmptyList s w budget bytes parts count within at holder b few = absurd holder
few_data_fails d (ListIn r) s w budget bytes parts count within at holder b few =
    subst (λ (z : SizeWidth). item_by (inside (suc d)) (ListIn z) w budget bytes ≡ Err (TooManyNodes at)) holder
    (opened_short w s (size_len s) count false parts bytes within at budget
    (λ block n left. trees_at (λ within. value_by (inside d) within 0) n.0 block.within left n.1 >>= λ items. ended block.within items.2 (ListOf items.0, items.1, block.behind)) b (omega arith)
    (λ h. absurd_pair h count) few)
few_data_fails d (MapIn r) s w budget bytes parts count within at holder b few =
    subst (λ (z : SizeWidth). item_by (inside (suc d)) (MapIn z) w budget bytes ≡ Err (TooManyNodes at)) holder.0
    (opened_short w s (size_len s) count true parts bytes within at budget
    (λ block n left. pairs_at (level_by (inside d)) none (n.0 / 2) block.within left n.1 >>= λ entries. ended block.within entries.2 (MapOf entries.0, entries.1, block.behind)) b (omega arith)
    (λ _. holder.1) few)
few_data_fails d (ArrayIn r) s w budget bytes parts count within at holder b few =
    subst (λ (z : SizeWidth). item_by (inside (suc d)) (ArrayIn z) w budget bytes ≡ Err (TooManyNodes at)) holder.0
    (opened_short w s (size_len s + 1) count false parts bytes within at budget
    (λ block n left. head_at (length n.1) (level_by (inside d)) block.within left n.1 >>= λ head. trees_at (item_by (inside d) head.0.constructor) n.0 block.within (behind budget head.1) head.2
    >>= λ items. ended block.within items.2 (ArrayOf head.0.descriptors (kind_of head.0.constructor) items.0, items.1, block.behind)) b (omega (arith, holder.1)) (λ h. absurd_pair h count) few)

bind_same : {A B : Type 0} (r : Result A ReadFault) (f g : A → Result B ReadFault) → ((x : A) → f x ≡ g x) → (r >>= f) ≡ (r >>= g)
bind_same (Ok x) f g h = h x
bind_same (Err d) f g h = refl

-- an array's items, whatever is made of them
elements_made : {B : Type 0} (depth n : ℕ) (w : Window) (budget : Budget) (read : Part Head) (made : Head × Budget × List ℕ → Trees × Budget × List ℕ → B) (e : ReadFault) →
    (read >>= items_to_end depth n w budget) ≡ Err e
    → (read >>= λ head. trees_at (item_by (inside depth) head.0.constructor) n w (behind budget head.1) head.2 >>= λ items. ended w items.2 (made head items)) ≡ Err e
elements_made depth n w budget (Ok head) made e h = made_as w (trees_at (item_by (inside depth) head.0.constructor) n w (behind budget head.1) head.2) (made head) e h
elements_made depth n w budget (Err d) made e h = cc

parts_fail : (d : ℕ) (c : Constructor) (s : SizeWidth) (w : Window) (budget : Budget) (bytes parts : List ℕ) (count : ℕ) (within : Window) (at : ℕ) (e : ReadFault) → IsHolder c s count parts →
    IsBlockOf w s count parts bytes within at → Enough budget count
    → Fails (parts_of c count) d within (spend budget count) parts e → item_by (inside (suc d)) c w budget bytes ≡ Err e
unfolding item_by inside list_at map_at array_at
parts_fail d (Fixed k f) s w budget bytes parts count within at e holder b enough bad = absurd holder
parts_fail d (Variable k r) s w budget bytes parts count within at e holder b enough bad = absurd holder
parts_fail d EmptyList s w budget bytes parts count within at e holder b enough bad = absurd holder
parts_fail d (ListIn r) s w budget bytes parts count within at e holder b enough bad =
    subst (λ (z : SizeWidth). item_by (inside (suc d)) (ListIn z) w budget bytes ≡ Err e) holder
    (opened_parts w s (size_len s) count false parts bytes within at budget e
    (λ block n left. trees_at (λ within. value_by (inside d) within 0) n.0 block.within left n.1 >>= λ items. ended block.within items.2 (ListOf items.0, items.1, block.behind)) b (omega arith)
    (λ h. absurd_pair h count) enough
    (made_as within (trees_at (λ within. value_by (inside d) within 0) count within (spend budget count) parts) (λ items. (ListOf items.0, items.1, b.others)) e bad))
parts_fail d (MapIn r) s w budget bytes parts count within at e holder b enough bad =
    subst (λ (z : SizeWidth). item_by (inside (suc d)) (MapIn z) w budget bytes ≡ Err e) holder.0
    (opened_parts w s (size_len s) count true parts bytes within at budget e
    (λ block n left. pairs_at (level_by (inside d)) none (n.0 / 2) block.within left n.1 >>= λ entries. ended block.within entries.2 (MapOf entries.0, entries.1, block.behind)) b (omega arith)
    (λ _. holder.1) enough
    (made_as within (pairs_at (level_by (inside d)) none (count / 2) within (spend budget count) parts) (λ entries. (MapOf entries.0, entries.1, b.others)) e (bad tt)))
parts_fail d (ArrayIn r) s w budget bytes parts count within at e holder b enough bad =
    let made : Head × Budget × List ℕ → Trees × Budget × List ℕ → Tree × Budget × List ℕ = λ head items. (ArrayOf head.0.descriptors (kind_of head.0.constructor) items.0, items.1, b.others) in
    let read = head_at (length parts) (level_by (inside d)) within (spend budget count) parts in
    let tail : Budget → Head × Budget × List ℕ → Part Tree = λ left head. trees_at (item_by (inside d) head.0.constructor) count within (behind left head.1) head.2 >>= λ items. ended within items.2
    (made head items) in
    let same : (read >>= tail budget) ≡ (read >>= tail (spend budget count)) = bind_same read (tail budget) (tail (spend budget count))
    (λ head. ap (λ (left : Budget). trees_at (item_by (inside d) head.0.constructor) count within left head.2 >>= λ items. ended within items.2 (made head items))
    (sym (behind_spend budget count head.1))) in
    subst (λ (z : SizeWidth). item_by (inside (suc d)) (ArrayIn z) w budget bytes ≡ Err e) holder.0
    (opened_parts w s (size_len s + 1) count false parts bytes within at budget e
    (λ block n left. head_at (length n.1) (level_by (inside d)) block.within left n.1 >>= λ head. trees_at (item_by (inside d) head.0.constructor) n.0 block.within (behind budget head.1) head.2
    >>= λ items. ended block.within items.2 (ArrayOf head.0.descriptors (kind_of head.0.constructor) items.0, items.1, block.behind)) b (omega (arith, holder.1)) (λ h. absurd_pair h count) enough
    (same ∙ elements_made d count within (spend budget count) read made e (bad (length parts) (omega arith))))

value_fails : (n depth : ℕ) (w : Window) (budget : Budget) (bytes : List ℕ) (e : ReadFault) → Fails (AValue 0) depth w budget bytes e → Fails (Values (suc n)) depth w budget bytes e
unfolding trees_at
value_fails n depth w budget bytes e h = rw h refl

later_value_fails : (n depth : ℕ) (w : Window) (budget : Budget) (bytes text rest : List ℕ) (t : Tree) (e : ReadFault) → bytes ≡ text ++ rest → Spells t text → IsWithin depth budget t →
    Fails (Values n) depth w (spend budget (nodes_in t)) rest e
    → Fails (Values (suc n)) depth w budget bytes e
unfolding trees_at
later_value_fails n depth w budget bytes text rest t e parts spelled within h =
    rw (part_read t depth w budget bytes text rest parts spelled within, behind_once budget (nodes_in t))
    (joined_as w (trees_at (λ within. value_by (inside depth) within 0) n w (spend budget (nodes_in t)) rest) (λ others. more t others) e h)

item_fails : (element n depth : ℕ) (w : Window) (budget : Budget) (bytes : List ℕ) (e : ReadFault) (c : Constructor) → find_code element ≡ Some c → Fails (DataOf c) depth w budget bytes e →
    Fails (Items element (suc n)) depth w budget bytes e
unfolding trees_at
item_fails element n depth w budget bytes e c is h d is_too =
    subst (λ (x : Constructor). to_end w (trees_at (item_by (inside depth) x) (suc n) w budget bytes) ≡ Err e) (same_constructor element c d is is_too) (rw h refl)

later_item_fails : (element n depth : ℕ) (w : Window) (budget : Budget) (bytes text rest : List ℕ) (t : Tree) (e : ReadFault) → bytes ≡ text ++ rest → Spells t (element ∷ text) →
    IsWithin depth budget t → Fails (Items element n) depth w (spend budget (nodes_in t)) rest e
    → Fails (Items element (suc n)) depth w budget bytes e
unfolding trees_at
later_item_fails element n depth w budget bytes text rest t e parts spelled within h c is =
    rw (item_read t c element depth w budget bytes text rest is parts spelled within, behind_once budget (nodes_in t))
    (joined_as w (trees_at (item_by (inside depth) c) n w (spend budget (nodes_in t)) rest) (λ others. more t others) e (h c is))

is_new : (budget : Budget) (seen : Trees) (key : Tree) (at : ℕ) (x : Tree × Budget × List ℕ) (text : List ℕ) → AreSmall seen → Spells key text → IsNewKey budget key seen →
    distinct budget seen key at x ≡ Ok x
is_new None seen key at x text smalls spelled new = refl
is_new (Some b) seen key at x text smalls spelled new = rw (not_found (has_key key seen) (λ e. new tt (among key seen (small key text spelled) smalls e))) refl
  where
    not_found : (b : Bool) → (b ≡ true → ⊥) → b ≡ false
    not_found true h = absurd (h refl)
    not_found false h = refl

key_fails : (seen : Trees) (n depth : ℕ) (w : Window) (budget : Budget) (bytes : List ℕ) (e : ReadFault) → Fails (AValue 0) depth w budget bytes e → Fails (Entries seen (suc n)) depth w budget bytes e
unfolding pairs_at
key_fails seen n depth w budget bytes e h smalls = rw h refl

equal_key_fails : (seen : Trees) (n depth : ℕ) (w : Window) (budget : Budget) (bytes text rest : List ℕ) (key : Tree) → bytes ≡ text ++ rest → Spells key text → IsWithin depth budget key →
    IsCounted budget → IsAmong key seen
    → Fails (Entries seen (suc n)) depth w budget bytes (DuplicateKey (place w bytes))
unfolding pairs_at
equal_key_fails seen n depth w None bytes text rest key parts spelled within counted known smalls = absurd counted
equal_key_fails seen n depth w (Some b) bytes text rest key parts spelled within counted known smalls =
    rw (part_read key depth w (Some b) bytes text rest parts spelled within, found_among key seen known) refl

entry_fails : (seen : Trees) (n depth : ℕ) (w : Window) (budget : Budget) (bytes text rest : List ℕ) (key : Tree) (e : ReadFault) → bytes ≡ text ++ rest → Spells key text →
    IsWithin depth budget key → IsNewKey budget key seen
    → Fails (AValue 0) depth w (spend budget (nodes_in key)) rest e → Fails (Entries seen (suc n)) depth w budget bytes e
unfolding pairs_at
entry_fails seen n depth w budget bytes text rest key e parts spelled within new h smalls =
    rw (
      part_read key depth w budget bytes text rest parts spelled within,
      is_new budget seen key (place w bytes) (key, spend budget (nodes_in key), rest) text smalls spelled new,
      behind_once budget (nodes_in key),
      h,
    ) refl

later_entry_fails : (seen : Trees) (n depth : ℕ) (w : Window) (budget : Budget) (bytes first second rest : List ℕ) (key value : Tree) (e : ReadFault) → bytes ≡ first ++ (second ++ rest) →
    Spells key first → IsWithin depth budget key → IsNewKey budget key seen
    → Spells value second → IsWithin depth (spend budget (nodes_in key)) value → Fails (Entries (more key seen) n) depth w (spend (spend budget (nodes_in key)) (nodes_in value)) rest e
    → Fails (Entries seen (suc n)) depth w budget bytes e
unfolding pairs_at
later_entry_fails seen n depth w budget bytes first second rest key value e parts spelled within new spelled_value within_value h smalls =
    let left = spend budget (nodes_in key) in
    rw (
      part_read key depth w budget bytes first (second ++ rest) parts spelled within,
      is_new budget seen key (place w bytes) (key, left, second ++ rest) first smalls spelled new,
      behind_once budget (nodes_in key),
      part_read value depth w left (second ++ rest) second rest refl spelled_value within_value,
      behind_spent budget (nodes_in key) (nodes_in value),
    )
    (joined_as w (pairs_at (level_by (inside depth)) (more key seen) n w (spend left (nodes_in value)) rest) (λ others. pair key value others) e (h (small key first spelled, smalls)))

descriptor_fails : (n depth : ℕ) (w : Window) (budget : Budget) (rest : List ℕ) (e : ReadFault) → Enough budget 1 → Fails (AValue 0) depth w (spend budget 1) rest e →
    Fails (Elements n) depth w budget (0 ∷ rest) e
unfolding head_at
descriptor_fails n depth w budget rest e enough h = at_fuel
  where
    at_fuel : (fuel : ℕ) → length (0 ∷ rest) ≤ fuel → (head_at fuel (level_by (inside depth)) w budget (0 ∷ rest) >>= items_to_end depth n w budget) ≡ Err e
    at_fuel zero le = absurd (omega arith)
    at_fuel (suc fuel) le = rw (charged budget 1 (place w (0 ∷ rest)) enough, h) refl

few_descriptors_fail : (n depth : ℕ) (w : Window) (budget : Budget) (rest : List ℕ) → IsShort budget 1 → Fails (Elements n) depth w budget (0 ∷ rest) (TooManyNodes (place w (0 ∷ rest)))
unfolding head_at
few_descriptors_fail n depth w budget rest few = at_fuel
  where
    at_fuel : (fuel : ℕ) → length (0 ∷ rest) ≤ fuel → (head_at fuel (level_by (inside depth)) w budget (0 ∷ rest) >>= items_to_end depth n w budget) ≡ Err (TooManyNodes (place w (0 ∷ rest)))
    at_fuel zero le = absurd (omega arith)
    at_fuel (suc fuel) le = rw (uncharged_nodes budget 1 (place w (0 ∷ rest)) few) refl

-- a descriptor more, whatever is left
with_more : (depth n : ℕ) (w : Window) (budget : Budget) (m k : ℕ) (read : Part Head) (d : Tree) (e : ReadFault) → (read >>= items_to_end depth n w (spend (spend budget m) k)) ≡ Err e
    → ((read >>= λ head. Ok (with_descriptor d head.0, head.1, head.2)) >>= items_to_end depth n w budget) ≡ Err e
with_more depth n w budget m k (Ok head) d e h =
    ap (λ (left : Budget). to_end w (trees_at (item_by (inside depth) head.0.constructor) n w left head.2)) (sym (behind_spend budget m head.1) ∙ sym (behind_spend (spend budget m) k head.1))
    ∙ h
with_more depth n w budget m k (Err x) d e h = cc

head_behind : (fuel depth : ℕ) (w : Window) (budget : Budget) (bytes text rest : List ℕ) (t : Tree) → Enough budget 1 → bytes ≡ text ++ rest → Spells t text → IsWithin depth (spend budget 1) t
    → head_at (suc fuel) (level_by (inside depth)) w budget (0 ∷ bytes)
    ≡ (head_at fuel (level_by (inside depth)) w (behind budget (spend (spend budget 1) (nodes_in t))) rest >>= λ head. Ok (with_descriptor t head.0, head.1, head.2))
unfolding head_at
head_behind fuel depth w budget bytes text rest t enough parts spelled within =
    rw (charged budget 1 (place w (0 ∷ bytes)) enough, part_read t depth w (spend budget 1) bytes text rest parts spelled within) refl

elements_fail : (n depth : ℕ) (w : Window) (budget : Budget) (bytes text rest : List ℕ) (t : Tree) (e : ReadFault) → Enough budget 1 → bytes ≡ text ++ rest → Spells t text →
    IsWithin depth (spend budget 1) t
    → Fails (Elements n) depth w (spend (spend budget 1) (nodes_in t)) rest e → Fails (Elements n) depth w budget (0 ∷ bytes) e
elements_fail n depth w budget bytes text rest t e enough parts spelled within h = at_fuel
  where
    at_fuel : (fuel : ℕ) → length (0 ∷ bytes) ≤ fuel → (head_at fuel (level_by (inside depth)) w budget (0 ∷ bytes) >>= items_to_end depth n w budget) ≡ Err e
    at_fuel zero le = absurd (omega arith)
    at_fuel (suc fuel) le =
        let left = spend (spend budget 1) (nodes_in t) in
        let one : Budget → Part Head = λ b. head_at fuel (level_by (inside depth)) w b rest >>= λ head. Ok (with_descriptor t head.0, head.1, head.2) in
        ap (λ (read : Part Head). read >>= items_to_end depth n w budget) (head_behind fuel depth w budget bytes text rest t enough parts spelled within ∙ ap one (behind_spent budget 1 (nodes_in t)))
        ∙ with_more depth n w budget 1 (nodes_in t) (head_at fuel (level_by (inside depth)) w left rest) t e (h fuel (omega (arith, ap length parts, length-append text rest)))

items_fail : (n depth : ℕ) (w : Window) (budget : Budget) (code : ℕ) (rest : List ℕ) (e : ReadFault) (c : Constructor) → find_code code ≡ Some c → MayStand c depth →
    Fails (Items code n) depth w budget rest e → Fails (Elements n) depth w budget (code ∷ rest) e
unfolding head_at
items_fail n depth w budget code rest e c is may h = at_fuel
  where
    at_fuel : (fuel : ℕ) → length (code ∷ rest) ≤ fuel → (head_at fuel (level_by (inside depth)) w budget (code ∷ rest) >>= items_to_end depth n w budget) ≡ Err e
    at_fuel zero le = absurd (omega arith)
    at_fuel (suc fuel) le = rw (ne_eqb code 0 (code_is_some code c is), is, allowed_is c depth (place w (code ∷ rest)) may, behind_same budget) (h c is)

many_fails : (due depth : ℕ) (w : Window) (budget : Budget) (code : ℕ) (rest : List ℕ) (c : Constructor) → find_code code ≡ Some c → MayStand c depth → IsShort budget due →
    Fails (AValue due) depth w budget (code ∷ rest) (TooManyNodes (place w (code ∷ rest)))
unfolding value_by
many_fails due depth w budget code rest c is may few = rw (
  ne_eqb code 0 (code_is_some code c is),
  is,
  allowed_is c depth (place w (code ∷ rest)) may,
  uncharged_nodes budget due (place w (code ∷ rest)) few,
) refl

data_fails : (due depth : ℕ) (w : Window) (budget : Budget) (code : ℕ) (rest : List ℕ) (e : ReadFault) (c : Constructor) → find_code code ≡ Some c → MayStand c depth → Enough budget due →
    Fails (DataOf c) depth w (spend budget due) rest e → Fails (AValue due) depth w budget (code ∷ rest) e
unfolding value_by
data_fails due depth w budget code rest e c is may enough h = rw (
  ne_eqb code 0 (code_is_some code c is),
  is,
  allowed_is c depth (place w (code ∷ rest)) may,
  charged budget due (place w (code ∷ rest)) enough,
) h

described_deep_fails : (due : ℕ) (w : Window) (budget : Budget) (rest : List ℕ) → Fails (AValue due) 0 w budget (0 ∷ rest) (TooDeep (place w (0 ∷ rest)))
unfolding value_by described_at inside
described_deep_fails due w budget rest = refl

described_many_fails : (due d : ℕ) (w : Window) (budget : Budget) (rest : List ℕ) → IsShort budget (due + 2) → Fails (AValue due) (suc d) w budget (0 ∷ rest) (TooManyNodes (place w (0 ∷ rest)))
unfolding value_by described_at inside
described_many_fails due d w budget rest few = rw (uncharged_nodes budget (due + 2) (place w (0 ∷ rest)) few) refl

descriptor_value_fails : (due d : ℕ) (w : Window) (budget : Budget) (rest : List ℕ) (e : ReadFault) → Enough budget (due + 2) → Fails (AValue 0) d w (spend budget (due + 2)) rest e →
    Fails (AValue due) (suc d) w budget (0 ∷ rest) e
unfolding value_by described_at inside
descriptor_value_fails due d w budget rest e enough h = rw (charged budget (due + 2) (place w (0 ∷ rest)) enough, h) refl

described_value_fails : (due d : ℕ) (w : Window) (budget : Budget) (bytes text rest : List ℕ) (t : Tree) (e : ReadFault) → Enough budget (due + 2) → bytes ≡ text ++ rest → Spells t text →
    IsWithin d (spend budget (due + 2)) t
    → Fails (AValue 0) d w (spend (spend budget (due + 2)) (nodes_in t)) rest e → Fails (AValue due) (suc d) w budget (0 ∷ bytes) e
unfolding value_by described_at inside
described_value_fails due d w budget bytes text rest t e enough parts spelled within h =
    rw (charged budget (due + 2) (place w (0 ∷ bytes)) enough, part_read t d w (spend budget (due + 2)) bytes text rest parts spelled within, behind_spent budget (due + 2) (nodes_in t), h) refl

number_data_fails : (k : Kind) (f : Form) (depth : ℕ) (w : Window) (budget : Budget) (bytes : List ℕ) (e : ReadFault) → number_at w k f bytes ≡ Err e →
    Fails (DataOf (Fixed k f)) depth w budget bytes e
unfolding item_by
number_data_fails k f depth w budget bytes e h = rw h refl

octets_data_fails : (k : Kind) (s : SizeWidth) (depth : ℕ) (w : Window) (budget : Budget) (bytes : List ℕ) (e : ReadFault) → sized_at w k s bytes ≡ Err e →
    Fails (DataOf (Variable k s)) depth w budget bytes e
unfolding item_by
octets_data_fails k s depth w budget bytes e h = rw h refl

-- ---- every case

-- where bytes are misread, reading meets that fault
pub misread_fails : (sought : Sought) (depth : ℕ) (w : Window) (budget : Budget) (bytes : List ℕ) (e : ReadFault) → Misread sought depth w budget bytes e → Fails sought depth w budget bytes e
misread_fails sought depth w budget bytes e (nothing opens) = nothing_fails sought depth w budget opens
misread_fails sought depth w budget bytes e (left_over {byte = byte} {rest = rest} done) = left_over_fails sought depth w budget byte rest done
misread_fails sought depth w budget bytes e (unknown_code {code = code} {rest = rest} opens some is) = no_code_fails sought depth w budget code rest e opens some (unknown_fails depth w code rest is)
misread_fails sought depth w budget bytes e (too_deep {code = code} {rest = rest} c opens is holds) = no_code_fails sought 0 w budget code rest e opens (code_is_some code c is)
    (deep_fails w code rest c is holds)
misread_fails sought depth w budget bytes e (too_deep_described {due = due} {rest = rest}) = described_deep_fails due w budget rest
misread_fails sought depth w budget bytes e (too_many {due = due} {code = code} {rest = rest} c is may few) = many_fails due depth w budget code rest c is may few
misread_fails sought depth w budget bytes e (too_many_described {due = due} {depth = d} {rest = rest} few) = described_many_fails due d w budget rest few
misread_fails sought depth w budget bytes e (too_many_descriptors {n = n} {rest = rest} few) = few_descriptors_fail n depth w budget rest few
misread_fails sought depth w budget bytes e (bad_data {due = due} {code = code} {rest = rest} c is may enough h) = data_fails due depth w budget code rest e c is may enough
    (misread_fails (DataOf c) depth w (spend budget due) rest e h)
misread_fails sought depth w budget bytes e (bad_descriptor {due = due} {depth = d} {rest = rest} enough h) = descriptor_value_fails due d w budget rest e enough
    (misread_fails (AValue 0) d w (spend budget (due + 2)) rest e h)
misread_fails sought depth w budget bytes e (bad_described {due = due} {depth = d} {bytes = behind_zero} t text rest enough parts spelled within h) =
    described_value_fails due d w budget behind_zero text rest t e enough parts spelled within (misread_fails (AValue 0) d w (spend (spend budget (due + 2)) (nodes_in t)) rest e h)
misread_fails sought depth w budget bytes e (ends_inside {c = c} h) = short_data depth c w budget bytes h
misread_fails sought depth w budget bytes e (no_number {k = k} {f = f} n text rest parts spelled h) = number_data_fails k f depth w budget bytes e
    (number_fails w k f n bytes text rest e parts spelled h)
misread_fails sought depth w budget bytes e (no_octets {k = k} {s = s} octets text rest parts spelled h) = octets_data_fails k s depth w budget bytes e
    (octets_fail w k s octets bytes text rest e parts spelled h)
misread_fails sought depth w budget bytes e (too_small {c = c} {depth = d} h) = small_data d c w budget bytes h
misread_fails sought depth w budget bytes e (odd_count {s = s} {depth = d} count parts within at b odd) = odd_data_fails d s w budget bytes parts count within at b odd
misread_fails sought depth w budget bytes e (too_many_parts {c = c} {depth = d} s count parts within at holder b few) = few_data_fails d c s w budget bytes parts count within at holder b few
misread_fails sought depth w budget bytes e (bad_parts {c = c} {depth = d} s count parts within at holder b enough h) =
    parts_fail d c s w budget bytes parts count within at e holder b enough (misread_fails (parts_of c count) d within (spend budget count) parts e h)
misread_fails sought depth w budget bytes e (bad_value {n = n} h) = value_fails n depth w budget bytes e (misread_fails (AValue 0) depth w budget bytes e h)
misread_fails sought depth w budget bytes e (bad_later_value {n = n} t text rest parts spelled within h) =
    later_value_fails n depth w budget bytes text rest t e parts spelled within (misread_fails (Values n) depth w (spend budget (nodes_in t)) rest e h)
misread_fails sought depth w budget bytes e (bad_key {seen = seen} {n = n} h) = key_fails seen n depth w budget bytes e (misread_fails (AValue 0) depth w budget bytes e h)
misread_fails sought depth w budget bytes e (equal_key {seen = seen} {n = n} key text rest parts spelled within counted known) =
    equal_key_fails seen n depth w budget bytes text rest key parts spelled within counted known
misread_fails sought depth w budget bytes e (bad_entry {seen = seen} {n = n} key text rest parts spelled within new h) =
    entry_fails seen n depth w budget bytes text rest key e parts spelled within new (misread_fails (AValue 0) depth w (spend budget (nodes_in key)) rest e h)
misread_fails sought depth w budget bytes e (bad_later_entry {seen = seen} {n = n} key value first second rest parts spelled within new spelled_value within_value h) =
    later_entry_fails seen n depth w budget bytes first second rest key value e parts spelled within new spelled_value within_value
    (misread_fails (Entries (more key seen) n) depth w (spend (spend budget (nodes_in key)) (nodes_in value)) rest e h)
misread_fails sought depth w budget bytes e (bad_array_descriptor {n = n} {rest = rest} enough h) = descriptor_fails n depth w budget rest e enough
    (misread_fails (AValue 0) depth w (spend budget 1) rest e h)
misread_fails sought depth w budget bytes e (bad_elements {n = n} {bytes = behind_zero} t text rest enough parts spelled within h) =
    elements_fail n depth w budget behind_zero text rest t e enough parts spelled within (misread_fails (Elements n) depth w (spend (spend budget 1) (nodes_in t)) rest e h)
misread_fails sought depth w budget bytes e (bad_items {n = n} {code = code} {rest = rest} c is may h) = items_fail n depth w budget code rest e c is may
    (misread_fails (Items code n) depth w budget rest e h)
misread_fails sought depth w budget bytes e (bad_item {element = element} {n = n} c is h) = item_fails element n depth w budget bytes e c is (misread_fails (DataOf c) depth w budget bytes e h)
misread_fails sought depth w budget bytes e (bad_later_item {element = element} {n = n} t text rest parts spelled within h) =
    later_item_fails element n depth w budget bytes text rest t e parts spelled within (misread_fails (Items element n) depth w (spend budget (nodes_in t)) rest e h)

-- no bytes are misread that begin with a spelling of a value that is within the limits
pub none_misread : (t : Tree) (text rest : List ℕ) (depth : ℕ) (w : Window) (budget : Budget) (fault : ReadFault) → Spells t text → depth_of t ≤ depth → Enough budget (nodes_of t) →
    (IsCounted budget → IsLawful t)
    → Misread (AValue 1) depth w budget (text ++ rest) fault → ⊥
none_misread t text rest depth w budget fault spelled deep few lawful h =
    differ (sym (misread_fails (AValue 1) depth w budget (text ++ rest) fault h) ∙ value_again t depth w 1 budget text rest spelled deep few lawful)
  where
    differ : ◌≡◌ {A = Part Tree} (Err fault) (Ok (t, spend budget (1 + nodes_in t), rest)) → ⊥
    differ h = cc
