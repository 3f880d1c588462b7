-- How far a value reaches does not depend on the window around it.
use Rattle.std.proofs.Common.{◌≡◌, ℕ, zero, suc, ◌+◌, ◌-◌, ◌*◌, ◌%◌, ◌<◌, ◌≤◌, Bool, true, false, not, ◌&&◌, cond, eqb, List, [], ◌∷◌, length, take, drop, Option, Some, None, is_some, Result, Ok, Err}
use Rattle.std.proofs.Common.{refl, sym, ap, subst, ◌∙◌, arith}
use Rattle.std.proofs.lemmas.Bool.{le-ltb, lt-ltb, eq-eqb, ne_eqb, eqb-true}
use Rattle.std.proofs.lemmas.List.{length-drop, length-take-le, drop-drop, drop_all}
use Rattle.byteorder.specs.Endian.{big_number}
use lib.Utf8.{scalar}
use Rattle.amqp_types.specs.declared.kind.Kind.{Kind}
use Rattle.amqp_types.specs.declared.kind.Kind.TheVariants as kind
use Rattle.amqp_types.specs.declared.code.Form.{Form}
use Rattle.amqp_types.specs.declared.code.Form.TheVariants as form
use Rattle.amqp_types.specs.declared.code.SizeWidth.{SizeWidth}
use Rattle.amqp_types.specs.declared.code.Constructor.{Constructor}
use Rattle.amqp_types.specs.declared.code.Constructor.TheVariants.{Fixed, Variable, EmptyList, ListIn, MapIn, ArrayIn}
use Rattle.amqp_types.specs.declared.fault.ReadFault.{ReadFault}
use Rattle.amqp_types.specs.declared.fault.ReadFault.TheVariants.{TooDeep}
use Rattle.amqp_types.specs.declared.window.Window.{Window}
use Rattle.amqp_types.specs.Codes.{find_code, kind_of}
use Rattle.amqp_types.specs.Kinds.{width, is_container, is_partial}
use Rattle.amqp_types.specs.Trees.{Tree, Number, Octets, ListOf, Described}
use Rattle.amqp_types.specs.Spelling.{form_len, size_len}
use Rattle.amqp_types.specs.InHand.{place}
use Rattle.amqp_types.specs.Reading.{Part, Level, Block, ◌>>=◌, after, allowed, octets_at, big_at, octets_fault, number_at, form_at, sized_at, block_at, block_of, count_at, trees_at, list_at}
use Rattle.amqp_types.specs.Reading.{map_at, array_at, head_at, item_by, described_at, value_by}
use Rattle.amqp_types.specs.Skipping.{rest_of, is_still, plain_width, counted, IsBody, constructor_after}
use Rattle.amqp_types.proofs.Skips.{ok_rest, rest_of_number}
use Rattle.amqp_types.proofs.Walks.{after_step, first_ok, uncharged_rest, still_number, closes, map_after, array_after, head_code}

same_number : (a b : ℕ) → ◌≡◌ {A = Option ℕ} (Some a) (Some b) → a ≡ b
same_number a b e = cc

-- ---- bytes in front

at_octets : (w : Window) (n : ℕ) (bytes : List ℕ) → n ≤ length bytes → octets_at w n bytes ≡ Ok (take n bytes, drop n bytes)
at_octets w n bytes le = rw (le-ltb (length bytes) n le) refl

at_big : (w : Window) (n : ℕ) (bytes : List ℕ) → n ≤ length bytes → big_at w n bytes ≡ Ok (big_number n bytes, drop n bytes)
at_big w n bytes le = rw (le-ltb (length bytes) n le) refl

-- ---- values that hold no others

-- so is a number whose width is plain
pub plain_number : (w : Window) (k : Kind) (f : Form) (bytes : List ℕ) (n : ℕ)
    → cond (is_partial k && not (is_still (Fixed k f))) None (Some (form_len f (width k))) ≡ Some n → n ≤ length bytes
    → rest_of (number_at w k f bytes) ≡ Ok (drop n bytes)
plain_number w k f bytes n e le = by_partial (is_partial k) refl e
  where
    by_still : (b : Bool) → b ≡ is_still (Fixed k f) → cond (not b) None (Some (form_len f (width k))) ≡ Some n → rest_of (number_at w k f bytes) ≡ Ok (drop n bytes)
    by_still true is h =
        let zero_is : form_len f (width k) ≡ 0 = eqb-true _ _ (sym is) in
        still_number w k f bytes zero_is ∙ ap (λ (m : ℕ). Ok (drop m bytes)) (sym zero_is ∙ same_number _ n h)
    by_still false is h = absurd cc

    by_partial : (b : Bool) → b ≡ is_partial k → cond (b && not (is_still (Fixed k f))) None (Some (form_len f (width k))) ≡ Some n → rest_of (number_at w k f bytes) ≡ Ok (drop n bytes)
    by_partial true is h = by_still (is_still (Fixed k f)) refl h
    by_partial false is h =
        let same = same_number _ n h in
        rest_of_number w k f bytes (sym is) ∙ ap (λ (m : ℕ). rest_of (octets_at w m bytes)) same ∙ ap rest_of (at_octets w n bytes le)

boolean_at : (w : Window) (bytes : List ℕ) → 1 ≤ length bytes → big_number 1 bytes < 2 → rest_of (number_at w kind.Boolean form.Full bytes) ≡ Ok (drop 1 bytes)
unfolding number_at form_at
boolean_at w bytes le lt = rw (at_big w 1 bytes le, lt-ltb (big_number 1 bytes) 2 lt) refl

-- a boolean's byte is passed
pub boolean_rest : (w : Window) (bytes : List ℕ) (byte : ℕ) (rest : List ℕ) → bytes ≡ byte ∷ rest → byte < 2 → rest_of (number_at w kind.Boolean form.Full bytes) ≡ Ok (drop 1 bytes)
boolean_rest w bytes byte rest parts lt = rw parts (boolean_at w (byte ∷ rest) (omega arith) (omega arith))

-- so is a char
pub char_rest : (w : Window) (bytes : List ℕ) → 4 ≤ length bytes → scalar (big_number 4 bytes) ≡ true → rest_of (number_at w kind.Char form.Full bytes) ≡ Ok (drop 4 bytes)
unfolding number_at form_at
char_rest w bytes le is = rw (at_big w 4 bytes le, is) refl

-- so are bytes behind their size
pub sized_is : (w : Window) (k : Kind) (s : SizeWidth) (bytes : List ℕ) (n : ℕ) → n ≡ big_number (size_len s) bytes → size_len s + n ≤ length bytes
    → ((at : ℕ) → octets_fault k at (take n (drop (size_len s) bytes)) ≡ None)
    → sized_at w k s bytes ≡ Ok (take n (drop (size_len s) bytes), drop n (drop (size_len s) bytes))
unfolding sized_at
sized_is w k s bytes n is le fine =
    rw (
      at_big w (size_len s) bytes (omega arith),
      sym is,
      at_octets w n (drop (size_len s) bytes) (omega (arith, length-drop (size_len s) bytes)),
      fine (place w (drop (size_len s) bytes)),
    ) refl

-- ---- the constructor in front

-- the place matters to faults alone
pub allowed_anywhere : (at : ℕ) (holds : Bool) (o : Option Constructor) (c : Constructor) → allowed 0 holds o ≡ Ok c → allowed at holds o ≡ Ok c
allowed_anywhere at holds None c e = absurd cc
allowed_anywhere at holds (Some d) c e = chosen (is_container (kind_of d) && not holds) e
  where
    chosen : (b : Bool) → ◌≡◌ {A = Result Constructor ReadFault} (cond b (Err (TooDeep 0)) (Ok d)) (Ok c) → ◌≡◌ {A = Result Constructor ReadFault} (cond b (Err (TooDeep at)) (Ok d)) (Ok c)
    chosen true h = absurd cc
    chosen false h = h

-- no constructor has the code of a description
pub not_described : (holds : Bool) (code : ℕ) (c : Constructor) → allowed 0 holds (find_code code) ≡ Ok c → code ≡ 0 → ⊥
not_described holds code c e zero_is =
    let h : allowed 0 holds (find_code 0) ≡ Ok c = subst (λ (k : ℕ). allowed 0 holds (find_code k) ≡ Ok c) zero_is e in
    absurd cc

coded : (inner : Option Level) (w : Window) (code : ℕ) (c : Constructor) (rest : List ℕ) (total : Result (List ℕ) ReadFault)
    → allowed 0 (is_some inner) (find_code code) ≡ Ok c → after (item_by inner c w None rest) ≡ total
    → after (value_by inner w 0 None (code ∷ rest)) ≡ total
unfolding value_by
coded inner w code c rest total e h =
    rw (ne_eqb code 0 (not_described (is_some inner) code c e), allowed_anywhere (place w (code ∷ rest)) (is_some inner) (find_code code) c e) h

-- the rest behind a code and so many bytes
pub one_on : (n code : ℕ) (bytes rest : List ℕ) → bytes ≡ code ∷ rest → drop n rest ≡ drop (1 + n) bytes
one_on n code bytes rest parts = let more : 1 + n ≡ suc n = omega arith in rw (parts, more) refl

-- a value is passed as its constructor's data are
pub value_coded : (inner : Option Level) (w : Window) (code : ℕ) (c : Constructor) (bytes rest : List ℕ) (n : ℕ) → bytes ≡ code ∷ rest
    → allowed 0 (is_some inner) (find_code code) ≡ Ok c → after (item_by inner c w None rest) ≡ Ok (drop n rest)
    → after (value_by inner w 0 None bytes) ≡ Ok (drop (1 + n) bytes)
value_coded inner w code c bytes rest n parts e h =
    ap (λ (b : List ℕ). after (value_by inner w 0 None b)) parts ∙ coded inner w code c rest (Ok (drop n rest)) e h ∙ ap (λ (r : List ℕ). Ok r) (one_on n code bytes rest parts)

-- a plain width is that of a fixed form
pub plain_found : (o : Option Constructor) (holds : Bool) (n : ℕ) → plain_width o ≡ Some n
    → (j : Kind) × (g : Form) × (allowed 0 holds o ≡ Ok (Fixed j g)) × (cond (is_partial j && not (is_still (Fixed j g))) None (Some (form_len g (width j))) ≡ Some n)
plain_found None holds n e = absurd cc
plain_found (Some (Fixed k f)) holds n e = by_kind (is_container k) refl e
  where
    by_kind : (b : Bool) → b ≡ is_container k
        → cond b None (cond (is_partial k && not (is_still (Fixed k f))) None (Some (form_len f (width k)))) ≡ Some n
        → (j : Kind) × (g : Form) × (allowed 0 holds (Some (Fixed k f)) ≡ Ok (Fixed j g)) × (cond (is_partial j && not (is_still (Fixed j g))) None (Some (form_len g (width j))) ≡ Some n)
    by_kind true is h = absurd cc
    by_kind false is h = (k, f, rw (sym is) refl, h)
plain_found (Some (Variable k s)) holds n e = absurd cc
plain_found (Some EmptyList) holds n e = absurd cc
plain_found (Some (ListIn s)) holds n e = absurd cc
plain_found (Some (MapIn s)) holds n e = absurd cc
plain_found (Some (ArrayIn s)) holds n e = absurd cc

-- one of fixed width by its width
pub plain_value : (inner : Option Level) (w : Window) (code : ℕ) (bytes rest : List ℕ) (n : ℕ) → bytes ≡ code ∷ rest → plain_width (find_code code) ≡ Some n → n ≤ length rest
    → after (value_by inner w 0 None bytes) ≡ Ok (drop (1 + n) bytes)
unfolding item_by
plain_value inner w code bytes rest n parts e le =
    let p = plain_found (find_code code) (is_some inner) n e in
    value_coded inner w code (Fixed p.0 p.1) bytes rest n parts p.2 (uncharged_rest (number_at w p.0 p.1 rest) (Number p.0) ∙ plain_number w p.0 p.1 rest n p.3 le)

-- ---- descriptors

described_then : (level : Level) (w : Window) (read : Part Tree) (first second : List ℕ) → after read ≡ Ok first → after (level.value w 0 None first) ≡ Ok second
    → after (read >>= λ d. level.value w 0 None d.2 >>= λ v. Ok (Described d.0 v.0, v.1, v.2)) ≡ Ok second
described_then level w (Ok x) first second e1 e2 =
    after_step (level.value w 0 None x.2) (λ v. Described x.0 v.0) (λ v. v.1) ∙ ap (λ (r : List ℕ). after (level.value w 0 None r)) (ok_rest x.2 first e1) ∙ e2
described_then level w (Err d) first second e1 e2 = absurd cc

-- a descriptor and what it describes are passed in turn
pub described_rest : (level : Level) (at : ℕ) (w : Window) (bytes first second : List ℕ) → after (level.value w 0 None bytes) ≡ Ok first → after (level.value w 0 None first) ≡ Ok second
    → after (described_at (Some level) at w 0 None bytes) ≡ Ok second
unfolding described_at
described_rest level at w bytes first second e1 e2 = described_then level w (level.value w 0 None bytes) first second e1 e2

described : (level : Level) (w : Window) (code : ℕ) (rest : List ℕ) (total : Result (List ℕ) ReadFault)
    → code ≡ 0 → ((at : ℕ) → after (described_at (Some level) at w 0 None rest) ≡ total)
    → after (value_by (Some level) w 0 None (code ∷ rest)) ≡ total
unfolding value_by
described level w code rest total zero_is h = rw (eq-eqb code 0 zero_is) (h (place w (code ∷ rest)))

-- so a described value is
pub value_described : (inner : Option Level) (level : Level) (w : Window) (code : ℕ) (bytes rest : List ℕ) (n : ℕ) → bytes ≡ code ∷ rest → code ≡ 0 → inner ≡ Some level
    → ((at : ℕ) → after (described_at (Some level) at w 0 None rest) ≡ Ok (drop n rest))
    → after (value_by inner w 0 None bytes) ≡ Ok (drop (1 + n) bytes)
value_described inner level w code bytes rest n parts zero_is some h =
    ap (λ (b : List ℕ). after (value_by inner w 0 None b)) parts ∙ ap (λ (o : Option Level). after (value_by o w 0 None (code ∷ rest))) some
    ∙ described level w code rest (Ok (drop n rest)) zero_is h ∙ ap (λ (r : List ℕ). Ok r) (one_on n code bytes rest parts)

-- ---- items without inner ones

-- items of fixed width are passed together
pub fixed_items : (inner : Option Level) (w : Window) (k : Kind) (f : Form) (n : ℕ) (bytes : List ℕ) → is_partial k ≡ false → n * form_len f (width k) ≤ length bytes
    → after (trees_at (item_by inner (Fixed k f)) n w None bytes) ≡ Ok (drop (n * form_len f (width k)) bytes)
unfolding trees_at item_by
fixed_items inner w k f zero bytes e le = let none : 0 * form_len f (width k) ≡ 0 = omega arith in ap (λ (j : ℕ). Ok (drop j bytes)) (sym none)
fixed_items inner w k f (suc n) bytes e le =
    let m = form_len f (width k) in
    let more : suc n * m ≡ m + n * m = omega arith in
    let one : after (item_by inner (Fixed k f) w None bytes) ≡ Ok (drop m bytes) =
    uncharged_rest (number_at w k f bytes) (Number k) ∙ rest_of_number w k f bytes e ∙ ap rest_of (at_octets w m bytes (omega (arith, more))) in
    first_ok (item_by inner (Fixed k f)) w (item_by inner (Fixed k f) w None bytes) n (drop m bytes) one
    ∙ fixed_items inner w k f n (drop m bytes) e (omega (arith, more, length-drop m bytes))
    ∙ ap (λ (r : List ℕ). Ok r) (drop-drop (n * m) m bytes ∙ ap (λ (j : ℕ). drop j bytes) (sym more))

-- a value is passed from a place on
pub value_on : (inner : Option Level) (w : Window) (bytes : List ℕ) (at n : ℕ) → after (value_by inner w 0 None (drop at bytes)) ≡ Ok (drop n (drop at bytes))
    → after (value_by inner w 0 None (drop at bytes)) ≡ Ok (drop (at + n) bytes)
value_on inner w bytes at n e = e ∙ ap (λ (r : List ℕ). Ok r) (drop-drop n at bytes)

-- so is an item of variable width
pub octets_item : (inner : Option Level) (w : Window) (k : Kind) (s : SizeWidth) (bytes : List ℕ) (at n : ℕ) → rest_of (sized_at w k s (drop at bytes)) ≡ Ok (drop n (drop at bytes))
    → after (item_by inner (Variable k s) w None (drop at bytes)) ≡ Ok (drop (at + n) bytes)
unfolding item_by
octets_item inner w k s bytes at n e = uncharged_rest (sized_at w k s (drop at bytes)) (Octets k) ∙ e ∙ ap (λ (r : List ℕ). Ok r) (drop-drop n at bytes)

-- ---- what a size counts

-- the block of a body
abbrev pub body_block : Window → SizeWidth → List ℕ → Block
body_block w s bytes = block_of w bytes (counted s bytes, drop (size_len s + big_number (size_len s) bytes) bytes)

-- it stands there
pub block_is : (w : Window) (s : SizeWidth) (least : ℕ) (bytes : List ℕ) → size_len s + big_number (size_len s) bytes ≤ length bytes → least ≤ big_number (size_len s) bytes
    → block_at w s least bytes ≡ Ok (body_block w s bytes)
unfolding block_at
block_is w s least bytes le some =
    rw (
      at_big w (size_len s) bytes (omega arith),
      le-ltb (big_number (size_len s) bytes) least some,
      at_octets w (big_number (size_len s) bytes) (drop (size_len s) bytes) (omega (arith, length-drop (size_len s) bytes)),
    ) (ap (λ (r : List ℕ). Ok (block_of w bytes (counted s bytes, r))) (drop-drop (big_number (size_len s) bytes) (size_len s) bytes))

counted_len : (s : SizeWidth) (bytes : List ℕ) → size_len s + big_number (size_len s) bytes ≤ length bytes → length (counted s bytes) ≡ big_number (size_len s) bytes
counted_len s bytes le = length-take-le (big_number (size_len s) bytes) (drop (size_len s) bytes) (omega (arith, length-drop (size_len s) bytes))

-- and so does its count
pub count_is : (w : Window) (s : SizeWidth) (paired : Bool) (bytes : List ℕ) (count : ℕ) (parts : List ℕ) → IsBody s bytes count parts → (paired && eqb (count % 2) 1) ≡ false
    → count_at w s paired (counted s bytes) ≡ Ok (count, parts)
unfolding count_at
count_is w s paired bytes count parts body even =
    let large : size_len s ≤ length (counted s bytes) = omega (arith, counted_len s bytes body.within, body.least) in
    rw (at_big w (size_len s) (counted s bytes) large, sym body.counts, sym body.behind, even) refl

whole_len : (s : SizeWidth) (bytes : List ℕ) (count : ℕ) (parts : List ℕ) → IsBody s bytes count parts → (size_len s + length parts ≡ big_number (size_len s) bytes)
whole_len s bytes count parts body = omega (arith, body.least, counted_len s bytes body.within, ap length body.behind, length-drop (size_len s) (counted s bytes))

-- what is behind it
pub behind_body : (s : SizeWidth) (bytes : List ℕ) (count : ℕ) (parts : List ℕ) → IsBody s bytes count parts
    → drop (size_len s + big_number (size_len s) bytes) bytes ≡ drop (2 * size_len s + length parts) bytes
behind_body s bytes count parts body = ap (λ (n : ℕ). drop n bytes) (omega (arith, whole_len s bytes count parts body))

module _ (level : Level) (w : Window) (s : SizeWidth) (bytes : List ℕ) (count : ℕ) (parts : List ℕ) (body : IsBody s bytes count parts) where
  list_rest : (n : ℕ) → length parts ≤ n → ((v : Window) → after (trees_at (λ within. level.value within 0) count v None parts) ≡ Ok (drop n parts))
      → after (list_at level w s None bytes) ≡ Ok (drop (2 * size_len s + length parts) bytes)
  unfolding list_at
  list_rest n all read =
      let block = body_block w s bytes in
      let items : after (trees_at (λ within. level.value within 0) count block.within None parts) ≡ Ok [] = read block.within ∙ ap (λ (r : List ℕ). Ok r) (drop_all n parts all) in
      rw (block_is w s (size_len s) bytes body.within body.least, count_is block.within s false bytes count parts body refl)
      (closes block (trees_at (λ within. level.value within 0) count block.within None parts) ListOf (Ok []) items ∙ ap (λ (r : List ℕ). Ok r) (behind_body s bytes count parts body))

  map_rest : (n : ℕ) → length parts ≤ n → eqb (count % 2) 1 ≡ false → ((v : Window) → after (trees_at (λ within. level.value within 0) count v None parts) ≡ Ok (drop n parts))
      → after (map_at level w s None bytes) ≡ Ok (drop (2 * size_len s + length parts) bytes)
  map_rest n all even read =
      let block = body_block w s bytes in
      let entries : after (trees_at (λ within. level.value within 0) count block.within None parts) ≡ Ok [] = read block.within ∙ ap (λ (r : List ℕ). Ok r) (drop_all n parts all) in
      map_after level w s bytes block count parts (Ok []) (block_is w s (size_len s) bytes body.within body.least) (count_is block.within s true bytes count parts body even) entries
      ∙ ap (λ (r : List ℕ). Ok r) (behind_body s bytes count parts body)

  pub array_rest : (n code : ℕ) (c : Constructor) (items : List ℕ) → parts ≡ code ∷ items → allowed 0 level.holds (find_code code) ≡ Ok c → length items ≤ n
      → ((v : Window) → after (trees_at (level.item c) count v None items) ≡ Ok (drop n items))
      → after (array_at level w s None bytes) ≡ Ok (drop (2 * size_len s + length parts) bytes)
  array_rest n code c items is e all read =
      let block = body_block w s bytes in
      let more : size_len s + 1 ≤ big_number (size_len s) bytes = omega (arith, whole_len s bytes count parts body, ap length is) in
      let all_read : after (trees_at (level.item c) count block.within None items) ≡ Ok [] = read block.within ∙ ap (λ (r : List ℕ). Ok r) (drop_all n items all) in
      let ne = not_described level.holds code c e in
      let whole : length (code ∷ items) ≡ length (code ∷ items) - 0 = omega arith in
      let head = constructor_after (head_at (length (code ∷ items)) level block.within None (code ∷ items)) in
      let element : constructor_after (head_at (length (code ∷ items)) level block.within None (code ∷ items)) ≡ Ok (c, items) =
      head_code level block.within (length (code ∷ items)) 0 code items head (omega arith) ne
      (subst (λ (k : ℕ). constructor_after (head_at k level block.within None (code ∷ items)) ≡ head) whole refl)
      ∙ rw (allowed_anywhere (place block.within (code ∷ items)) level.holds (find_code code) c e) refl in
      array_after level w s bytes block count (code ∷ items) c items (Ok []) (block_is w s (size_len s + 1) bytes body.within more)
      (subst (λ (h : List ℕ). count_at block.within s false (counted s bytes) ≡ Ok (count, h)) is (count_is block.within s false bytes count parts body refl)) element all_read
      ∙ ap (λ (r : List ℕ). Ok r) (behind_body s bytes count parts body)

  pub parts_rest : (paired : Bool) (n : ℕ) → length parts ≤ n → (paired && eqb (count % 2) 1) ≡ false →
      ((v : Window) → after (trees_at (λ within. level.value within 0) count v None parts) ≡ Ok (drop n parts))
      → after (cond paired (map_at level w s None bytes) (list_at level w s None bytes)) ≡ Ok (drop (2 * size_len s + length parts) bytes)
  parts_rest true n all even read = map_rest n all even read
  parts_rest false n all even read = list_rest n all read
