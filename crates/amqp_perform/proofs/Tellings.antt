-- A body that begins with a value is told by the items of its list.
use Rattle.std.proofs.Common.{◌≡◌, ℕ, ◌≤◌, Bool, true, false, eqb, cond, is_some, List, [], ◌∷◌, ◌++◌, map, length, Option, Some, None, refl, sym, ap, subst, ◌∙◌, arith, inl, inr}
use Rattle.std.specs.Option.{option_map}
use Rattle.std.proofs.lemmas.Bool.{eqb-true}
use Rattle.std.proofs.lemmas.Option.{same_Some, none-some, some_pair_parts}
use Rattle.amqp_types.specs.Codes.{find_code}
use Rattle.amqp_types.specs.InHand.{outermost}
use Rattle.amqp_types.specs.Reading.{value_of}
use Rattle.amqp_types.specs.Spelling.{Spells, SpellAll}
use Rattle.amqp_types.specs.Trees.{Tree, Number, Octets, ListOf, MapOf, ArrayOf, Described, Trees, none, more, count_of, depth_of, depth_of_all}
use Rattle.amqp_types.proofs.Again.{value_again}
use Rattle.amqp_types.proofs.Peeks.{described_opens}
use Rattle.amqp_perform.specs.declared.descriptor.Descriptor.{Descriptor}
use Rattle.amqp_perform.specs.Bodies.{BeginsWithin}
use Rattle.amqp_perform.specs.BodyReading.{ListAt, descriptor_from, descriptor_at, list_by, list_at, fields_at, described_at, performative_at, body_at}
use Rattle.amqp_perform.specs.Cells.{Cell, ◌>>=◌}
use Rattle.amqp_perform.specs.Descriptors.{described_by}
use Rattle.amqp_perform.specs.Items.{Item, trees_of, text_of, AreSpelled}
use Rattle.amqp_perform.specs.Rules.{Asked, asked_of, may_be_all}
use Rattle.amqp_perform.specs.Tables.{Field, fields_of}
use Rattle.amqp_perform.proofs.Steps.{bind_some}
use Rattle.amqp_perform.proofs.ListLaws.{list_again}
use Rattle.amqp_perform.proofs.RuleLaws.{ended, cells_may, cells_read}

-- The items of a list. ------------------------------------------------------------------------------------------------

-- items that are spelled, within the depth of a field
pub record AreItemsOf (list : ListAt) : Type 0 where
  pub items : List Item
  pub spelled : AreSpelled items
  pub deep : depth_of_all (trees_of items) ≤ 30
  pub count : length items ≡ list.count
  pub text : text_of items ≡ list.items

record AreTrees (ts : Trees) (parts : List ℕ) : Type 0 where
  items : List Item
  trees : trees_of items ≡ ts
  text : text_of items ≡ parts
  count : length items ≡ count_of ts
  spelled : AreSpelled items

trees_are : (ts : Trees) (parts : List ℕ) → SpellAll ts parts → AreTrees ts parts
unfolding SpellAll
trees_are none parts h = record { items = []; trees = refl; text = sym h; count = refl; spelled = tt }
trees_are (more t ts) parts (first, others, joined, spelled, all) =
    let r = trees_are ts others all in
    record {
      items = record { tree = t; text = first } ∷ r.items;
      trees = ap (λ (us : Trees). more t us) r.trees;
      text = ap (λ (b : List ℕ). first ++ b) r.text ∙ sym joined;
      count = omega (arith, r.count);
      spelled = (spelled, r.spelled);
    }

no_list : (second rest : List ℕ) (code : ℕ) (text : List ℕ) (list : ListAt) → second ≡ code ∷ text → list_by (find_code code) (text ++ rest) ≡ None → list_at (second ++ rest) ≡ Some list → ⊥
unfolding list_at
no_list second rest code text list is nothing read = none-some list (sym nothing ∙ sym (ap (λ (b : List ℕ). list_at (b ++ rest)) is) ∙ read)

list_items : (u : Tree) (second rest : List ℕ) (list : ListAt) → Spells u second → depth_of u ≤ 31 → list_at (second ++ rest) ≡ Some list → AreItemsOf list
unfolding Spells
list_items (Number k n) second rest list h deep read = absurd (no_list second rest h.0 h.2 list h.4 (rw h.3 refl) read)
list_items (Octets k octets) second rest list h deep read = absurd (no_list second rest h.0 h.2 list h.4 (rw h.3 refl) read)
list_items (MapOf ps) second rest list h deep read = absurd (no_list second rest h.0 h.3 list h.5 (rw h.4 refl) read)
list_items (ArrayOf ds k ts) second rest list h deep read = absurd (no_list second rest h.0 h.6 list h.8 (rw h.7 refl) read)
list_items (Described d t) second rest list h deep read = absurd (no_list second rest 0 (h.0 ++ h.1) list h.2 refl read)
list_items (ListOf ts) second rest list (inl h) deep read =
    let again = list_again [] second rest (inl (h.0, h.1, h.2, refl)) in
    let same = same_Some (record { count = 0; items = []; behind = rest }) list (sym again ∙ read) in
    record { items = []; spelled = tt; deep = omega arith; count = ap (λ (l : ListAt). l.count) same; text = ap (λ (l : ListAt). l.items) same }
list_items (ListOf ts) second rest list (inr h) deep read =
    let r = trees_are ts h.2 h.7 in
    let again = list_again r.items second rest (inr (h.0, h.1, h.3, h.4, h.5, rw (r.count, r.text) h.6, r.spelled)) in
    let same = same_Some (record { count = length r.items; items = text_of r.items; behind = rest }) list (sym again ∙ read) in
    record {
      items = r.items;
      spelled = r.spelled;
      deep = omega (arith, deep, ap depth_of_all r.trees);
      count = ap (λ (l : ListAt). l.count) same;
      text = ap (λ (l : ListAt). l.items) same;
    }

-- what follows a descriptor
descriptor_behind : (d : Tree) (first rest : List ℕ) (x : Descriptor × List ℕ) → Spells d first → depth_of d ≤ 31 → descriptor_from (value_of 31 None (first ++ rest)) ≡ Some x → x.1 ≡ rest
descriptor_behind d first rest x spelled deep read =
    let again = value_again d 31 (outermost (first ++ rest)) 1 None first rest spelled deep tt (λ c. absurd c) in
    let b = bind_some (described_by d) (λ d. Some (d, rest)) x (sym (ap descriptor_from again) ∙ read) in
    sym (some_pair_parts b.0 x.0 rest x.1 b.2).1

head_items : (t : Tree) (text rest bytes : List ℕ) (head : Descriptor × List ℕ) (list : ListAt) → Spells t text → depth_of t ≤ 32 → bytes ≡ text ++ rest
    → descriptor_at bytes ≡ Some head → list_at head.1 ≡ Some list → AreItemsOf list
unfolding descriptor_at
head_items t text rest [] head list spelled deep parts e read = absurd cc
head_items t text rest (code ∷ bytes) head list spelled deep parts e read = tested (eqb code 0) refl e
  where
    tested : (b : Bool) → eqb code 0 ≡ b → cond b (descriptor_from (value_of 31 None bytes)) None ≡ Some head → AreItemsOf list
    tested true zero from =
        let o = described_opens t text rest code bytes spelled parts (eqb-true code 0 zero) in
        let deeper : depth_of (Described o.0 o.1) ≤ 32 = subst (λ (u : Tree). depth_of u ≤ 32) o.4 deep in
        let behind = descriptor_behind o.0 o.2 (o.3 ++ rest) head o.7 (omega (arith, deeper)) (subst (λ (b : List ℕ). descriptor_from (value_of 31 None b) ≡ Some head) o.6 from) in
        list_items o.1 o.3 rest list o.8 (omega (arith, deeper)) (sym (ap list_at behind) ∙ read)
    tested false other from = absurd cc

-- the items of the list that a body begins with
pub items_are : (bytes : List ℕ) (d : Descriptor) (list : ListAt) → BeginsWithin 32 bytes → described_at bytes ≡ Some (d, list) → AreItemsOf list
unfolding described_at
items_are bytes d list (t, text, rest, spelled, deep, parts) e =
    let a = bind_some (descriptor_at bytes) (λ d. list_at d.1 >>= λ list. Some (d.0, list)) (d, list) e in
    let b = bind_some (list_at a.0.1) (λ list. Some (a.0.0, list)) (d, list) a.2 in
    let same = some_pair_parts a.0.0 d b.0 list b.2 in
    subst (λ (l : ListAt). AreItemsOf l) same.1 (head_items t text rest bytes a.0 b.0 spelled deep parts a.1 b.1)

-- Telling. ------------------------------------------------------------------------------------------------------------

abbrev with_type : Descriptor → List ℕ → List Cell → Option (Descriptor × List Cell × List ℕ)
with_type d behind cells = Some (d, cells, behind)

-- a body of a described list is a performative where its items are
told : (bytes : List ℕ) (d : Descriptor) (list : ListAt) → described_at bytes ≡ Some (d, list) → is_some (body_at bytes) ≡ is_some (performative_at d list.count list.items)
unfolding body_at
told bytes d list e = rw e (kept (performative_at d list.count list.items))
  where
    kept : (o : Option (List Cell)) → is_some (o >>= with_type d list.behind) ≡ is_some o
    kept None = refl
    kept (Some cells) = refl

-- no described list
pub none_told : (bytes : List ℕ) → described_at bytes ≡ None → is_some (body_at bytes) ≡ false
unfolding body_at
none_told bytes e = rw e refl

-- what describes no performative
pub no_rules : (bytes : List ℕ) (d : Descriptor) (list : ListAt) → described_at bytes ≡ Some (d, list) → None ≡ option_map (map asked_of) (fields_of d) → is_some (body_at bytes) ≡ false
unfolding performative_at
no_rules bytes d list e nothing = told bytes d list e ∙ by (fields_of d) nothing
  where
    by : (o : Option (List Field)) → None ≡ option_map (map asked_of) o → is_some (o >>= λ table. fields_at table list.count list.items >>= ended) ≡ false
    by None h = refl
    by (Some fs) h = absurd cc

-- what describes one
pub by_rules : (bytes : List ℕ) (d : Descriptor) (list : ListAt) (asked : List Asked) (xs : List Item) → described_at bytes ≡ Some (d, list) → AreSpelled xs → depth_of_all (trees_of xs) ≤ 30
    → length xs ≡ list.count → text_of xs ≡ list.items → Some asked ≡ option_map (map asked_of) (fields_of d) → may_be_all asked xs ≡ is_some (body_at bytes)
unfolding performative_at
by_rules bytes d list asked xs e spelled deep count text rules = sym (told bytes d list e ∙ by (fields_of d) rules)
  where
    by : (o : Option (List Field)) → Some asked ≡ option_map (map asked_of) o → is_some (o >>= λ table. fields_at table list.count list.items >>= ended) ≡ may_be_all asked xs
    by None h = absurd cc
    by (Some fs) h =
        rw (← count, ← text) (ap is_some (cells_read fs xs spelled deep) ∙ sym (cells_may fs xs) ∙ ap (λ (a : List Asked). may_be_all a xs) (sym (same_Some asked (map asked_of fs) h)))
