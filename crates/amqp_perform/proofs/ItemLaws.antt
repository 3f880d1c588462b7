-- An item, and what describes a list, are read exactly where they are spelled.
use Rattle.std.proofs.Common.{◌≡◌, ℕ, ◌-◌, ◌≤◌, Bool, true, false, eqb, cond, List, [], ◌∷◌, ◌++◌, length, take, Option, Some, None, Ok, Err, refl, sym, ap, subst, ◌∙◌, arith}
use Rattle.std.proofs.lemmas.Bool.{eqb-true}
use Rattle.std.proofs.lemmas.List.{take_at, length-append}
use Rattle.std.proofs.lemmas.Option.{same_Some, some_pair_parts}
use Rattle.amqp_types.specs.InHand.{Budget, outermost}
use Rattle.amqp_types.specs.Reading.{Part, value_of}
use Rattle.amqp_types.specs.Spelling.{Spells}
use Rattle.amqp_types.specs.Trees.{Tree, Number, Octets, ListOf, MapOf, ArrayOf, Described, depth_of}
use Rattle.amqp_types.proofs.Octets.{IsBytes, IsBytes-rest}
use Rattle.amqp_types.proofs.Compounds.{value_sound}
use Rattle.amqp_types.proofs.Again.{value_again}
use Rattle.amqp_perform.specs.declared.descriptor.Descriptor.{Descriptor}
use Rattle.amqp_perform.specs.Cells.{◌>>=◌}
use Rattle.amqp_perform.specs.Descriptors.{described_by}
use Rattle.amqp_perform.specs.Items.{Item}
use Rattle.amqp_perform.specs.BodyReading.{item_from, item_at, descriptor_from, descriptor_at}
use Rattle.amqp_perform.proofs.Steps.{bind_some}

-- Items. --------------------------------------------------------------------------------------------------------------

front_is : (bytes text rest : List ℕ) → bytes ≡ text ++ rest → take (length bytes - length rest) bytes ≡ text
front_is bytes text rest e =
    let n : length text ≡ length bytes - length rest = omega (arith, ap length e, length-append text rest) in
    ap (take (length bytes - length rest)) e ∙ take_at text rest (length bytes - length rest) n

-- the bytes begin with the item, within the depth of one
pub record BeginsWith (bytes : List ℕ) (x : Item × List ℕ) : Type 0 where
  pub parts : bytes ≡ x.0.text ++ x.1
  pub spelled : Spells x.0.tree x.0.text
  pub deep : depth_of x.0.tree ≤ 30
  pub rest_fits : IsBytes x.1

item_read : (bytes : List ℕ) (read : Part Tree) (x : Item × List ℕ) → item_from bytes read ≡ Some x
    → (y : Tree × Budget × List ℕ) × (read ≡ Ok y) × ((record { tree = y.0; text = take (length bytes - length y.2) bytes }, y.2) ≡ x)
item_read bytes (Ok y) x e = (y, refl, same_Some (record { tree = y.0; text = take (length bytes - length y.2) bytes }, y.2) x e)
item_read bytes (Err d) x e = absurd cc

-- an item that is read stands there
pub item_found : (bytes : List ℕ) (x : Item × List ℕ) → IsBytes bytes → item_at bytes ≡ Some x → BeginsWith bytes x
item_found bytes x fits e =
    let i = item_read bytes (value_of 30 None bytes) x e in
    let r = value_sound 30 (outermost bytes) 1 None bytes i.0 fits i.1 in
    let text = front_is bytes r.text i.0.2 r.takes.parts in
    subst (λ (y : Item × List ℕ). BeginsWith bytes y) i.2 (record {
      parts = r.takes.parts ∙ ap (λ (t : List ℕ). t ++ i.0.2) (sym text);
      spelled = subst (λ (t : List ℕ). Spells i.0.0 t) (sym text) r.spelled;
      deep = r.deep;
      rest_fits = r.takes.rest_fits;
    })

-- an item that is spelled is read so
pub item_again : (tree : Tree) (text rest : List ℕ) → Spells tree text → depth_of tree ≤ 30 → item_at (text ++ rest) ≡ Some (record { tree = tree; text = text }, rest)
item_again tree text rest spelled deep =
    let bytes = text ++ rest in
    ap (item_from bytes) (value_again tree 30 (outermost bytes) 1 None text rest spelled deep tt (λ c. absurd c))
    ∙ ap (λ (t : List ℕ). Some (record { tree = tree; text = t }, rest)) (front_is bytes text rest refl)

-- Descriptors. --------------------------------------------------------------------------------------------------------

-- 00 and what describes a list as one of the type
pub record DescribesAs (bytes : List ℕ) (d : Descriptor) (rest : List ℕ) : Type 0 where
  pub tree : Tree
  pub text : List ℕ
  pub parts : bytes ≡ 0 ∷ (text ++ rest)
  pub spelled : Spells tree text
  pub describes : described_by tree ≡ Some d
  pub rest_fits : IsBytes rest

descriptor_read : (read : Part Tree) (x : Descriptor × List ℕ) → descriptor_from read ≡ Some x → (y : Tree × Budget × List ℕ) × (read ≡ Ok y) × (described_by y.0 ≡ Some x.0) × (y.2 ≡ x.1)
descriptor_read (Ok y) x e =
    let b = bind_some (described_by y.0) (λ d. Some (d, y.2)) x e in
    let same = some_pair_parts b.0 x.0 y.2 x.1 b.2 in
    (y, refl, b.1 ∙ ap (λ (d : Descriptor). Some d) same.0, same.1)
descriptor_read (Err d) x e = absurd cc

-- a descriptor that is read stands there
pub descriptor_found : (bytes : List ℕ) (x : Descriptor × List ℕ) → IsBytes bytes → descriptor_at bytes ≡ Some x → DescribesAs bytes x.0 x.1
unfolding descriptor_at
descriptor_found [] x fits e = absurd cc
descriptor_found (code ∷ bytes) x fits e =
    let g = tested (eqb code 0) (descriptor_from (value_of 31 None bytes)) e in
    let i = descriptor_read (value_of 31 None bytes) x g.1 in
    let r = value_sound 31 (outermost bytes) 1 None bytes i.0 (IsBytes-rest code bytes fits) i.1 in
    record {
      tree = i.0.0;
      text = r.text;
      parts = ap (λ (c : ℕ). c ∷ bytes) (eqb-true code 0 g.0) ∙ ap (λ (b : List ℕ). 0 ∷ b) (r.takes.parts ∙ ap (λ (b : List ℕ). r.text ++ b) i.3);
      spelled = r.spelled;
      describes = i.2;
      rest_fits = subst (λ (b : List ℕ). IsBytes b) i.3 r.takes.rest_fits;
    }
  where
    tested : (b : Bool) (o : Option (Descriptor × List ℕ)) → cond b o None ≡ Some x → (b ≡ true) × (o ≡ Some x)
    tested true o h = (refl, h)
    tested false o h = absurd cc

-- what describes a list holds no other value
flat : (t : Tree) (d : Descriptor) → described_by t ≡ Some d → depth_of t ≤ 31
flat (Number k n) d e = omega arith
flat (Octets k octets) d e = omega arith
flat (ListOf ts) d e = absurd cc
flat (MapOf ps) d e = absurd cc
flat (ArrayOf ds k ts) d e = absurd cc
flat (Described t u) d e = absurd cc

-- one that is spelled is read so
pub descriptor_again : (t : Tree) (d : Descriptor) (text rest : List ℕ) → Spells t text → described_by t ≡ Some d → descriptor_at (0 ∷ (text ++ rest)) ≡ Some (d, rest)
unfolding descriptor_at
descriptor_again t d text rest spelled describes =
    let bytes = text ++ rest in
    ap descriptor_from (value_again t 31 (outermost bytes) 1 None text rest spelled (flat t d describes) tt (λ c. absurd c))
    ∙ ap (λ (o : Option Descriptor). o >>= λ x. Some (x, rest)) describes
