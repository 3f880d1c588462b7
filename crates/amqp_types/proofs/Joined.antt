-- Values one after the other: their spellings joined, their nodes added up, and what is left of a budget.
use Rattle.std.proofs.Common.{◌≡◌, ℕ, ◌+◌, ◌-◌, ltb, List, [], ◌∷◌, ◌++◌, Some, None, Ok, refl, sym, subst, arith}
use Rattle.std.proofs.lemmas.Bool.{ltb-false}
use Rattle.amqp_types.specs.declared.kind.Kind.{Kind}
use Rattle.amqp_types.specs.declared.fault.ReadFault.TheVariants.{TooManyNodes}
use Rattle.amqp_types.specs.Trees.{Tree, Trees, none, more, IsOfKind, AreOfKind}
use Rattle.amqp_types.specs.Spelling.{Spells, SpellAll, SpellItems}
use Rattle.amqp_types.specs.InHand.{Budget}
use Rattle.amqp_types.specs.Reading.{charge, behind}
use Rattle.amqp_types.specs.Misreading.{IsCounted}
use Rattle.amqp_types.proofs.Sound.{guard_ok}

-- ---- budgets

-- so many nodes were charged, where nodes are counted
abbrev pub Spent : Budget → ℕ → Budget → Type 0
Spent None n left = Unit {0}
Spent (Some budget) n left = (m : ℕ) × (left ≡ Some m) × (m + n ≡ budget)

-- nothing is spent of a budget
pub spent_none : (budget : Budget) → Spent budget 0 budget
spent_none None = tt
spent_none (Some b) = (b, refl, omega arith)

-- what two readings spend is what both together do
pub spent_then : (budget left last : Budget) (m n : ℕ) → Spent budget m left → Spent (behind budget left) n last → Spent budget (m + n) last
spent_then None left last m n p q = tt
spent_then (Some b) left last m n p q =
    let r : Spent (Some p.0) n last = subst (λ (l : Budget). Spent l n last) p.1 q in
    (r.0, r.1, omega (arith, p.2, r.2))

-- the same count
pub spent_same : (budget left : Budget) (m n : ℕ) → m ≡ n → Spent budget m left → Spent budget n left
spent_same budget left m n e p = subst (λ (k : ℕ). Spent budget k left) e p

-- a charge spends what it says
pub spent_charge : (budget : Budget) (n at : ℕ) (left : Budget) → charge budget n at ≡ Ok left → Spent budget n left
spent_charge None n at left e = tt
spent_charge (Some b) n at left e =
    let g = guard_ok (ltb b n) (TooManyNodes at) (Some (b - n)) left e in
    (b - n, sym g.1, omega (arith, ltb-false b n g.0))

-- a budget that is counted stays so
pub counted_behind : (budget left : Budget) (n : ℕ) → Spent budget n left → IsCounted budget → IsCounted (behind budget left)
counted_behind None left n p c = c
counted_behind (Some b) left n p c = subst (λ (l : Budget). IsCounted l) (sym p.1) tt

-- ---- spellings

module _ (S : Tree → List ℕ → Type 0) where
  -- each is spelled so, one behind the other
  pub Joined : Trees → List ℕ → Type 0
  Joined none bytes = bytes ≡ []
  Joined (more t ts) bytes = (first others : List ℕ) × (bytes ≡ first ++ others) × S t first × Joined ts others

  pub joined_none : Joined none []
  unfolding Joined
  joined_none = refl

  pub joined_more : (t : Tree) (ts : Trees) (first others : List ℕ) → S t first → Joined ts others → Joined (more t ts) (first ++ others)
  unfolding Joined
  joined_more t ts first others p q = (first, others, refl, p, q)

-- spellings joined spell a list's items
pub SpellAll-from_joined : (ts : Trees) (bytes : List ℕ) → Joined Spells ts bytes → SpellAll ts bytes
unfolding Joined Spells
SpellAll-from_joined none bytes h = h
SpellAll-from_joined (more t ts) bytes h = (h.0, h.1, h.2, h.3, SpellAll-from_joined ts h.1 h.4)

-- the data of an item of an array
abbrev pub SpellsItem : ℕ → Kind → Tree → List ℕ → Type 0
SpellsItem element k t bytes = Spells t (element ∷ bytes) × IsOfKind k t

-- such data joined spell its items
pub SpellItems-from_joined : (element : ℕ) (k : Kind) (ts : Trees) (bytes : List ℕ) → Joined (SpellsItem element k) ts bytes → SpellItems element ts bytes
unfolding Joined Spells
SpellItems-from_joined element k none bytes h = h
SpellItems-from_joined element k (more t ts) bytes h = (h.0, h.1, h.2, h.3.0, SpellItems-from_joined element k ts h.1 h.4)

-- and all are of its kind
pub AreOfKind-from_joined : (element : ℕ) (k : Kind) (ts : Trees) (bytes : List ℕ) → Joined (SpellsItem element k) ts bytes → AreOfKind k ts
unfolding Joined
AreOfKind-from_joined element k none bytes h = tt
AreOfKind-from_joined element k (more t ts) bytes h = (h.3.1, AreOfKind-from_joined element k ts h.1 h.4)
