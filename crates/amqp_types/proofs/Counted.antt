-- Values of fixed width, where they are followed by what they leave.
use Rattle.std.proofs.Common.{◌≡◌, ℕ, false, ◌+◌, ◌≤◌, List, ◌∷◌, length, drop, Option, Some, Ok, Err, sym, ap, subst, ◌∙◌}
use Rattle.amqp_types.specs.declared.code.Constructor.TheVariants.{Fixed}
use Rattle.amqp_types.specs.declared.window.Window.{Window}
use Rattle.amqp_types.specs.Codes.{find_code}
use Rattle.amqp_types.specs.Reading.{Read, Level, number_at, uncharged, item_by, value_by}
use Rattle.amqp_types.specs.Skipping.{rest_of, plain_width, Leaves}
use Rattle.amqp_types.specs.Trees.{Tree, Number}
use Rattle.amqp_types.proofs.LentKeys.{coded_is}
use Rattle.amqp_types.proofs.Reaches.{one_on, plain_found, plain_number}
use Rattle.amqp_types.proofs.Skips.{ok_rest}

-- what holds no others leaves all nodes
uncharged_leaves : {A : Type 0} (read : Read A) (tree : A → Tree) (nodes : ℕ) (rest : List ℕ) → rest_of read ≡ Ok rest → Leaves (uncharged (Some nodes) read tree) nodes rest
uncharged_leaves (Ok x) tree nodes rest e = (tree x.0, ap (λ (r : List ℕ). Ok (tree x.0, Some nodes, r)) (ok_rest x.1 rest e))
uncharged_leaves (Err d) tree nodes rest e = absurd cc

-- one of fixed width leaves what is behind its width
pub plain_leaves : (inner : Option Level) (w : Window) (nodes code : ℕ) (bytes rest : List ℕ) (n : ℕ) → bytes ≡ code ∷ rest → plain_width (find_code code) ≡ Some n → n ≤ length rest
    → Leaves (value_by inner w 0 (Some nodes) bytes) nodes (drop (1 + n) bytes)
unfolding item_by
plain_leaves inner w nodes code bytes rest n parts e le =
    let p = plain_found (find_code code) false n e in
    let h = uncharged_leaves (number_at w p.0 p.1 rest) (Number p.0) nodes (drop n rest) (plain_number w p.0 p.1 rest n p.3 le) in
    let read = coded_is inner w nodes code (Fixed p.0 p.1) rest (drop n rest) h.0 p.2 h.1 in
    subst (λ (b : List ℕ). Leaves (value_by inner w 0 (Some nodes) b) nodes (drop (1 + n) bytes)) (sym parts)
    (h.0, read ∙ ap (λ (r : List ℕ). Ok (h.0, Some nodes, r)) (one_on n code bytes rest parts))
