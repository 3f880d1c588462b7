use Rattle.std.proofs.Common.{rules, ◌≡◌, List, reverse, subst, sym, ap, ◌∙◌}
use Rattle.std.proofs.lemmas.List.{reverse-reverse}
use Rattle.std.proofs.lemmas.List.Sorted.{IsNonDecreasingBy-from_sort_by_key}
use Rattle.std.specs.List.Sorted.{IsNonDecreasingBy}
use Rattle.amqp_spool.specs.declared.segments.Named.{Named}
use Rattle.amqp_spool.proofs.dir.segments_in.Goals as goal

pub returns-clause-order : goal.returns-clause-order
returns-clause-order g c =
    let items = c.sort_unstable_by_key.new.self.items in
    let sorted = IsNonDecreasingBy-from_sort_by_key (λ (n : Named). n.first) items c.sort_unstable_by_key.ensures.sorted (search rules) in
    let same : reverse c.reverse.new.self.items ≡ items = ap (λ (l : List Named). reverse l) c.reverse.ensures.items ∙ reverse-reverse items in
    subst (λ (l : List Named). IsNonDecreasingBy (λ n. n.first) l) (sym same) sorted
