use Rattle.std.proofs.Common.{◌≡◌, ◌<◌, ◌++◌, ℕ, List, length, drop, take, ap, sym, refl, subst, ◌∙◌, ◌+◌, suc}
use Rattle.std.proofs.lemmas.Option.{slice_get_read}
use Rattle.std.proofs.lemmas.List.{length-map}
use Rattle.amqp_link.specs.declared.blocks.Block.{Block}
use Rattle.amqp_link.specs.Pieces.{Lying, joined, lengths_of, total}
use Rattle.amqp_link.proofs.Joined.{lies_at, ends_at}
use Rattle.amqp_link.proofs.blocks.Blocks.block.Goals as goal

pub returns-clause-lies : goal.returns-clause-lies
returns-clause-lies g c =
    let whole = c.self.inside.whole.items in
    let last = c.self.inside.last.items in
    let index = c.args.index in
    let block = c.index.result.now in
    let within : index < length whole = subst (λ (n : ℕ). index < n) (length-map whole (λ (b : Block _). length b.bytes.items)) (subst (λ (l : Lying). index < length l.before) (sym c.self.view_is) c.requires) in
    let read = slice_get_read whole (length whole) index block refl within c.index.ensures in
    let behind : List ℕ = joined (drop (suc index) whole) ++ last in (
      behind,
      ap (λ (l : Lying). drop (total (take index l.before)) l.bytes) (sym c.self.view_is)
          ∙ lies_at whole last index block read
          ∙ ap (λ (l : List ℕ). l ++ behind) (sym c.deref.ensures.value),
    )

pub returns-clause-len : goal.returns-clause-len
returns-clause-len g c =
    let whole = c.self.inside.whole.items in
    let index = c.args.index in
    let block = c.index.result.now in
    let within : index < length whole = subst (λ (n : ℕ). index < n) (length-map whole (λ (b : Block _). length b.bytes.items)) (subst (λ (l : Lying). index < length l.before) (sym c.self.view_is) c.requires) in
    let read = slice_get_read whole (length whole) index block refl within c.index.ensures in
    subst (λ (l : Lying). total (take (index + 1) l.before) ≡ total (take index l.before) + length c.deref.result.now) c.self.view_is
    (ends_at whole index block read ∙ ap (λ (l : List ℕ). total (take index (lengths_of whole)) + length l) (sym c.deref.ensures.value))
