use Rattle.std.proofs.Common.{◌≡◌, ◌+◌, ◌-◌, ◌≤◌, inl, inr, ℕ, List, [], ◌∷◌, ◌++◌, length, take, drop, subst, arith, length-drop}
use Rattle.std.proofs.lemmas.List.{drop-drop}
use Rattle.amqp_records.specs.Blocks.{HoldsBlocks, BeginsNoBlock, BeginsBlock}
use Rattle.amqp_records.proofs.BlockFronts.{from_on, none_torn, not_whole, holds_join, holds_one}
use Rattle.amqp_records.proofs.block_file.whole_len.Goals as goal

pub loop-size-preserved : goal.loop-size-preserved
loop-size-preserved c =
    let limit = c.args.max_message in
    let bytes = c.args.bytes.now in
    let old = c.loop-size in
    let n = c.in-Whole.size in
    let rest = drop old.at bytes in
    let same = from_on old.at bytes in
    let here : BeginsBlock limit rest n = subst (λ (y : List ℕ). BeginsBlock limit y n) same c.in-Whole.ensures.whole in
    let fits : 12 + n ≤ length rest = subst (λ (y : List ℕ). 12 + n ≤ length y) same c.in-Whole.ensures.within in
    let left : length rest ≡ length bytes - old.at = length-drop old.at bytes in
    let blocks = old.invariant.blocks in
    record {
      within = omega (arith, fits, left, old.invariant.within);
      blocks = (
        blocks.0 ++ here.block ∷ [],
        subst (λ (y : List ℕ). HoldsBlocks limit bytes (blocks.0 ++ here.block ∷ []) y) (drop-drop (12 + n) old.at bytes)
            (holds_join limit bytes rest (drop (12 + n) rest) blocks.0 (here.block ∷ []) blocks.1 (holds_one limit rest n here)),
      );
    }

pub returns : goal.returns
returns c =
    let limit = c.args.max_message in
    let bytes = c.args.bytes.now in
    let old = c.loop-size in
    let part = take (length bytes - old.at) (drop old.at bytes) in
    let none : BeginsNoBlock limit part = elim (not_whole c.block_front.result c.in_default.not-Whole) [
      | inl torn ↦ none_torn limit part (c.block_front.ensures.torn torn)
      | inr other ↦ c.block_front.ensures.none other
    ] in
    record {
      within = old.invariant.within;
      blocks = old.invariant.blocks;
      none = subst (BeginsNoBlock limit) (from_on old.at bytes) none;
    }
