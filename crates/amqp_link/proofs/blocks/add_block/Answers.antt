use Rattle.std.proofs.Common.{◌≡◌, ◌+◌, ◌%◌, ◌<◌, ◌++◌, ◌∷◌, [], ℕ, List, length, Vec, arith, rules, ap, sym, subst, ◌∙◌}
use Rattle.std.proofs.lemmas.Grind.{common_steps}
use Rattle.std.proofs.lemmas.List.{length-append}
use Rattle.amqp_link.specs.declared.blocks.Block.{Block}
use Rattle.amqp_link.specs.Pieces.{AreWhole, AreBlocks}
use Rattle.amqp_link.proofs.Joined.{blocks_push}
use Rattle.amqp_link.proofs.blocks.add_block.Goals as goal

pub returns-clause-pieces : goal.returns-clause-pieces
returns-clause-pieces g c =
    let before = c.args.blocks.now.items in
    let bytes = c.replace-bytes.result.items in
    let filled : bytes ≡ c.args.last.now.items ++ c.args.front.now = first_of (search rules, grind (arith, common_steps)) in
    let long : length bytes ≡ length c.args.last.now.items + length c.args.front.now = ap length filled ∙ length-append c.args.last.now.items c.args.front.now in
    let are_whole : AreWhole bytes =
    record {
      some = omega (arith, long, c.requires.some);
      whole = ap (λ (n : ℕ). n % 4096) long ∙ c.requires.whole;
    } in
    let block : Block _ =
    record {
      end = c.args.end;
      bytes = c.replace-bytes.result;
    } in
    let pushed : c.push_reserved.new.self.items ≡ before ++ block ∷ [] = c.push_reserved.ensures.items ∙ ap (λ (l : List _). l ++ block ∷ []) c.reserve.ensures.items in
    record {
      each = subst (λ (l : List _). AreBlocks 0 l) (sym pushed) (blocks_push 0 before block c.requires.pieces.each are_whole (omega (arith, c.requires.end, long)));
      some = λ _. subst (λ (v : Vec ℕ _). 0 < length v.items) (sym c.replace-bytes.ensures.after) c.requires.new;
    }
