use Rattle.std.proofs.Common.{arith, ◌≡◌, ℕ, ◌<◌, ◌^◌, List, ◌++◌, codes, subst, sym, ap, ◌∙◌}
use Rattle.std.specs.Fmt.{HasWritten, styled_decimal}
use Rattle.amqp_spool.specs.FileNames.{file_name}
use Rattle.amqp_spool.proofs.NameDigits.{padded_is}
use Rattle.amqp_spool.proofs.dir_names.FileNameDisplay.fmt.Goals as goal

pub returns-in-Segment-clause-writes : goal.returns-in-Segment-clause-writes
returns-in-Segment-clause-writes g c = λ plain ok.
    let first = c.in-Segment.first in
    let lt : first < 2 ^ 64 = omega arith in
    let digits = ap (λ s. styled_decimal s first) c.laid_out.ensures ∙ padded_is first lt in
    let name : styled_decimal c.laid_out.result first ++ codes ".seg" ≡ file_name c.args.self.now = ap (λ (l : List ℕ). l ++ codes ".seg") digits ∙ ap (λ n. file_name n) (sym c.in-Segment.is) in
    subst (λ (text : List ℕ). HasWritten {W = g.row.W.Denot} g.W.Write.write_str_gives c.args.f.now text c.write.new.self) name (c.write.ensures.writes plain ok)
