use Rattle.std.proofs.Common.{rules}
use Rattle.std.proofs.lemmas.Iterator.{YieldsList-from_map, YieldsList-from_slice}
use Rattle.std.proofs.lemmas.Iterator.Consumers.{YieldsList-at}
use Rattle.std.proofs.lemmas.Iterator.Adapters.{items_from_extend}
use Rattle.amqp_records.specs.Lines.{printable_of}
use Rattle.amqp_records.proofs.line.put_printable.Goals as goal

pub returns : goal.returns
returns c =
    let all = items_from_extend c.extend.result c.extend.ensures.ran
    (YieldsList-from_map _ printable_of (YieldsList-at c.map.ensures.source (YieldsList-from_slice c.args.text.now c.iter.ensures.rest)) c.map.ensures.closure (λ x r q k. search rules))
    in
    search rules
