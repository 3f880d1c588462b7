use Rattle.std.proofs.Common.{sym, ◌∙◌}
use Rattle.std.proofs.lemmas.Bool.{false≢true}
use Rattle.amqp_dump.proofs.Tellings.{end_tells, rest_header, rest_none, rest_cut}
use Rattle.amqp_dump.proofs.scan.Scanner.end.Goals as goal

pub returns-then-self-eq0-clause-told : goal.returns-then-self-eq0-clause-told
returns-then-self-eq0-clause-told c = end_tells c.args.self.now _ (rest_header c.args.self.now.place c.args.self.now.splitter.filled c.if-self-eq0.true)

pub returns-then-is_empty-clause-told : goal.returns-then-is_empty-clause-told
returns-then-is_empty-clause-told c =
    end_tells c.args.self.now _ (rest_none c.args.self.now.place c.args.self.now.splitter.filled c.if-self-eq0.false (c.is_empty.ensures.0 c.if-is_empty.true))

pub returns-else-is_empty-clause-told : goal.returns-else-is_empty-clause-told
returns-else-is_empty-clause-told c =
    end_tells c.args.self.now _ (rest_cut c.args.self.now.place c.args.self.now.splitter.filled c.if-self-eq0.false (λ none. false≢true (sym c.if-is_empty.false ∙ c.is_empty.ensures.1 none)))
