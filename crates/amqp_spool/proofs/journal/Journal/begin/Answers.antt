use Rattle.std.proofs.Common.{[], List, subst}
use Rattle.amqp_spool.specs.declared.segments.Named.{Named}
use Rattle.amqp_spool.specs.Folders.{History, Now}
use Rattle.amqp_spool.specs.Reads.{HasNames, IsFound}
use Rattle.amqp_spool.proofs.Starting.{none_kept, begun_at, on_ok}
use Rattle.amqp_spool.proofs.journal.Journal.begin.Goals as goal

pub returns-clause-begun : goal.returns-clause-begun
returns-clause-begun g c = λ t past is empty.
    let s = c.args.self.now in
    let found : IsFound t = subst (λ (h : History). Now IsFound h) is c.requires.found in
    begun_at g.F.Folder.history s c.renew.new.self t past is found empty c.first_head-head.result c.first_head-head.ensures.is c.first_head-head.ensures.first c.to_bytes.result c.to_bytes.ensures c.renew.result c.renew.ensures.went c.renew.ensures.stands (on_ok c.renew.result (λ x. x.0) c.renew.ensures.counted)

pub returns-clause-started : goal.returns-clause-started
returns-clause-started g c = λ ch chs puts t past is says kept.
    let found : IsFound t = subst (λ (h : History). Now IsFound h) is c.requires.found in
    let names : HasNames [] t = subst (λ (l : List Named). HasNames l t) c.requires.none (subst (λ (h : History). Now (HasNames c.args.names.items) h) is c.requires.names) in
    absurd (none_kept t (λ d left. (kept d left).0) found names)

pub returns-then-floor-ne0-clause-whole : goal.returns-then-floor-ne0-clause-whole
returns-then-floor-ne0-clause-whole g c = λ t past n is known readable shown _.
    let found : IsFound t = subst (λ (h : History). Now IsFound h) is c.requires.found in
    let names : HasNames [] t = subst (λ (l : List Named). HasNames l t) c.requires.none (subst (λ (h : History). Now (HasNames c.args.names.items) h) is c.requires.names) in
    none_kept t readable found names
