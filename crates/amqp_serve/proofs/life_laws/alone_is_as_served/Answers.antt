use Rattle.std.proofs.Common.{◌++◌, ap, ◌∙◌}
use Rattle.amqp_serve.specs.Cuts.{Made}
use Rattle.amqp_serve.specs.Lives.{heard_bytes, last_words}
use Rattle.amqp_serve.specs.Policies.{rule_of}
use Rattle.amqp_serve.proofs.life_laws.alone_is_as_served.Goals as goal

pub returns : goal.returns
returns c p config l end ended old new held now kept keeps within x begins y =
    let both = c.what_is_made_is_one.ensures (rule_of p) config (heard_bytes l.heard) x.made _ x.end end within x.is
    (c.serving_follows_the_units.ensures p config end (heard_bytes l.heard) ended old new held now kept keeps begins y) in
    let same = both.0 in (
      x.noted ∙ ap (λ (m : Made). m.recorded) same,
      (x.rest, x.told ∙ ap (λ (m : Made). m.written ++ last_words l.ended) same, x.due),
      λ e is. x.ended e is ∙ both.1,
    )
