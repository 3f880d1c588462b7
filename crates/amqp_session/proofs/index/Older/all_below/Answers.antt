use Rattle.std.proofs.Common.{arith, List, ℕ, sym, ap, ◌∙◌}
use Rattle.std.proofs.lemmas.Option.{slice_get_within}
use Rattle.amqp_session.specs.declared.index.Kept.{Kept}
use Rattle.amqp_session.specs.Indexes.{found}
use Rattle.amqp_session.specs.Recents.{open_of}
use Rattle.amqp_session.proofs.Olders.{in_second}
use Rattle.amqp_session.proofs.Recents.{none_found}
use Rattle.amqp_session.proofs.index.Older.all_below.Goals as goal

pub returns-then-is_above : goal.returns-then-is_above
returns-then-is_above g c = λ none.
    let below = c.is_above.ensures.0 c.if-is_above.true in
    let bs = c.self.inside.recent in
    ap (λ (es : List (ℕ × Kept)). found es c.args.id) (sym c.self.view_is)
    ∙ in_second (open_of bs) c.self.inside.rest c.args.id (none_found bs c.args.id (λ i b at e. absurd (let less = below i b (slice_get_within bs i b at) at in omega (arith, less, e))))
    ∙ ap (λ (es : List (ℕ × Kept)). found es c.args.id) (c.is_empty.ensures.0 none)
