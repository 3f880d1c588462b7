use Rattle.std.proofs.Common.{Bool, arith, sym, subst, ◌∙◌}
use Rattle.amqp_frame.specs.Splits.{IsTaken}
use Rattle.amqp_endpoint.specs.Steps.{EndpointState, FeedDone, Comes}
use Rattle.amqp_endpoint.proofs.endpoint.Endpoint.feed.Goals as goal

pub returns : goal.returns
returns g c =
    subst (λ (b : Bool). FeedDone b c.args.self.now c.act-outcome.new.self c.args.piece.now c.push-used.result c.act-outcome.result) (sym c.if-is_over.false ∙ c.is_over.ensures.value) (record {
      between = c.push-used.new.self;
      taken = subst (λ (s : EndpointState). IsTaken s.input c.push-used.new.self c.args.piece.now c.push-used.result) c.self.view_is (record {
        bound = c.push-used.ensures.bound;
        limit = c.push-used.ensures.limit;
        stage = c.push-used.ensures.stage;
        filled = c.push-used.ensures.filled;
        all = λ l. c.push-used.ensures.all (omega (arith, l));
        full = c.push-used.ensures.full;
        early = λ k l. c.push-used.ensures.early k (omega (arith, l));
      });
      comes = subst (λ (s : EndpointState). Comes (record s { input = c.push-used.new.self }) c.act-outcome.new.self c.act-outcome.result) c.self.view_is c.act-outcome.ensures;
    })
