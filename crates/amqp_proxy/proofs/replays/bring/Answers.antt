use Rattle.std.proofs.Common.{◌≡◌, refl, ◌∙◌, sym, arith}
use Rattle.amqp_proxy.specs.declared.proxy.Outcome.TheVariants.{Past}
use Rattle.amqp_proxy.proofs.Pieces.{brings, put_behind, nothing_kept, nil_apart, keeps}
use Rattle.amqp_proxy.proofs.replays.bring.Goals as goal

pub returns-in-Past-clause-exact : goal.returns-in-Past-clause-exact
returns-in-Past-clause-exact c =
    let f = c.feed-fed in
    put_behind c.extend_from_slice.result c.extend_from_slice.new.self.items _ _ _ c.extend_from_slice.ensures.items
    (λ items more. brings c.args.proxy.now.outcome c.args.proxy.now f.new.self f.result.used c.args.piece.now c.args.handed.now.items
    c.extend_from_slice.new.self.items more refl c.requires (sym f.ensures.outcome ∙ c.in-Past.is) f.ensures.exact f.ensures.none items)

pub returns-in-More : goal.returns-in-More
returns-in-More c =
    let f = c.feed-fed in
    let n : f.result.outcome ≡ Past → ⊥ = λ e. grind arith in
    let nil = nothing_kept c.args.proxy.now f.new.self f.result.used c.args.handed.now.items c.requires f.ensures.none (λ e. n (f.ensures.outcome ∙ e)) in
    record {
      apart = nil_apart f.new.self.outcome c.args.handed.now.items nil;
      exact = λ more. keeps f.result.outcome c.args.proxy.now f.new.self f.result.used c.args.piece.now c.args.handed.now.items more
          nil f.ensures.all f.ensures.exact f.ensures.says n;
    }
