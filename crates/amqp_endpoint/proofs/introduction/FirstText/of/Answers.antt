use Rattle.std.proofs.Common.{◌∙◌, ℕ, List, length, take, ap, arith}
use Rattle.std.proofs.lemmas.List.{length-take}
use Rattle.amqp_endpoint.specs.FirstTexts.{whole_text}
use Rattle.amqp_endpoint.proofs.introduction.FirstText.of.Goals as goal

pub room_of-requires : goal.room_of-requires
room_of-requires c =
    omega (arith, ap length c.first-kept.ensures, length-take c.text_len.result c.first-front.result.now, ap length c.first-front.ensures, length-take 255 c.args.text.now)

pub returns : goal.returns
returns c =
    c.room_of.ensures ∙ c.first-kept.ensures ∙ ap (λ (n : ℕ). take n c.first-front.result.now) c.text_len.ensures.value ∙ ap (λ (l : List ℕ). whole_text l) c.first-front.ensures
