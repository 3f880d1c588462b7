use Rattle.std.proofs.Common.{sym}
use Rattle.std.proofs.lemmas.Str.{utf8_valid_len-IsUtf8}
use Rattle.amqp_endpoint.proofs.introduction.text_len.Goals as goal

pub returns-in-Ok-clause-value : goal.returns-in-Ok-clause-value
returns-in-Ok-clause-value g = sym (utf8_valid_len-IsUtf8 _ (g.in-Ok.ensures.cases).1)
