use Rattle.amqp_endpoint.proofs.Ready.{none_ready, refused_at}
use Rattle.amqp_endpoint.proofs.laws.takes_are_refused_where_none_is_ready.Goals as goal

pub returns : goal.returns
returns c = λ config h unsent channel handle sound. (none_ready config h unsent channel handle sound, refused_at config h unsent channel handle sound)
