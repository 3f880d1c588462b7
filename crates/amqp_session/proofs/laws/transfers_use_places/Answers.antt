use Rattle.amqp_session.proofs.FrameEvents.{transfer_uses, user_is_transfer}
use Rattle.amqp_session.proofs.laws.transfers_use_places.Goals as goal

pub returns : goal.returns
returns c = record { transfer = transfer_uses; alone = user_is_transfer }
