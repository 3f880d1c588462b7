use Rattle.amqp_endpoint.proofs.Follows.{take_follows, settle_accepted, grant_follows, widen_follows}
use Rattle.amqp_endpoint.proofs.laws.what_follows_is_accepted.Goals as goal

pub returns : goal.returns
returns c =
    let law = c.runs_have_a_history.ensures in
    record {
      take = λ config k h granted messages old new piece used channel handle u fed. take_follows law config k h granted messages old u new piece used channel handle fed;
      settle = settle_accepted c.connection_begins.ensures c.connection_goes_on.ensures law;
      grant = λ config k h granted messages s channel handle n l u. grant_follows law config k h granted messages s u channel handle n l;
      widen = λ config k h granted messages s channel n t u. widen_follows law config k h granted messages s u channel n t;
    }
