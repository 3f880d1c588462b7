use Rattle.std.proofs.Common.{arith}
use Rattle.amqp_spool.specs.Entries.{Introduced, IsIntroduced}
use Rattle.amqp_spool.proofs.EntryTexts.{from_connection, from_peer, from_container, from_name, from_user, from_kind, from_target}
use Rattle.amqp_spool.proofs.EntryFronts.{behind8, behind32, behind64, behind_short, introducing, introduction_from}
use Rattle.amqp_spool.proofs.entry.introduction_front.Goals as goal

pub returns-in_err-link-clause-none : goal.returns-in_err-link-clause-none
returns-in_err-link-clause-none c = λ _ i r x.
    let at_link = introducing c.args.bytes.now r i x in
    c.word32_front.ensures.none c.in_err-link.was i.link (from_connection i r) at_link

pub returns-in_err-connection-clause-none : goal.returns-in_err-connection-clause-none
returns-in_err-connection-clause-none c = λ _ i r x.
    let at_link = introducing c.args.bytes.now r i x in
    let at_connection = behind32 c.args.bytes.now c.in_ok-link.rest.now (from_connection i r) c.in_ok-link.link i.link c.in_ok-link.ensures.within x.is.link c.in_ok-link.ensures.some at_link in
    c.word64_front.ensures.none c.in_err-connection.was i.connection (from_peer i r) at_connection

pub returns-in_err-peer-clause-none : goal.returns-in_err-peer-clause-none
returns-in_err-peer-clause-none c = λ _ i r x.
    let at_link = introducing c.args.bytes.now r i x in
    let at_connection = behind32 c.args.bytes.now c.in_ok-link.rest.now (from_connection i r) c.in_ok-link.link i.link c.in_ok-link.ensures.within x.is.link c.in_ok-link.ensures.some at_link in
    let at_peer = behind64 c.in_ok-link.rest.now c.in_ok-connection.rest.now (from_peer i r) c.in_ok-connection.connection i.connection c.in_ok-connection.ensures.within x.is.connection c.in_ok-connection.ensures.some at_connection in
    c.short_front.ensures.none c.in_err-peer.was i.peer (from_container i r) x.is.peer at_peer

pub returns-in_err-container-clause-none : goal.returns-in_err-container-clause-none
returns-in_err-container-clause-none c = λ _ i r x.
    let at_link = introducing c.args.bytes.now r i x in
    let at_connection = behind32 c.args.bytes.now c.in_ok-link.rest.now (from_connection i r) c.in_ok-link.link i.link c.in_ok-link.ensures.within x.is.link c.in_ok-link.ensures.some at_link in
    let at_peer = behind64 c.in_ok-link.rest.now c.in_ok-connection.rest.now (from_peer i r) c.in_ok-connection.connection i.connection c.in_ok-connection.ensures.within x.is.connection c.in_ok-connection.ensures.some at_connection in
    let at_container = behind_short c.in_ok-connection.rest.now c.in_ok-peer.rest.now (from_container i r) c.in_ok-peer.peer.now i.peer c.in_ok-peer.ensures.some at_peer in
    c.short_front-2.ensures.none c.in_err-container.was i.container (from_name i r) x.is.container at_container

pub returns-in_err-name-clause-none : goal.returns-in_err-name-clause-none
returns-in_err-name-clause-none c = λ _ i r x.
    let at_link = introducing c.args.bytes.now r i x in
    let at_connection = behind32 c.args.bytes.now c.in_ok-link.rest.now (from_connection i r) c.in_ok-link.link i.link c.in_ok-link.ensures.within x.is.link c.in_ok-link.ensures.some at_link in
    let at_peer = behind64 c.in_ok-link.rest.now c.in_ok-connection.rest.now (from_peer i r) c.in_ok-connection.connection i.connection c.in_ok-connection.ensures.within x.is.connection c.in_ok-connection.ensures.some at_connection in
    let at_container = behind_short c.in_ok-connection.rest.now c.in_ok-peer.rest.now (from_container i r) c.in_ok-peer.peer.now i.peer c.in_ok-peer.ensures.some at_peer in
    let at_name = behind_short c.in_ok-peer.rest.now c.in_ok-container.rest.now (from_name i r) c.in_ok-container.container.now i.container c.in_ok-container.ensures.some at_container in
    c.short_front-3.ensures.none c.in_err-name.was i.name (from_user i r) x.is.name at_name

pub returns-in_err-user-clause-none : goal.returns-in_err-user-clause-none
returns-in_err-user-clause-none c = λ _ i r x.
    let at_link = introducing c.args.bytes.now r i x in
    let at_connection = behind32 c.args.bytes.now c.in_ok-link.rest.now (from_connection i r) c.in_ok-link.link i.link c.in_ok-link.ensures.within x.is.link c.in_ok-link.ensures.some at_link in
    let at_peer = behind64 c.in_ok-link.rest.now c.in_ok-connection.rest.now (from_peer i r) c.in_ok-connection.connection i.connection c.in_ok-connection.ensures.within x.is.connection c.in_ok-connection.ensures.some at_connection in
    let at_container = behind_short c.in_ok-connection.rest.now c.in_ok-peer.rest.now (from_container i r) c.in_ok-peer.peer.now i.peer c.in_ok-peer.ensures.some at_peer in
    let at_name = behind_short c.in_ok-peer.rest.now c.in_ok-container.rest.now (from_name i r) c.in_ok-container.container.now i.container c.in_ok-container.ensures.some at_container in
    let at_user = behind_short c.in_ok-container.rest.now c.in_ok-name.rest.now (from_user i r) c.in_ok-name.name.now i.name c.in_ok-name.ensures.some at_name in
    c.short_front-4.ensures.none c.in_err-user.was i.user (from_kind i r) x.is.user at_user

pub returns-in_err-kind-clause-none : goal.returns-in_err-kind-clause-none
returns-in_err-kind-clause-none c = λ _ i r x.
    let at_link = introducing c.args.bytes.now r i x in
    let at_connection = behind32 c.args.bytes.now c.in_ok-link.rest.now (from_connection i r) c.in_ok-link.link i.link c.in_ok-link.ensures.within x.is.link c.in_ok-link.ensures.some at_link in
    let at_peer = behind64 c.in_ok-link.rest.now c.in_ok-connection.rest.now (from_peer i r) c.in_ok-connection.connection i.connection c.in_ok-connection.ensures.within x.is.connection c.in_ok-connection.ensures.some at_connection in
    let at_container = behind_short c.in_ok-connection.rest.now c.in_ok-peer.rest.now (from_container i r) c.in_ok-peer.peer.now i.peer c.in_ok-peer.ensures.some at_peer in
    let at_name = behind_short c.in_ok-peer.rest.now c.in_ok-container.rest.now (from_name i r) c.in_ok-container.container.now i.container c.in_ok-container.ensures.some at_container in
    let at_user = behind_short c.in_ok-container.rest.now c.in_ok-name.rest.now (from_user i r) c.in_ok-name.name.now i.name c.in_ok-name.ensures.some at_name in
    let at_kind = behind_short c.in_ok-name.rest.now c.in_ok-user.rest.now (from_kind i r) c.in_ok-user.user.now i.user c.in_ok-user.ensures.some at_user in
    c.byte_front.ensures.none c.in_err-kind.was i.kind (from_target i r) (omega (arith, x.is.kind)) at_kind

pub returns-in_err-target-clause-none : goal.returns-in_err-target-clause-none
returns-in_err-target-clause-none c = λ _ i r x.
    let at_link = introducing c.args.bytes.now r i x in
    let at_connection = behind32 c.args.bytes.now c.in_ok-link.rest.now (from_connection i r) c.in_ok-link.link i.link c.in_ok-link.ensures.within x.is.link c.in_ok-link.ensures.some at_link in
    let at_peer = behind64 c.in_ok-link.rest.now c.in_ok-connection.rest.now (from_peer i r) c.in_ok-connection.connection i.connection c.in_ok-connection.ensures.within x.is.connection c.in_ok-connection.ensures.some at_connection in
    let at_container = behind_short c.in_ok-connection.rest.now c.in_ok-peer.rest.now (from_container i r) c.in_ok-peer.peer.now i.peer c.in_ok-peer.ensures.some at_peer in
    let at_name = behind_short c.in_ok-peer.rest.now c.in_ok-container.rest.now (from_name i r) c.in_ok-container.container.now i.container c.in_ok-container.ensures.some at_container in
    let at_user = behind_short c.in_ok-container.rest.now c.in_ok-name.rest.now (from_user i r) c.in_ok-name.name.now i.name c.in_ok-name.ensures.some at_name in
    let at_kind = behind_short c.in_ok-name.rest.now c.in_ok-user.rest.now (from_kind i r) c.in_ok-user.user.now i.user c.in_ok-user.ensures.some at_user in
    let at_target = behind8 c.in_ok-user.rest.now c.in_ok-kind.rest.now (from_target i r) c.in_ok-kind.kind i.kind c.in_ok-kind.ensures.some at_kind in
    c.long_front.ensures.none c.in_err-target.was i.target r x.is.target at_target

pub returns-clause-some : goal.returns-clause-some
returns-clause-some c =
    let i : Introduced = record {
      link = c.in_ok-link.link;
      connection = c.in_ok-connection.connection;
      peer = c.in_ok-peer.peer.now;
      container = c.in_ok-container.container.now;
      name = c.in_ok-name.name.now;
      user = c.in_ok-user.user.now;
      kind = c.in_ok-kind.kind;
      target = c.in_ok-target.target.now;
    } in
    let is : IsIntroduced i = record {
      link = c.in_ok-link.ensures.within;
      connection = c.in_ok-connection.ensures.within;
      peer = c.in_ok-peer.ensures.within;
      container = c.in_ok-container.ensures.within;
      name = c.in_ok-name.ensures.within;
      user = c.in_ok-user.ensures.within;
      kind = omega (arith, c.in_ok-kind.ensures.within);
      target = c.in_ok-target.ensures.within;
    } in
    introduction_from c.args.bytes.now c.in_ok-link.rest.now c.in_ok-connection.rest.now c.in_ok-peer.rest.now c.in_ok-container.rest.now c.in_ok-name.rest.now c.in_ok-user.rest.now c.in_ok-kind.rest.now c.in_ok-target.rest.now i is
    c.in_ok-link.ensures.some c.in_ok-connection.ensures.some c.in_ok-peer.ensures.some c.in_ok-container.ensures.some c.in_ok-name.ensures.some c.in_ok-user.ensures.some c.in_ok-kind.ensures.some c.in_ok-target.ensures.some
