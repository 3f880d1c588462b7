-- The theorem of the pair: all turns are answered well, and what was taken is a beginning of what was taken over.
use Rattle.std.proofs.Common.{◌≡◌, ℕ, ◌+◌, ◌^◌, ◌≤◌, List, [], ◌∷◌, ◌++◌, length, map, refl, sym, ap, subst, ◌∙◌, arith, append_assoc, append-nil, length-append}
use Rattle.amqp_frame.specs.declared.units.TheConstants.{HEADER}
use Rattle.amqp_session.specs.declared.slot.Slot.TheVariants.{Free}
use Rattle.amqp_session.specs.Places.{tabulate}
use Rattle.amqp_endpoint.specs.Configs.{Configured}
use Rattle.amqp_endpoint.specs.Connections.{ConnectionState, connection_begins}
use Rattle.amqp_endpoint.specs.Runs.{Handed}
use Rattle.amqp_send.specs.Sendings.{SendTerms, Sending, sending_begins}
use Rattle.amqp_pair.specs.declared.turn.Turn as asked
use Rattle.amqp_pair.specs.declared.turn.Turn.TheVariants as turn
use Rattle.amqp_pair.specs.declared.turn.TurnAnswer.{TurnAnswer}
use Rattle.amqp_pair.specs.declared.turn.TurnAnswer.TheVariants as answer
use Rattle.amqp_pair.specs.Histories.{AllInRange}
use Rattle.amqp_pair.specs.Items.{AwaitsHeader, OwnHeader}
use Rattle.amqp_pair.specs.Paired.{link_terms, IsFar, HasHeard, Paired, offered_by, TurnLaw}
use Rattle.amqp_pair.specs.Served.{AreTerms, AreFair, AreShort, AreWell, PairLaw}
use Rattle.amqp_pair.specs.Turns.{Turn, Offer, ToEndpoint, ToSender, Ask, turn_of, Ends, Pair, AreStart, offered_in}
use Rattle.amqp_pair.specs.Words.{sender_of}
use Rattle.amqp_pair.specs.World.{World, Plain, Inv}
use Rattle.amqp_pair.specs.World as level

-- The start. ------------------------------------------------------------------------------------------------------------------

pub paired_at_start : (config : Configured) (terms : SendTerms) (s : Ends) (x : Plain) → AreTerms config terms → AreStart config terms s → Inv (level.start (link_terms config terms) config.window) x
    → Paired config terms s (level.start (link_terms config terms) config.window) x
paired_at_start config terms s x a new i =
    let w : World = level.start (link_terms config terms) config.window in
    let same : s.sender.sending ≡ sending_begins terms = new.sender.sending in
    let own : ConnectionState = connection_begins config in
    let own_far : IsFar config terms own w AwaitsHeader = (refl, record { others = tabulate 1 config.channel_max (λ (k : ℕ). Free); sessions = refl; places = refl; next = refl; link = refl }) in
    record {
      e = AwaitsHeader;
      r = AwaitsHeader;
      items = OwnHeader ∷ [];
      replies = [];
      half = record {
        config_is = ap (λ (z : ConnectionState). z.config) new.endpoint.connection;
        far = subst (λ (z : ConnectionState). IsFar config terms z w AwaitsHeader) (sym new.endpoint.connection) own_far;
        out = record {
          joined = ap (λ (z : List ℕ). z ++ (s.to_endpoint ++ s.sender.sending.unsent)) new.endpoint.filled ∙ ap (λ (z : List ℕ). z ++ s.sender.sending.unsent) new.to_endpoint
              ∙ ap (λ (z : Sending). z.unsent) same ∙ sym (append-nil HEADER);
          limit = new.endpoint.limit;
          stage = new.endpoint.stage;
          leads = (refl, refl);
          right = tt;
        };
        sender = ap (λ (z : Sending). sender_of z) (sym same);
        to_end = refl;
        given = ap (λ (z : List Handed). map (λ (d : Handed). d.message) z) new.taken;
        terms_are = refl;
        sound = i;
      };
      heard = subst (λ (z : Sending). HasHeard config terms z AwaitsHeader) (sym same)
          (record {
            terms_are = refl;
            talks = refl;
            numbered = record { least = omega arith; most = omega arith; id = omega arith; next = omega arith; count = omega arith; peer = tt };
            size = a.configured.some_frame;
            unflowed = refl;
          });
      back = record {
        joined = ap (λ (z : List ℕ). z ++ (s.to_sender ++ s.endpoint.unsent)) new.sender.filled ∙ ap (λ (z : List ℕ). z ++ s.endpoint.unsent) new.to_sender ∙ new.endpoint.unsent;
        limit = new.sender.limit;
        stage = new.sender.stage;
        leads = refl;
        said = tt;
      };
      to_sender = refl;
    }

-- All turns. --------------------------------------------------------------------------------------------------------------------

offered_first : (turn : Turn) (a : TurnAnswer) (turns : List Turn) (answers : List TurnAnswer) → offered_in (turn ∷ turns) (a ∷ answers) ≡ offered_by turn a ++ offered_in turns answers
offered_first (Offer m) answer.TakenOver turns answers = refl
offered_first (Offer m) (answer.NotTakenOver f) turns answers = refl
offered_first (Offer m) (answer.EndpointFed fed) turns answers = refl
offered_first (Offer m) (answer.SenderFed used news) turns answers = refl
offered_first (Offer m) answer.Accepted turns answers = refl
offered_first (Offer m) answer.HandedUp turns answers = refl
offered_first (Offer m) (answer.Refused f) turns answers = refl
offered_first (ToEndpoint n) a turns answers = refl
offered_first (ToSender n) a turns answers = refl
offered_first (Ask c) a turns answers = refl

record Kept (config : Configured) (terms : SendTerms) (last : Ends) (w : World) (answers : List TurnAnswer) (offered : List (List ℕ)) : Type 0 where
  pub well : AreWell answers
  pub world : World
  pub plain : Plain
  pub paired : Paired config terms last world plain
  pub offered_is : world.offered ≡ w.offered ++ offered

all_kept : TurnLaw → (config : Configured) (terms : SendTerms) → AreTerms config terms → (turns : List Turn) (answers : List TurnAnswer) (s last : Ends) (w : World) (x : Plain) → AreFair config terms turns
    → length w.offered + length (offered_in turns answers) ≤ 2 ^ 32 → Paired config terms s w x → Pair s turns answers last → Kept config terms last w answers (offered_in turns answers)
all_kept law config terms a [] [] s last w x fair room p run = record {
  well = tt;
  world = w;
  plain = x;
  paired = subst (λ (z : Ends). Paired config terms z w x) (sym run) p;
  offered_is = sym (append-nil w.offered);
}
all_kept law config terms a [] (b ∷ answers) s last w x fair room p run = absurd run
all_kept law config terms a (turn ∷ turns) [] s last w x fair room p run = absurd run
all_kept law config terms a (turn ∷ turns) (b ∷ answers) s last w x fair room p run =
    let first : offered_in (turn ∷ turns) (b ∷ answers) ≡ offered_by turn b ++ offered_in turns answers = offered_first turn b turns answers in
    let both : length (offered_in (turn ∷ turns) (b ∷ answers)) ≡ length (offered_by turn b) + length (offered_in turns answers) = ap (λ (z : List (List ℕ)). length z) first ∙ length-append (offered_by turn b) (offered_in turns answers) in
    let k = law config terms s run.0 w x turn b a fair.0 (omega (arith, room, both)) p run.1 in
    let more : length k.world.offered ≡ length w.offered + length (offered_by turn b) = ap (λ (z : List (List ℕ)). length z) k.offered ∙ length-append w.offered (offered_by turn b) in
    let r = all_kept law config terms a turns answers run.0 last k.world k.plain fair.1 (omega (arith, room, both, more)) k.paired run.2 in
    record {
      well = (k.well, r.well);
      world = r.world;
      plain = r.plain;
      paired = r.paired;
      offered_is = r.offered_is ∙ ap (λ (z : List (List ℕ)). z ++ offered_in turns answers) k.offered ∙ append_assoc w.offered (offered_by turn b) (offered_in turns answers) ∙ ap (λ (z : List (List ℕ)). w.offered ++ z) (sym first);
    }

pub pair_law : TurnLaw → level.BeginLaw → PairLaw
pair_law law begins config terms turns answers last a fair few joined =
    let t = link_terms config terms in
    let b = begins t config.window refl (omega (arith, a.bounds.most_allowed)) a.configured.most_window in
    let k = all_kept law config terms a turns answers joined.start last (level.start t config.window) b.0 fair (omega (arith, few)) (paired_at_start config terms joined.start b.0 a joined.new b.1) joined.run in
    let v : World = k.world in
    let y : Plain = k.plain in
    let left : List (List ℕ) = level.messages v.link.ready ++ (level.wholes (level.part_text v.link) v.to_end ++ level.tail y.last v.sender.waiting) in
    record {
      well = k.well;
      rest = left;
      in_order = ap (λ (z : List (List ℕ)). z ++ left) k.paired.half.given ∙ k.paired.half.sound.stream ∙ k.offered_is;
    }

-- Turns in hand. ------------------------------------------------------------------------------------------------------------------

-- they are fair where their messages are short
pub all_fair : (config : Configured) (terms : SendTerms) (turns : List asked.Turn) → AreShort config terms (map turn_of turns) → AllInRange (map turn_of turns) → AreFair config terms (map turn_of turns)
all_fair config terms [] short range = tt
all_fair config terms (turn.Offer message ∷ turns) short range = (short.0, all_fair config terms turns short.1 range.1)
all_fair config terms (turn.ToEndpoint n ∷ turns) short range = (tt, all_fair config terms turns short.1 range.1)
all_fair config terms (turn.ToSender n ∷ turns) short range = (tt, all_fair config terms turns short.1 range.1)
all_fair config terms (turn.Grant n ∷ turns) short range = (refl, all_fair config terms turns short.1 range.1)
all_fair config terms (turn.Widen n ∷ turns) short range = (tt, all_fair config terms turns short.1 range.1)
all_fair config terms (turn.Drain ∷ turns) short range = (refl, all_fair config terms turns short.1 range.1)
all_fair config terms (turn.Take ∷ turns) short range = (refl, all_fair config terms turns short.1 range.1)
all_fair config terms (turn.Settle id outcome ∷ turns) short range = (range.0, all_fair config terms turns short.1 range.1)
