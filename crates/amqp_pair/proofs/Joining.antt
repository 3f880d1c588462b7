-- Turns of one more.
use Rattle.std.proofs.Common.{◌≡◌, ℕ, ◌+◌, ◌<◌, List, [], ◌∷◌, ◌++◌, length, get_or, take, drop, map, refl, sym, ap, subst, ◌∙◌}
use Rattle.std.proofs.lemmas.List.{map_more}
use Rattle.amqp_endpoint.specs.Configs.{Configured}
use Rattle.amqp_pair.specs.declared.turn.TurnAnswer.{TurnAnswer}
use Rattle.std.specs.Prelude.{slice_index}
use Rattle.amqp_endpoint.specs.declared.event.Fed.{Fed}
use Rattle.amqp_endpoint.specs.Runs as of_endpoint
use Rattle.amqp_endpoint.specs.Steps.{EndpointState}
use Rattle.amqp_send.specs.Calls.{SenderState}
use Rattle.amqp_send.specs.Runs as of_sender
use Rattle.amqp_pair.specs.Turns.{room_for, IsFilled, IsFedWhole, IsToEndpoint, Turn, Ends, TurnDone, Pair, AreStart, IsJoined}
use Rattle.amqp_send.specs.Sendings.{SendTerms}

pair_more : (s : Ends) (turns : List Turn) (answers : List TurnAnswer) (mid last : Ends) (t : Turn) (a : TurnAnswer) → Pair s turns answers mid → TurnDone mid last t a → Pair s (turns ++ t ∷ []) (answers ++ a ∷ []) last
pair_more s [] [] mid last t a r d = (last, subst (λ (x : Ends). TurnDone x last t a) r d, refl)
pair_more s [] (y ∷ answers) mid last t a r d = absurd r
pair_more s (x ∷ turns) [] mid last t a r d = absurd r
pair_more s (x ∷ turns) (y ∷ answers) mid last t a r d = (r.0, r.1, pair_more r.0 turns answers mid last t a r.2 d)

-- the turns are one more
joined_more : (config : Configured) (terms : SendTerms) (turns : List Turn) (answers : List TurnAnswer) (mid last : Ends) (t : Turn) (a : TurnAnswer) →
    IsJoined config terms turns answers mid → TurnDone mid last t a → IsJoined config terms (turns ++ t ∷ []) (answers ++ a ∷ []) last
joined_more config terms turns answers mid last t a r d = record { start = r.start; new = r.new; run = pair_more r.start turns answers mid last t a r.run d }

-- the same of turns in hand
pub joined_on : {X : Type 0} (f : X → Turn) (config : Configured) (terms : SendTerms) (xs : List X) (i : ℕ) (d : X) (before after : List TurnAnswer) (a : TurnAnswer) (mid last : Ends) →
    i < length xs → after ≡ before ++ a ∷ [] → IsJoined config terms (map f (take i xs)) before mid → TurnDone mid last (f (get_or xs i d)) a → IsJoined config terms (map f (take (i + 1) xs)) after last
joined_on f config terms xs i d before after a mid last l e r does =
    subst (λ (turns : List Turn). IsJoined config terms turns after last) (sym (map_more f xs i d l))
    (subst (λ (answers : List TurnAnswer). IsJoined config terms (map f (take i xs) ++ f (get_or xs i d) ∷ []) answers last) (sym e)
    (joined_more config terms (map f (take i xs)) before mid last (f (get_or xs i d)) a r does))

-- no turn is made yet
pub joined_none : (config : Configured) (terms : SendTerms) (s : Ends) → AreStart config terms s → IsJoined config terms [] [] s
joined_none config terms s new = record { start = s; new = new; run = refl }

-- a pipe is filled, and then fed
pub fed_behind : (old mid new : Ends) (n : ℕ) (came : Fed) → IsFilled old mid n → IsFedWhole mid new came → IsToEndpoint old new n came
fed_behind old mid new n came f w = record {
  moved = f.moved;
  out = subst (λ (x : SenderState). of_sender.Does old.sender x (of_sender.Output (room_for n old.to_endpoint)) (of_sender.MovedOut f.moved)) (sym w.sender) f.out;
  fed = subst (λ (x : EndpointState). of_endpoint.Does x new.endpoint (of_endpoint.Feed (old.to_endpoint ++ f.moved)) (of_endpoint.Fed came.used came.outcome)) f.endpoint
      (subst (λ (x : List ℕ). of_endpoint.Does mid.endpoint new.endpoint (of_endpoint.Feed x) (of_endpoint.Fed came.used came.outcome)) f.pipe w.fed);
  bytes = subst (λ (x : List ℕ). (i : ℕ) → slice_index x i < 256) f.pipe w.bytes;
  pipe = w.pipe ∙ ap (λ (x : List ℕ). drop came.used x) f.pipe;
  other = w.other ∙ f.other;
  taken = w.taken ∙ f.taken;
}
