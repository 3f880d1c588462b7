-- Turns are runs of both ends.
use Rattle.std.proofs.Common.{◌≡◌, ℕ, ◌+◌, ◌<◌, List, [], ◌∷◌, ◌++◌, length, get_or, take, drop, map, Option, refl, sym, ap, subst, ◌∙◌, append_assoc, append-nil}
use Rattle.std.specs.List.{flat_map}
use Rattle.std.proofs.lemmas.List.{take-append-drop, map_more}
use Rattle.amqp_endpoint.specs.declared.event.Fed.{Fed}
use Rattle.amqp_endpoint.specs.Configs.{Configured, IsConfigured}
use Rattle.amqp_endpoint.specs.Runs as of_endpoint
use Rattle.amqp_endpoint.specs.Runs.{Handed}
use Rattle.amqp_endpoint.specs.Steps.{EndpointState}
use Rattle.amqp_endpoint.specs.Traces as trace
use Rattle.amqp_endpoint.specs.Traces.{AreInRange, IsWholeRun, all_taken}
use Rattle.amqp_pair.specs.declared.turn.TurnAnswer.{TurnAnswer}
use Rattle.amqp_pair.specs.declared.turn.TurnAnswer.TheVariants as answer
use Rattle.amqp_pair.specs.Histories.{IsInRange, AllInRange, handed_by, Parts, HasHistories}
use Rattle.amqp_pair.specs.Turns.{Turn, Offer, ToEndpoint, ToSender, Ask, Ends, TurnDone, Pair, IsJoined, room_for, IsOffered, IsToEndpoint, IsToSender, IsAsked}
use Rattle.amqp_send.specs.declared.news.News.{News}
use Rattle.amqp_send.specs.Calls.{SenderState}
use Rattle.amqp_send.specs.Runs as of_sender
use Rattle.amqp_send.specs.Sendings.{SendTerms}
use Rattle.amqp_session.specs.Calls as session

none : (s : Ends) → Parts s s
none s = record {
  asked = [];
  told = [];
  in_range = tt;
  endpoint = refl;
  sent = [];
  heard = [];
  sender = refl;
  to_endpoint = append-nil s.to_endpoint;
  to_sender = append-nil s.to_sender;
  taken = sym (append-nil s.taken);
}

-- A call of the sender alone, that moves and takes nothing.
offer : (s next last : Ends) (m : List ℕ) (a : of_sender.Answer) → of_sender.moved_by a ≡ [] → of_sender.taken_by (of_sender.Offer m) a ≡ [] → IsOffered s next m a → Parts next last → Parts s last
offer s next last m a quiet none d p = record {
  asked = p.asked;
  told = p.told;
  in_range = p.in_range;
  endpoint = subst (λ (x : EndpointState). of_endpoint.Run x p.asked p.told last.endpoint) d.rest.endpoint p.endpoint;
  sent = of_sender.Offer m ∷ p.sent;
  heard = a ∷ p.heard;
  sender = (next.sender, d.does, p.sender);
  to_endpoint = ap (λ (x : List ℕ). s.to_endpoint ++ (x ++ flat_map of_sender.moved_by p.heard)) quiet ∙ ap (λ (x : List ℕ). x ++ flat_map of_sender.moved_by p.heard) (sym d.rest.to_endpoint) ∙ p.to_endpoint;
  to_sender = ap (λ (x : List ℕ). x ++ flat_map trace.moved_by p.told) (sym d.rest.to_sender) ∙ p.to_sender
      ∙ ap (λ (x : List ℕ). (x ++ of_sender.fed p.sent p.heard) ++ last.to_sender) (sym none);
  taken = p.taken ∙ ap (λ (x : List Handed). x ++ flat_map handed_by p.told) d.rest.taken;
}

-- bytes go through a pipe
through : (used : ℕ) (pipe moved left rest taken last : List ℕ) → left ≡ drop used (pipe ++ moved) → left ++ rest ≡ taken ++ last → pipe ++ (moved ++ rest) ≡ (take used (pipe ++ moved) ++ taken) ++ last
through used pipe moved left rest taken last e f =
    sym (append_assoc pipe moved rest) ∙ ap (λ (x : List ℕ). x ++ rest) (sym (take-append-drop used (pipe ++ moved))) ∙ append_assoc (take used (pipe ++ moved)) (drop used (pipe ++ moved)) rest
    ∙ ap (λ (x : List ℕ). take used (pipe ++ moved) ++ (x ++ rest)) (sym e) ∙ ap (λ (x : List ℕ). take used (pipe ++ moved) ++ x) f ∙ sym (append_assoc (take used (pipe ++ moved)) taken last)

to_endpoint : (s next last : Ends) (n : ℕ) (came : Fed) → IsToEndpoint s next n came → Parts next last → Parts s last
to_endpoint s next last n came d p = record {
  asked = of_endpoint.Feed (s.to_endpoint ++ d.moved) ∷ p.asked;
  told = of_endpoint.Fed came.used came.outcome ∷ p.told;
  in_range = (d.bytes, p.in_range);
  endpoint = (next.endpoint, d.fed, p.endpoint);
  sent = of_sender.Output (room_for n s.to_endpoint) ∷ p.sent;
  heard = of_sender.MovedOut d.moved ∷ p.heard;
  sender = (next.sender, d.out, p.sender);
  to_endpoint = through came.used s.to_endpoint d.moved next.to_endpoint (flat_map of_sender.moved_by p.heard) (all_taken p.asked p.told) last.to_endpoint d.pipe p.to_endpoint;
  to_sender = ap (λ (x : List ℕ). x ++ flat_map trace.moved_by p.told) (sym d.other) ∙ p.to_sender;
  taken = p.taken ∙ ap (λ (x : List Handed). x ++ flat_map handed_by p.told) d.taken;
}

to_sender : (s next last : Ends) (n used : ℕ) (news : Option News) → IsToSender s next n used news → Parts next last → Parts s last
to_sender s next last n used news d p = record {
  asked = of_endpoint.Output (room_for n s.to_sender) ∷ p.asked;
  told = of_endpoint.MovedOut d.moved ∷ p.told;
  in_range = (tt, p.in_range);
  endpoint = (next.endpoint, d.out, p.endpoint);
  sent = of_sender.Feed (s.to_sender ++ d.moved) ∷ p.sent;
  heard = of_sender.Fed used news ∷ p.heard;
  sender = (next.sender, d.fed, p.sender);
  to_endpoint = ap (λ (x : List ℕ). x ++ flat_map of_sender.moved_by p.heard) (sym d.other) ∙ p.to_endpoint;
  to_sender = through used s.to_sender d.moved next.to_sender (flat_map trace.moved_by p.told) (of_sender.fed p.sent p.heard) last.to_sender d.pipe p.to_sender;
  taken = p.taken ∙ ap (λ (x : List Handed). x ++ flat_map handed_by p.told) d.taken;
}

ask : (s next last : Ends) (c : session.Call) (a : of_endpoint.Answer) (handed : List Handed) → trace.moved_by a ≡ [] → trace.taken_by (of_endpoint.InSession 0 c) a ≡ [] → handed_by a ≡ handed → IsInRange (Ask c)
    → IsAsked s next c a handed → Parts next last → Parts s last
ask s next last c a handed quiet none gives range d p = record {
  asked = of_endpoint.InSession 0 c ∷ p.asked;
  told = a ∷ p.told;
  in_range = (range, p.in_range);
  endpoint = (next.endpoint, d.does, p.endpoint);
  sent = p.sent;
  heard = p.heard;
  sender = subst (λ (x : SenderState). of_sender.Run x p.sent p.heard last.sender) d.rest.sender p.sender;
  to_endpoint = ap (λ (x : List ℕ). x ++ flat_map of_sender.moved_by p.heard) (sym d.rest.to_endpoint) ∙ p.to_endpoint ∙ ap (λ (x : List ℕ). (x ++ all_taken p.asked p.told) ++ last.to_endpoint) (sym none);
  to_sender = ap (λ (x : List ℕ). s.to_sender ++ (x ++ flat_map trace.moved_by p.told)) quiet ∙ ap (λ (x : List ℕ). x ++ flat_map trace.moved_by p.told) (sym d.rest.to_sender) ∙ p.to_sender;
  taken = p.taken ∙ ap (λ (x : List Handed). x ++ flat_map handed_by p.told) (d.rest.taken ∙ ap (λ (x : List Handed). s.taken ++ x) (sym gives))
      ∙ append_assoc s.taken (handed_by a) (flat_map handed_by p.told);
}

one : (s next last : Ends) (turn : Turn) (a : TurnAnswer) → IsInRange turn → TurnDone s next turn a → Parts next last → Parts s last
one s next last (Offer m) answer.TakenOver range d p = offer s next last m of_sender.TakenOver refl refl d p
one s next last (Offer m) (answer.NotTakenOver fault) range d p = offer s next last m (of_sender.Refused fault) refl refl d p
one s next last (ToEndpoint n) (answer.EndpointFed fed) range d p = to_endpoint s next last n fed d p
one s next last (ToSender n) (answer.SenderFed used news) range d p = to_sender s next last n used news d p
one s next last (Ask c) answer.Accepted range d p = ask s next last c of_endpoint.Accepted [] refl refl refl range d p
one s next last (Ask c) answer.HandedUp range d p = ask s next last c (of_endpoint.HandedUp d.0) (d.0 ∷ []) refl refl refl range d.1 p
one s next last (Ask c) (answer.Refused fault) range d p = ask s next last c (of_endpoint.Refused fault) [] refl refl refl range d p
one s next last (Offer m) (answer.EndpointFed fed) range d p = absurd d
one s next last (Offer m) (answer.SenderFed used news) range d p = absurd d
one s next last (Offer m) answer.Accepted range d p = absurd d
one s next last (Offer m) answer.HandedUp range d p = absurd d
one s next last (Offer m) (answer.Refused fault) range d p = absurd d
one s next last (ToEndpoint n) answer.TakenOver range d p = absurd d
one s next last (ToEndpoint n) (answer.NotTakenOver fault) range d p = absurd d
one s next last (ToEndpoint n) (answer.SenderFed used news) range d p = absurd d
one s next last (ToEndpoint n) answer.Accepted range d p = absurd d
one s next last (ToEndpoint n) answer.HandedUp range d p = absurd d
one s next last (ToEndpoint n) (answer.Refused fault) range d p = absurd d
one s next last (ToSender n) answer.TakenOver range d p = absurd d
one s next last (ToSender n) (answer.NotTakenOver fault) range d p = absurd d
one s next last (ToSender n) (answer.EndpointFed fed) range d p = absurd d
one s next last (ToSender n) answer.Accepted range d p = absurd d
one s next last (ToSender n) answer.HandedUp range d p = absurd d
one s next last (ToSender n) (answer.Refused fault) range d p = absurd d
one s next last (Ask c) answer.TakenOver range d p = absurd d
one s next last (Ask c) (answer.NotTakenOver fault) range d p = absurd d
one s next last (Ask c) (answer.EndpointFed fed) range d p = absurd d
one s next last (Ask c) (answer.SenderFed used news) range d p = absurd d

parts : (s last : Ends) (turns : List Turn) (answers : List TurnAnswer) → AllInRange turns → Pair s turns answers last → Parts s last
parts s last [] [] range r = subst (λ (x : Ends). Parts s x) (sym r) (none s)
parts s last [] (a ∷ answers) range r = absurd r
parts s last (t ∷ turns) [] range r = absurd r
parts s last (t ∷ turns) (a ∷ answers) range r = one s r.0 last t a range.0 r.1 (parts r.0 last turns answers range.1 r.2)

-- The laws of either end give their histories.
pub histories : ((config : Configured) (calls : List of_endpoint.Call) (answers : List of_endpoint.Answer) (start last : EndpointState) → IsConfigured config.container_id config.max_frame config.window → AreInRange calls
    → of_endpoint.IsStart config start → of_endpoint.Run start calls answers last → IsWholeRun config calls answers last)
    → ((terms : SendTerms) (calls : List of_sender.Call) (answers : List of_sender.Answer) (start last : SenderState) → of_sender.IsStart terms start → of_sender.Run start calls answers last → of_sender.HasHistory terms calls answers last)
    → ((terms : SendTerms) (calls : List of_sender.Call) (answers : List of_sender.Answer) (start last : SenderState) (n : ℕ) → of_sender.IsStart terms start → of_sender.Run start calls answers last
    → of_sender.HasMoment terms start calls answers last n)
    → (config : Configured) (terms : SendTerms) (turns : List Turn) (answers : List TurnAnswer) (last : Ends) → IsConfigured config.container_id config.max_frame config.window → AllInRange turns
    → IsJoined config terms turns answers last → HasHistories config terms last
histories of_end of_send of_moment config terms turns answers last is range j =
    let p = parts j.start last turns answers range j.run in
    record {
      start = j.start;
      parts = p;
      endpoint = of_end config p.asked p.told j.start.endpoint last.endpoint is p.in_range j.new.endpoint p.endpoint;
      sender = of_send terms p.sent p.heard j.start.sender last.sender j.new.sender p.sender;
      sender_moments = λ n. of_moment terms p.sent p.heard j.start.sender last.sender n j.new.sender p.sender;
      to_endpoint = ap (λ (x : List ℕ). x ++ flat_map of_sender.moved_by p.heard) (sym j.new.to_endpoint) ∙ p.to_endpoint;
      to_sender = ap (λ (x : List ℕ). x ++ flat_map trace.moved_by p.told) (sym j.new.to_sender) ∙ p.to_sender;
      taken = p.taken ∙ ap (λ (x : List Handed). x ++ flat_map handed_by p.told) j.new.taken;
    }

-- one turn in hand more is in range
pub ranges_on : {X : Type 0} (f : X → Turn) (xs : List X) (i : ℕ) (d : X) → i < length xs → AllInRange (map f (take i xs)) → IsInRange (f (get_or xs i d)) → AllInRange (map f (take (i + 1) xs))
ranges_on f xs i d l all one = subst (λ (turns : List Turn). AllInRange turns) (sym (map_more f xs i d l)) (more (map f (take i xs)) (f (get_or xs i d)) all one)
  where
    more : (turns : List Turn) (t : Turn) → AllInRange turns → IsInRange t → AllInRange (turns ++ t ∷ [])
    more [] t all one = (one, tt)
    more (x ∷ turns) t all one = (all.0, more turns t all.1 one)
