-- Runs of one call more.
use Rattle.std.proofs.Common.{◌≡◌, ℕ, ◌+◌, ◌<◌, List, [], ◌∷◌, ◌++◌, length, get_or, take, map, refl, sym, ap, ◌∙◌, subst}
use Rattle.std.proofs.lemmas.List.{map_more, map-append}
use Rattle.amqp_endpoint.specs.Configs.{Configured}
use Rattle.amqp_endpoint.specs.Endpoints.{IsReplay}
use Rattle.amqp_endpoint.specs.Runs.{Call, Answer, Does, Run}
use Rattle.amqp_endpoint.specs.Steps.{EndpointState}
use Rattle.amqp_endpoint.specs.Traces.{IsInRange, AreInRange}

-- a run with one more call
pub run_more : (s : EndpointState) (calls : List Call) (answers : List Answer) (mid last : EndpointState) (c : Call) (a : Answer) →
    Run s calls answers mid → Does mid last c a → Run s (calls ++ c ∷ []) (answers ++ a ∷ []) last
run_more s [] [] mid last c a r d = (last, subst (λ (x : EndpointState). Does x last c a) r d, refl)
run_more s [] (y ∷ answers) mid last c a r d = absurd r
run_more s (x ∷ calls) [] mid last c a r d = absurd r
run_more s (x ∷ calls) (y ∷ answers) mid last c a r d = (r.0, r.1, run_more r.0 calls answers mid last c a r.2 d)

-- the same of a run from the start
pub replay_more : (config : Configured) (calls : List Call) (answers : List Answer) (mid last : EndpointState) (c : Call) (a : Answer) →
    IsReplay config calls answers mid → Does mid last c a → IsReplay config (calls ++ c ∷ []) (answers ++ a ∷ []) last
replay_more config calls answers mid last c a r d = record { start = r.start; new = r.new; run = run_more r.start calls answers mid last c a r.run d }

-- the same of calls and answers in hand
pub replay_on : {X A : Type 0} (f : X → Call) (v : A → Answer) (config : Configured) (xs : List X) (i : ℕ) (d : X) (before after : List A) (a : A) (mid last : EndpointState) →
    i < length xs → after ≡ before ++ a ∷ [] → IsReplay config (map f (take i xs)) (map v before) mid → Does mid last (f (get_or xs i d)) (v a) →
    IsReplay config (map f (take (i + 1) xs)) (map v after) last
replay_on f v config xs i d before after a mid last l e r does =
    let more = replay_more config (map f (take i xs)) (map v before) mid last (f (get_or xs i d)) (v a) r does in
    let given = ap (λ w. map v w) e ∙ map-append v before (a ∷ []) in
    subst (λ (calls : List Call). IsReplay config calls (map v after) last) (sym (map_more f xs i d l))
    (subst (λ (answers : List Answer). IsReplay config (map f (take i xs) ++ f (get_or xs i d) ∷ []) answers last) (sym given) more)

-- one call more is in range
pub ranges_more : (calls : List Call) (c : Call) → AreInRange calls → IsInRange c → AreInRange (calls ++ c ∷ [])
ranges_more [] c all one = (one, tt)
ranges_more (x ∷ calls) c all one = (all.0, ranges_more calls c all.1 one)

-- one call in hand more is in range
pub ranges_on : {X : Type 0} (f : X → Call) (xs : List X) (i : ℕ) (d : X) → i < length xs → AreInRange (map f (take i xs)) → IsInRange (f (get_or xs i d)) → AreInRange (map f (take (i + 1) xs))
ranges_on f xs i d l all one = subst (λ (calls : List Call). AreInRange calls) (sym (map_more f xs i d l)) (ranges_more (map f (take i xs)) (f (get_or xs i d)) all one)
