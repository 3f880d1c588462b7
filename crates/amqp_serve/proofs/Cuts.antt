-- What is served over some bytes is what their units make, and bytes have one reading as units.
use Rattle.std.proofs.Common.{◌≡◌, ℕ, ◌≤◌, ◌⊎◌, inl, inr, Bool, true, false, List, [], ◌∷◌, ◌++◌, refl, sym, ap, subst, ◌∙◌, Option, Some, None, append_assoc, append-nil}
use Rattle.std.specs.Prelude.{if◌then◌else◌}
use Rattle.std.proofs.lemmas.Bool.{true≢false}
use Rattle.std.specs.Io.KnownBytes.{Appends}
use Rattle.std.specs.List.{flat_map}
use Rattle.amqp_frame.specs.Units.{StreamUnit, bytes_of, IsUnit, IsRest, AreUnits, due_after, due_behind}
use Rattle.amqp_frame.specs.declared.units.Stage.{Stage}
use Rattle.amqp_frame.specs.declared.units.Stage.TheVariants as due
use Rattle.amqp_frame.proofs.Fronts.{one_front}
use Rattle.amqp_session.specs.declared.slot.Slot.{Slot}
use Rattle.amqp_session.specs.Sessions.{SessionState}
use Rattle.amqp_endpoint.specs.declared.event.End.{End}
use Rattle.amqp_serve.specs.declared.rules.Rule.{Rule}
use Rattle.amqp_endpoint.specs.Configs.{Configured}
use Rattle.amqp_endpoint.specs.Connections.{ConnectionState, connection_begins, channels, is_dead}
use Rattle.amqp_serve.specs.Cuts.{Made, served_one, served_all, AreTimely, first_made, left_over, end_with, IsMade, AreAlike}
use Rattle.amqp_endpoint.specs.Runs.{Call, Finish, Answer, Ended, IsStart, end_of}
use Rattle.amqp_endpoint.specs.Takings.{link_in}
use Rattle.amqp_serve.specs.Serving.{window_lack, credit_lack, all_supplies, lack, top_up_by, moved, recorded, fed, IsServed}
use Rattle.amqp_serve.specs.declared.supplies.Supply.{Supply}
use Rattle.amqp_serve.specs.declared.supplies.Supply.TheVariants.{WindowOf, CreditOf}
use Rattle.amqp_serve.specs.Serving.{Stand, Step, Serves, Rests, MovesOut, Feeds, Takes, Settles, TopsUp, Passes, Finishes}
use Rattle.amqp_endpoint.specs.Steps.{EndpointState}
use Rattle.amqp_serve.proofs.CutTops.{Still, AreStill}
use Rattle.amqp_serve.proofs.CutSteps.{made_at, made_same}
use Rattle.amqp_serve.proofs.CutRuns.{IsGood, nothing_rests, follows}
use Rattle.amqp_endpoint.proofs.Endpoints.{free_at}

-- The start. ----------------------------------------------------------------------------------------------------------

-- a new connection lacks nothing
new_still : (p : Rule) (config : Configured) (supply : Supply) → Still p (connection_begins config) supply
new_still p config (WindowOf channel) = inl (ap (λ (x : Slot SessionState). window_lack config.window x) (free_at 0 (channels config) channel))
new_still p config (CreditOf channel handle) = inl (ap (λ (x : Slot SessionState). credit_lack p (link_in handle x)) (free_at 0 (channels config) channel))

pub all_new : (p : Rule) (config : Configured) (supplies : List Supply) → AreStill p (connection_begins config) supplies
all_new p config [] = tt
all_new p config (supply ∷ supplies) = (new_still p config supply, all_new p config supplies)

-- A new endpoint has made nothing.
pub new_made : (config : Configured) (s : EndpointState) → IsStart config s → made_at s [] [] ≡ first_made config
new_made config s start = made_same s.connection (connection_begins config) s.unsent [] [] [] start.connection start.unsent refl

-- It lacks nothing, and its buffer is empty.
pub new_good : (p : Rule) (config : Configured) (s : EndpointState) → IsStart config s → IsGood p (made_at s [] []) s.input
new_good p config s start = record {
  still = subst (λ (c : ConnectionState). AreStill p c (all_supplies c.config)) (sym start.connection) (all_new p config (all_supplies config));
  rest = nothing_rests s.input.limit s.input.stage s.input.filled start.filled;
  left = inl start.filled;
}

-- The end. ------------------------------------------------------------------------------------------------------------

-- what is so where the next call is a finish
abbrev AtEnd : EndpointState → Call → Answer → Type 0
AtEnd s Finish (Ended end) = (s.unsent ≡ []) × (end ≡ end_of s)
AtEnd s _ _ = Unit {0}

abbrev AtFirst : EndpointState → List Step → Type 0
AtFirst s [] = Unit {0}
AtFirst s (x ∷ xs) = AtEnd s x.call x.answer

top_first : (s : EndpointState) (supply : Supply) (n : ℕ) (answer : Answer) → AtEnd s (top_up_by supply n) answer
top_first s (WindowOf channel) n answer = tt
top_first s (CreditOf channel handle) n answer = tt

-- nothing waits at a finish, and it answers how the connection stands
at_first : {p : Rule} {a b : Stand} {s t : EndpointState} {xs : List Step} → Serves p a s xs b t → AtFirst s xs
at_first Rests = tt
at_first (MovesOut next room bytes does x) = tt
at_first (Feeds next piece used told none range does x) = tt
at_first (Takes next channel handle answer does x) = tt
at_first (Settles next channel id answer none small does x) = tt
at_first (TopsUp {p} {b} {s} next supply supplies answer none lacks does x) = top_first s supply (lack p s.connection supply) answer
at_first (Passes supply supplies lacks x) = at_first x
at_first (Finishes next end none does x) = (none, does.1)

-- What is left in the buffer. -------------------------------------------------------------------------------------------

-- the buffer holds what is left of the stream
pub left_is : (s : ConnectionState) (buffer : List ℕ) → (buffer ≡ []) ⊎ (is_dead s.phase ≡ false) → buffer ≡ left_over s buffer
left_is s buffer left = by (is_dead s.phase) refl
  where
    by : (b : Bool) → is_dead s.phase ≡ b → buffer ≡ (if b then [] else buffer)
    by true dead = elim left [
      | inl none ↦ none
      | inr alive ↦ absurd (true≢false (sym dead ∙ alive))
    ]
    by false alive = refl

-- What is served is what the units of the bytes make.
pub served_is_made : (p : Rule) (config : Configured) (end : End) (bytes : List ℕ) (all : Bool) (old new : EndpointState) (held now kept keeps : Option (List ℕ)) → IsStart config old →
    (x : IsServed p end bytes all old new held now kept keeps) → IsMade p config bytes (record { connection = x.before.connection; written = moved x.steps; recorded = recorded x.steps }) end
served_is_made p config end bytes all old new held now kept keeps start x =
    let c = follows x.serves (λ h. h) [] [] (new_good p config old start) in
    let last = at_first x.ends in
    let buffer = x.before.input.filled in
    let first = new_made config old start in
    let same : made_at x.before (moved x.steps) (recorded x.steps) ≡ record { connection = x.before.connection; written = moved x.steps; recorded = recorded x.steps } =
    made_same x.before.connection x.before.connection (moved x.steps ++ x.before.unsent) (moved x.steps) (recorded x.steps) (recorded x.steps) refl
    (ap (λ (l : List ℕ). moved x.steps ++ l) last.0 ∙ append-nil (moved x.steps)) refl in
    record {
      units = c.units;
      rest = buffer;
      joined = x.fed ∙ ap (λ (l : List ℕ). l ++ fed x.steps) (sym start.filled) ∙ c.joined;
      each = subst (λ (n : ℕ). AreUnits n due.Header c.units) start.limit (subst (λ (stage : Stage). AreUnits old.input.limit stage c.units) start.stage c.each);
      timely = subst (λ (m : Made). AreTimely p m c.units) first c.timely;
      behind = elim x.over [
        | inl dead ↦ inl dead
        | inr done ↦ inr
            (subst (λ (stage : Stage). IsRest config.max_frame stage buffer) (c.stage ∙ ap (λ (stage : Stage). due_behind stage c.units) start.stage)
            (subst (λ (n : ℕ). IsRest n x.before.input.stage buffer) (c.limit ∙ start.limit) (c.good (λ h. h)).rest))
      ];
      is = sym same ∙ c.made ∙ ap (λ (m : Made). served_all p m c.units) first;
      ends = last.1 ∙ ap (λ (l : List ℕ). end_with x.before.connection l) (left_is x.before.connection buffer (c.good (λ h. h)).left);
    }

-- One reading. --------------------------------------------------------------------------------------------------------

-- the connection is over behind these units, or none follows
abbrev pub Stops : Rule → Made → ℕ → Stage → List StreamUnit → List ℕ → Type 0
Stops p m max stage us rest = (is_dead (served_all p m us).connection.phase ≡ true) ⊎ IsRest max (due_behind stage us) rest

-- Where it stops no unit follows.
pub goes_no_further : (p : Rule) (m : Made) (max : ℕ) (stage : Stage) (u : StreamUnit) (rest more : List ℕ) → Stops p m max stage [] rest → is_dead m.connection.phase ≡ false → IsUnit max stage u →
    rest ≡ bytes_of u ++ more → ⊥
goes_no_further p m max stage u rest more (inl dead) alive is e = absurd (true≢false (sym dead ∙ alive))
goes_no_further p m max stage u rest more (inr none) alive is e = none.none u more is e

-- of one stream the units are the same, and so is what is left
same_units : (p : Rule) (max : ℕ) → 8 ≤ max → (m : Made) (stage : Stage) (us vs : List StreamUnit) (a b : List ℕ) → flat_map bytes_of us ++ a ≡ flat_map bytes_of vs ++ b →
    AreUnits max stage us → AreUnits max stage vs → AreTimely p m us → AreTimely p m vs → Stops p m max stage us a → Stops p m max stage vs b → (us ≡ vs) × (a ≡ b)
same_units p max least m stage [] [] a b e x y i j f g = (refl, e)
same_units p max least m stage [] (v ∷ vs) a b e x y i j f g =
    absurd (goes_no_further p m max stage v a (flat_map bytes_of vs ++ b) f j.0 y.0 (e ∙ append_assoc (bytes_of v) (flat_map bytes_of vs) b))
same_units p max least m stage (u ∷ us) [] a b e x y i j f g =
    absurd (goes_no_further p m max stage u b (flat_map bytes_of us ++ a) g i.0 x.0 (sym e ∙ append_assoc (bytes_of u) (flat_map bytes_of us) a))
same_units p max least m stage (u ∷ us) (v ∷ vs) a b e x y i j f g =
    let first = one_front max stage u v (flat_map bytes_of us ++ a) (flat_map bytes_of vs ++ b) least x.0 y.0
    (sym (append_assoc (bytes_of u) (flat_map bytes_of us) a) ∙ e ∙ append_assoc (bytes_of v) (flat_map bytes_of vs) b) in
    let back = sym first.0 in
    let rest = same_units p max least (served_one p m u) (due_after u) us vs a b first.1 x.1 (subst (λ (w : StreamUnit). AreUnits max (due_after w) vs) back y.1) i.1
    (subst (λ (w : StreamUnit). AreTimely p (served_one p m w) vs) back j.1) f (subst (λ (w : StreamUnit). Stops p (served_one p m w) max (due_after w) vs b) back g) in
    (ap (λ (w : StreamUnit). w ∷ us) first.0 ∙ ap (λ (ws : List StreamUnit). v ∷ ws) rest.0, rest.1)

-- What is made of some bytes is one.
pub one_made : (p : Rule) (config : Configured) (bytes : List ℕ) (m n : Made) (end end2 : End) → 8 ≤ config.max_frame →
    IsMade p config bytes m end → IsMade p config bytes n end2 → (m ≡ n) × (end ≡ end2)
one_made p config bytes m n end end2 least x y =
    let whole : (k : Made) (us : List StreamUnit) (rest : List ℕ) → k ≡ served_all p (first_made config) us →
    (is_dead k.connection.phase ≡ true) ⊎ IsRest config.max_frame (due_behind due.Header us) rest → Stops p (first_made config) config.max_frame due.Header us rest =
    λ k us rest is behind. subst (λ (l : Made). (is_dead l.connection.phase ≡ true) ⊎ IsRest config.max_frame (due_behind due.Header us) rest) is behind in
    let same = same_units p config.max_frame least (first_made config) due.Header x.units y.units x.rest y.rest (sym x.joined ∙ y.joined) x.each y.each x.timely y.timely
    (whole m x.units x.rest x.is x.behind) (whole n y.units y.rest y.is y.behind) in
    let made = x.is ∙ ap (λ (us : List StreamUnit). served_all p (first_made config) us) same.0 ∙ sym y.is in (
      made,
      x.ends ∙ ap (λ (k : Made). end_with k.connection (left_over k.connection x.rest)) made ∙ ap (λ (l : List ℕ). end_with n.connection (left_over n.connection l)) same.1 ∙ sym y.ends,
    )

-- Devices that held the same, and were given the same, hold the same.
pub alike : (held now held2 now2 : Option (List ℕ)) (more more2 : List ℕ) → Appends held now more → Appends held2 now2 more2 → more ≡ more2 → AreAlike held now held2 now2
alike held now held2 now2 more more2 x y e bytes is is2 =
    by now now2 (subst (λ (o : Option (List ℕ)). Appends o now more) is x) (subst (λ (o : Option (List ℕ)). Appends o now2 more2) is2 y)
  where
    by : (a b : Option (List ℕ)) → Appends (Some bytes) a more → Appends (Some bytes) b more2 → a ≡ b
    by None b f g = absurd f
    by (Some xs) None f g = absurd g
    by (Some xs) (Some ys) f g = ap (λ (l : List ℕ). Some l) (f ∙ ap (λ (l : List ℕ). bytes ++ l) e ∙ sym g)
