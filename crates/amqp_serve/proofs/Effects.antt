-- Steps one after another, each by its own rule, and what they make.
use Rattle.std.proofs.Common.{arith, ◌≡◌, ℕ, suc, ◌<◌, ◌≤◌, ◌⊎◌, inl, inr, false, List, [], ◌∷◌, ◌++◌, length, length-append, take, map, refl, sym, ap, subst, ◌∙◌, append_assoc, append-nil}
use Rattle.std.proofs.Math.Seq.{take-nil}
use Rattle.std.proofs.lemmas.Bool.{cases_lt}
use Rattle.std.proofs.lemmas.Grind.{flat_map-append}
use Rattle.std.proofs.lemmas.List.{length-map, map-append, take_all, take-append-le}
use Rattle.std.proofs.lemmas.List.Elements.{All-head, All-tail}
use Rattle.std.specs.List.{flat_map}
use Rattle.amqp_frame.specs.Units.{StreamUnit, bytes_of, IsUnit, IsRest, Units, due_after, due_behind}
use Rattle.amqp_frame.specs.declared.units.Stage.{Stage}
use Rattle.amqp_frame.specs.declared.units.Stage.TheVariants.{Header}
use Rattle.amqp_frame.proofs.Histories.{units_more, due_more, joined_more}
use Rattle.amqp_frame.proofs.Readings.{one_reading}
use Rattle.amqp_endpoint.specs.declared.event.End.{End}
use Rattle.amqp_endpoint.specs.Configs.{Configured}
use Rattle.amqp_endpoint.specs.Connections.{connection_begins, is_dead}
use Rattle.amqp_endpoint.specs.Lines.{line_of, told_on}
use Rattle.amqp_endpoint.specs.Steps.{acted_after, acted_outcome}
use Rattle.amqp_serve.specs.declared.rules.Rule.{Rule}
use Rattle.amqp_serve.specs.Cuts.{Made, topped_up, answered, served_one, served_all, AreTimely, first_made, left_over, end_with, IsMade}
use Rattle.amqp_serve.specs.Lives.{Heard, heard_bytes, Effect, OfUnit, OfNone, effect_rule, effect_units, ended_units, made_by, made_by_all, IsTimelyBy, AreTimelyBy, IsMadeBy, AreBy}
use Rattle.amqp_serve.specs.Serving.{all_supplies}
use Rattle.amqp_serve.proofs.CutRuns.{nothing_rests}
use Rattle.amqp_serve.proofs.CutSteps.{told_still}
use Rattle.amqp_serve.proofs.CutTops.{AreStill, all_unchanged}
use Rattle.amqp_serve.proofs.Cuts.{all_new}
use Rattle.amqp_serve.proofs.ServingFeeds.{never_starved}

-- One more. -----------------------------------------------------------------------------------------------------------

units_on : (effects : List Effect) (x : Effect) → ended_units (effects ++ x ∷ []) ≡ ended_units effects ++ effect_units x
units_on effects x = flat_map-append effect_units effects (x ∷ []) ∙ ap (λ (l : List StreamUnit). ended_units effects ++ l) (append-nil (effect_units x))

bytes_on : (steps : List Heard) (x : Heard) → heard_bytes (steps ++ x ∷ []) ≡ heard_bytes steps ++ x.bytes
bytes_on steps x = flat_map-append (λ (y : Heard). y.bytes) steps (x ∷ []) ∙ ap (λ (l : List ℕ). heard_bytes steps ++ l) (append-nil x.bytes)

made_on : (m : Made) (effects : List Effect) (x : Effect) → made_by_all m (effects ++ x ∷ []) ≡ made_by (made_by_all m effects) x
made_on m [] x = refl
made_on m (e ∷ effects) x = made_on (made_by m e) effects x

timely_on : (m : Made) (effects : List Effect) (x : Effect) → AreTimelyBy m effects → IsTimelyBy (made_by_all m effects) x → AreTimelyBy m (effects ++ x ∷ [])
timely_on m [] x t is = (is, tt)
timely_on m (e ∷ effects) x t is = (t.0, timely_on (made_by m e) effects x t.1 is)

-- after so many of these steps the bytes are the units and a rest
abbrev pub IsCutAt : ℕ → List Heard → List Effect → ℕ → Type 0
IsCutAt max steps effects n = (rest : List ℕ) × Units max (heard_bytes (take n steps)) (ended_units (take n effects)) rest

abbrev pub AreCut : ℕ → List Heard → List Effect → Type 0
AreCut max steps effects = (n : ℕ) → IsCutAt max steps effects n

cuts_on : (max : ℕ) (steps : List Heard) (effects : List Effect) (x : Heard) (e : Effect) (rest : List ℕ) → length effects ≡ length steps → AreCut max steps effects →
    Units max (heard_bytes (steps ++ x ∷ [])) (ended_units (effects ++ e ∷ [])) rest → AreCut max (steps ++ x ∷ []) (effects ++ e ∷ [])
cuts_on max steps effects x e rest long cuts whole n = by (cases_lt (length steps) n)
  where
    by : (length steps < n) ⊎ (n ≤ length steps) → IsCutAt max (steps ++ x ∷ []) (effects ++ e ∷ []) n
    by (inl lt) =
        let one : length (x ∷ []) ≡ 1 = refl in
        let two : length (e ∷ []) ≡ 1 = refl in
        let all = take_all n (steps ++ x ∷ []) (omega (arith, lt, one, length-append steps (x ∷ []))) in
        let each = take_all n (effects ++ e ∷ []) (omega (arith, lt, long, two, length-append effects (e ∷ []))) in
        subst (λ (l : List Heard). (left : List ℕ) × Units max (heard_bytes l) (ended_units (take n (effects ++ e ∷ []))) left) (sym all)
        (subst (λ (l : List Effect). (left : List ℕ) × Units max (heard_bytes (steps ++ x ∷ [])) (ended_units l) left) (sym each) (rest, whole))
    by (inr le) =
        let all = take-append-le n steps (x ∷ []) le in
        let each = take-append-le n effects (e ∷ []) (omega (arith, le, long)) in
        subst (λ (l : List Heard). (left : List ℕ) × Units max (heard_bytes l) (ended_units (take n (effects ++ e ∷ []))) left) (sym all)
        (subst (λ (l : List Effect). (left : List ℕ) × Units max (heard_bytes (take n steps)) (ended_units l) left) (sym each) (cuts n))

-- One step more made this, and left this in the buffer, with this due next.
pub record MakesOn (config : Configured) (steps : List Heard) (made : Made) (r : Rule) (bytes left : List ℕ) (stage : Stage) : Type 0 where
  pub end : End
  pub is : IsMadeBy config (steps ++ record { rule = r; bytes = bytes } ∷ []) made end
  pub rest : is.rest ≡ left
  pub stage_is : due_behind Header (ended_units is.effects) ≡ stage

module _ (config : Configured) (steps : List Heard) (made : Made) (end : End) (x : IsMadeBy config steps made end) (r : Rule) (bytes : List ℕ) where
  abbrev one : Heard
  one = record { rule = r; bytes = bytes }

  as_long : length x.effects ≡ length steps
  as_long = sym (length-map x.effects effect_rule) ∙ ap (λ (l : List Rule). length l) x.rules ∙ length-map steps (λ (y : Heard). y.rule)

  rules_on : (e : Effect) → effect_rule e ≡ r → map effect_rule (x.effects ++ e ∷ []) ≡ map (λ (y : Heard). y.rule) (steps ++ one ∷ [])
  rules_on e is =
      map-append effect_rule x.effects (e ∷ []) ∙ ap (λ (l : List Rule). l ++ effect_rule e ∷ []) x.rules ∙ ap (λ (q : Rule). map (λ (y : Heard). y.rule) steps ++ q ∷ []) is
      ∙ sym (map-append (λ (y : Heard). y.rule) steps (one ∷ []))

  makes : (e : Effect) (left : List ℕ) → effect_rule e ≡ r → IsTimelyBy made e → Units config.max_frame (heard_bytes (steps ++ one ∷ [])) (ended_units (x.effects ++ e ∷ [])) left →
      MakesOn config steps (made_by made e) r bytes left (due_behind Header (ended_units (x.effects ++ e ∷ [])))
  makes e left is timely whole = record {
    end = end_with (made_by made e).connection (left_over (made_by made e).connection left);
    is = record {
      effects = x.effects ++ e ∷ [];
      rules = rules_on e is;
      cuts = cuts_on config.max_frame steps x.effects one e left as_long x.cuts whole;
      rest = left;
      cut = whole;
      timely = timely_on (first_made config) x.effects e x.timely (subst (λ (m : Made). IsTimelyBy m e) x.is timely);
      is = ap (λ (m : Made). made_by m e) x.is ∙ sym (made_on (first_made config) x.effects e);
      ends = refl;
    };
    rest = refl;
    stage_is = refl;
  }

  -- a unit ended
  pub makes_unit : (u : StreamUnit) → IsUnit config.max_frame (due_behind Header (ended_units x.effects)) u → x.rest ++ bytes ≡ bytes_of u → is_dead made.connection.phase ≡ false →
      MakesOn config steps (served_one r made u) r bytes [] (due_after u)
  makes_unit u is whole alive =
      let us = ended_units x.effects in
      let same : ended_units (x.effects ++ OfUnit r u ∷ []) ≡ us ++ u ∷ [] = units_on x.effects (OfUnit r u) in
      let stage = due_more Header us u in
      let joined : heard_bytes (steps ++ one ∷ []) ≡ flat_map bytes_of (us ++ u ∷ []) ++ [] =
      bytes_on steps one ∙ ap (λ (l : List ℕ). l ++ bytes) x.cut.joined ∙ append_assoc (flat_map bytes_of us) x.rest bytes
      ∙ ap (λ (l : List ℕ). flat_map bytes_of us ++ l) (whole ∙ sym (append-nil (bytes_of u))) ∙ sym (joined_more us u []) in
      let units : Units config.max_frame (heard_bytes (steps ++ one ∷ [])) (us ++ u ∷ []) [] = record {
        joined = joined;
        each = units_more config.max_frame Header us u x.cut.each is;
        behind = nothing_rests config.max_frame (due_behind Header (us ++ u ∷ [])) [] refl;
      } in
      subst (λ (s : Stage). MakesOn config steps (served_one r made u) r bytes [] s) (ap (λ (vs : List StreamUnit). due_behind Header vs) same ∙ stage)
      (makes (OfUnit r u) [] refl alive (subst (λ (vs : List StreamUnit). Units config.max_frame (heard_bytes (steps ++ one ∷ [])) vs []) (sym same) units))

  -- or none did
  pub makes_none : IsRest config.max_frame (due_behind Header (ended_units x.effects)) (x.rest ++ bytes) →
      MakesOn config steps (topped_up r made) r bytes (x.rest ++ bytes) (due_behind Header (ended_units x.effects))
  makes_none rest =
      let us = ended_units x.effects in
      let same : ended_units (x.effects ++ OfNone r ∷ []) ≡ us = units_on x.effects (OfNone r) ∙ append-nil us in
      let units : Units config.max_frame (heard_bytes (steps ++ one ∷ [])) us (x.rest ++ bytes) = record {
        joined = bytes_on steps one ∙ ap (λ (l : List ℕ). l ++ bytes) x.cut.joined ∙ append_assoc (flat_map bytes_of us) x.rest bytes;
        each = x.cut.each;
        behind = rest;
      } in
      subst (λ (s : Stage). MakesOn config steps (topped_up r made) r bytes (x.rest ++ bytes) s) (ap (λ (vs : List StreamUnit). due_behind Header vs) same)
      (makes (OfNone r) (x.rest ++ bytes) refl tt (subst (λ (vs : List StreamUnit). Units config.max_frame (heard_bytes (steps ++ one ∷ [])) vs (x.rest ++ bytes)) (sym same) units))

pub no_units : (max : ℕ) → Units max [] [] []
no_units max = record { joined = refl; each = tt; behind = nothing_rests max Header [] refl }

pub no_cuts : (max : ℕ) → AreCut max [] []
no_cuts max n = (
  [],
  subst (λ (l : List Heard). Units max (heard_bytes l) (ended_units (take n [])) []) (sym (take-nil n))
      (subst (λ (l : List Effect). Units max [] (ended_units l) []) (sym (take-nil n)) (no_units max)),
)

-- No step makes a new connection.
abbrev pub makes_first : (config : Configured) → IsMadeBy config [] (first_made config) (end_with (connection_begins config) (left_over (connection_begins config) []))
makes_first config = record {
  effects = [];
  rules = refl;
  cuts = no_cuts config.max_frame;
  rest = [];
  cut = no_units config.max_frame;
  timely = tt;
  is = refl;
  ends = refl;
}

-- One rule. -----------------------------------------------------------------------------------------------------------

-- all had this rule
abbrev HaveRule : Rule → List Effect → Type 0
HaveRule r [] = Unit {0}
HaveRule r (x ∷ effects) = (effect_rule x ≡ r) × HaveRule r effects

abbrev first_rule : List Rule → Rule → Rule
first_rule [] r = r
first_rule (q ∷ rules) r = q

abbrev rest_rules : List Rule → List Rule
rest_rules [] = []
rest_rules (q ∷ rules) = rules

have_rule : (r : Rule) (steps : List Heard) (effects : List Effect) → map effect_rule effects ≡ map (λ (y : Heard). y.rule) steps → AreBy r steps → HaveRule r effects
have_rule r steps [] e all = tt
have_rule r [] (x ∷ effects) e all = absurd (grind (arith, e))
have_rule r (y ∷ steps) (x ∷ effects) e all = (
  ap (λ (l : List Rule). first_rule l r) e ∙ All-head (λ (z : Heard). z.rule ≡ r) y steps all,
  have_rule r steps effects (ap (λ (l : List Rule). rest_rules l) e) (All-tail (λ (z : Heard). z.rule ≡ r) y steps all),
)

abbrev IsStill : Rule → Made → Type 0
IsStill r m = AreStill r m.connection (all_supplies m.connection.config)

served_still : (r : Rule) (m : Made) (u : StreamUnit) → IsStill r (served_one r m u)
served_still r m u = told_still r (acted_outcome m.connection u) (answered m u) (λ is. never_starved (acted_after m.connection u) (told_on m.connection (line_of m.connection u)) is)

-- topping up by the rule that topped up before changes nothing
pub one_rule : (r : Rule) (m : Made) (effects : List Effect) → IsStill r m → HaveRule r effects →
    (made_by_all m effects ≡ served_all r m (ended_units effects)) × (AreTimelyBy m effects → AreTimely r m (ended_units effects))
one_rule r m [] still have = (refl, λ t. t)
one_rule r m (OfUnit q u ∷ effects) still have =
    let same : served_one q m u ≡ served_one r m u = ap (λ (k : Rule). served_one k m u) have.0 in
    let rest = one_rule r (served_one r m u) effects (served_still r m u) have.1 in (
      ap (λ (n : Made). made_by_all n effects) same ∙ rest.0,
      λ t. (t.0, rest.1 (subst (λ (n : Made). AreTimelyBy n effects) same t.1)),
    )
one_rule r m (OfNone q ∷ effects) still have =
    let same : topped_up q m ≡ m = ap (λ (k : Rule). topped_up k m) have.0 ∙ all_unchanged r m (all_supplies m.connection.config) still in
    let rest = one_rule r m effects still have.1 in (
      ap (λ (n : Made). made_by_all n effects) same ∙ rest.0,
      λ t. rest.1 (subst (λ (n : Made). AreTimelyBy n effects) same t.1),
    )

-- Steps that all had one rule make what the units of their bytes make by it.
pub made_by_one : (r : Rule) (config : Configured) (steps : List Heard) (made : Made) (end : End) → AreBy r steps → IsMadeBy config steps made end → IsMade r config (heard_bytes steps) made end
made_by_one r config steps made end all x =
    let have = have_rule r steps x.effects x.rules all in
    let so = one_rule r (first_made config) x.effects (all_new r config (all_supplies config)) have in
    record {
      units = ended_units x.effects;
      rest = x.rest;
      joined = x.cut.joined;
      each = x.cut.each;
      timely = so.1 x.timely;
      behind = inr x.cut.behind;
      is = x.is ∙ so.0;
      ends = x.ends;
    }

-- One result. ---------------------------------------------------------------------------------------------------------

abbrev unit_first : List StreamUnit → StreamUnit → StreamUnit
unit_first [] u = u
unit_first (v ∷ us) u = v

abbrev units_rest : List StreamUnit → List StreamUnit
units_rest [] = []
units_rest (v ∷ us) = us

same_effect : (x y : Effect) → effect_rule x ≡ effect_rule y → effect_units x ≡ effect_units y → x ≡ y
same_effect (OfUnit r u) (OfUnit q v) e i = ap (λ (k : Rule). OfUnit k u) e ∙ ap (λ (us : List StreamUnit). OfUnit q (unit_first us u)) i
same_effect (OfUnit r u) (OfNone q) e i = absurd (grind (arith, i))
same_effect (OfNone r) (OfUnit q v) e i = absurd (grind (arith, i))
same_effect (OfNone r) (OfNone q) e i = ap (λ (k : Rule). OfNone k) e

after_effect : (x : Effect) (us vs : List StreamUnit) → effect_units x ++ us ≡ effect_units x ++ vs → us ≡ vs
after_effect (OfUnit r u) us vs e = ap (λ (l : List StreamUnit). units_rest l) e
after_effect (OfNone r) us vs e = e

same_effects : (xs ys : List Effect) → map effect_rule xs ≡ map effect_rule ys → ((n : ℕ) → ended_units (take n xs) ≡ ended_units (take n ys)) → xs ≡ ys
same_effects [] [] e i = refl
same_effects [] (y ∷ ys) e i = absurd (grind (arith, e))
same_effects (x ∷ xs) [] e i = absurd (grind (arith, e))
same_effects (x ∷ xs) (y ∷ ys) e i =
    let none : (z : Effect) (zs : List Effect) → ended_units (take 1 (z ∷ zs)) ≡ effect_units z = λ z zs. append-nil (effect_units z) in
    let first : x ≡ y = same_effect x y (ap (λ (l : List Rule). first_rule l (effect_rule x)) e) (sym (none x xs) ∙ i 1 ∙ none y ys) in
    let rest : xs ≡ ys = same_effects xs ys (ap (λ (l : List Rule). rest_rules l) e)
    (λ n. after_effect x (ended_units (take n xs)) (ended_units (take n ys)) (i (suc n) ∙ ap (λ (z : Effect). effect_units z ++ ended_units (take n ys)) (sym first))) in
    ap (λ (z : Effect). z ∷ xs) first ∙ ap (λ (l : List Effect). y ∷ l) rest

-- What steps make is one result.
pub one_made_by : (config : Configured) (steps : List Heard) (m n : Made) (end end2 : End) → 8 ≤ config.max_frame → IsMadeBy config steps m end → IsMadeBy config steps n end2 → (m ≡ n) × (end ≡ end2)
one_made_by config steps m n end end2 least x y =
    let effects = same_effects x.effects y.effects (x.rules ∙ sym y.rules)
    (λ k. (one_reading config.max_frame Header (heard_bytes (take k steps)) (ended_units (take k x.effects)) (ended_units (take k y.effects)) (x.cuts k).0 (y.cuts k).0 least (x.cuts k).1 (y.cuts k).1).0) in
    let rest = (one_reading config.max_frame Header (heard_bytes steps) (ended_units x.effects) (ended_units y.effects) x.rest y.rest least x.cut y.cut).1 in
    let made = x.is ∙ ap (λ (l : List Effect). made_by_all (first_made config) l) effects ∙ sym y.is in (
      made,
      x.ends ∙ ap (λ (k : Made). end_with k.connection (left_over k.connection x.rest)) made ∙ ap (λ (l : List ℕ). end_with n.connection (left_over n.connection l)) rest ∙ sym y.ends,
    )
