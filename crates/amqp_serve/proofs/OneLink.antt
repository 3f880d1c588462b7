-- One link is topped up, and the window of its session: all that may lack something.
use Rattle.std.proofs.Common.{arith, ◌≡◌, ℕ, suc, ◌+◌, ◌-◌, ◌<◌, ◌≤◌, ◌++◌, ◌∷◌, Bool, true, false, List, [], ◌↔◌, refl, sym, ap, subst, ◌∙◌}
use Rattle.std.specs.Prelude.{nat_eq}
use Rattle.std.proofs.lemmas.Bool.{eq-eqb, eqb-true, true≢false}
use Rattle.amqp_session.specs.Places.{tabulate}
use Rattle.amqp_endpoint.specs.Configs.{Configured}
use Rattle.amqp_endpoint.specs.Connections.{channels}
use Rattle.amqp_endpoint.specs.Steps.{EndpointState}
use Rattle.amqp_serve.specs.declared.rules.Rule.{Rule}
use Rattle.amqp_serve.specs.declared.supplies.Look.TheVariants as look
use Rattle.amqp_serve.specs.declared.supplies.Supply.{Supply}
use Rattle.amqp_serve.specs.declared.supplies.Supply.TheVariants.{WindowOf, CreditOf}
use Rattle.amqp_serve.specs.Cuts.{supply_channel}
use Rattle.amqp_serve.specs.Serving.{lack, all_supplies_from, all_supplies, ToppingUp, reading, Serves}
use Rattle.amqp_serve.specs.Supplied.{IsListed, IsSupplied, IsSuppliedBut, IsOnlyOf}
use Rattle.amqp_serve.proofs.Servings.{serves_on}
use Rattle.amqp_serve.proofs.ServingTops.{all_from, places_step, places_none, channels_passed, links_passed, tabulate_step, tabulate_none, tabulate_all}
use Rattle.amqp_serve.proofs.Supplied.{supplied_at}

-- Where nothing lacks anything all is passed.
pub all_passed : (p : Rule) (s : EndpointState) → IsSupplied p s.connection → Serves p (ToppingUp (all_supplies s.connection.config)) s [] reading s
all_passed p s all =
    let config = s.connection.config in
    let n = config.channel_max + 1 in
    let handles = config.handle_max + 1 in
    subst (λ (l : List Supply). Serves p (ToppingUp l) s [] reading s) (sym (all_from config config.handle_max config.channel_max refl refl))
    (subst (λ (l : List Supply). Serves p (ToppingUp (all_supplies_from handles 0 (n - 0))) s [] (ToppingUp l) s) (places_none handles n n (omega arith))
    (channels_passed p s handles n 0 n (omega arith) (omega arith) (λ i _ low. supplied_at p s.connection handles i (omega arith) (omega (arith, low)) (λ x listed _. all x listed))))

-- is a window, or a handle
abbrev is_window : Supply → Bool
is_window (WindowOf c) = true
is_window (CreditOf c h) = false

abbrev handle_in : Supply → ℕ
handle_in (WindowOf c) = 0
handle_in (CreditOf c h) = h

module _ (p : Rule) (s t u : EndpointState) (c h : ℕ) (low : c < channels s.connection.config) (small : h < suc s.connection.config.handle_max) (but : IsSuppliedBut (look.Link c h) p s.connection)
    (first : IsOnlyOf p (WindowOf c) s.connection t.connection) (second : IsOnlyOf p (CreditOf c h) t.connection u.connection) where
  abbrev pub N : ℕ
  N = s.connection.config.channel_max + 1

  abbrev pub H : ℕ
  H = s.connection.config.handle_max + 1

  abbrev pub credit : ℕ → Supply
  credit k = CreditOf c k

  abbrev pub others : List Supply
  others = all_supplies_from H (c + 1) (N - (c + 1))

  -- what is beside both lacks nothing, at first and later
  at_first : (x : Supply) → IsListed s.connection.config x → (x ≡ WindowOf c → ⊥) → (x ≡ CreditOf c h → ⊥) → lack p s.connection x ≡ 0
  at_first x listed window link = but x listed (window, link)

  then_too : (x : Supply) → IsListed s.connection.config x → (x ≡ WindowOf c → ⊥) → (x ≡ CreditOf c h → ⊥) → lack p t.connection x ≡ 0
  then_too x listed window link = first.others x window ∙ at_first x listed window link

  at_last : (x : Supply) → IsListed s.connection.config x → (x ≡ WindowOf c → ⊥) → (x ≡ CreditOf c h → ⊥) → lack p u.connection x ≡ 0
  at_last x listed window link = second.others x link ∙ then_too x listed window link

  away_window : (x : Supply) → (supply_channel x ≡ c → ⊥) → x ≡ WindowOf c → ⊥
  away_window x away same = away (ap supply_channel same)

  away_link : (x : Supply) → (supply_channel x ≡ c → ⊥) → x ≡ CreditOf c h → ⊥
  away_link x away same = away (ap supply_channel same)

  no_window : (k : ℕ) → CreditOf c k ≡ WindowOf c → ⊥
  no_window k same = true≢false (sym (ap is_window same))

  no_link : (k : ℕ) → (k ≡ h → ⊥) → CreditOf c k ≡ CreditOf c h → ⊥
  no_link k away same = away (ap handle_in same)

  -- as far as the window
  pub link_front : Serves p (ToppingUp (all_supplies s.connection.config)) s [] (ToppingUp (WindowOf c ∷ (tabulate 0 H credit ++ others))) s
  link_front =
      let few : c ≤ N = omega (arith, low) in
      let below : c < N = omega (arith, low) in
      subst (λ (l : List Supply). Serves p (ToppingUp l) s [] (ToppingUp (WindowOf c ∷ (tabulate 0 H credit ++ others))) s)
      (sym (all_from s.connection.config s.connection.config.handle_max s.connection.config.channel_max refl refl))
      (subst (λ (l : List Supply). Serves p (ToppingUp (all_supplies_from H 0 (N - 0))) s [] (ToppingUp l) s) (places_step H c N below)
      (channels_passed p s H N 0 c (omega arith) few
      (λ k _ less. supplied_at p s.connection H k (omega arith) (omega (arith, less, low))
      (λ x listed same. at_first x listed (away_window x (λ here. absurd (omega (arith, same, here, less)))) (away_link x (λ here. absurd (omega (arith, same, here, less))))))))

  -- as far as the link
  pub link_middle : Serves p (ToppingUp (tabulate 0 H credit ++ others)) t [] (ToppingUp (CreditOf c h ∷ (tabulate (h + 1) (H - (h + 1)) credit ++ others))) t
  link_middle =
      let below : h < H = omega (arith, small) in
      subst (λ (l : List Supply). Serves p (ToppingUp (l ++ others)) t [] (ToppingUp (CreditOf c h ∷ (tabulate (h + 1) (H - (h + 1)) credit ++ others))) t) (sym (tabulate_all credit H))
      (subst (λ (l : List Supply). Serves p (ToppingUp (tabulate 0 (H - 0) credit ++ others)) t [] (ToppingUp (l ++ others)) t) (tabulate_step credit h H below)
      (links_passed p others t c H 0 h (omega arith) (omega (arith, below))
      (λ k _ less. then_too (CreditOf c k) (low, (omega (arith, less, small))) (no_window k) (no_link k (λ same. absurd (omega (arith, same, less)))))))

  -- to the end
  pub link_rest : Serves p (ToppingUp (tabulate (h + 1) (H - (h + 1)) credit ++ others)) u [] reading u
  link_rest =
      let near : h + 1 ≤ H = omega (arith, small) in
      let few : c + 1 ≤ N = omega (arith, low) in
      let config : u.connection.config ≡ s.connection.config = second.config ∙ first.config in
      serves_on
      (subst (λ (l : List Supply). Serves p (ToppingUp (tabulate (h + 1) (H - (h + 1)) credit ++ others)) u [] (ToppingUp (l ++ others)) u) (tabulate_none credit H H (omega arith))
      (links_passed p others u c H (h + 1) H near (omega arith)
      (λ k far less. at_last (CreditOf c k) (low, (omega (arith, less))) (no_window k) (no_link k (λ same. absurd (omega (arith, same, far)))))))
      (subst (λ (l : List Supply). Serves p (ToppingUp others) u [] (ToppingUp l) u) (places_none H N N (omega arith))
      (channels_passed p u H N (c + 1) N few (omega arith)
      (λ k far less. supplied_at p u.connection H k (let same = ap (λ (x : Configured). x.handle_max) config in omega (arith, same)) (let same = ap (λ (x : Configured). x.channel_max) config in omega (arith, same, less))
      (λ x listed same. at_last x (subst (λ (z : Configured). IsListed z x) config listed) (away_window x (λ here. absurd (omega (arith, same, here, far)))) (away_link x (λ here. absurd (omega (arith, same, here, far))))))))

  -- Nothing lacks anything then exactly where neither was refused.
  pub link_supplied : (a b : ℕ) → ((a ≡ 0) ↔ (lack p t.connection (WindowOf c) ≡ 0)) → ((b ≡ 0) ↔ (lack p u.connection (CreditOf c h) ≡ 0)) → ((a ≡ 0) × (b ≡ 0)) ↔ IsSupplied p u.connection
  link_supplied a b window link = (
    λ fine x listed. by x (subst (λ (z : Configured). IsListed z x) config listed) fine,
    λ all. (
      window.1 (sym (second.others (WindowOf c) (λ same. true≢false (ap is_window same))) ∙ all (WindowOf c) (subst (λ (z : Configured). IsListed z (WindowOf c)) (sym config) low)),
      link.1 (all (CreditOf c h) (subst (λ (z : Configured). IsListed z (CreditOf c h)) (sym config) (low, small))),
    ),
  )
    where
      config : u.connection.config ≡ s.connection.config
      config = second.config ∙ first.config

      windows : (k : ℕ) → (b : Bool) → nat_eq k c ≡ b → IsListed s.connection.config (WindowOf k) → lack p t.connection (WindowOf c) ≡ 0 → lack p u.connection (WindowOf k) ≡ 0
      windows k true is listed none = second.others (WindowOf k) (λ same. true≢false (ap is_window same)) ∙ ap (λ (i : ℕ). lack p t.connection (WindowOf i)) (eqb-true k c is) ∙ none
      windows k false is listed none =
          at_last (WindowOf k) listed (λ same. true≢false (sym (eq-eqb k c (ap supply_channel same)) ∙ is)) (λ same. true≢false (ap is_window same))

      links : (k j : ℕ) → (b d : Bool) → nat_eq k c ≡ b → nat_eq j h ≡ d → IsListed s.connection.config (CreditOf k j) → lack p u.connection (CreditOf c h) ≡ 0 → lack p u.connection (CreditOf k j) ≡ 0
      links k j true true is at listed none = ap (λ (i : ℕ). lack p u.connection (CreditOf i j)) (eqb-true k c is) ∙ ap (λ (i : ℕ). lack p u.connection (CreditOf c i)) (eqb-true j h at) ∙ none
      links k j true false is at listed none =
          at_last (CreditOf k j) listed (λ same. true≢false (sym (ap is_window same))) (λ same. true≢false (sym (eq-eqb j h (ap handle_in same)) ∙ at))
      links k j false d is at listed none =
          at_last (CreditOf k j) listed (λ same. true≢false (sym (ap is_window same))) (λ same. true≢false (sym (eq-eqb k c (ap supply_channel same)) ∙ is))

      by : (x : Supply) → IsListed s.connection.config x → (a ≡ 0) × (b ≡ 0) → lack p u.connection x ≡ 0
      by (WindowOf k) listed fine = windows k (nat_eq k c) refl listed (window.0 fine.0)
      by (CreditOf k j) listed fine = links k j (nat_eq k c) (nat_eq j h) refl refl listed (link.0 fine.1)
