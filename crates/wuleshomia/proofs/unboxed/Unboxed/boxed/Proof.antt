-- `boxed` gives what the parts own to `from_raw`, which makes the box of it.
use mathlib.Core.Path.{◌≡◌, refl, sym, subst, ap}
use mathlib.Core.List.{List, [], ◌∷◌, ◌++◌}
use lib.Dec.{T}
use seplogic.Ra.Ura.{Ura}
use mir.Syntax.{Fn, Body, place, copy, assign, rv_opd, seq, return}
use mir.MapTy.{inst_fn}
use mir.Val.{Val, vptr, has_ty, WT}
use base.Logic.{SProp, ent, id⊢}
use base.Fml.{ftrue, fsep, flft}
use contract.BorrowLft.{◌⊑◌}
use prog.Memory.{Memory}
use prog.Routine.{Routine}
use prog.Wp.{WpFn, Tables}
use types.Logic.{Logic}
use contract.Monad.{Fun, fact}
use contract.Running.{tables, tables_of}
use sound.WpLaws.{fm_of, WpFn-mono}
use types.Kit.{Item, at_ret, ‵, raw, ◌⊛◌, some, later, ◌$◌, ◌∵◌, !, qed, by, move, drop, use1, join, split, split3, pick, rewrite, fsplit, fjoin, feq_i, suffices, await, done}
use types.Part.{whole, sub}
use types.Run.{stop, fld, no_more, and_then, of_opd, returns, enter, first, blocks, exec}
use types.ByLocal.{alloc_all, pass_all, free_all, look_at, get, get_in, sets, lands_last, env}
use denote.Exit.{no}
use denote.RawPtr.{block_ptr}
use denote.Steps.{heard, nothing, only}
use denote.Triple.Call.{calls_at_last}
use denote.Triple.Clauses.{Ended, Clauses}
use denote.Triple.Spec.{triple_of}
use denote.Triple.Statement.{Triple, Contract}
use denote.Triple.Table.{entered}
use denote.Triple.Walked.{says, Stays, stay_dropped, walk_of, ends_at, walk_Meets}
use Rattle.core.proofs.alloc.Calls.{token, Goes-blank}
use Rattle.std_alloc.specs.Box.Ownership.{box_owns}
use Rattle.std_alloc.proofs.BoxSteps.Form.{Bx, D, R, P, B, args, box_ty, word, box_typed}
use Rattle.std_alloc.proofs.BoxSteps.Steps.{box_out, box_in}
use Rattle.std_alloc.specs.contracts.boxed.Box.from_raw as FromRaw
use Rattle.std_alloc.proofs.boxed.Box.from_raw.Symbol as from_raw
use Rattle.std_alloc.proofs.boxed.Box.from_raw.Met as from_raw_met
use Rattle.wuleshomia.proofs.UnboxedRows.{FromLoose, whole_of}
use Rattle.wuleshomia.specs.contracts.unboxed.Unboxed.boxed as F
use Rattle.wuleshomia.specs.contracts.unboxed.Unboxed.boxed.Key.{name as #self}
use Rattle.wuleshomia.proofs.unboxed.Unboxed.boxed.Statement as stated
use Rattle.wuleshomia.proofs.unboxed.Unboxed.boxed.Code as code

-- the last block of the code: what the call gave is what is returned
abbrev last_block : Body
last_block = seq (assign (place 0 []) (rv_opd (copy (place 4 [])))) return

module _ (E : Bx) where
  abbrev function : Fn
  function = inst_fn (args E) code.function

  abbrev ended : Ended
  ended = F.ended E.row E.al.row E.al.g E.al.d E.al.drops

  abbrev stayed : Stays ended.signature.params ended.kept
  stayed = (stay_dropped (FromLoose E) no, tt)

  module _ {M : Type 1} {𝓤 : Ura M} (𝓛 : Logic 𝓤) (at_mem : Memory → SProp 𝓤) (run : Routine → Fun 𝓤) (𝓣 : Tables 𝓤 𝓛.H) where
    open 𝓛 use {H}

    abbrev clauses : Clauses 𝓤 ended
    clauses = F.clauses E.row E.al.row E.al.g E.al.d E.al.drops 𝓛 at_mem run

    -- what `from_raw` promises
    abbrev Makes : Contract 𝓤
    Makes = triple_of 𝓛 (FromRaw.signature E.row E.al.row E.al.g E.al.d E.al.drops) (FromRaw.spec E.row E.al.row E.al.g E.al.d E.al.drops 𝓛 at_mem run)

    walk : Triple 𝓤 (𝓣.C (from_raw.name (args E))) Makes → (z : (walk_of 𝓛 ended stayed clauses).Ghost) → ent 𝓤 ((walk_of 𝓛 ended stayed clauses).pre z) (WpFn 𝓤 H 𝓣.C 𝓣.Λ function (z.0.4.0 ++ []) ((walk_of 𝓛 ended stayed clauses).post z))
    walk promised z =
        let Post = (walk_of 𝓛 ended stayed clauses).post z in let lives = z.0.0 in let shares = z.0.1 in
        let d : D E = whole_of E z.0.3.0 in let a = d.alloc in let x = d.value in
        let tokens : Item 𝓤 = ‵ (flft lives.0 shares.0) ⊛ ‵ (flft lives.1.0 shares.1.0) ⊛ ‵ ftrue in
        let outlives_x : Item 𝓤 = raw (fact 𝓤 (lives.0 ⊑ E.row.lives)) in let outlives_a : Item 𝓤 = raw (fact 𝓤 (lives.1.0 ⊑ E.al.row.lives)) in
        qed 𝓛 ((tokens ⊛ ‵ (fsep ((B E).own_val d z.0.4.0) ftrue)) ∷ (outlives_x ⊛ outlives_a ⊛ ‵ ftrue) ∷ []) ∵ split ! $ move ! (1 ∷ []) $ fsplit ! $
        -- the words of the parts are a pointer and the allocator's
        box_out E ! d z.0.4.0 (λ b o hv at_b are_words typed_a. fjoin ! $
        let w = word E hv b o in let typed = box_typed E hv b o typed_a in
        let asked : Makes.Ghost = ((lives, shares, tt, (a, (block_ptr b o, tt)), (hv ∷ [], (vptr b o ∷ [], tt))), x) in
        let Γ : List (Item 𝓤) = ‵ (box_owns (token E.al a) (R E) (block_ptr b o) x) ∷ ‵ ((P E).own_val a (hv ∷ [])) ∷ ‵ ftrue ∷ tokens ∷ (outlives_x ⊛ outlives_a ⊛ ‵ ftrue) ∷ [] in
        by ! (subst (λ (us : List Val). ent 𝓤 (types.Kit.⋆ 𝓛 Γ) (WpFn 𝓤 H 𝓣.C 𝓣.Λ function (us ++ []) Post)) (sym are_words)
        (qed 𝓛 Γ ∵ enter ! 𝓣.C 𝓣.Λ function (w ∷ []) _ $ alloc_all ! (λ ls. pass_all ! refl (typed, tt) $
        sets ! (of_opd ! (get_in ! (fld ! refl (stop !)) (sub ! 0 refl (whole !)))) refl (tt, tt) $
        sets ! (of_opd ! (get_in ! (fld ! refl (stop !)) (sub ! 1 refl (whole !)))) refl typed_a $
        first ! $ blocks ! $ sets ! (of_opd ! (get ! refl)) refl typed_a $
        -- what `from_raw` asks for is put together
        move ! (4 ∷ []) $ split3 ! $ move ! (2 ∷ []) $ drop ! $ move ! (1 ∷ 2 ∷ []) $ join ! $ move ! (1 ∷ 0 ∷ []) $ join ! $
        move ! (2 ∷ []) $ feq_i ! (List Val) (vptr b o ∷ []) (vptr b o ∷ []) refl $ fjoin ! $ move ! (2 ∷ 0 ∷ []) $ fjoin ! $ move ! (2 ∷ 0 ∷ []) $ join ! $ join ! $
        use1 𝓛 (raw (Makes.pre asked)) (id⊢ 𝓤 _) $
        calls_at_last ! (fm_of 𝓤 H 𝓛.laws 𝓣) Makes promised asked (and_then ! (get ! refl) (and_then ! (get ! refl) (no_more !))) (λ u.
        use1 𝓛 (later (some (λ (r : D E). (tokens ⊛ ‵ ((B E).own_val r (u ∷ []))) ⊛ some (λ (_ : Unit {0} × (Unit {0} × Unit {0})). ‵ (fsep ftrue (fsep ftrue ftrue)) ⊛ (raw (fact 𝓤 (r.value ≡ x)) ⊛ raw (fact 𝓤 (r.alloc ≡ a))))))) (id⊢ 𝓤 _) $
        await ! tt $ pick ! (λ r. split ! $ move ! (1 ∷ []) $ pick ! (λ _. split3 ! $ drop ! $ heard ! (r.value ≡ x) (λ same. drop ! $ split ! $ move ! (1 ∷ []) $
        -- what it gave is a box of that value, and is returned
        box_out E ! r (u ∷ []) (λ b' o' hw at_b' is_word typed_w. box_in E ! r b' o' r.value at_b' refl $ rewrite ! 0 (λ (us : List Val). ‵ ((B E).own_val r us)) (sym is_word) refl $
        let typed_u : T (has_ty (box_ty E) u) × WT u = subst (λ (s : Val). T (has_ty (box_ty E) s) × WT s) (sym (ap only is_word)) (box_typed E hw b' o' typed_w) in
        lands_last ! refl typed_u $ exec ! 𝓣.C 𝓣.Λ (env function.locals ls) last_block (at_ret (env function.locals ls) Post) $
        sets ! (of_opd ! (get ! refl)) refl typed_u $ returns ! (look_at ! 0 refl) $ free_all ! refl $
        suffices ! _ (ends_at 𝓛 ended stayed clauses z u r ((tt, (tt, tt)), tt) (tt, tt)) $ says ! same $
        nothing ! $ nothing ! $ fjoin ! $ join ! $ move ! (1 ∷ 0 ∷ []) $ join ! $ done !)))))))))

pub boxed_spec : {M : Type 1} → stated.statement M
unfolding tables_of
boxed_spec 𝓤 𝓛 𝓜 𝓡 wired X Z laws_x laws_z g d drops allocator dropped =
    let E : Bx = record { row = X; laws = laws_x; al = record { row = Z; laws = laws_z; g = g; d = d; drops = drops } } in
    let 𝓣 : Tables 𝓤 𝓛.H = tables_of 𝓤 𝓛.H 𝓜 (tables 𝓤 𝓛.H 𝓜 𝓡 𝓡.env) in
    let promised = from_raw_met.met 𝓤 𝓛 𝓜 𝓡 (code.calls-std_alloc::boxed::Box::from_raw 𝓡.env wired) X Z laws_x laws_z g d drops allocator dropped in
    entered 𝓤 𝓛.H (triple_of 𝓛 (ended E).signature (F.spec X Z g d drops 𝓛 𝓜.mem 𝓡.returns)) 𝓣.C 𝓣.Λ (#self (args E)) (function E) (code.unfolded 𝓤 𝓛.H 𝓜 𝓡 wired (X, (Z, tt)) d drops)
    (walk_Meets 𝓛 (ended E) (stayed E) (Goes-blank 𝓛 2 (FromLoose E) no (λ κs x f. tt), tt) (clauses E 𝓛 𝓜.mem 𝓡.returns 𝓣) (WpFn 𝓤 𝓛.H 𝓣.C 𝓣.Λ (function E)) (WpFn-mono 𝓤 𝓛.H 𝓛.laws 𝓣 (function E))
    (walk E 𝓛 𝓜.mem 𝓡.returns 𝓣 promised))
