-- `of` takes the box apart by `into_raw_with_allocator`, and the parts own what that gave.
use mathlib.Core.Path.{◌≡◌, refl, sym, subst, ap, ◌∙◌}
use mathlib.Core.List.{List, [], ◌∷◌, ◌++◌}
use seplogic.Ra.Ura.{Ura}
use mir.Syntax.{Fn, Args, Dict, a_type, dcons, dnil}
use mir.MapTy.{inst_fn}
use mir.Raw.{raw as bare}
use mir.Val.{Val, vstruct, of_list}
use base.Logic.{SProp, ent, id⊢, never, fst∗}
use base.Fml.{ftrue, fsep, flft}
use contract.BorrowLft.{◌⊑◌}
use prog.Memory.{Memory}
use prog.Routine.{Routine}
use prog.Wp.{WpFn, Tables}
use types.Logic.{Logic, sem}
use contract.Monad.{Fun, fact}
use contract.Running.{tables, tables_of}
use sound.WpLaws.{fm_of, WpFn-mono}
use types.Kit.{Item, ‵, raw, ◌⊛◌, some, later, ◌$◌, ◌∵◌, !, qed, by, move, drop, use1, join, split, split3, pick, rewrite, fsplit, fjoin, fpick, feq_l, suffices, await, done}
use types.Part.{whole, sub, agg}
use types.Run.{stop, fld, no_more, and_then, of_opd, returns, enter}
use types.ByLocal.{alloc_all, pass_all, free_all, look_at, get, get_in, sets, lands_as}
use denote.Exit.{no}
use denote.Param.{bounded}
use denote.RawPtr.{Ptr, RawPtr, block_ptr, null_ptr, ptr_val, in_a_block}
use denote.Steps.{heard, nothing, only}
use denote.Struct.Tuple.{Tuple}
use denote.Triple.Call.{calls_at}
use denote.Triple.Clauses.{Ended, Clauses}
use denote.Triple.Spec.{triple_of}
use denote.Triple.Statement.{Triple, Contract}
use denote.Triple.Table.{entered}
use denote.Triple.Walked.{says, Stays, stay_dropped, walk_of, ends_at, walk_Meets}
use Rattle.core.proofs.alloc.Calls.{token, handle_tells, Goes-blank}
use Rattle.std_alloc.specs.Box.Ownership.{box_owns}
use Rattle.std_alloc.proofs.BoxSteps.Form.{Bx, D, τ, R, P, B, word, box_typed}
use Rattle.std_alloc.proofs.BoxSteps.Steps.{box_out, box_in}
use Rattle.std_alloc.specs.contracts.boxed.Box.into_raw_with_allocator as IntoRaw
use Rattle.std_alloc.proofs.boxed.Box.into_raw_with_allocator.Symbol as into_raw
use Rattle.std_alloc.proofs.boxed.Box.into_raw_with_allocator.Met as into_raw_met
use Rattle.wuleshomia.proofs.UnboxedRows.{Loose, FromBox, loose}
use Rattle.wuleshomia.specs.contracts.unboxed.Unboxed.of as F
use Rattle.wuleshomia.specs.contracts.unboxed.Unboxed.of.Key.{name as #self}
use Rattle.wuleshomia.proofs.unboxed.Unboxed.of.Statement as stated
use Rattle.wuleshomia.proofs.unboxed.Unboxed.of.Code as code

module _ (E : Bx) (drop_x : Dict) where
  abbrev type_args : Args
  type_args = bounded (a_type ∷ a_type ∷ []) (E.row, (E.al.row, tt)) (dcons E.al.d (dcons E.al.drops (dcons drop_x dnil)))

  abbrev function : Fn
  function = inst_fn type_args code.function

  abbrev ended : Ended
  ended = F.ended E.row E.al.row E.al.g E.al.d E.al.drops drop_x

  abbrev stayed : Stays ended.signature.params ended.kept
  stayed = (stay_dropped (FromBox E) no, tt)

  module _ {M : Type 1} {𝓤 : Ura M} (𝓛 : Logic 𝓤) (at_mem : Memory → SProp 𝓤) (run : Routine → Fun 𝓤) (𝓣 : Tables 𝓤 𝓛.H) where
    open 𝓛 use {H}

    abbrev clauses : Clauses 𝓤 ended
    clauses = F.clauses E.row E.al.row E.al.g E.al.d E.al.drops drop_x 𝓛 at_mem run

    -- what `into_raw_with_allocator` promises
    abbrev Opens : Contract 𝓤
    Opens = triple_of 𝓛 (IntoRaw.signature E.row E.al.row E.al.g E.al.d E.al.drops drop_x) (IntoRaw.spec E.row E.al.row E.al.g E.al.d E.al.drops drop_x 𝓛 at_mem run)

    walk : Triple 𝓤 (𝓣.C (into_raw.name type_args)) Opens → (z : (walk_of 𝓛 ended stayed clauses).Ghost) → ent 𝓤 ((walk_of 𝓛 ended stayed clauses).pre z) (WpFn 𝓤 H 𝓣.C 𝓣.Λ function (z.0.4.0 ++ []) ((walk_of 𝓛 ended stayed clauses).post z))
    walk promised z =
        let Post = (walk_of 𝓛 ended stayed clauses).post z in let lives = z.0.0 in let shares = z.0.1 in
        let d = z.0.3.0 in let a = d.alloc in let x = d.value in let owned_at = λ (p : Ptr). box_owns (token E.al a) (R E) p x in
        let tokens : Item 𝓤 = ‵ (flft lives.0 shares.0) ⊛ ‵ (flft lives.1.0 shares.1.0) ⊛ ‵ ftrue in
        let outlives : Item 𝓤 = raw (fact 𝓤 (lives.0 ⊑ E.row.lives)) ⊛ raw (fact 𝓤 (lives.1.0 ⊑ E.al.row.lives)) ⊛ ‵ ftrue in
        qed 𝓛 ((tokens ⊛ ‵ (fsep ((B E).own_val d z.0.4.0) ftrue)) ∷ outlives ∷ []) ∵ split ! $ move ! (1 ∷ []) $ fsplit ! $
        box_out E ! d z.0.4.0 (λ b o hv at_b are_words typed_a. box_in E ! d b o x at_b refl $
        let w = word E hv b o in let typed = box_typed E hv b o typed_a in
        let asked : Opens.Ghost = ((lives, shares, tt, (d, tt), (w ∷ [], tt)), tt) in
        let Γ : List (Item 𝓤) = ‵ ((B E).own_val d (w ∷ [])) ∷ ‵ ftrue ∷ tokens ∷ outlives ∷ [] in
        by ! (subst (λ (us : List Val). ent 𝓤 (types.Kit.⋆ 𝓛 Γ) (WpFn 𝓤 H 𝓣.C 𝓣.Λ function (us ++ []) Post)) (sym are_words)
        (qed 𝓛 Γ ∵ enter ! 𝓣.C 𝓣.Λ function (w ∷ []) _ $ alloc_all ! (λ ls. pass_all ! refl (typed, tt) $ sets ! (of_opd ! (get ! refl)) refl typed $
        fjoin ! $ move ! (1 ∷ 0 ∷ []) $ join ! $ join ! $ use1 𝓛 (raw (Opens.pre asked)) (id⊢ 𝓤 _) $
        calls_at ! (fm_of 𝓤 H 𝓛.laws 𝓣) Opens promised asked (and_then ! (get ! refl) (no_more !)) (λ u.
        use1 𝓛 (later (some (λ (r : Ptr × E.al.row.Denot). (tokens ⊛ ‵ ((Tuple (RawPtr ∷ P E ∷ [])).own_val r (u ∷ []))) ⊛ some (λ (_ : (Unit {0} × (Unit {0} × Unit {0})) × Unit {0}). ‵ (fsep (fsep ftrue (fsep ftrue ftrue)) ftrue) ⊛ (raw (fact 𝓤 (r.1 ≡ a)) ⊛ ‵ (owned_at r.0)))))) (id⊢ 𝓤 _) $
        await ! tt $ pick ! (λ r. split ! $ move ! (1 ∷ []) $ pick ! (λ _. split3 ! $ drop ! $ heard ! (r.1 ≡ a) (λ same_a.
        -- the pointer that it gave points into a block
        in_a_block ! r.0 owned_at (fst∗ 𝓤 (never 𝓤) (sem 𝓛 (token E.al a (bare (τ E)) null_ptr))) (λ b' o' at_b'.
        move ! (1 ∷ []) $ split ! $ move ! (1 ∷ []) $ fpick ! (λ words. fsplit ! $ feq_l ! (λ is_u. fsplit ! $ feq_l ! (λ is_ptr. fsplit ! $
        rewrite ! 0 (λ (s : E.al.row.Denot). ‵ (E.al.row.own_val s words.1.0)) same_a refl $ handle_tells E.al ! a words.1.0 (λ hw is_hw typed_w.
        let made : D E = record { ptr = block_ptr b' o'; alloc = a; value = x } in let typed' = box_typed E hw b' o' typed_w in
        lands_as ! (ap only (is_u ∙ (λ j. vstruct (of_list ((is_ptr ∙ ap (λ (p : Ptr). ptr_val p ∷ []) at_b') j ++ (is_hw j ++ []))) ∷ []))) refl typed' $
        sets ! (of_opd ! (get_in ! (fld ! refl (stop !)) (sub ! 0 refl (whole !)))) refl (tt, tt) $
        sets ! (of_opd ! (get_in ! (fld ! refl (stop !)) (sub ! 1 refl (whole !)))) refl typed_w $ sets ! (of_opd ! (get ! refl)) refl typed_w $
        sets ! (agg ! (and_then ! (get ! refl) (and_then ! (get ! refl) (no_more !)))) refl typed' $ returns ! (look_at ! 0 refl) $ free_all ! refl $
        -- the allocator, the block and its token are the parts
        move ! (3 ∷ []) $ fsplit ! $ box_in E ! made b' o' x refl refl $ use1 𝓛 (‵ ((Loose E).own_val (loose E made) (word E hw b' o' ∷ []))) (id⊢ 𝓤 _) $ move ! (1 ∷ []) $ drop ! $
        suffices ! _ (ends_at 𝓛 ended stayed clauses z (word E hw b' o') (loose E made) ((tt, (tt, tt)), tt) (tt, tt)) $ says ! refl $
        nothing ! $ nothing ! $ fjoin ! $ join ! $ move ! (1 ∷ 0 ∷ []) $ join ! $ done !)))))))))))))

pub of_spec : {M : Type 1} → stated.statement M
unfolding tables_of
of_spec 𝓤 𝓛 𝓜 𝓡 wired X Z laws_x laws_z g d drops drop_x allocator dropped glue =
    let E : Bx = record { row = X; laws = laws_x; al = record { row = Z; laws = laws_z; g = g; d = d; drops = drops } } in
    let 𝓣 : Tables 𝓤 𝓛.H = tables_of 𝓤 𝓛.H 𝓜 (tables 𝓤 𝓛.H 𝓜 𝓡 𝓡.env) in
    let promised = into_raw_met.met 𝓤 𝓛 𝓜 𝓡 (code.calls-std_alloc::boxed::Box::into_raw_with_allocator 𝓡.env wired) X Z laws_x laws_z g d drops drop_x allocator dropped glue in
    entered 𝓤 𝓛.H (triple_of 𝓛 (ended E drop_x).signature (F.spec X Z g d drops drop_x 𝓛 𝓜.mem 𝓡.returns)) 𝓣.C 𝓣.Λ (#self (type_args E drop_x)) (function E drop_x) (code.unfolded 𝓤 𝓛.H 𝓜 𝓡 wired (X, (Z, tt)) d drops drop_x)
    (walk_Meets 𝓛 (ended E drop_x) (stayed E drop_x) (Goes-blank 𝓛 2 (FromBox E) no (λ κs x f. tt), tt) (clauses E drop_x 𝓛 𝓜.mem 𝓡.returns 𝓣) (WpFn 𝓤 𝓛.H 𝓣.C 𝓣.Λ (function E drop_x)) (WpFn-mono 𝓤 𝓛.H 𝓛.laws 𝓣 (function E drop_x))
    (walk E drop_x 𝓛 𝓜.mem 𝓡.returns 𝓣 promised))
