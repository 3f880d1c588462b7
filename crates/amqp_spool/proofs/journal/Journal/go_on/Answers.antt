use Rattle.std.proofs.Common.{◌≡◌, ℕ, arith, List, sym, ap, ◌∙◌, subst, Some, Err}
use Rattle.std.specs.List.{slice_get}
use Rattle.amqp_spool.specs.declared.segments.Named.{Named}
use Rattle.amqp_spool.specs.Folders.{History, Now}
use Rattle.amqp_spool.specs.Reads.{HasNames, IsNewest, IsFound}
use Rattle.amqp_spool.proofs.Starting.{IsOn, on_it, on_ok, started_at, first_of, seen_of, shown_after, none_first, none_kept}
use Rattle.amqp_spool.proofs.Back.{there_of, as_fault}
use Rattle.std.proofs.lemmas.Result.{err_from_is_err_and}
use Rattle.amqp_spool.specs.declared.journal.JournalFault.{JournalFault}
use Rattle.amqp_spool.proofs.journal.Journal.go_on.Goals as goal

pub returns-clause-started : goal.returns-clause-started
returns-clause-started g c = λ ch chs puts t past is says kept.
    let s = c.args.self.now in
    let items = c.args.names.items in
    let named = c.in-Some.named in
    let newest = c.in_ok-newest.newest in
    let at : Some named ≡ slice_get items 0 = c.in-Some.ensures ∙ c.first.ensures.value ∙ ap (λ (l : List Named). slice_get l 0) c.deref-2.ensures.value in
    let found : IsFound t = subst (λ (h : History). Now IsFound h) is c.requires.found in
    let names : HasNames items t = subst (λ (h : History). Now (HasNames items) h) is c.requires.names in
    let read : IsNewest named.bytes newest.head newest.bytes.items newest.next t = subst (λ (h : History). Now (IsNewest named.bytes newest.head newest.bytes.items newest.next) h) is c.in_ok-newest.ensures.newest in
    let on = on_it ch chs puts says t kept found items named at names newest.head c.in_ok-newest.ensures.is c.in_ok-newest.ensures.first newest.bytes.items newest.next read in
    let same = subst (λ (l : List ℕ). IsOn ch chs newest.head l newest.next t) (sym c.deref-4.ensures.value) on in
    started_at ch chs t kept found newest.head c.deref-4.result.now newest.next same g.F.Folder.history s c.renew.new.self past is c.renew.result c.renew.ensures.went c.renew.ensures.stands (on_ok c.renew.result (λ x. x.0) c.renew.ensures.counted)

pub returns-in_default-clause-whole : goal.returns-in_default-clause-whole
returns-in_default-clause-whole g c = λ t past n is known readable shown _.
    let found : IsFound t = subst (λ (h : History). Now IsFound h) is c.requires.found in
    let names : HasNames c.args.names.items t = subst (λ (h : History). Now (HasNames c.args.names.items) h) is c.requires.names in
    let none = none_first c.args.names.items (ap (λ (l : List Named). slice_get l 0) (sym c.deref-2.ensures.value) ∙ sym c.first.ensures.value ∙ sym c.copied.ensures ∙ c.in_default.is) in
    none_kept t readable found (subst (λ (l : List Named). HasNames l t) none names)

pub returns-in_err-newest-clause-whole : goal.returns-in_err-newest-clause-whole
returns-in_err-newest-clause-whole g c = λ t past n is known readable shown bad.
    let found : IsFound t = subst (λ (h : History). Now IsFound h) is c.requires.found in
    let names : HasNames c.args.names.items t = subst (λ (h : History). Now (HasNames c.args.names.items) h) is c.requires.names in
    let at : Some c.in-Some.named ≡ slice_get c.args.names.items 0 = c.in-Some.ensures ∙ c.first.ensures.value ∙ ap (λ (l : List Named). slice_get l 0) c.deref-2.ensures.value in
    let f = first_of c.args.names.items c.in-Some.named at in
    let named = subst (λ (l : List Named). HasNames l t) f.1 names in
    let seen = seen_of t readable found in
    let q = err_from_is_err_and c.from_residual.result c.from_residual.ensures.1 in
    c.in_err-newest.ensures.whole t past f.0 is named seen (ap (λ (x : JournalFault). Err x) (sym q.2) ∙ ap as_fault (sym q.1 ∙ bad))

pub returns-in_err-go_back-clause-whole : goal.returns-in_err-go_back-clause-whole
returns-in_err-go_back-clause-whole g c = λ t past n is known readable shown bad.
    let found : IsFound t = subst (λ (h : History). Now IsFound h) is c.requires.found in
    let names : HasNames c.args.names.items t = subst (λ (h : History). Now (HasNames c.args.names.items) h) is c.requires.names in
    let at : Some c.in-Some.named ≡ slice_get c.args.names.items 0 = c.in-Some.ensures ∙ c.first.ensures.value ∙ ap (λ (l : List Named). slice_get l 0) c.deref-2.ensures.value in
    let f = first_of c.args.names.items c.in-Some.named at in
    let named = subst (λ (l : List Named). HasNames l t) f.1 names in
    let seen = seen_of t readable found in
    let newest = c.in_ok-newest.newest in
    let q = err_from_is_err_and c.from_residual-in_err-go_back.result c.from_residual-in_err-go_back.ensures.1 in
    let read : IsNewest c.in-Some.named.bytes newest.head newest.bytes.items newest.next t = subst (λ (h : History). Now (IsNewest c.in-Some.named.bytes newest.head newest.bytes.items newest.next) h) is c.in_ok-newest.ensures.newest in
    let there = there_of c.in-Some.named f.0 t named seen newest.head c.in_ok-newest.ensures.is newest.bytes.items newest.next read in
    let all_names = subst (λ (l : List Named). HasNames l t) (sym c.deref-3.ensures.value) names in
    c.in_err-go_back.ensures.whole t past is all_names there (ap (λ (x : JournalFault). Err x) (sym q.2) ∙ sym q.1 ∙ bad)

pub returns-then-newest-shown-clause-whole : goal.returns-then-newest-shown-clause-whole
returns-then-newest-shown-clause-whole g c = λ t past n is known readable shown _.
    let names : HasNames c.args.names.items t = subst (λ (h : History). Now (HasNames c.args.names.items) h) is c.requires.names in
    let at : Some c.in-Some.named ≡ slice_get c.args.names.items 0 = c.in-Some.ensures ∙ c.first.ensures.value ∙ ap (λ (l : List Named). slice_get l 0) c.deref-2.ensures.value in
    let f = first_of c.args.names.items c.in-Some.named at in
    let named = subst (λ (l : List Named). HasNames l t) f.1 names in
    let newest = c.in_ok-newest.newest in
    let read : IsNewest c.in-Some.named.bytes newest.head newest.bytes.items newest.next t = subst (λ (h : History). Now (IsNewest c.in-Some.named.bytes newest.head newest.bytes.items newest.next) h) is c.in_ok-newest.ensures.newest in
    let less = shown_after n t shown c.in-Some.named f.0 named newest.head c.in_ok-newest.ensures.is c.in_ok-newest.ensures.first newest.bytes.items newest.next read in
    omega (arith, less, c.shown.ensures n known, c.if-newest-shown.true)
