use Rattle.std.proofs.Common.{◌≡◌, ◌++◌, append_assoc, codes, string_bytes, List, ℕ, sym, ap, ◌∙◌}
use Rattle.std.proofs.lemmas.Result.{IfOk-weaker}
use Rattle.amqp_spool.proofs.dir_files.DirFiles.path_for.Goals as goal

pub returns : goal.returns
returns g c =
    let dir = c.as_str.result.now in
    let name = c.as_str-2.result.now in
    let ending = c.args.ending.now in
    let front = dir ++ codes "/" in
    let parts = sym (append_assoc dir (codes "/") (name ++ ending)) ∙ sym (append_assoc front name ending) in
    let at = parts ∙ ap (λ (l : List ℕ). ((l ++ codes "/") ++ name) ++ ending) c.as_str.ensures.value ∙ ap (λ (l : List ℕ). ((string_bytes c.args.self.now.path ++ codes "/") ++ l) ++ ending) c.as_str-2.ensures in
    IfOk-weaker c.format.result (λ path. string_bytes path ≡ dir ++ (codes "/" ++ (name ++ ending))) _ (λ path same. same ∙ at) c.format.ensures.ok
