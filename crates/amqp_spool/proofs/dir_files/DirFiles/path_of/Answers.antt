use Rattle.std.proofs.Common.{◌≡◌, ◌++◌, append_assoc, codes, string_bytes, List, ℕ, sym, ap, ◌∙◌}
use Rattle.std.proofs.lemmas.Result.{IfOk-weaker}
use Rattle.amqp_spool.specs.FileNames.{file_name}
use Rattle.amqp_spool.proofs.dir_files.DirFiles.path_of.Goals as goal

pub returns : goal.returns
returns g c =
    let dir = c.as_str.result.now in
    let name = file_name c.args.name in
    let at = sym (append_assoc dir (codes "/") name) ∙ ap (λ (l : List ℕ). l ++ codes "/" ++ name) c.as_str.ensures.value in
    IfOk-weaker c.format.result (λ path. string_bytes path ≡ dir ++ (codes "/" ++ name)) _ (λ path same. same ∙ at) c.format.ensures.ok
