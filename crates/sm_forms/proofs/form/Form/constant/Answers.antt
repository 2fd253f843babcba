use Rattle.std.proofs.Common.{rules, ◌∙◌, sym, w64, FitsSigned}
use Rattle.std.proofs.lemmas.Int.{to_z-of_z}
use Rattle.sm_forms.proofs.Queries.{constant_is}
use Rattle.sm_forms.proofs.form.Form.constant.Goals as goal

pub returns-clause-value : goal.returns-clause-value
returns-clause-value c = λ n g h.
    let fits : FitsSigned w64 c.args.self.now.constant = search rules in
    to_z-of_z w64 c.args.self.now.constant fits ∙ sym (constant_is n g c.args.self.now h)
