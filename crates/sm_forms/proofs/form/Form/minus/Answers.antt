use Rattle.std.proofs.Common.{subst}
use Rattle.sm_forms.specs.Meanings.{Meaning, large_value}
use Rattle.sm_forms.specs.Forms.{IsFormOf, Comes}
use Rattle.sm_forms.proofs.Values.{once_less}
use Rattle.sm_forms.proofs.form.Form.minus.Goals as goal

pub returns : goal.returns
returns c = λ n g h x y.
    subst (λ (k : Meaning). Comes (large_value n k) (IsFormOf n k) c.combined.result) (once_less g h) (c.combined.ensures n g h x y)
