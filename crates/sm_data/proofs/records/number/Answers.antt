use Rattle.std.proofs.Common.{rules, ◌∙◌, sym, subst, ℤ, Option}
use Rattle.std.specs.Prelude.{FitsSigned}
use Rattle.std.specs.Int.{w128}
use Rattle.std.proofs.lemmas.Int.{to_z-of_z}
use Rattle.sm_data.specs.Numbers.{Gives, entry_of, number_of}
use Rattle.sm_data.proofs.records.number.Goals as goal

pub returns-in-Some : goal.returns-in-Some
returns-in-Some c = λ r h.
    let given : Gives (λ z. z) c.entry.result (entry_of c.in-Some.number) =
    let fits : FitsSigned w128 c.in-Some.number = search rules in simp to_z-of_z at c.entry.ensures in
    subst (λ (o : Option ℤ). Gives (λ z. z) c.entry.result (number_of o)) (sym (c.reading.ensures.only r h ∙ c.in-Some.is)) given
